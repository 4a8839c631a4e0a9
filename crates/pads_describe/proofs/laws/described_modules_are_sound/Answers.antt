use Rattle.pads_describe.proofs.Described.{formed, keeps, plain, sorted, there}
use Rattle.pads_describe.proofs.laws.described_modules_are_sound.Goals as goal

pub returns : goal.returns
returns c = record { there = there; well_formed = formed; sorted = sorted; plain = plain; keeps_all = keeps }
