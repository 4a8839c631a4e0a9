use Rattle.std.proofs.Common.{inl, inr, refl, sym}
use Rattle.pads_idle.proofs.links.link_of.Goals as goal

pub returns-in-Some : goal.returns-in-Some
returns-in-Some c = record { links = (c.in_ok-entry.entry.now, sym c.in_ok-entry.ensures.entry, inl (c.in-Some.ensures.around, refl)) }

pub returns : goal.returns
returns c = record { links = (c.in_ok-entry.entry.now, sym c.in_ok-entry.ensures.entry, inr (c.in_ok-number.ensures.named, refl)) }
