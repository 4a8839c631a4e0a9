use Rattle.std.proofs.Common.{arith, ◌∙◌, ap, map}
use Rattle.pads_code.specs.CodePage.{byte_of}
use Rattle.std.proofs.lemmas.Int.{to_z-of_z}
use Rattle.pads_int.proofs.SpellingLemmas.{spelled, not_spelled}
use Rattle.pads_int.proofs.spelling.spell_int.Goals as goal

pub returns-then-not-contains : goal.returns-then-not-contains
returns-then-not-contains c = record { spelling = not_spelled _ _ _ (grind (arith, to_z-of_z)) }

pub returns : goal.returns
returns c = record { spelling = spelled _ _ _ _ (grind (arith, to_z-of_z)) (let fits = c.ranges.v in let text = simp to_z-of_z at c.format.ensures.text in c.encoded.ensures.bytes ∙ ap (map (byte_of c.args.coding)) (c.as_bytes.ensures.value ∙ text)) }
