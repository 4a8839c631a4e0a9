-- What the code reads: the value and the tokens that are left, as a reader tells them. At a fault the
-- tokens left are those from the fault on. Where memory wants, nothing is said.
use Rattle.std.specs.Prelude.{◌≡◌, Result, Ok, Err}
use Rattle.pads_value.specs.declared.memory.Refusal.{Refusal}
use Rattle.pads_value.specs.declared.memory.Refusal.TheVariants as refusal
use Rattle.pads_grammar.specs.declared.cursor.Unexpected.{Unexpected}
use Rattle.pads_grammar.specs.Kinds.{Tokens}
use Rattle.pads_grammar.specs.Grammar.{Outcome}

abbrev pub Reads : {A : Type 0} → Outcome A → Result A (Refusal Unexpected) → Tokens → Type 0
Reads outcome (Ok a) left = outcome ≡ Ok (a, left)
Reads outcome (Err (refusal.Fault unexpected)) left = outcome ≡ Err left
Reads outcome (Err refusal.Memory) left = Unit {0}
