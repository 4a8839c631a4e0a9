-- What a call answers that may refuse.
use Rattle.std.specs.Prelude.{◌≡◌, Result, Ok, Err}
use Rattle.pads_value.specs.declared.memory.Refusal.{Refusal}
use Rattle.pads_value.specs.declared.memory.Refusal.TheVariants as refusal

-- The call gives this answer, unless memory runs out.
abbrev pub Gives : {T F : Type 0} → Result T (Refusal F) → Result T F → Type 0
Gives (Ok made) answer = answer ≡ Ok made
Gives (Err (refusal.Fault fault)) answer = answer ≡ Err fault
Gives (Err refusal.Memory) answer = Unit {0}

-- What holds of the fault, where the call answers one.
abbrev pub OnFault : {T F : Type 0} → Result T (Refusal F) → (F → Type 0) → Type 0
OnFault (Ok made) P = Unit {0}
OnFault (Err (refusal.Fault fault)) P = P fault
OnFault (Err refusal.Memory) P = Unit {0}
