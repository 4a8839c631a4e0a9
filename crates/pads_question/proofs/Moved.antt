-- A refusal that is handed on.
use Rattle.std.proofs.Common.{Err}
use Rattle.pads_value.specs.Refusals.{OnFault}
use Rattle.pads_value.specs.declared.memory.Refusal.{Refusal}
use Rattle.pads_value.specs.declared.memory.Refusal.TheVariants as refusal

pub handed_on : (T U : Type 0) {F : Type 0} (r : Refusal F) (P : F → Type 0) → OnFault {T = T} (Err r) P → OnFault {T = U} (Err r) P
handed_on T U (refusal.Fault fault) P h = h
handed_on T U refusal.Memory P h = tt
