-- Endings at which the source wasn't reached.
use Rattle.std.proofs.Common.{sym, subst, inl, inr, ℕ, Bool, List, Option}
use Rattle.pads_drive.specs.Outputs.{Work}
use Rattle.pads_value.specs.declared.row.Row.{Row}
use Rattle.pads_tool.specs.Describing.{Description}
use Rattle.pads_tool.specs.Endings.{status_of}
use Rattle.pads_tool.specs.Reading.{RecordsGive}
use Rattle.pads_tool.specs.Running.{IsBeforeInput}
use Rattle.pads_tool.specs.Telling.{Tells}
use Rattle.pads_tool.specs.declared.ending.Ending.{Ending}
use Rattle.pads_tool.specs.declared.ending.Ending.TheVariants as ending
use Rattle.pads_tool.specs.declared.status.Status.{Status}
use Rattle.pads_tool.specs.declared.status.Status.TheVariants as status

abbrev Before : Status → Type 0
Before status.Usage = Unit {0}
Before status.Refused = Unit {0}
Before status.FileFault = Unit {0}
Before status.Done = ⊥
Before status.Dirty = ⊥
Before status.ReadFault = ⊥
Before status.WriteFault = ⊥
Before status.Memory = ⊥
Before status.TooLong = ⊥
Before status.Limit = ⊥

is-before : (s : Status) → IsBeforeInput s → Before s
is-before s (inl same) = subst Before (sym same) tt
is-before s (inr (inl same)) = subst Before (sym same) tt
is-before s (inr (inr same)) = subst Before (sym same) tt

module _ (work : Description → Work Row Bool) (noting : Bool) (d : Description) (left left' o o' n n' : Option (List ℕ)) (source source' out out' notes notes' : ℕ) where
  reach : (e : Ending) → RecordsGive work noting d left left' o o' n n' source source' out out' notes notes' e → Before (status_of e) → ⊥
  reach ending.Done h before = before
  reach ending.Dirty h before = before
  reach ending.ReadFault h before = before
  reach ending.WriteFault h before = before
  reach ending.TooLong h before = before
  reach ending.Memory h before = before
  reach ending.Usage h before = h
  reach (ending.Refused verdict) h before = h
  reach ending.FileFault h before = h
  reach ending.Limit h before = h

  -- a reading of an input ends otherwise
  pub reading-reaches : (e : Ending) → RecordsGive work noting d left left' o o' n n' source source' out out' notes notes' e → IsBeforeInput (status_of e) → ⊥
  reading-reaches e h before = reach e h (is-before (status_of e) before)

module _ (text : List ℕ) (well : Bool) (out out' : Option (List ℕ)) (before now : ℕ) where
  tell : (e : Ending) → Tells text well out out' before now e → Before (status_of e) → ⊥
  tell ending.Done h b = b
  tell ending.Dirty h b = b
  tell ending.ReadFault h b = b
  tell ending.WriteFault h b = b
  tell ending.TooLong h b = b
  tell ending.Memory h b = b
  tell ending.Limit h b = b
  tell ending.Usage h b = h
  tell (ending.Refused verdict) h b = h
  tell ending.FileFault h b = h

  -- and so does the telling of what was read
  pub telling-reaches : (e : Ending) → Tells text well out out' before now e → IsBeforeInput (status_of e) → ⊥
  telling-reaches e h first = tell e h (is-before (status_of e) first)
