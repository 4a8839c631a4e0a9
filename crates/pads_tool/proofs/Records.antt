-- From the reading of an input to the ending of a run.
use Rattle.std.proofs.Common.{◌≡◌, ◌≢◌, sym, refl, inl, inr, ℕ, Bool, true, false, List, [], ◌∷◌, append-nil, Option, None, Some, IfSome, IfOk, OnErr, Result, Ok, Err}
use Rattle.std.specs.Io.KnownBytes.{Appends}
use Rattle.std.specs.List.{flat_map}
use Rattle.pads_drive.specs.Drives.{DriveGives}
use Rattle.pads_drive.specs.LittleAhead.{IsLittleAhead}
use Rattle.pads_drive.specs.Outputs.{Work}
use Rattle.pads_drive.specs.Stopping.{HasSinkCause}
use Rattle.pads_drive.specs.Writing.{Grows, GrowsPast, GrowsPrefix}
use Rattle.pads_drive.specs.declared.ended.Ended.{Ended}
use Rattle.pads_drive.specs.declared.ended.Ended.TheVariants as ended
use Rattle.pads_drive.specs.declared.output.Output.{Output}
use Rattle.pads_drive.specs.declared.stop.Stop.{Stop}
use Rattle.pads_drive.specs.declared.stop.Stop.TheVariants as stop
use Rattle.pads_io.specs.Faults.{Rose}
use Rattle.pads_value.specs.declared.row.Row.{Row}
use Rattle.pads_tool.specs.Describing.{Description}
use Rattle.pads_tool.specs.Reading.{RecordsGive, WroteSome, ending_of}
use Rattle.pads_tool.specs.declared.ending.Ending.TheVariants as ending
use Rattle.pads_tool.proofs.Texts.{if-known, if-both}

module _ (work : Description → Work Row Bool) (d : Description) (left left' o o' n n' : Option (List ℕ)) (source source' out out' notes notes' : ℕ) where
  abbrev Drove : Result (Ended Bool) Stop → Type 0
  Drove r = IfSome left (λ input. DriveGives (work d) d.cutting.discipline d.cutting.max input left' o o' n n' r)

  abbrev Blames : Result (Ended Bool) Stop → Type 0
  Blames r = HasSinkCause out out' notes notes' ((row : Row) → (work d).notes row ≡ []) r

  abbrev Nears : Result (Ended Bool) Stop → Type 0
  Nears r = OnErr r (IfSome left (IsLittleAhead (work d) d.cutting.discipline d.cutting.max left' o o' n n'))

  -- a command that notes something may find either sink failing
  pub records-give : (r : Result (Ended Bool) Stop) → Drove r → Nears r → (r ≡ Ok ended.ReadFault → Rose source source') → Blames r
      → RecordsGive work true d left left' o o' n n' source source' out out' notes notes' (ending_of r)
  records-give (Ok (ended.Finished true)) h near read cause = if-known _ _ left (λ input p. (p.0, sym p.1.is, p.2, p.3)) h
  records-give (Ok (ended.Finished false)) h near read cause = if-known _ _ left (λ input p. (p.0, sym p.1.is, p.2, p.3)) h
  records-give (Ok ended.ReadFault) h near read cause = (read refl, if-known _ _ left (λ input p. (p.0, p.1, p.2)) h)
  records-give (Ok ended.TooLong) h near read cause = if-known _ _ left (λ input p. (p.0, p.1, p.2, p.3)) h
  records-give (Err stop.Out) h near read cause = (inl (cause.out_failed refl), if-both _ _ _ left (λ input p q. ((p.0, p.1, p.2), q)) h near)
  records-give (Err stop.Notes) h near read cause = (inr (refl, cause.notes_failed refl), if-both _ _ _ left (λ input p q. ((p.0, p.1, p.2), q)) h near)
  records-give (Err stop.Memory) h near read cause = if-both _ _ _ left (λ input p q. ((p.0, p.1, p.2), q)) h near
  records-give (Err stop.Limit) h near read cause = if-both _ _ _ left (λ input p q. ((p.0, p.1, p.2), q)) h near

-- A command that notes nothing.
grown-by-nothing : (m : Option (List ℕ)) (bytes : List ℕ) → bytes ≡ [] → Appends m m bytes
grown-by-nothing None bytes none = tt
grown-by-nothing (Some xs) bytes none = rw none (sym (append-nil xs))

none-noted : (work : Work Row Bool) → ((row : Row) → work.notes row ≡ []) → (rows : List Row) → flat_map work.notes rows ≡ []
none-noted work none [] = refl
none-noted work none (row ∷ rows) = rw (none row, none-noted work none rows) refl

module _ (work : Work Row Bool) (none : (row : Row) → work.notes row ≡ []) where
  abbrev Written : List Row → Output
  Written rows = record { out = flat_map work.out rows; notes = flat_map work.notes rows }

  quiet-all : (o o' n n' m : Option (List ℕ)) (rows : List Row) → Grows o o' n n' (Written rows) → Grows o o' m m (Written rows)
  quiet-all o o' n n' m rows p = record { out_grows = p.out_grows; notes_grow = grown-by-nothing m _ (none-noted work none rows) }

  quiet-prefix : (o o' n n' m : Option (List ℕ)) (rows : List Row) → GrowsPrefix o o' n n' (Written rows) → GrowsPrefix o o' m m (Written rows)
  quiet-prefix o o' n n' m rows p = record { out_grows = p.out_grows; notes_grow = (0, grown-by-nothing m _ refl) }

  quiet-past : (o o' n n' m : Option (List ℕ)) (rows : List Row) → GrowsPast o o' n n' (Written rows) → GrowsPast o o' m m (Written rows)
  quiet-past o o' n n' m rows p =
      record { out_grows = p.out_grows; notes_grow = ([], grown-by-nothing m _ (rw (none-noted work none rows) refl)) }

module _ (work : Description → Work Row Bool) (d : Description) (none : (row : Row) → (work d).notes row ≡ [])
    (left left' o o' n n' m : Option (List ℕ)) (source source' out out' notes notes' : ℕ) where
  quiet-some : (input : List ℕ) → WroteSome work left' o o' n n' d input → WroteSome work left' o o' m m d input
  quiet-some input p = (
    (p.0.0, p.0.1, quiet-prefix (work d) none o o' n n' m _ p.0.2),
    λ carried.
        let q = p.1 carried in record { taken = q.taken; consumed = q.consumed; served = q.served; near = q.near; wrote = quiet-past (work d) none o o' n n' m _ q.wrote },
  )

  -- It leaves the notes as they were, whatever sink the reading had for them.
  pub quiet-give : (r : Result (Ended Bool) Stop) → HasSinkCause out out' notes notes' ((row : Row) → (work d).notes row ≡ []) r
      → RecordsGive work true d left left' o o' n n' source source' out out' notes notes' (ending_of r)
      → (count : ℕ) → RecordsGive work false d left left' o o' m m source source' out out' count count (ending_of r)
  quiet-give (Ok (ended.Finished true)) cause h count = if-known _ _ left (λ input p. (quiet-all (work d) none o o' n n' m _ p.0, p.1, p.2, p.3)) h
  quiet-give (Ok (ended.Finished false)) cause h count = if-known _ _ left (λ input p. (quiet-all (work d) none o o' n n' m _ p.0, p.1, p.2, p.3)) h
  quiet-give (Ok ended.ReadFault) cause h count = (h.0, if-known _ _ left (λ input p. (p.0, p.1, quiet-all (work d) none o o' n n' m _ p.2)) h.1)
  quiet-give (Ok ended.TooLong) cause h count = if-known _ _ left (λ input p. (p.0, p.1, p.2, quiet-all (work d) none o o' n n' m _ p.3)) h
  quiet-give (Err stop.Out) cause h count = (inl (cause.out_failed refl), if-known _ _ left quiet-some h.1)
  quiet-give (Err stop.Notes) cause h count = absurd (cause.notes_wanted none refl)
  quiet-give (Err stop.Memory) cause h count = if-known _ _ left quiet-some h
  quiet-give (Err stop.Limit) cause h count = if-known _ _ left quiet-some h

-- a failure of `out` is told, and one of the notes
pub out-kept : (out out' notes notes' : ℕ) (Nothing : Type 0) (r : Result (Ended Bool) Stop) → HasSinkCause out out' notes notes' Nothing r → (ending_of r ≢ ending.WriteFault) → out' ≡ out
out-kept out out' notes notes' Nothing (Ok outcome) cause other = cause.out_kept (λ e. cc)
out-kept out out' notes notes' Nothing (Err stop.Out) cause other = absurd (other refl)
out-kept out out' notes notes' Nothing (Err stop.Notes) cause other = absurd (other refl)
out-kept out out' notes notes' Nothing (Err stop.Memory) cause other = cause.out_kept (λ e. cc)
out-kept out out' notes notes' Nothing (Err stop.Limit) cause other = cause.out_kept (λ e. cc)

pub notes-kept : (out out' notes notes' : ℕ) (Nothing : Type 0) (r : Result (Ended Bool) Stop) → HasSinkCause out out' notes notes' Nothing r → (ending_of r ≢ ending.WriteFault) → notes' ≡ notes
notes-kept out out' notes notes' Nothing (Ok outcome) cause other = cause.notes_kept (λ e. cc)
notes-kept out out' notes notes' Nothing (Err stop.Out) cause other = absurd (other refl)
notes-kept out out' notes notes' Nothing (Err stop.Notes) cause other = absurd (other refl)
notes-kept out out' notes notes' Nothing (Err stop.Memory) cause other = cause.notes_kept (λ e. cc)
notes-kept out out' notes notes' Nothing (Err stop.Limit) cause other = cause.notes_kept (λ e. cc)

-- a failure of the source is told, but where a failure of `out` or want of memory comes behind it
pub source-kept : (source source' : ℕ) (r : Result (Ended Bool) Stop) → IfOk r (λ outcome. (outcome ≢ ended.ReadFault) → source' ≡ source)
    → (ending_of r ≢ ending.ReadFault) → (ending_of r ≢ ending.WriteFault) → (ending_of r ≢ ending.Memory) → source' ≡ source
source-kept source source' (Ok (ended.Finished true)) kept reads writes wants = kept (λ e. cc)
source-kept source source' (Ok (ended.Finished false)) kept reads writes wants = kept (λ e. cc)
source-kept source source' (Ok ended.TooLong) kept reads writes wants = kept (λ e. cc)
source-kept source source' (Ok ended.ReadFault) kept reads writes wants = absurd (reads refl)
source-kept source source' (Err stop.Out) kept reads writes wants = absurd (writes refl)
source-kept source source' (Err stop.Notes) kept reads writes wants = absurd (writes refl)
source-kept source source' (Err stop.Memory) kept reads writes wants = absurd (wants refl)
source-kept source source' (Err stop.Limit) kept reads writes wants = absurd (wants refl)
