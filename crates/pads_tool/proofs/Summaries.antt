-- How the promise of a summary is kept.
use Rattle.std.proofs.Common.{◌≡◌, ◌∙◌, ◌<◌, ◌≤◌, inl, refl, sym, ap, subst, ℕ, true, false, List, Option, IfSome, Ok, Err, arith}
use Rattle.pads_module.specs.Modules.{Contents}
use Rattle.pads_erase.specs.declared.mask.Mask.{Mask}
use Rattle.pads_mask.specs.Masks.{masked}
use Rattle.pads_orders.specs.declared.order.Settings.{Settings}
use Rattle.pads_plan.specs.Plans.{lists_of, most, size}
use Rattle.pads_report.specs.Reports.{report_text}
use Rattle.pads_tool.proofs.Promises.{known-at}
use Rattle.pads_tool.proofs.Texts.{if-known, within}
use Rattle.pads_tool.specs.Describing.{Description, described}
use Rattle.pads_tool.specs.Promises.{Counts, Keeps, Seen, summarizing}
use Rattle.pads_tool.specs.Summing.{CanBeSummed, HasNoSummary, IsSummedBy, SumsGive, SumsMost, SumsOver, all_rows, are_too_many, report_for, sums}
use Rattle.pads_tool.specs.Telling.{Tells}
use Rattle.pads_tool.proofs.Masked.{masked-image, masked-item, masked-verdict, one-masked}
use Rattle.pads_tool.specs.Masking.{IsBounded, IsReadUnder, IsRefusedUnder, bounded}
use Rattle.pads_tool.specs.Texts.{StopsBefore}
use Rattle.pads_tool.specs.declared.ending.Ending.{Ending}
use Rattle.pads_tool.specs.declared.ending.Ending.TheVariants as ending
use Rattle.pads_tool.specs.declared.reason.Reason.TheVariants as reason
use Rattle.pads_tool.specs.declared.summed.Summed.{Summed}

module _ (content left : Option (List ℕ)) (settings : Settings) (mask : Mask) (can : CanBeSummed content left settings mask) where
  -- What can be summed hasn't too many parts,
  can-parts : (whole : Contents) → IsReadUnder content settings.coding mask whole → most < size (lists_of whole) → ⊥
  can-parts whole here many =
      let few = subst (λ (m : Contents). size (lists_of m) ≤ most) (one-masked content settings.coding mask can.can_make whole here.0) can.few in
      omega (arith, few, many)

  -- isn't too long,
  can-most : (left' : Option (List ℕ)) (d : Description) → IfSome left (SumsMost left' d) → ⊥
  can-most left' d h =
      let long = known-at (SumsMost left' d) left can.input can.left_is h in
      omega (arith, can.fits, long.2, within can.input left' long.0 long.1)

  -- and meets no limit.
  can-over : (left' : Option (List ℕ)) (made : Contents) → IsBounded settings.scan (λ whole. IsReadUnder content settings.coding mask whole) made → IfSome left (SumsOver left' (described made settings.cutting)) → ⊥
  can-over left' made here h =
      let over = known-at (SumsOver left' (described made settings.cutting)) left can.input can.left_is h in
      let is : bounded settings.scan (masked can.can_make.whole mask) ≡ made =
      ap (λ (m : Contents). bounded settings.scan m) (one-masked content settings.coding mask can.can_make here.0 here.1.0) ∙ sym here.2 in
      let counted = subst (λ (m : Contents). are_too_many m (all_rows (described m settings.cutting) can.input) ≡ false) is can.counted in
      let wrong : true ≡ false = sym over.2 ∙ counted in cc

module _ (name : List ℕ) (settings : Settings) (mask : Mask) (s : Seen) (n : Counts) where
  -- The run ends before a summary is there.
  pub summary-stopped : (e : Ending) → s.out' ≡ s.out → StopsBefore (IsRefusedUnder (s.content name) settings.coding mask) n.files n.files' e → Keeps (summarizing name settings mask) s n e
  summary-stopped (ending.Refused (reason.Description verdict)) same h = (h, same, λ can. masked-verdict (s.content name) settings.coding mask can.can_make verdict h)
  summary-stopped (ending.Refused (reason.MaskItem item)) same h = (h, same, λ can. masked-item (s.content name) settings.coding mask can.can_make item h)
  summary-stopped (ending.Refused (reason.Question fault)) same h = absurd h
  summary-stopped (ending.Refused reason.ImageTooLarge) same h = (h, same, λ can. masked-image (s.content name) settings.coding mask can.can_make h)
  summary-stopped (ending.Refused reason.SummaryTooLarge) same h = absurd h
  summary-stopped ending.FileFault same h = (refl, h, same)
  summary-stopped ending.Memory same h = same
  summary-stopped ending.Done same h = absurd h
  summary-stopped ending.Dirty same h = absurd h
  summary-stopped ending.Usage same h = absurd h
  summary-stopped ending.ReadFault same h = absurd h
  summary-stopped ending.WriteFault same h = absurd h
  summary-stopped ending.TooLong same h = absurd h
  summary-stopped ending.Limit same h = absurd h

  module _ (made : Contents) (here : IsBounded settings.scan (λ whole. IsReadUnder (s.content name) settings.coding mask whole) made) where
    pub summary-none : (e : Ending) → s.out' ≡ s.out → HasNoSummary made e → Keeps (summarizing name settings mask) s n e
    summary-none (ending.Refused (reason.Description verdict)) same h = absurd h
    summary-none (ending.Refused (reason.MaskItem item)) same h = absurd h
    summary-none (ending.Refused (reason.Question fault)) same h = absurd h
    summary-none (ending.Refused reason.ImageTooLarge) same h = absurd h
    summary-none (ending.Refused reason.SummaryTooLarge) same h =
        let many = subst (λ (m : Contents). most < size (lists_of m)) here.2 h in
        ((here.0, here.1, many), same, λ can. can-parts (s.content name) s.left settings mask can here.0 here.1 many)
    summary-none ending.Memory same h = same
    summary-none ending.FileFault same h = absurd h
    summary-none ending.Done same h = absurd h
    summary-none ending.Dirty same h = absurd h
    summary-none ending.Usage same h = absurd h
    summary-none ending.ReadFault same h = absurd h
    summary-none ending.WriteFault same h = absurd h
    summary-none ending.TooLong same h = absurd h
    summary-none ending.Limit same h = absurd h

    module _ (few : size (lists_of made) ≤ most) where
      by : IsSummedBy (s.content name) settings mask made
      by = (here.0, (here.1, subst (λ (m : Contents). size (lists_of m) ≤ most) here.2 few), here.2)

      -- The reading ends otherwise than at the end of the input.
      pub summary-ended : (e : Ending) → s.out' ≡ s.out → SumsGive s.left' s.left n.source n.source' (described made settings.cutting) (Err e) → Keeps (summarizing name settings mask) s n e
      summary-ended ending.ReadFault same h = (h.0, (same, (made, by, h.1)))
      summary-ended ending.TooLong same h = ((same, (made, by, h)), λ can. can-most (s.content name) s.left settings mask can s.left' (described made settings.cutting) h)
      summary-ended ending.Limit same h = ((made, by, h), same, λ can. can-over (s.content name) s.left settings mask can s.left' made here h)
      summary-ended ending.Memory same h = same
      summary-ended (ending.Refused why) same h = absurd h
      summary-ended ending.FileFault same h = absurd h
      summary-ended ending.Done same h = absurd h
      summary-ended ending.Dirty same h = absurd h
      summary-ended ending.Usage same h = absurd h
      summary-ended ending.WriteFault same h = absurd h

      -- The report was written of what was summed up, or not.
      told-of : (summed : Summed) (input : List ℕ) (e : Ending) → summed ≡ (sums made).tally (all_rows (described made settings.cutting) input)
          → Tells (report_text settings.top summed.summary.lists) summed.clean s.out s.out' n.out n.out' e
          → Tells (report_for (described made settings.cutting) settings.top input) ((sums made).tally (all_rows (described made settings.cutting) input)).clean s.out s.out' n.out n.out' e
      told-of summed input e is h = subst (λ (t : Summed). Tells (report_text settings.top t.summary.lists) t.clean s.out s.out' n.out n.out' e) is h

      pub summary-told : (summed : Summed) (e : Ending) → SumsGive s.left' s.left n.source n.source' (described made settings.cutting) (Ok summed)
          → Tells (report_text settings.top summed.summary.lists) summed.clean s.out s.out' n.out n.out' e → Keeps (summarizing name settings mask) s n e
      summary-told summed ending.Done h t =
          ((made, by, if-known _ _ s.left (λ input p. let told = told-of summed input ending.Done p.0 t in (told.0, told.1, p.1)) h), tt)
      summary-told summed ending.Dirty h t =
          ((made, by, if-known _ _ s.left (λ input p. let told = told-of summed input ending.Dirty p.0 t in (told.0, told.1, p.1)) h), tt)
      summary-told summed ending.WriteFault h t =
          (inl t.0, (made, by, if-known _ _ s.left (λ input p. let told = told-of summed input ending.WriteFault p.0 t in (told.1, p.1)) h), tt)
      summary-told summed ending.Memory h t = t
      summary-told summed (ending.Refused why) h t = absurd t
      summary-told summed ending.FileFault h t = absurd t
      summary-told summed ending.Usage h t = absurd t
      summary-told summed ending.ReadFault h t = absurd t
      summary-told summed ending.TooLong h t = absurd t
      summary-told summed ending.Limit h t = absurd t
