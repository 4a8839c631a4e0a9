-- The chunk of the rows of a piece, and of one row more; and a summary of rows, with the chunk of later ones.
use Rattle.std.proofs.Common.{◌≡◌, ◌∙◌, refl, sym, ap, true, false, ◌&&◌, List, [], ◌∷◌, ◌++◌, None, Some}
use Rattle.std.specs.List.{list_all}
use Rattle.pads_accum.proofs.Passing.{passes_next, passes_none}
use Rattle.pads_accum.proofs.ChunkLaws.{merging_passes}
use Rattle.pads_accum.specs.Limits.{limit_of, merge_limit}
use Rattle.pads_accum.specs.States.{IsChunkOf, IsSummaryOf, State}
use Rattle.pads_accum.specs.Summaries.{all_of, summary_of}
use Rattle.pads_accum.specs.declared.limit.Limit.{Limit}
use Rattle.pads_module.specs.Modules.{Contents}
use Rattle.pads_drive.specs.Outputs.{Tallies}
use Rattle.pads_drive.specs.Sharing.{IsShare}
use Rattle.pads_plan.specs.Plans.{lists_of}
use Rattle.pads_sums.specs.Sums.{most as tracked_most}
use Rattle.pads_value.specs.declared.row.Row.{Row}
use Rattle.pads_tool.proofs.Chunks.{limit-alike}
use Rattle.pads_tool.proofs.Counted.{counted-both, counted-more}
use Rattle.pads_tool.specs.Describing.{is_clean}
use Rattle.pads_tool.specs.Summing.{are_too_many, piece_summed, sums}
use Rattle.pads_tool.specs.declared.summed.Summed.{Summed}
use Rattle.pads_tool.specs.declared.summed.PieceSummed.{PieceSummed}

module _ (m : Contents) where
  -- no rows
  pub none-summed : (s : State) → s.plan ≡ lists_of m → IsSummaryOf s [] → s.spent ≡ false → Tallies (sums m) [] (record { summary = s; clean = true })
  none-summed s plan empty unspent =
      let lists : s.lists ≡ summary_of (lists_of m) [] = empty ∙ ap (λ p. summary_of p []) plan in
      let is : record { summary = record { plan = s.plan; lists = s.lists; spent = s.spent }; clean = true } ≡ (sums m).tally [] = rw (lists, plan, unspent) refl in
      record { is = is; within = passes_none (lists_of m) }

  pub none-in-piece : (chunk : State) → chunk.plan ≡ lists_of m → IsChunkOf chunk [] → chunk.spent ≡ false → IsShare (sums m) (piece_summed m) [] (record { chunk = chunk; clean = true })
  none-in-piece chunk plan empty unspent =
      let lists : chunk.lists ≡ all_of (lists_of m) [] = empty ∙ ap (λ p. all_of p []) plan in
      let is : record { chunk = record { plan = chunk.plan; lists = chunk.lists; spent = chunk.spent }; clean = true } ≡ piece_summed m [] = rw (lists, plan, unspent) refl in
      record { is = is; within = passes_none (lists_of m) }

  module _ (rows : List Row) (row : Row) (old : PieceSummed) (is : old ≡ piece_summed m rows) where
    plan-is : old.chunk.plan ≡ lists_of m
    plan-is = ap (λ (t : PieceSummed). t.chunk.plan) is

    lists-are : old.chunk.lists ≡ all_of (lists_of m) rows
    lists-are = ap (λ (t : PieceSummed). t.chunk.lists) is

    -- a row more is added
    pub piece-more : (new : PieceSummed) → (IsChunkOf old.chunk rows → IsChunkOf new.chunk (rows ++ row ∷ [])) → new.chunk.plan ≡ old.chunk.plan → new.chunk.spent ≡ false
        → new.clean ≡ (old.clean && is_clean row) → new ≡ piece_summed m (rows ++ row ∷ [])
    piece-more new added kept unspent clean =
        let plan : new.chunk.plan ≡ lists_of m = kept ∙ plan-is in
        let lists : new.chunk.lists ≡ all_of (lists_of m) (rows ++ row ∷ []) =
        added (lists-are ∙ ap (λ p. all_of p rows) (sym plan-is)) ∙ ap (λ p. all_of p (rows ++ row ∷ [])) plan in
        let all : new.clean ≡ list_all is_clean (rows ++ row ∷ []) = counted-more is_clean row old.clean new.clean clean rows (ap (λ (t : PieceSummed). t.clean) is) in
        let made : record { chunk = record { plan = new.chunk.plan; lists = new.chunk.lists; spent = new.chunk.spent }; clean = new.clean } ≡ piece_summed m (rows ++ row ∷ []) =
        rw (lists, plan, unspent, all) refl in
        made

    limit-is : limit_of old.chunk.plan old.chunk.lists row ≡ limit_of (lists_of m) (summary_of (lists_of m) rows) row
    limit-is = ap (λ p. limit_of p old.chunk.lists row) plan-is ∙ ap (λ l. limit_of (lists_of m) l row) lists-are ∙ limit-alike (lists_of m) rows row

    -- it can be counted too
    pub within-next : are_too_many m rows ≡ false → limit_of old.chunk.plan old.chunk.lists row ≡ None → are_too_many m (rows ++ row ∷ []) ≡ false
    within-next within none = (passes_next (lists_of m) rows row within).0 (sym limit-is ∙ none)

    -- or it can't
    pub over-next : (limit : Limit) → are_too_many m rows ≡ false → limit_of old.chunk.plan old.chunk.lists row ≡ Some limit → are_too_many m (rows ++ row ∷ []) ≡ true
    over-next limit within met = elim (are_too_many m (rows ++ row ∷ [])) as (λ b. are_too_many m (rows ++ row ∷ []) ≡ b → b ≡ true) [
      | true ↦ λ e. refl
      | false ↦ λ e. let none : limit_of old.chunk.plan old.chunk.lists row ≡ None = limit-is ∙ (passes_next (lists_of m) rows row within).1 e in
          let wrong : Some limit ≡ None = sym met ∙ none in cc
    ] refl

  module _ (before rows : List Row) (old : Summed) (later : PieceSummed) (is : old ≡ (sums m).tally before) (came : later ≡ piece_summed m rows) where
    old-plan : old.summary.plan ≡ lists_of m
    old-plan = ap (λ (t : Summed). t.summary.plan) is

    old-lists : old.summary.lists ≡ summary_of (lists_of m) before
    old-lists = ap (λ (t : Summed). t.summary.lists) is

    later-plan : later.chunk.plan ≡ lists_of m
    later-plan = ap (λ (t : PieceSummed). t.chunk.plan) came

    later-lists : later.chunk.lists ≡ all_of (lists_of m) rows
    later-lists = ap (λ (t : PieceSummed). t.chunk.lists) came

    -- both are for the same plan, and neither is spent
    pub same-plans : later.chunk.plan ≡ old.summary.plan
    same-plans = later-plan ∙ sym old-plan

    pub old-unspent : old.summary.spent ≡ false
    old-unspent = ap (λ (t : Summed). t.summary.spent) is

    pub later-unspent : later.chunk.spent ≡ false
    later-unspent = ap (λ (t : PieceSummed). t.chunk.spent) came

    -- the rows of a piece are added
    pub summed-both : (new : Summed) → (IsSummaryOf old.summary before → IsChunkOf later.chunk rows → IsSummaryOf new.summary (before ++ rows)) → new.summary.plan ≡ old.summary.plan
        → new.summary.spent ≡ false → new.clean ≡ (old.clean && later.clean) → new ≡ (sums m).tally (before ++ rows)
    summed-both new merged kept unspent clean =
        let plan : new.summary.plan ≡ lists_of m = kept ∙ old-plan in
        let lists : new.summary.lists ≡ summary_of (lists_of m) (before ++ rows) =
        merged (old-lists ∙ ap (λ p. summary_of p before) (sym old-plan)) (later-lists ∙ ap (λ p. all_of p rows) (sym later-plan)) ∙ ap (λ p. summary_of p (before ++ rows)) plan in
        let all : new.clean ≡ list_all is_clean (before ++ rows) = counted-both is_clean before rows old.clean later.clean new.clean clean (ap (λ (t : Summed). t.clean) is) (ap (λ (t : PieceSummed). t.clean) came) in
        let made : record { summary = record { plan = new.summary.plan; lists = new.summary.lists; spent = new.summary.spent }; clean = new.clean } ≡ (sums m).tally (before ++ rows) =
        rw (lists, plan, unspent, all) refl in
        made

    merge-is : merge_limit old.summary.lists later.chunk.lists ≡ merge_limit (summary_of (lists_of m) before) (all_of (lists_of m) rows)
    merge-is = ap (λ l. merge_limit l later.chunk.lists) old-lists ∙ ap (λ l. merge_limit (summary_of (lists_of m) before) l) later-lists

    -- they can be counted too
    pub within-both : merge_limit old.summary.lists later.chunk.lists ≡ None → are_too_many m (before ++ rows) ≡ false
    within-both none = (merging_passes (lists_of m) before rows (Some tracked_most)).0 (sym merge-is ∙ none)

    -- or they can't
    pub over-both : (limit : Limit) → merge_limit old.summary.lists later.chunk.lists ≡ Some limit → are_too_many m (before ++ rows) ≡ true
    over-both limit met = elim (are_too_many m (before ++ rows)) as (λ b. are_too_many m (before ++ rows) ≡ b → b ≡ true) [
      | true ↦ λ e. refl
      | false ↦ λ e. let none : merge_limit old.summary.lists later.chunk.lists ≡ None = merge-is ∙ (merging_passes (lists_of m) before rows (Some tracked_most)).1 e in
          let wrong : Some limit ≡ None = sym met ∙ none in cc
    ] refl
