-- A row added to the list that it feeds: the sums of one row more, the counts that it would pass, and the
-- counts that result.
use Rattle.std.specs.Cmp.Derive.{both_true}
use Rattle.pads_sums.proofs.Lists.{both}
use Rattle.std.proofs.Common.{◌≡◌, ◌∙◌, sym, ap, refl, ℕ, zero, suc, ◌+◌, ◌≤◌, ◌<◌, nat_le, nat_eq, Bool, true, false, cond, List, [], ◌∷◌, ◌++◌, length, Option, Some, None, slice_get, slice_set, ne_eqb, leb-true, le-leb, le-ltb, arith}
use Rattle.std.proofs.lemmas.Cmp.{nat_eq_equiv}
use Rattle.std.proofs.lemmas.List.{append-nil}
use Rattle.std.proofs.lemmas.List.Elements.{filter-append}
use Rattle.pads_value.specs.declared.row.Row.{Row}
use Rattle.pads_plan.specs.declared.part.PlanList.{PlanList}
use Rattle.pads_plan.specs.declared.part.PlanPart.{PlanPart}
use Rattle.pads_sums.specs.declared.part_sum.PartSum.{PartSum}
use Rattle.pads_sums.specs.declared.part_sum.SumList.{SumList}
use Rattle.pads_accum.specs.Feeding.{before_list, fed_in, fed_over, list_fed, lists_fed, lists_within, part_within, parts_within, placed_over}
use Rattle.pads_accum.specs.Limits.{limit_of, lists_over, most, or_else, over, part_over, parts_over}
use Rattle.pads_accum.specs.Placed.{row_nodes}
use Rattle.pads_accum.specs.Summaries.{fed, list_summed, lists_summed, picked, rows_of, summed}
use Rattle.pads_accum.specs.declared.limit.Limit.{Limit}
use Rattle.pads_accum.proofs.Fitting.{fits_none}
use Rattle.pads_accum.proofs.PartFeeding.{parts_fed}

-- which rows of one feed a list
module _ (count : ℕ) (row : Row) where
  one-row : (at : ℕ) (b : Bool) → nat_eq (fed count row.number) at ≡ b → rows_of count at (row ∷ []) ≡ cond b (row ∷ []) []
  one-row at b is = ap (λ b. cond b (row ∷ []) []) is

  pub fed_row : (at : ℕ) → fed count row.number ≡ at → rows_of count at (row ∷ []) ≡ row ∷ []
  fed_row at is = one-row at true (ap (λ n. nat_eq n at) is ∙ nat_eq_equiv.refl at)

  other-row : (at : ℕ) → (fed count row.number ≡ at → ⊥) → rows_of count at (row ∷ []) ≡ []
  other-row at apart = one-row at false (ne_eqb (fed count row.number) at apart)

-- the counts that a row would pass
module _ (row : Row) where
  no-more : (part n : ℕ) → nat_le n most ≡ true → over part n 0 ≡ None
  no-more part n within = let h = leb-true n most within in rw (le-ltb most (n + 0) (omega (arith, h))) refl

  none-over : (all : List PlanPart) (before at : ℕ) (sums : List PartSum) → parts_within most sums ≡ true → parts_over all [] before at sums ≡ None
  none-over all before at [] within = refl
  none-over all before at (sum ∷ sums) within =
      let h = both (part_within most sum) (parts_within most sums) within in
      let counts = both (nat_le sum.good most) (nat_le sum.bad most) h.0 in
      rw (no-more (before + at) sum.good counts.0, no-more (before + at) sum.bad counts.1) (none-over all before (at + 1) sums h.1)

  row-over : (all : List PlanPart) (before at : ℕ) (sums : List PartSum) → parts_over all (row ∷ []) before at sums ≡ placed_over before at sums (row_nodes all row)
  row-over all before at [] = refl
  row-over all before at (sum ∷ sums) =
      (λ k. or_else (part_over (before + at) sum (picked at (append-nil (row_nodes all row) k))) (row-over all before (at + 1) sums k))

  -- lists behind the one that is fed
  module _ (count : ℕ) where
    later-over : (before at : ℕ) (plans : List PlanList) (lists : List SumList) → lists_within most lists ≡ true → fed count row.number < at
        → lists_over count before at plans lists (row ∷ []) ≡ None
    later-over before at [] lists within past = refl
    later-over before at (plan ∷ plans) [] within past = refl
    later-over before at (plan ∷ plans) (list ∷ lists) within past =
        let h = both (parts_within most list.parts) (lists_within most lists) within in
        rw (other-row count row at (λ e. omega (arith, e, past)), none-over plan.parts before 0 list.parts h.0)
        (later-over (before + length list.parts) (at + 1) plans lists h.1 (omega (arith, past)))

    or-nothing : (o : Option Limit) → or_else o None ≡ o
    or-nothing None = refl
    or-nothing (Some limit) = refl

    over-none : (plan : Option PlanList) (before : ℕ) → None ≡ fed_over plan None before row
    over-none None before = refl
    over-none (Some plan) before = refl

    lists-over : (before at i : ℕ) (plans : List PlanList) (lists : List SumList) → lists_within most lists ≡ true → fed count row.number ≡ at + i
        → lists_over count before at plans lists (row ∷ []) ≡ fed_over (slice_get plans i) (slice_get lists i) (before + before_list lists i) row
    lists-over before at i [] lists within is = refl
    lists-over before at i (plan ∷ plans) [] within is = over-none (slice_get (plan ∷ plans) i) (before + before_list [] i)
    lists-over before at zero (plan ∷ plans) (list ∷ lists) within is =
        let h = both (parts_within most list.parts) (lists_within most lists) within in
        let here : fed count row.number ≡ at = omega (arith, is) in
        let nothing : before ≡ before + 0 = omega arith in
        rw (fed_row count row at here, later-over (before + length list.parts) (at + 1) plans lists h.1 (omega (arith, here)))
        (or-nothing (parts_over plan.parts (row ∷ []) before 0 list.parts) ∙ row-over plan.parts before 0 list.parts ∙ ap (λ n. placed_over n 0 list.parts (row_nodes plan.parts row)) nothing)
    lists-over before at (suc i) (plan ∷ plans) (list ∷ lists) within is =
        let h = both (parts_within most list.parts) (lists_within most lists) within in
        let further : before + length list.parts + before_list lists i ≡ before + (length list.parts + before_list lists i) = omega arith in
        rw (other-row count row at (λ e. omega (arith, e, is)), none-over plan.parts before 0 list.parts h.0)
        (lists-over (before + length list.parts) (at + 1) i plans lists h.1 (omega (arith, is))
        ∙ ap (λ n. fed_over (slice_get plans i) (slice_get lists i) n row) further)

  -- only the list that is fed counts
  pub limit_is : (plan : List PlanList) (lists : List SumList) → lists_within most lists ≡ true
      → limit_of plan lists row
      ≡ fed_over (slice_get plan (fed (length plan) row.number)) (slice_get lists (fed (length plan) row.number)) (before_list lists (fed (length plan) row.number)) row
  limit_is plan lists within =
      let at = fed (length plan) row.number in
      let nothing : 0 + before_list lists at ≡ before_list lists at = omega arith in
      lists-over (length plan) 0 0 at plan lists within (omega arith) ∙ ap (λ n. fed_over (slice_get plan at) (slice_get lists at) n row) nothing

-- the same where that list is known
module _ (plan : List PlanList) (lists : List SumList) (row : Row) (at : ℕ) (p : Option PlanList) (is : at ≡ fed (length plan) row.number) (there : p ≡ slice_get plan at) where
  pub limit_at : lists_within most lists ≡ true → limit_of plan lists row ≡ fed_over p (slice_get lists at) (before_list lists at) row
  limit_at within =
      limit_is row plan lists within
      ∙ ap (λ n. fed_over (slice_get plan n) (slice_get lists n) (before_list lists n) row) (sym is)
      ∙ ap (λ o. fed_over o (slice_get lists at) (before_list lists at) row) (sym there)

  pub fed_in_at : (room : Option ℕ) → lists_fed room plan lists row ≡ fed_in room p (slice_get lists at) at row lists
  fed_in_at room =
      ap (λ n. fed_in room (slice_get plan n) (slice_get lists n) n row lists) (sym is)
      ∙ ap (λ o. fed_in room o (slice_get lists at) at row lists) (sym there)

-- the rows of a list in one row more
pub rows_next : (count at : ℕ) (rows : List Row) (row : Row) → rows_of count at (rows ++ row ∷ []) ≡ rows_of count at rows ++ rows_of count at (row ∷ [])
rows_next count at rows row = filter-append (λ (r : Row). nat_eq (fed count r.number) at) rows (row ∷ [])

module _ (room : Option ℕ) (rows : List Row) (row : Row) (count : ℕ) where
  pub other_list : (at : ℕ) (plan : PlanList) → (fed count row.number ≡ at → ⊥)
      → list_summed room plan (rows_of count at rows) ≡ list_summed room plan (rows_of count at (rows ++ row ∷ []))
  other_list at plan apart =
      ap (list_summed room plan)
      (sym (append-nil (rows_of count at rows)) ∙ ap (λ more. rows_of count at rows ++ more) (sym (other-row count row at apart)) ∙ sym (rows_next count at rows row))

  pub later_lists : (at : ℕ) (plans : List PlanList) → fed count row.number < at
      → lists_summed room count at plans rows ≡ lists_summed room count at plans (rows ++ row ∷ [])
  later_lists at [] past = refl
  later_lists at (plan ∷ plans) past =
      let apart : fed count row.number ≡ at → ⊥ = λ e. omega (arith, e, past) in
      let further : fed count row.number < at + 1 = omega (arith, past) in
      (λ k. other_list at plan apart k ∷ later_lists (at + 1) plans further k)

  list-next : (at before : ℕ) (plan : PlanList) → fed count row.number ≡ at
      → placed_over before 0 (list_summed room plan (rows_of count at rows)).parts (row_nodes plan.parts row) ≡ None
      → list_fed room plan row (list_summed room plan (rows_of count at rows)) ≡ list_summed room plan (rows_of count at (rows ++ row ∷ []))
  list-next at before plan here none =
      let mine = rows_of count at rows in
      let fits = fits_none before 0 (list_summed room plan mine).parts (row_nodes plan.parts row) none in
      (λ k. record { name = plan.name; parts = parts_fed room plan.parts mine row fits k })
      ∙ ap (list_summed room plan) (ap (λ more. mine ++ more) (sym (fed_row count row at here)) ∙ sym (rows_next count at rows row))

  later-in : (plan : Option PlanList) (o : Option SumList) (j : ℕ) (list : SumList) (lists : List SumList)
      → fed_in room plan o (suc j) row (list ∷ lists) ≡ list ∷ fed_in room plan o j row lists
  later-in None o j list lists = refl
  later-in (Some plan) None j list lists = refl
  later-in (Some plan) (Some here) j list lists = refl

  lists-next : (at i before : ℕ) (plans : List PlanList) → fed count row.number ≡ at + i
      → fed_over (slice_get plans i) (slice_get (lists_summed room count at plans rows) i) before row ≡ None
      → fed_in room (slice_get plans i) (slice_get (lists_summed room count at plans rows) i) i row (lists_summed room count at plans rows)
      ≡ lists_summed room count at plans (rows ++ row ∷ [])
  lists-next at i before [] is none = refl
  lists-next at zero before (plan ∷ plans) is none =
      let here : fed count row.number ≡ at = omega (arith, is) in
      let further : fed count row.number < at + 1 = omega (arith, here) in
      (λ k. list-next at before plan here none k ∷ later_lists (at + 1) plans further k)
  lists-next at (suc i) before (plan ∷ plans) is none =
      let apart : fed count row.number ≡ at → ⊥ = λ e. omega (arith, e, is) in
      let next : fed count row.number ≡ at + 1 + i = omega (arith, is) in
      later-in (slice_get plans i) (slice_get (lists_summed room count (at + 1) plans rows) i) i (list_summed room plan (rows_of count at rows)) (lists_summed room count (at + 1) plans rows)
      ∙ (λ k. other_list at plan apart k ∷ lists-next (at + 1) i before plans next none k)

-- the sums of rows and then this one, where no count passes the limit
pub summed_next : (room : Option ℕ) (plan : List PlanList) (rows : List Row) (row : Row) → lists_within most (summed room plan rows) ≡ true
    → limit_of plan (summed room plan rows) row ≡ None
    → lists_fed room plan (summed room plan rows) row ≡ summed room plan (rows ++ row ∷ [])
summed_next room plan rows row within none =
    let at = fed (length plan) row.number in
    lists-next room rows row (length plan) 0 at (before_list (summed room plan rows) at) plan (omega arith) (sym (limit_is row plan (summed room plan rows) within) ∙ none)

-- bounds of counts
module _ (bound next : ℕ) (grows : bound ≤ next) where
  count-within : (n : ℕ) → nat_le n bound ≡ true → nat_le n next ≡ true
  count-within n within = let h = leb-true n bound within in le-leb n next (omega (arith, h, grows))

  parts-grown : (sums : List PartSum) → parts_within bound sums ≡ true → parts_within next sums ≡ true
  parts-grown [] within = refl
  parts-grown (sum ∷ sums) within =
      let h = both (part_within bound sum) (parts_within bound sums) within in
      let counts = both (nat_le sum.good bound) (nat_le sum.bad bound) h.0 in
      both_true (both_true (count-within sum.good counts.0) (count-within sum.bad counts.1)) (parts-grown sums h.1)

  pub lists_grown : (lists : List SumList) → lists_within bound lists ≡ true → lists_within next lists ≡ true
  lists_grown [] within = refl
  lists_grown (list ∷ lists) within =
      let h = both (parts_within bound list.parts) (lists_within bound lists) within in
      both_true (parts-grown list.parts h.0) (lists_grown lists h.1)

pub within_set : (bound : ℕ) (lists : List SumList) (at : ℕ) (new : SumList) → lists_within bound lists ≡ true → parts_within bound new.parts ≡ true
    → lists_within bound (slice_set lists at new) ≡ true
within_set bound [] at new within fits = refl
within_set bound (list ∷ lists) zero new within fits =
    let h = both (parts_within bound list.parts) (lists_within bound lists) within in both_true fits h.1
within_set bound (list ∷ lists) (suc at) new within fits =
    let h = both (parts_within bound list.parts) (lists_within bound lists) within in both_true h.0 (within_set bound lists at new h.1 fits)

-- what the code gives, for any rows whose sums it had
pub row_added : (room : Option ℕ) (plan : List PlanList) (lists new : List SumList) (rows : List Row) (row : Row) → lists_within most lists ≡ true
    → limit_of plan lists row ≡ None → new ≡ lists_fed room plan lists row → lists ≡ summed room plan rows → new ≡ summed room plan (rows ++ row ∷ [])
row_added room plan lists new rows row within none is were =
    is ∙ ap (λ old. lists_fed room plan old row) were
    ∙ summed_next room plan rows row (ap (lists_within most) (sym were) ∙ within) (ap (λ old. limit_of plan old row) (sym were) ∙ none)
