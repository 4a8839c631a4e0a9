-- Where rows make a count pass the limit: a row as a chunk of its own, the part that a limit names, and rows among others.
use Rattle.std.proofs.Common.{◌≡◌, ◌∙◌, sym, ap, refl, subst, ℕ, zero, suc, ◌+◌, ◌-◌, ◌^◌, ◌<◌, ◌≤◌, min, nat_lt, Bool, true, false, true≢false, not, List, [], ◌∷◌, ◌++◌, length, Option, Some, None, is_some, ◌⊎◌, inl, inr, ⊎_elim, arith}
use Rattle.std.proofs.lemmas.Bool.{ltb-true}
use Rattle.std.specs.List.{count_by, flat_map}
use Rattle.pads_value.specs.declared.row.Row.{Row}
use Rattle.pads_plan.specs.declared.part.PlanList.{PlanList}
use Rattle.pads_plan.specs.declared.part.PlanPart.{PlanPart}
use Rattle.pads_sums.proofs.Lists.{count_append}
use Rattle.pads_sums.specs.Nodes.{Node}
use Rattle.pads_sums.specs.Sums.{part_sum}
use Rattle.pads_sums.specs.declared.part_sum.PartSum.{PartSum}
use Rattle.pads_accum.proofs.ChunkLaws.{rows_more}
use Rattle.pads_accum.proofs.Passing.{nodes_more}
use Rattle.pads_accum.specs.Limits.{limit_of, lists_over, merge_limit, merging_over, most, or_else, over, parts_over, sums_over}
use Rattle.pads_accum.specs.Summaries.{all_of, lists_summed, nodes_of, parts_summed, rows_of}
use Rattle.pads_accum.specs.declared.limit.Limit.{Limit}
use Rattle.pads_batch.specs.Summing.{HasCount, IsOver, parts_of}

-- More rows meet the limit where their chunk does.
parts-as-chunk : (all : List PlanPart) (old more : List Row) (before at : ℕ) (parts : List PlanPart)
    → parts_over all more before at (parts_summed None all old at parts) ≡ sums_over (before + at) (parts_summed None all old at parts) (parts_summed None all more at parts)
parts-as-chunk all old more before at [] = refl
parts-as-chunk all old more before at (part ∷ parts) =
    let next : before + (at + 1) ≡ before + at + 1 = omega arith in
    ap (or_else _)
    (parts-as-chunk all old more before (at + 1) parts
    ∙ ap (λ n. sums_over n (parts_summed None all old (at + 1) parts) (parts_summed None all more (at + 1) parts)) next)

lists-as-chunk : (count before at : ℕ) (plans : List PlanList) (old more : List Row)
    → lists_over count before at plans (lists_summed None count at plans old) more ≡ merging_over before (lists_summed None count at plans old) (lists_summed None count at plans more)
lists-as-chunk count before at [] old more = refl
lists-as-chunk count before at (plan ∷ plans) old more =
    let mine = parts_summed None plan.parts (rows_of count at old) 0 plan.parts in
    let theirs = parts_summed None plan.parts (rows_of count at more) 0 plan.parts in
    let here : before + 0 ≡ before = omega arith in
    let first : parts_over plan.parts (rows_of count at more) before 0 mine ≡ sums_over before mine theirs =
    parts-as-chunk plan.parts (rows_of count at old) (rows_of count at more) before 0 plan.parts ∙ ap (λ n. sums_over n mine theirs) here in
    (λ i. or_else (first i) (lists-as-chunk count (before + length mine) (at + 1) plans old more i))

pub row-limit : (plan : List PlanList) (rows : List Row) (row : Row) → limit_of plan (all_of plan rows) row ≡ merge_limit (all_of plan rows) (all_of plan (row ∷ []))
row-limit plan rows row = lists-as-chunk (length plan) 0 0 plan rows (row ∷ [])

-- the limit that is met is one of two
either-some : (a b : Option Limit) (limit : Limit) → or_else a b ≡ Some limit → (a ≡ Some limit) ⊎ (b ≡ Some limit)
either-some None b limit is = inr is
either-some (Some first) b limit is = inl is

module _ (part count more : ℕ) (limit : Limit) where
  over-step : (b : Bool) → nat_lt most (count + more) ≡ b → over part count more ≡ Some limit → (limit.part ≡ part) × (most < limit.count) × (limit.count ≤ count + more)
  over-step true above is =
      let past = ltb-true most (count + more) above in
      let made : Limit = record { part = part; count = min (count + more) (2 ^ 64 - 1) } in
      let some : Some made ≡ Some limit = rw above at is in
      let same : made ≡ limit = cc in (
        ap (λ (l : Limit). l.part) (sym same),
        subst (λ (l : Limit). most < l.count) same (omega (arith, past)),
        subst (λ (l : Limit). l.count ≤ count + more) same (omega arith),
      )
  over-step false within is = absurd (true≢false (sym (ap is_some (rw within at is))))

  over-some : over part count more ≡ Some limit → (limit.part ≡ part) × (most < limit.count) × (limit.count ≤ count + more)
  over-some is = over-step (nat_lt most (count + more)) refl is

-- of one part
part-over : (number : ℕ) (sum later : PartSum) (limit : Limit) → or_else (over number sum.good later.good) (over number sum.bad later.bad) ≡ Some limit
    → (limit.part ≡ number) × (most < limit.count) × ((limit.count ≤ sum.good + later.good) ⊎ (limit.count ≤ sum.bad + later.bad))
part-over number sum later limit is =
    ⊎_elim
    (λ good. let h = over-some number sum.good later.good limit good in (h.0, h.1, inl h.2))
    (λ bad. let h = over-some number sum.bad later.bad limit bad in (h.0, h.1, inr h.2))
    (either-some (over number sum.good later.good) (over number sum.bad later.bad) limit is)

-- parts before and behind others
has-front : (front behind : List PartSum) (number count : ℕ) → HasCount front number count → HasCount (front ++ behind) number count
has-front [] behind number count has = absurd has
has-front (part ∷ front) behind zero count has = has
has-front (part ∷ front) behind (suc number) count has = has-front front behind number count has

has-behind : (front behind : List PartSum) (number count : ℕ) → HasCount behind number count → HasCount (front ++ behind) (length front + number) count
has-behind [] behind number count has = let same : number ≡ 0 + number = omega arith in subst (λ n. HasCount behind n count) same has
has-behind (part ∷ front) behind number count has =
    let next : suc (length front + number) ≡ length (part ∷ front) + number = omega arith in
    subst (λ n. HasCount ((part ∷ front) ++ behind) n count) next (has-behind front behind number count has)

length-parts : (all : List PlanPart) (rows : List Row) (at : ℕ) (parts : List PlanPart) → length (parts_summed None all rows at parts) ≡ length parts
length-parts all rows at [] = refl
length-parts all rows at (part ∷ parts) = ap suc (length-parts all rows (at + 1) parts)

module _ (all : List PlanPart) (rows more : List Row) where
  count-is : (test : Node → Bool) (at : ℕ)
      → count_by test (nodes_of all at rows) + count_by test (nodes_of all at more) ≡ count_by test (nodes_of all at (rows ++ more))
  count-is test at = sym (ap (count_by test) (nodes_more None rows more all at) ∙ count_append test (nodes_of all at rows) (nodes_of all at more))

  -- the limit that is met names a part of both
  parts-over : (number at : ℕ) (parts : List PlanPart) (limit : Limit)
      → sums_over number (parts_summed None all rows at parts) (parts_summed None all more at parts) ≡ Some limit
      → (i : ℕ) × (limit.part ≡ number + i) × (most < limit.count) × HasCount (parts_summed None all (rows ++ more) at parts) i limit.count
  parts-over number at [] limit is = absurd (true≢false (sym (ap is_some is)))
  parts-over number at (part ∷ parts) limit is =
      let sum = part_sum None part.place part.form (nodes_of all at rows) in
      let later = part_sum None part.place part.form (nodes_of all at more) in
      ⊎_elim
      (λ here.
      let h = part-over number sum later limit here in (
        0,
        omega (arith, h.0),
        h.1,
        ⊎_elim (λ good. inl (omega (arith, good, count-is (λ node. node.clean) at))) (λ bad. inr (omega (arith, bad, count-is (λ node. not node.clean) at))) h.2,
      ))
      (λ behind. let h = parts-over (number + 1) (at + 1) parts limit behind in (suc h.0, omega (arith, h.1), h.2, h.3))
      (either-some (or_else (over number sum.good later.good) (over number sum.bad later.bad))
      (sums_over (number + 1) (parts_summed None all rows (at + 1) parts) (parts_summed None all more (at + 1) parts)) limit is)

module _ (count : ℕ) (rows more : List Row) where
  lists-over : (before at : ℕ) (plans : List PlanList) (limit : Limit)
      → merging_over before (lists_summed None count at plans rows) (lists_summed None count at plans more) ≡ Some limit
      → (i : ℕ) × (limit.part ≡ before + i) × (most < limit.count) × HasCount (parts_of (lists_summed None count at plans (rows ++ more))) i limit.count
  lists-over before at [] limit is = absurd (true≢false (sym (ap is_some is)))
  lists-over before at (plan ∷ plans) limit is =
      let mine = rows_of count at rows in
      let theirs = rows_of count at more in
      let own = parts_summed None plan.parts mine 0 plan.parts in
      let all = parts_summed None plan.parts (rows_of count at (rows ++ more)) 0 plan.parts in
      let others = parts_of (lists_summed None count (at + 1) plans (rows ++ more)) in
      let whole : parts_summed None plan.parts (mine ++ theirs) 0 plan.parts ≡ all = ap (λ rs. parts_summed None plan.parts rs 0 plan.parts) (sym (rows_more count at rows more)) in
      let long : length own ≡ length all = length-parts plan.parts mine 0 plan.parts ∙ sym (length-parts plan.parts (rows_of count at (rows ++ more)) 0 plan.parts) in
      ⊎_elim
      (λ here.
      let h = parts-over plan.parts mine theirs before 0 plan.parts limit here in
      (h.0, h.1, h.2, has-front all others h.0 limit.count (subst (λ l. HasCount l h.0 limit.count) whole h.3)))
      (λ behind.
      let h = lists-over (before + length own) (at + 1) plans limit behind in
      (length all + h.0, omega (arith, h.1, long), h.2, has-behind all others h.0 limit.count h.3))
      (either-some (sums_over before own (parts_summed None plan.parts theirs 0 plan.parts))
      (merging_over (before + length own) (lists_summed None count (at + 1) plans rows) (lists_summed None count (at + 1) plans more)) limit is)

-- The limit that a chunk meets names a part of all rows.
pub over-merged : (plan : List PlanList) (rows more : List Row) (limit : Limit) → merge_limit (all_of plan rows) (all_of plan more) ≡ Some limit → IsOver plan (rows ++ more) limit
over-merged plan rows more limit is =
    let h = lists-over (length plan) rows more 0 0 plan limit is in
    let same : h.0 ≡ limit.part = omega (arith, h.1) in
    record { above = h.2; there = subst (λ n. HasCount (parts_of (all_of plan (rows ++ more))) n limit.count) same h.3 }

-- no count of the later parts is smaller
abbrev Grown : List PartSum → List PartSum → Type 0
Grown [] [] = Unit {0}
Grown (part ∷ parts) (later ∷ more) = (part.good ≤ later.good) × (part.bad ≤ later.bad) × Grown parts more
Grown _ _ = ⊥

grown-both : (parts more others behind : List PartSum) → Grown parts more → Grown others behind → Grown (parts ++ others) (more ++ behind)
grown-both [] [] others behind grown rest = rest
grown-both [] (later ∷ more) others behind grown rest = absurd grown
grown-both (part ∷ parts) [] others behind grown rest = absurd grown
grown-both (part ∷ parts) (later ∷ more) others behind grown rest = (grown.0, grown.1, grown-both parts more others behind grown.2 rest)

grown-has : (parts more : List PartSum) (number count : ℕ) → Grown parts more → HasCount parts number count → HasCount more number count
grown-has [] more number count grown has = absurd has
grown-has (part ∷ parts) [] number count grown has = absurd grown
grown-has (part ∷ parts) (later ∷ more) zero count grown has = ⊎_elim (λ good. inl (omega (arith, good, grown.0))) (λ bad. inr (omega (arith, bad, grown.1))) has
grown-has (part ∷ parts) (later ∷ more) (suc number) count grown has = grown-has parts more number count grown.2 has

module _ (all : List PlanPart) (before rows more : List Row) where
  fewer : (test : Node → Bool) (at : ℕ) → count_by test (nodes_of all at rows) ≤ count_by test (nodes_of all at ((before ++ rows) ++ more))
  fewer test at = omega (arith, count-is all before rows test at, count-is all (before ++ rows) more test at)

  grown-parts : (at : ℕ) (parts : List PlanPart) → Grown (parts_summed None all rows at parts) (parts_summed None all ((before ++ rows) ++ more) at parts)
  grown-parts at [] = tt
  grown-parts at (part ∷ parts) = (fewer (λ node. node.clean) at, fewer (λ node. not node.clean) at, grown-parts (at + 1) parts)

module _ (count : ℕ) (before rows more : List Row) where
  grown-lists : (at : ℕ) (plans : List PlanList)
      → Grown (parts_of (lists_summed None count at plans rows)) (parts_of (lists_summed None count at plans ((before ++ rows) ++ more)))
  grown-lists at [] = tt
  grown-lists at (plan ∷ plans) =
      let own = parts_summed None plan.parts (rows_of count at rows) 0 plan.parts in
      let all = parts_summed None plan.parts (rows_of count at ((before ++ rows) ++ more)) 0 plan.parts in
      let apart : rows_of count at ((before ++ rows) ++ more) ≡ (rows_of count at before ++ rows_of count at rows) ++ rows_of count at more =
      rows_more count at (before ++ rows) more ∙ ap (λ l. l ++ rows_of count at more) (rows_more count at before rows) in
      let first : Grown own all =
      subst (λ rs. Grown own (parts_summed None plan.parts rs 0 plan.parts)) (sym apart)
      (grown-parts plan.parts (rows_of count at before) (rows_of count at rows) (rows_of count at more) 0 plan.parts) in
      grown-both own all (parts_of (lists_summed None count (at + 1) plans rows)) (parts_of (lists_summed None count (at + 1) plans ((before ++ rows) ++ more))) first
      (grown-lists (at + 1) plans)

-- A limit that rows meet is met among other rows too.
pub over-among : (plan : List PlanList) (before rows more : List Row) (limit : Limit) → IsOver plan rows limit → IsOver plan ((before ++ rows) ++ more) limit
over-among plan before rows more limit over = record {
  above = over.above;
  there = grown-has (parts_of (all_of plan rows)) (parts_of (all_of plan ((before ++ rows) ++ more))) limit.part limit.count
      (grown-lists (length plan) before rows more 0 plan) over.there;
}
