-- Nodes added to the sums of a list: each part takes those that are its own.
use Rattle.std.specs.Cmp.Derive.{both_true}
use Rattle.std.proofs.Common.{◌≡◌, ◌∙◌, sym, ap, refl, ℕ, zero, suc, ◌+◌, ◌≤◌, ◌<◌, nat_le, nat_eq, Bool, true, false, not, ◌&&◌, cond, List, [], ◌∷◌, ◌++◌, map, fold, Option, Some, None, slice_get, if◌then◌else◌, append_assoc, ne_eqb, leb-true, le-leb, arith}
use Rattle.std.specs.List.{count_by, filter, flat_map}
use Rattle.std.proofs.lemmas.Cmp.{nat_eq_equiv}
use Rattle.std.proofs.lemmas.List.{append-nil, map-append}
use Rattle.std.proofs.lemmas.List.Elements.{filter-append}
use Rattle.std.proofs.lemmas.Grind.{flat_map-append}
use Rattle.pads_value.specs.declared.row.Row.{Row}
use Rattle.pads_sums.specs.Nodes.{Node, sample_of}
use Rattle.pads_sums.specs.Samples.{Sample, num, text}
use Rattle.pads_sums.specs.declared.form.PartForm.{PartForm}
use Rattle.pads_plan.specs.declared.part.PlanPart.{PlanPart}
use Rattle.pads_sums.specs.Adding.{with_class, with_node, with_sample}
use Rattle.pads_sums.specs.Sums.{part_sum}
use Rattle.pads_sums.specs.declared.part_sum.PartSum.{PartSum}
use Rattle.pads_sums.proofs.Lists.{both, count_append, count_cons}
use Rattle.pads_sums.proofs.SumLaws.{part_sum_next}
use Rattle.pads_accum.specs.Feeding.{all_fed, fed_at, fits_from, one_fed, part_within, parts_within}
use Rattle.pads_accum.specs.Limits.{most}
use Rattle.pads_accum.specs.Placed.{Placed, row_nodes}
use Rattle.pads_accum.specs.Summaries.{nodes_of, parts_summed, picked}

module _ (room : Option ℕ) (all : List PlanPart) where
  -- the sum of a part with these nodes
  abbrev folded : Option PlanPart → PartSum → List Node → PartSum
  folded None sum nodes = sum
  folded (Some part) sum nodes = fold (with_node room part.form) sum nodes

  -- each part with its nodes, from part number `at` on
  abbrev fed_from : ℕ → List PartSum → List Placed → List PartSum
  fed_from at [] placed = []
  fed_from at (sum ∷ sums) placed = folded (slice_get all at) sum (picked at placed) ∷ fed_from (at + 1) sums placed

  -- one node, from part number `at` on
  module _ (p : Placed) where
    abbrev touched : ℕ → List PartSum → List PartSum
    touched at [] = []
    touched at (sum ∷ sums) = (if nat_eq p.part at then folded (slice_get all at) sum (p.node ∷ []) else sum) ∷ touched (at + 1) sums

    touched-past : (at : ℕ) (sums : List PartSum) → p.part < at → touched at sums ≡ sums
    touched-past at [] past = refl
    touched-past at (sum ∷ sums) past =
        rw (ne_eqb p.part at (λ e. omega (arith, e, past))) (ap (λ more. sum ∷ more) (touched-past (at + 1) sums (omega (arith, past))))

    nothing-fed : (part : Option PlanPart) (i : ℕ) → [] ≡ fed_at room part None i p.node []
    nothing-fed None i = refl
    nothing-fed (Some part) i = refl

    first-fed : (part : Option PlanPart) (sum : PartSum) (sums : List PartSum) → folded part sum (p.node ∷ []) ∷ sums ≡ fed_at room part (Some sum) 0 p.node (sum ∷ sums)
    first-fed None sum sums = refl
    first-fed (Some part) sum sums = refl

    later-fed : (part : Option PlanPart) (o : Option PartSum) (j : ℕ) (sum : PartSum) (sums : List PartSum)
        → sum ∷ fed_at room part o j p.node sums ≡ fed_at room part o (suc j) p.node (sum ∷ sums)
    later-fed None o j sum sums = refl
    later-fed (Some part) None j sum sums = refl
    later-fed (Some part) (Some here) j sum sums = refl

    touched-at : (at i : ℕ) (sums : List PartSum) → p.part ≡ at + i → touched at sums ≡ fed_at room (slice_get all p.part) (slice_get sums i) i p.node sums
    touched-at at i [] is = nothing-fed (slice_get all p.part) i
    touched-at at zero (sum ∷ sums) is =
        let here : p.part ≡ at = omega (arith, is) in
        let yes : nat_eq p.part at ≡ true = ap (λ n. nat_eq p.part n) (sym here) ∙ nat_eq_equiv.refl p.part in
        rw yes
        ((λ k. folded (slice_get all (sym here k)) sum (p.node ∷ []) ∷ touched-past (at + 1) sums (omega (arith, here)) k)
        ∙ first-fed (slice_get all p.part) sum sums)
    touched-at at (suc j) (sum ∷ sums) is =
        rw (ne_eqb p.part at (λ e. omega (arith, e, is)))
        (ap (λ more. sum ∷ more) (touched-at (at + 1) j sums (omega (arith, is))) ∙ later-fed (slice_get all p.part) (slice_get sums j) j sum sums)

    pub one_touched : (sums : List PartSum) → one_fed room all sums p ≡ touched 0 sums
    one_touched sums = sym (touched-at 0 p.part sums (omega arith))

    folded-cons : (part : Option PlanPart) (sum : PartSum) (nodes : List Node) → folded part (folded part sum (p.node ∷ [])) nodes ≡ folded part sum (p.node ∷ nodes)
    folded-cons None sum nodes = refl
    folded-cons (Some part) sum nodes = refl

    touch-step : (at : ℕ) (sum : PartSum) (ps : List Placed) (b : Bool)
        → folded (slice_get all at) (if b then folded (slice_get all at) sum (p.node ∷ []) else sum) (picked at ps)
        ≡ folded (slice_get all at) sum (map (λ (q : Placed). q.node) (cond b (p ∷ filter (λ q. nat_eq q.part at) ps) (filter (λ q. nat_eq q.part at) ps)))
    touch-step at sum ps true = folded-cons (slice_get all at) sum (picked at ps)
    touch-step at sum ps false = refl

    then-others : (at : ℕ) (sums : List PartSum) (ps : List Placed) → fed_from at (touched at sums) ps ≡ fed_from at sums (p ∷ ps)
    then-others at [] ps = refl
    then-others at (sum ∷ sums) ps = (λ k. touch-step at sum ps (nat_eq p.part at) k ∷ then-others (at + 1) sums ps k)

  folded-nothing : (part : Option PlanPart) (sum : PartSum) → sum ≡ folded part sum []
  folded-nothing None sum = refl
  folded-nothing (Some part) sum = refl

  none-fed : (at : ℕ) (sums : List PartSum) → sums ≡ fed_from at sums []
  none-fed at [] = refl
  none-fed at (sum ∷ sums) = (λ k. folded-nothing (slice_get all at) sum k ∷ none-fed (at + 1) sums k)

  -- all nodes of a row
  pub all_fed_from : (sums : List PartSum) (ps : List Placed) → all_fed room all sums ps ≡ fed_from 0 sums ps
  all_fed_from sums [] = none-fed 0 sums
  all_fed_from sums (p ∷ ps) =
      all_fed_from (one_fed room all sums p) ps
      ∙ ap (λ now. fed_from 0 now ps) (one_touched p sums)
      ∙ then-others p 0 sums ps

-- nodes added one after the other are those of the longer list
module _ (room : Option ℕ) (place : List ℕ) (form : PartForm) where
  pub folded_sum : (nodes more : List Node)
      → count_by (λ node. node.clean) nodes + count_by (λ node. node.clean) more ≤ most
      → count_by (λ node. not node.clean) nodes + count_by (λ node. not node.clean) more ≤ most
      → fold (with_node room form) (part_sum room place form nodes) more ≡ part_sum room place form (nodes ++ more)
  folded_sum nodes [] good bad = ap (part_sum room place form) (sym (append-nil nodes))
  folded_sum nodes (node ∷ more) good bad =
      let good_first = count_cons (λ node. node.clean) node more in
      let bad_first = count_cons (λ node. not node.clean) node more in
      let good_next = count_append (λ node. node.clean) nodes (node ∷ []) in
      let bad_next = count_append (λ node. not node.clean) nodes (node ∷ []) in
      ap (λ sum. fold (with_node room form) sum more) (sym (part_sum_next room place form nodes node (omega (arith, good, good_first)) (omega (arith, bad, bad_first))))
      ∙ folded_sum (nodes ++ node ∷ []) more (omega (arith, good, good_first, good_next)) (omega (arith, bad, bad_first, bad_next))
      ∙ ap (part_sum room place form) (append_assoc nodes (node ∷ []) more)

-- the nodes of a part in one row more
pub picked_append : (at : ℕ) (xs ys : List Placed) → picked at (xs ++ ys) ≡ picked at xs ++ picked at ys
picked_append at xs ys =
    ap (map (λ (p : Placed). p.node)) (filter-append (λ p. nat_eq p.part at) xs ys)
    ∙ map-append (λ (p : Placed). p.node) (filter (λ p. nat_eq p.part at) xs) (filter (λ p. nat_eq p.part at) ys)

pub nodes_next : (all : List PlanPart) (at : ℕ) (rows : List Row) (row : Row) → nodes_of all at (rows ++ row ∷ []) ≡ nodes_of all at rows ++ picked at (row_nodes all row)
nodes_next all at rows row =
    ap (picked at) (flat_map-append (row_nodes all) rows (row ∷ []) ∙ ap (λ ps. flat_map (row_nodes all) rows ++ ps) (append-nil (row_nodes all row)))
    ∙ picked_append at (flat_map (row_nodes all) rows) (row_nodes all row)

-- the sums of rows with the nodes of one row more
module _ (room : Option ℕ) (all : List PlanPart) (rows : List Row) (row : Row) where
  part-next : (at : ℕ) (part : PlanPart) → Some part ≡ slice_get all at
      → (nat_le (count_by (λ node. node.clean) (nodes_of all at rows) + count_by (λ node. node.clean) (picked at (row_nodes all row))) most
      && nat_le (count_by (λ node. not node.clean) (nodes_of all at rows) + count_by (λ node. not node.clean) (picked at (row_nodes all row))) most) ≡ true
      → folded room all (slice_get all at) (part_sum room part.place part.form (nodes_of all at rows)) (picked at (row_nodes all row))
      ≡ part_sum room part.place part.form (nodes_of all at (rows ++ row ∷ []))
  part-next at part there fits =
      let counts = both _ _ fits in
      ap (λ o. folded room all o (part_sum room part.place part.form (nodes_of all at rows)) (picked at (row_nodes all row))) (sym there)
      ∙ folded_sum room part.place part.form (nodes_of all at rows) (picked at (row_nodes all row)) (leb-true _ most counts.0) (leb-true _ most counts.1)
      ∙ ap (part_sum room part.place part.form) (sym (nodes_next all at rows row))

  parts-next : (at : ℕ) (parts : List PlanPart) → ((i : ℕ) → slice_get parts i ≡ slice_get all (at + i))
      → fits_from most at (parts_summed room all rows at parts) (row_nodes all row) ≡ true
      → fed_from room all at (parts_summed room all rows at parts) (row_nodes all row) ≡ parts_summed room all (rows ++ row ∷ []) at parts
  parts-next at [] there fits = refl
  parts-next at (part ∷ parts) there fits =
      let here : Some part ≡ slice_get all at = there 0 ∙ ap (slice_get all) (omega arith) in
      let rest : (i : ℕ) → slice_get parts i ≡ slice_get all (at + 1 + i) = λ i. there (suc i) ∙ ap (slice_get all) (omega arith) in
      let h = both _ _ fits in
      (λ k. part-next at part here h.0 k ∷ parts-next (at + 1) parts rest h.1 k)

  pub parts_fed : fits_from most 0 (parts_summed room all rows 0 all) (row_nodes all row) ≡ true
      → all_fed room all (parts_summed room all rows 0 all) (row_nodes all row) ≡ parts_summed room all (rows ++ row ∷ []) 0 all
  parts_fed fits =
      all_fed_from room all (parts_summed room all rows 0 all) (row_nodes all row)
      ∙ parts-next 0 all (λ i. ap (slice_get all) (omega arith)) fits

-- counts rise by no more than the nodes
module _ (room : Option ℕ) (form : PartForm) where
  sample-good : (o : Option Sample) (sum : PartSum) → (with_sample room o sum).good ≡ sum.good
  sample-good None sum = refl
  sample-good (Some (num n)) sum = refl
  sample-good (Some (text points)) sum = refl

  sample-bad : (o : Option Sample) (sum : PartSum) → (with_sample room o sum).bad ≡ sum.bad
  sample-bad None sum = refl
  sample-bad (Some (num n)) sum = refl
  sample-bad (Some (text points)) sum = refl

  class-good : (clean : Bool) (sum : PartSum) → (with_class clean sum).good ≤ sum.good + cond clean 1 0
  class-good true sum = omega arith
  class-good false sum = omega arith

  class-bad : (clean : Bool) (sum : PartSum) → (with_class clean sum).bad ≤ sum.bad + cond (not clean) 1 0
  class-bad true sum = omega arith
  class-bad false sum = omega arith

  folded-good : (sum : PartSum) (nodes : List Node) → (fold (with_node room form) sum nodes).good ≤ sum.good + count_by (λ node. node.clean) nodes
  folded-good sum [] = omega arith
  folded-good sum (node ∷ nodes) =
      let rest = folded-good (with_node room form sum node) nodes in
      let first = count_cons (λ node. node.clean) node nodes in
      let same = sample-good (sample_of form node) (with_class node.clean sum) in
      let more = class-good node.clean sum in
      omega (arith, rest, first, same, more)

  folded-bad : (sum : PartSum) (nodes : List Node) → (fold (with_node room form) sum nodes).bad ≤ sum.bad + count_by (λ node. not node.clean) nodes
  folded-bad sum [] = omega arith
  folded-bad sum (node ∷ nodes) =
      let rest = folded-bad (with_node room form sum node) nodes in
      let first = count_cons (λ node. not node.clean) node nodes in
      let same = sample-bad (sample_of form node) (with_class node.clean sum) in
      let more = class-bad node.clean sum in
      omega (arith, rest, first, same, more)

module _ (room : Option ℕ) (all : List PlanPart) (bound : ℕ) where
  part-bounded : (part : Option PlanPart) (sum : PartSum) (nodes : List Node)
      → (nat_le (sum.good + count_by (λ node. node.clean) nodes) bound && nat_le (sum.bad + count_by (λ node. not node.clean) nodes) bound) ≡ true
      → part_within bound (folded room all part sum nodes) ≡ true
  part-bounded None sum nodes fits =
      let counts = both _ _ fits in
      let good = leb-true _ bound counts.0 in
      let bad = leb-true _ bound counts.1 in
      both_true (le-leb sum.good bound (omega (arith, good))) (le-leb sum.bad bound (omega (arith, bad)))
  part-bounded (Some part) sum nodes fits =
      let counts = both _ _ fits in
      let good = leb-true _ bound counts.0 in
      let bad = leb-true _ bound counts.1 in
      let more_good = folded-good room part.form sum nodes in
      let more_bad = folded-bad room part.form sum nodes in
      both_true (le-leb _ bound (omega (arith, good, more_good))) (le-leb _ bound (omega (arith, bad, more_bad)))

  bounded-from : (at : ℕ) (sums : List PartSum) (ps : List Placed) → fits_from bound at sums ps ≡ true → parts_within bound (fed_from room all at sums ps) ≡ true
  bounded-from at [] ps fits = refl
  bounded-from at (sum ∷ sums) ps fits =
      let h = both _ _ fits in
      both_true (part-bounded (slice_get all at) sum (picked at ps) h.0) (bounded-from (at + 1) sums ps h.1)

  -- the sums with nodes that fit a bound are within it
  pub fed_within : (sums : List PartSum) (ps : List Placed) → fits_from bound 0 sums ps ≡ true → parts_within bound (all_fed room all sums ps) ≡ true
  fed_within sums ps fits = ap (parts_within bound) (all_fed_from room all sums ps) ∙ bounded-from 0 sums ps fits
