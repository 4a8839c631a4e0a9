-- What each form of term but the array reads has its sort, where what the terms in it read has theirs.
use Rattle.std.proofs.Common.{◌≡◌, ◌∙◌, sym, ap, refl, arith, ℕ, zero, suc, ◌+◌, ◌-◌, int_le, ◌&&◌, nat_lt, nat_eq, not, true, List, [], ◌∷◌, drop, length, map, Option, Some, None, slice_get, option_map}
use Rattle.std.specs.Prelude.{⊤}
use Rattle.std.specs.List.{starts_with}
use Rattle.std.proofs.lemmas.Bool.{and_from}
use Rattle.pads_value.specs.declared.cause.Cause.TheVariants as cause
use Rattle.pads_value.specs.declared.reading.Read.{Read}
use Rattle.pads_value.specs.declared.reading.Read.TheVariants.{Good, Soft, Hard}
use Rattle.pads_value.specs.declared.value.Val.{Val}
use Rattle.pads_value.specs.declared.value.Val.TheVariants as val
use Rattle.pads_value.specs.Header.{with_cause}
use Rattle.pads_expr.specs.declared.expr.Expr.{Expr}
use Rattle.pads_expr.specs.Value.{Pairs}
use Rattle.pads_expr.specs.Worth.{Worth}
use Rattle.pads_expr.specs.Worth as worth
use Rattle.pads_dispatch.specs.declared.base.Arg.{Arg}
use Rattle.pads_dispatch.specs.declared.base.Base.{Base}
use Rattle.pads_dispatch.specs.Readings.{base_reading}
use Rattle.pads_calc.specs.declared.reading.Reading.{Reading}
use Rattle.pads_calc.specs.declared.term.Arm.{Arm}
use Rattle.pads_calc.specs.declared.term.Case.{Case}
use Rattle.pads_calc.specs.declared.term.Part.{Part}
use Rattle.pads_calc.specs.declared.term.ComputedForm.{ComputedForm}
use Rattle.pads_calc.specs.declared.term.ComputedForm.TheVariants as form
use Rattle.pads_calc.specs.declared.term.Term.{Term}
use Rattle.pads_calc.specs.Arguments.{is_true}
use Rattle.pads_calc.specs.Choices.{branch_of, alt_from, case_at, switch_of}
use Rattle.pads_calc.specs.Leaves.{unit_of, lit_of, eor_of, at_end, base_node, base_of, computed_told, compute_node, compute_of}
use Rattle.pads_calc.specs.Readings.{Subject, Reader, leaf, fails, is_ok, values}
use Rattle.pads_calc.specs.Structs.{Named, bind, in_turn, struct_of}
use Rattle.pads_calc.specs.Wrappers.{constrained, guard_of, absorb_of, found_at, last_place, scan, scan_from}
use Rattle.pads_calc.proofs.Cases.{pick}
use Rattle.pads_calc.proofs.Choices.{slice_get-map}
use Rattle.pads_calc.proofs.Induction.{EachPart, EachArm, EachCase}
use Rattle.law_calculus.specs.Sorts.{Sort, Number, Nothing, Struct, Choice, base_sort, result_sort, sort_of}
use Rattle.law_calculus.specs.Values.{has_sort, each_part, of_branch}
use Rattle.law_calculus.proofs.Bases.{ReadHas, base-has}
use Rattle.law_calculus.proofs.Values.{has-Unit, has-Missing, has-Num, has-Text, has-Tuple, has-Branch}

module _ (declared : List Sort) (subject : Subject) where
  -- a reading has a sort by its value
  abbrev pub Of : Sort → Reading → Type 0
  Of sort r = has_sort declared r.value sort ≡ true

  abbrev pub ReadsAs : Sort → Reader → Type 0
  ReadsAs sort reader = (env : Pairs) (i : ℕ) → Of sort (reader env i)

  pub unit-has : (i : ℕ) → Of Nothing (unit_of subject.origin i)
  unit-has i = has-Unit declared

  pub lit-has : (literal : List ℕ) (i : ℕ) → Of Nothing (lit_of subject literal i)
  lit-has literal i =
      pick (Of Nothing) (starts_with nat_eq (drop i subject.bytes) literal) (leaf subject.origin val.Unit i (i + length literal)) (fails subject.origin cause.MissingLiteral i)
      (λ _. has-Unit declared) (λ _. has-Missing declared Nothing)

  pub eor-has : (i : ℕ) → Of Nothing (eor_of subject i)
  eor-has i = pick (Of Nothing) (at_end subject.bytes i) (leaf subject.origin val.Unit i i) (fails subject.origin cause.MissingEor i) (λ _. has-Unit declared) (λ _. has-Missing declared Nothing)

  base_node-has : (sort : Sort) (i : ℕ) (read : Read Val) → ReadHas declared sort read → Of sort (base_node subject.origin i read)
  base_node-has sort i (Good size value) h = h
  base_node-has sort i (Soft size cause) h = has-Missing declared sort
  base_node-has sort i (Hard cause) h = has-Missing declared sort

  pub base_of-has : (base : Base) (args : Option (List Arg)) (i : ℕ) → Of (base_sort base) (base_of subject base args i)
  base_of-has base None i = has-Missing declared (base_sort base)
  base_of-has base (Some args) i = base_node-has (base_sort base) i (base_reading base args (drop i subject.bytes)) (base-has declared base args (drop i subject.bytes))

  -- computed values
  abbrev SomeHas : Sort → Option Val → Type 0
  SomeHas sort None = ⊤
  SomeHas sort (Some value) = has_sort declared value sort ≡ true

  computed-has : (f : ComputedForm) (found : Option Worth) → SomeHas (result_sort f) (computed_told f found)
  computed-has f None = tt
  computed-has (form.Range least greatest) (Some (worth.Num number)) =
      pick (SomeHas Number) (int_le least number && int_le number greatest) (Some (val.Num number)) None (λ _. has-Num declared number) (λ _. tt)
  computed-has (form.Range least greatest) (Some (worth.Text text)) = tt
  computed-has (form.Range least greatest) (Some (worth.Truth truth)) = tt
  computed-has (form.Range least greatest) (Some (worth.Part part)) = tt
  computed-has form.Text (Some (worth.Num number)) = tt
  computed-has form.Text (Some (worth.Text text)) = has-Text declared text
  computed-has form.Text (Some (worth.Truth truth)) = tt
  computed-has form.Text (Some (worth.Part part)) = tt

  compute_node-has : (sort : Sort) (i : ℕ) (value : Option Val) → SomeHas sort value → Of sort (compute_node subject.origin i value)
  compute_node-has sort i None h = has-Missing declared sort
  compute_node-has sort i (Some value) h = h

  pub compute-has : (f : ComputedForm) (found : Option Worth) (i : ℕ) → Of (result_sort f) (compute_of subject.origin f found i)
  compute-has f found i = compute_node-has (result_sort f) i (computed_told f found) (computed-has f found)

  -- constraints, terms whose value isn't kept, searches
  pub guard-has : (sort : Sort) (binder : ℕ) (condition : Expr) (env : Pairs) (r : Reading) → Of sort r → Of sort (guard_of binder condition env r)
  guard-has sort binder condition env r h =
      pick (Of sort) (is_ok r && not (is_true condition ((binder, r.value) ∷ env))) (constrained r) r (λ _. h) (λ _. h)

  pub absorb-has : (r : Reading) → Of Nothing (absorb_of r)
  absorb-has r = pick (λ value. has_sort declared value Nothing ≡ true) (is_ok r) val.Unit val.Missing (λ _. has-Unit declared) (λ _. has-Missing declared Nothing)

  found-has : (sort : Sort) (i j : ℕ) (r : Reading) → Of sort r → Of sort (found_at subject.origin i j r)
  found-has sort i j r h = pick (Of sort) (nat_lt i j) (record r { pd = with_cause cause.Skipped (subject.origin + i) r.pd }) r (λ _. h) (λ _. h)

  scan_from-has : (sort : Sort) (inner : Reader) → ReadsAs sort inner → (env : Pairs) (i places j : ℕ) → Of sort (scan_from subject.origin places inner env i j)
  unfolding scan_from
  scan_from-has sort inner h env i zero j = has-Missing declared sort
  scan_from-has sort inner h env i (suc places) j =
      pick (Of sort) (is_ok (inner env j)) (found_at subject.origin i j (inner env j)) (scan_from subject.origin places inner env i (j + 1))
      (λ _. found-has sort i j (inner env j) (h env j)) (λ _. scan_from-has sort inner h env i places (j + 1))

  pub scan-has : (sort : Sort) (inner : Reader) → ReadsAs sort inner → (env : Pairs) (i : ℕ) → Of sort (scan subject inner env i)
  scan-has sort inner h env i = scan_from-has sort inner h env i (suc (last_place subject i - i)) i

  -- where terms read so
  module _ (reads : Term → Reader) where
    abbrev named : Part → Named
    named part = record { name = part.name; reader = reads part.term }

    abbrev pub IsOf : Term → Type 0
    IsOf t = ReadsAs (sort_of declared t) (reads t)

    parts-have : (parts : List Part) → EachPart IsOf parts → (env : Pairs) (i : ℕ) → each_part declared (map (has_sort declared) (values (in_turn (map named parts) env i))) parts ≡ true
    parts-have [] h env i = refl
    parts-have (part ∷ parts) h env i =
        let r = reads part.term env i in
        and_from (has_sort declared r.value (sort_of declared part.term)) _ (h 0 part refl env i) (parts-have parts (λ n. h (suc n)) (bind part.name r.value env) r.place)

    pub struct-has : (parts : List Part) → EachPart IsOf parts → (env : Pairs) (i : ℕ) → Of (Struct parts) (struct_of subject.origin (in_turn (map named parts) env i) i)
    struct-has parts h env i = has-Tuple declared (values (in_turn (map named parts) env i)) parts ∙ parts-have parts h env i

    branch-has : (branches : List Term) (number : ℕ) (t : Term) (i : ℕ) (r : Reading) → slice_get branches number ≡ Some t → Of (sort_of declared t) r
        → Of (Choice branches) (branch_of subject.origin number r i)
    branch-has branches number t i r there h =
        has-Branch declared number r.value branches ∙ ap (of_branch declared (has_sort declared r.value)) there ∙ h

    -- the arms are the branches from `number` on
    abbrev From : List Term → ℕ → List Arm → Type 0
    From branches number arms = (n : ℕ) → slice_get branches (number + n) ≡ slice_get (map (λ (arm : Arm). arm.term) arms) n

    pub alt-has : (branches : List Term) (arms : List Arm) (number : ℕ) → From branches number arms → EachArm IsOf arms → (env : Pairs) (i : ℕ)
        → Of (Choice branches) (alt_from subject.origin number (map (λ (arm : Arm). reads arm.term) arms) env i)
    alt-has branches [] number from h env i = has-Missing declared (Choice branches)
    alt-has branches (arm ∷ arms) number from h env i =
        let none : number + 0 ≡ number = omega arith in
        pick (Of (Choice branches)) (is_ok (reads arm.term env i)) (branch_of subject.origin number (reads arm.term env i) i)
        (alt_from subject.origin (number + 1) (map (λ (arm : Arm). reads arm.term) arms) env i)
        (λ _. branch-has branches number arm.term i (reads arm.term env i) (ap (slice_get branches) (sym none) ∙ from 0) (h 0 arm refl env i))
        (λ _. alt-has branches arms (number + 1) (λ n. (let more : number + 1 + n ≡ number + suc n = omega arith in ap (slice_get branches) more ∙ from (suc n))) (λ n. h (suc n)) env i)

    pub switch-has : (cases : List Case) (number : Option ℕ) → EachCase IsOf cases → (env : Pairs) (i : ℕ)
        → Of (Choice (map (λ (case : Case). case.arm.term) cases)) (switch_of subject.origin number (map (λ (case : Case). reads case.arm.term) cases) env i)
    switch-has cases None h env i = has-Missing declared (Choice (map (λ (case : Case). case.arm.term) cases))
    switch-has cases (Some number) h env i =
        rw (slice_get-map (λ (case : Case). reads case.arm.term) cases number) (by_case (slice_get cases number) refl)
      where
        by_case : (found : Option Case) → slice_get cases number ≡ found
            → Of (Choice (map (λ (case : Case). case.arm.term) cases)) (case_at subject.origin number (option_map (λ (case : Case). reads case.arm.term) found) env i)
        by_case None there = has-Missing declared (Choice (map (λ (case : Case). case.arm.term) cases))
        by_case (Some case) there =
            branch-has (map (λ (case : Case). case.arm.term) cases) number case.arm.term i (reads case.arm.term env i)
            (slice_get-map (λ (case : Case). case.arm.term) cases number ∙ ap (option_map (λ (case : Case). case.arm.term)) there) (h number case there env i)
