-- Each form of term but the array reads soundly where the terms in it do.
use Rattle.std.proofs.Common.{◌≡◌, sym, ap, refl, subst, map, option_map, arith, ℕ, zero, suc, ◌+◌, ◌-◌, ◌≤◌, nat_lt, nat_eq, List, [], ◌∷◌, length, drop, take, true, false, not, ◌&&◌, Option, None, Some, slice_get, length-drop}
use Rattle.std.specs.List.{starts_with}
use Rattle.std.specs.Cmp.Lexicographic.{pointwise}
use Rattle.std.proofs.lemmas.Bool.{ltb-false, and_parts}
use Rattle.pads_value.specs.declared.cause.Cause.TheVariants as cause
use Rattle.pads_value.specs.declared.descriptor.Span.{Span}
use Rattle.pads_value.specs.declared.reading.Read.{Read}
use Rattle.pads_value.specs.declared.reading.Read.TheVariants.{Good, Soft, Hard}
use Rattle.pads_value.specs.declared.value.Val.{Val}
use Rattle.pads_value.specs.declared.value.Val.TheVariants as val
use Rattle.pads_value.specs.Header.{with_cause}
use Rattle.pads_expr.specs.declared.expr.Expr.{Expr}
use Rattle.pads_expr.specs.Value.{Pairs}
use Rattle.pads_expr.specs.Worth.{Worth}
use Rattle.pads_dispatch.specs.declared.base.Arg.{Arg}
use Rattle.pads_dispatch.specs.declared.base.Base.{Base}
use Rattle.pads_dispatch.specs.Readings.{base_reading}
use Rattle.pads_dispatch.specs.Sizes.{taken}
use Rattle.pads_dispatch.proofs.Takes.{base-takes}
use Rattle.pads_calc.specs.declared.reading.Reading.{Reading}
use Rattle.pads_calc.specs.declared.term.Arm.{Arm}
use Rattle.pads_calc.specs.declared.term.Case.{Case}
use Rattle.pads_calc.specs.declared.term.Part.{Part}
use Rattle.pads_calc.specs.declared.term.ComputedForm.{ComputedForm}
use Rattle.pads_calc.specs.declared.term.Term.{Term}
use Rattle.pads_calc.specs.Arguments.{is_true}
use Rattle.pads_calc.specs.Calculus.{Caller, read, part_reader, arm_reader, case_reader}
use Rattle.pads_calc.specs.Choices.{branch_of, alt_from, case_at, switch_of}
use Rattle.pads_calc.specs.Leaves.{unit_of, lit_of, eor_of, at_end, base_node, base_of, computed_told, compute_node, compute_of}
use Rattle.pads_calc.specs.Readings.{Subject, Reader, leaf, fails, is_ok, values}
use Rattle.pads_calc.specs.Structs.{bind, in_turn, struct_of}
use Rattle.pads_calc.specs.Wrappers.{constrained, guard_of, absorb_of, found_at, last_place, scan, scan_from}
use Rattle.pads_calc.proofs.Cases.{pick}
use Rattle.pads_calc.proofs.Choices.{slice_get-map}
use Rattle.pads_calc.proofs.Induction.{EachPart, EachArm, EachCase}
use Rattle.law_calculus.proofs.SoundReadings.{Sound, SoundReader, Follow, sound-bare, sound-fails, sound-run, sound-caused, at_once}

starts-fits : (xs needle : List ℕ) → starts_with nat_eq xs needle ≡ true → length needle ≤ length xs
starts-fits xs [] starts = omega arith
starts-fits [] (n ∷ needle) starts = cc
starts-fits (x ∷ xs) (n ∷ needle) starts =
    omega (arith, starts-fits xs needle (and_parts (nat_eq n x) (pointwise nat_eq needle (take (length needle) xs)) starts).1)

module _ (subject : Subject) where
  abbrev Here : ℕ → Reading → Type 0
  Here = Sound subject

  -- over no byte
  sound-empty : (value : Val) (i : ℕ) → Here i (leaf subject.origin value i i)
  sound-empty value i = sound-bare subject None value i i (omega arith) (λ h. h)

  pub sound-unit : (i : ℕ) → Here i (unit_of subject.origin i)
  sound-unit i = sound-empty val.Unit i

  pub sound-lit : (literal : List ℕ) (i : ℕ) → Here i (lit_of subject literal i)
  sound-lit literal i =
      pick (Here i) (starts_with nat_eq (drop i subject.bytes) literal) (leaf subject.origin val.Unit i (i + length literal)) (fails subject.origin cause.MissingLiteral i)
      (λ starts. sound-bare subject None val.Unit i (i + length literal) (omega arith)
      (λ inside. omega (arith, starts-fits (drop i subject.bytes) literal starts, length-drop i subject.bytes)))
      (λ _. sound-fails subject cause.MissingLiteral i)

  pub sound-eor : (i : ℕ) → Here i (eor_of subject i)
  sound-eor i =
      pick (Here i) (at_end subject.bytes i) (leaf subject.origin val.Unit i i) (fails subject.origin cause.MissingEor i)
      (λ _. sound-empty val.Unit i) (λ _. sound-fails subject cause.MissingEor i)

  sound-base_node : (i : ℕ) (read : Read Val) → taken read ≤ length (drop i subject.bytes) → Here i (base_node subject.origin i read)
  sound-base_node i (Good size value) fits =
      sound-bare subject None value i (i + size) (omega arith) (λ inside. omega (arith, fits, length-drop i subject.bytes))
  sound-base_node i (Soft size cause) fits =
      sound-bare subject (Some (record { cause = cause; fails = false })) val.Missing i (i + size) (omega arith) (λ inside. omega (arith, fits, length-drop i subject.bytes))
  sound-base_node i (Hard cause) fits = sound-fails subject cause i

  pub sound-base : (base : Base) (args : Option (List Arg)) (i : ℕ) → Here i (base_of subject base args i)
  sound-base base None i = sound-fails subject cause.BadParam i
  sound-base base (Some args) i = sound-base_node i (base_reading base args (drop i subject.bytes)) (base-takes base args (drop i subject.bytes))

  sound-compute_node : (i : ℕ) (value : Option Val) → Here i (compute_node subject.origin i value)
  sound-compute_node i None = sound-fails subject cause.Compute i
  sound-compute_node i (Some value) = sound-empty value i

  pub sound-compute : (form : ComputedForm) (found : Option Worth) (i : ℕ) → Here i (compute_of subject.origin form found i)
  sound-compute form found i = sound-compute_node i (computed_told form found)

  -- structs and unions, where the calls read so
  module _ (call : Caller) where
    abbrev SoundTerm : Term → Type 0
    SoundTerm t = SoundReader subject (read subject call t)

    follow-parts : (parts : List Part) → EachPart SoundTerm parts → (env : Pairs) (i : ℕ) → Follow subject i (in_turn (map (part_reader subject call) parts) env i)
    follow-parts [] h env i = tt
    follow-parts (part ∷ parts) h env i =
        let r = read subject call part.term env i in
        (at_once subject i r (h 0 part refl env i), follow-parts parts (λ n. h (suc n)) (bind part.name r.value env) r.place)

    pub sound-struct : (parts : List Part) → EachPart SoundTerm parts → (env : Pairs) (i : ℕ)
        → Here i (struct_of subject.origin (in_turn (map (part_reader subject call) parts) env i) i)
    sound-struct parts h env i =
        let readings = in_turn (map (part_reader subject call) parts) env i in
        sound-run subject None (val.Tuple (values readings)) i readings (follow-parts parts h env i)

    sound-branch : (number : ℕ) (i : ℕ) (r : Reading) → Here i r → Here i (branch_of subject.origin number r i)
    sound-branch number i r h = sound-run subject None (val.Branch number r.value) i (r ∷ []) (at_once subject i r h, tt)

    pub sound-alt : (arms : List Arm) → EachArm SoundTerm arms → (number : ℕ) (env : Pairs) (i : ℕ)
        → Here i (alt_from subject.origin number (map (arm_reader subject call) arms) env i)
    sound-alt [] h number env i = sound-fails subject cause.UnionMatch i
    sound-alt (arm ∷ arms) h number env i =
        let r = read subject call arm.term env i in
        pick (Here i) (is_ok r) (branch_of subject.origin number r i) (alt_from subject.origin (number + 1) (map (arm_reader subject call) arms) env i)
        (λ _. sound-branch number i r (h 0 arm refl env i)) (λ _. sound-alt arms (λ n. h (suc n)) (number + 1) env i)

    sound-case : (number : ℕ) (found : Option Case) → ((case : Case) → found ≡ Some case → SoundTerm case.arm.term) → (env : Pairs) (i : ℕ)
        → Here i (case_at subject.origin number (option_map (case_reader subject call) found) env i)
    sound-case number None h env i = sound-fails subject cause.Switch i
    sound-case number (Some case) h env i = sound-branch number i (read subject call case.arm.term env i) (h case refl env i)

    pub sound-switch : (number : Option ℕ) (cases : List Case) → EachCase SoundTerm cases → (env : Pairs) (i : ℕ)
        → Here i (switch_of subject.origin number (map (case_reader subject call) cases) env i)
    sound-switch None cases h env i = sound-fails subject cause.Switch i
    sound-switch (Some number) cases h env i =
        rw (slice_get-map (case_reader subject call) cases number) (sound-case number (slice_get cases number) (h number) env i)

  -- constraints, absorbed terms, searches
  sound-constrained : (i : ℕ) (r : Reading) → Here i r → is_ok r ≡ true → Here i (constrained r)
  sound-constrained i r h ok =
      subst (λ at. Here i (record r { pd = with_cause cause.Constraint at r.pd })) (sym (ap (λ (s : Span). s.begin) h.span))
      (sound-caused subject cause.Constraint i i r (omega arith) (λ h. h) h ok)

  pub sound-guard : (binder : ℕ) (condition : Expr) (env : Pairs) (i : ℕ) (r : Reading) → Here i r → Here i (guard_of binder condition env r)
  sound-guard binder condition env i r h =
      let fails = not (is_true condition ((binder, r.value) ∷ env)) in
      pick (Here i) (is_ok r && fails) (constrained r) r
      (λ both. sound-constrained i r h (and_parts (is_ok r) fails both).0) (λ _. h)

  pub sound-absorb : (i : ℕ) (r : Reading) → Here i r → Here i (absorb_of r)
  sound-absorb i r h = record { counts = h.counts; spans = h.spans; span = h.span; forth = h.forth; within = h.within }

  sound-found : (i j : ℕ) (r : Reading) → i ≤ j → (i ≤ length subject.bytes → j ≤ length subject.bytes) → Here j r → is_ok r ≡ true → Here i (found_at subject.origin i j r)
  sound-found i j r forth within h ok =
      pick (Here i) (nat_lt i j) (record r { pd = with_cause cause.Skipped (subject.origin + i) r.pd }) r
      (λ _. sound-caused subject cause.Skipped i j r forth within h ok)
      (λ same. let here : j ≡ i = omega (arith, ltb-false i j same) in subst (λ at. Here at r) here h)

  sound-scan_from : (inner : Reader) → SoundReader subject inner → (env : Pairs) (i places j : ℕ) → i ≤ j
      → (i ≤ length subject.bytes → j + places ≤ length subject.bytes + 1) → Here i (scan_from subject.origin places inner env i j)
  unfolding scan_from
  sound-scan_from inner h env i zero j forth room = sound-fails subject _ i
  sound-scan_from inner h env i (suc places) j forth room =
      pick (Here i) (is_ok (inner env j)) (found_at subject.origin i j (inner env j)) (scan_from subject.origin places inner env i (j + 1))
      (λ ok. sound-found i j (inner env j) forth (λ inside. omega (arith, room inside)) (h env j) ok)
      (λ _. sound-scan_from inner h env i places (j + 1) (omega arith) (λ inside. omega (arith, room inside)))

  pub sound-scan : (inner : Reader) → SoundReader subject inner → (env : Pairs) (i : ℕ) → Here i (scan subject inner env i)
  sound-scan inner h env i = sound-scan_from inner h env i (suc (last_place subject i - i)) i (omega arith) (λ inside. omega arith)
