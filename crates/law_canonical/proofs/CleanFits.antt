-- What a clean reading takes fits its value: one lemma for each form, by the calculus's one induction.
use Rattle.std.proofs.Common.{◌≡◌, ◌∙◌, sym, ap, refl, subst, arith, ℕ, zero, suc, ◌+◌, ◌-◌, ◌≤◌, Bool, true, false, nat_eq, List, [], ◌∷◌, ◌++◌, map, length, take, drop, Option, Some, None}
use Rattle.std.specs.List.{starts_with}
use Rattle.std.specs.Cmp.Lexicographic.{pointwise}
use Rattle.std.proofs.Math.Seq.{take-add}
use Rattle.std.proofs.lemmas.List.{drop-drop, length-map}
use Rattle.std.proofs.lemmas.Bool.{and_parts, both_ways, eqb-true}
use Rattle.pads_value.specs.declared.cause.Cause.{Cause}
use Rattle.pads_value.specs.declared.cause.Cause.TheVariants as cause
use Rattle.pads_value.specs.declared.value.Val.{Val}
use Rattle.pads_value.specs.declared.value.Val.TheVariants as val
use Rattle.pads_expr.specs.Value.{Pairs, value}
use Rattle.pads_expr.specs.Worth.{worth_or_none}
use Rattle.pads_dispatch.proofs.BaseLaws.{base_spelled}
use Rattle.pads_calc.specs.declared.decl.Decl.{Decl}
use Rattle.pads_calc.specs.declared.reading.Reading.{Reading}
use Rattle.pads_calc.specs.declared.term.Part.{Part}
use Rattle.pads_calc.specs.declared.term.Seq.{Seq}
use Rattle.pads_calc.specs.declared.term.Term.{Term}
use Rattle.pads_calc.specs.declared.term.Term.TheVariants as term
use Rattle.pads_calc.specs.Arguments.{argument, arguments}
use Rattle.pads_calc.specs.Arrays.{seq_of, is_empty}
use Rattle.pads_calc.specs.Calculus.{Caller, caller, meaning, part_reader, option_reader, seq_reader}
use Rattle.pads_calc.specs.Choices.{branch_of, chosen}
use Rattle.pads_calc.specs.Leaves.{lit_of}
use Rattle.pads_calc.specs.Readings.{Subject, leaf, fails, is_ok, values, end_of}
use Rattle.pads_calc.specs.Structs.{bind, in_turn}
use Rattle.pads_calc.proofs.CleanArrays.{CleanTurns, clean-fits, clean-seq}
use Rattle.pads_calc.proofs.CleanForms.{CleanParts, clean-lit, clean-eor, clean-base, clean-compute, clean-guard, clean-absorb, clean-scan, clean-struct, clean-alt, clean-switch}
use Rattle.pads_calc.proofs.CleanNodes.{fails-unclean}
use Rattle.pads_calc.proofs.Induction.{EachPart, WhereThere, InSeq, Reads, EachReading, each-reading}
use Rattle.pads_calc.proofs.KeptTurns.{Begins}
use Rattle.law_canonical.specs.Fitting.{AtMost, Fits, FitParts, FitElements, FitBetween}
use Rattle.law_canonical.specs.Fitting as fit

-- the bytes from a place up to another
abbrev pub cut : List ℕ → ℕ → ℕ → List ℕ
cut bytes i j = take (j - i) (drop i bytes)

cut-none : (bytes : List ℕ) (i : ℕ) → cut bytes i i ≡ []
cut-none bytes i = let none : i - i ≡ 0 = omega arith in rw none refl

cut-size : (bytes : List ℕ) (i n : ℕ) → cut bytes i (i + n) ≡ take n (drop i bytes)
cut-size bytes i n = let same : i + n - i ≡ n = omega arith in rw same refl

cut-joined : (bytes : List ℕ) (i j k : ℕ) → i ≤ j → j ≤ k → cut bytes i j ++ cut bytes j k ≡ cut bytes i k
cut-joined bytes i j k first second =
    let from : i + (j - i) ≡ j = omega (arith, first) in
    let all : (j - i) + (k - j) ≡ k - i = omega (arith, first, second) in
    ap (λ rest. cut bytes i j ++ take (k - j) rest) (ap (λ n. drop n bytes) (sym from) ∙ sym (drop-drop (j - i) i bytes))
    ∙ sym (take-add (j - i) (k - j) (drop i bytes)) ∙ ap (λ n. take n (drop i bytes)) all

-- what a literal that stands there takes
stands-is : (xs needle : List ℕ) → starts_with nat_eq xs needle ≡ true → take (length needle) xs ≡ needle
stands-is xs [] starts = refl
stands-is [] (n ∷ needle) starts = cc
stands-is (x ∷ xs) (n ∷ needle) starts =
    let both = and_parts (nat_eq n x) (pointwise nat_eq needle (take (length needle) xs)) starts in
    ap (λ first. first ∷ take (length needle) xs) (sym (eqb-true n x both.0)) ∙ ap (λ rest. n ∷ rest) (stands-is xs needle both.1)

-- behind an element there is one
pub later-now : (before : List Val) (v : Val) → is_empty (before ++ v ∷ []) ≡ false
later-now [] v = refl
later-now (first ∷ before) v = refl

module _ (subject : Subject) (decls : List Decl) where
  -- what a reading took fits its value
  pub record Here (depth : ℕ) (t : Term) (env : Pairs) (i : ℕ) (r : Reading) : Type 0 where
    pub forth : i ≤ r.place
    pub fits : Fits decls depth t env r.value (cut subject.bytes i r.place)

  abbrev pub IfClean : ℕ → Term → Pairs → ℕ → Reading → Type 0
  IfClean depth t env i r = is_ok r ≡ true → Here depth t env i r

  abbrev by : (depth : ℕ) (t : Term) (env : Pairs) (i : ℕ) (r s : Reading) → r ≡ s → Here depth t env i s → Here depth t env i r
  by depth t env i r s same h = subst (Here depth t env i) (sym same) h

  -- over no byte
  at-once : (depth : ℕ) (t : Term) (env : Pairs) (i : ℕ) (v : Val) → Fits decls depth t env v [] → Here depth t env i (leaf subject.origin v i i)
  at-once depth t env i v h = record { forth = omega arith; fits = subst (Fits decls depth t env v) (sym (cut-none subject.bytes i)) h }

  over : (depth : ℕ) (t : Term) (env : Pairs) (i n : ℕ) (v : Val) → Fits decls depth t env v (take n (drop i subject.bytes)) → Here depth t env i (leaf subject.origin v i (i + n))
  over depth t env i n v h = record { forth = omega arith; fits = subst (Fits decls depth t env v) (sym (cut-size subject.bytes i n)) h }

  never : (depth : ℕ) (t : Term) (env : Pairs) (i : ℕ) (cause : Cause) → IfClean depth t env i (fails subject.origin cause i)
  never depth t env i cause ok = absurd (both_ways (is_ok (fails subject.origin cause i)) (fails-unclean subject.origin cause i) ok)

  module _ (depth : ℕ) where
    abbrev call : Caller
    call = caller subject decls depth

    abbrev IsFit : Term → Type 0
    IsFit = Reads IfClean subject decls depth

    lit-fits : (literal : List ℕ) (env : Pairs) (i : ℕ) → IfClean depth (term.Lit literal) env i (lit_of subject literal i)
    lit-fits literal env i ok =
        let clean = clean-lit subject literal i ok in
        by depth (term.Lit literal) env i _ _ clean.is (over depth (term.Lit literal) env i (length literal) val.Unit
        (subst (Fits decls depth (term.Lit literal) env val.Unit) (sym (stands-is (drop i subject.bytes) literal clean.stands)) fit.literal))

    parts-fit : (parts : List Part) → EachPart IsFit parts → (env : Pairs) (i : ℕ) → CleanParts subject call parts env i
        → let readings = in_turn (map (part_reader subject call) parts) env i in
        (i ≤ end_of i readings) × FitParts decls depth parts env (values readings) (cut subject.bytes i (end_of i readings))
    parts-fit [] h env i clean = (omega arith, subst (FitParts decls depth [] env []) (sym (cut-none subject.bytes i)) fit.no_part)
    parts-fit (part ∷ parts) h env i clean =
        let r = meaning subject decls depth part.term env i in
        let here = h 0 part refl env i clean.0 in
        let inner = bind part.name r.value env in
        let readings = in_turn (map (part_reader subject call) parts) inner r.place in
        let later = parts-fit parts (λ n. h (suc n)) inner r.place clean.1 in (
          omega (arith, here.forth, later.0),
          subst (FitParts decls depth (part ∷ parts) env (r.value ∷ values readings))
              (cut-joined subject.bytes i r.place (end_of r.place readings) here.forth later.0) (fit.part here.fits later.1),
        )

    branch-fits : (t : Term) (env : Pairs) (i number : ℕ) (r : Reading) → i ≤ r.place
        → Fits decls depth t env (val.Branch number r.value) (cut subject.bytes i r.place) → Here depth t env i (branch_of subject.origin number r i)
    branch-fits t env i number r forth h = record { forth = forth; fits = h }

    -- arrays
    between-fits : (o : Option Term) → WhereThere IsFit o → (is_first : Bool) (env : Pairs) (j begin : ℕ) → Begins env (option_reader subject call o) is_first j begin
        → (j ≤ begin) × FitBetween decls depth o is_first env (cut subject.bytes j begin)
    between-fits None h is_first env j begin at =
        (omega (arith, at), rw at (subst (FitBetween decls depth None is_first env) (sym (cut-none subject.bytes j)) fit.unseparated))
    between-fits (Some t) h true env j begin at =
        (omega (arith, at), rw at (subst (FitBetween decls depth (Some t) true env) (sym (cut-none subject.bytes j)) fit.at_first))
    between-fits (Some t) h false env j begin at =
        let here = h t refl env j at.0 in
        (omega (arith, at.1, here.forth), rw at.1 (fit.separated here.fits))

    elements-fit : (s : Seq) → InSeq IsFit s → (size : Option ℕ) (env : Pairs) (turns : ℕ) (before : List Val) (j : ℕ) (rest : List Reading)
        → CleanTurns subject.bytes (seq_reader subject call s) size env turns before j rest
        → (j ≤ end_of j rest) × FitElements decls depth s (is_empty before) env (values rest) (cut subject.bytes j (end_of j rest))
    elements-fit s h size env turns before j [] clean =
        (omega arith, subst (FitElements decls depth s (is_empty before) env []) (sym (cut-none subject.bytes j)) fit.no_element)
    elements-fit s h size env zero before j (r ∷ rest) clean = absurd clean
    elements-fit s h size env (suc turns) before j (r ∷ rest) clean =
        let kept = clean.1 in
        let apart = between-fits s.sep h.sep (is_empty before) env j kept.begin kept.begins in
        let here = subst (Here depth s.elem env kept.begin) (sym kept.is) (h.elem env kept.begin (ap is_ok (sym kept.is) ∙ clean.2)) in
        let more = elements-fit s h size env turns (before ++ r.value ∷ []) r.place rest clean.3 in
        let later = subst (λ is_first. FitElements decls depth s is_first env (values rest) (cut subject.bytes r.place (end_of r.place rest))) (later-now before r.value) more.1 in
        let end = end_of r.place rest in
        let all = ap (λ back. cut subject.bytes j kept.begin ++ back) (cut-joined subject.bytes kept.begin r.place end here.forth more.0)
        ∙ cut-joined subject.bytes j kept.begin end apart.0 (omega (arith, here.forth, more.0)) in (
          omega (arith, apart.0, here.forth, more.0),
          subst (FitElements decls depth s (is_empty before) env (r.value ∷ values rest)) all (fit.element apart.1 here.fits later),
        )

    pub few : (s : Seq) (size : Option ℕ) (env : Pairs) (turns i : ℕ) (readings : List Reading)
        → CleanTurns subject.bytes (seq_reader subject call s) size env turns [] i readings → AtMost size (length (values readings))
    few s None env turns i readings clean = tt
    few s (Some size) env turns i readings clean =
        omega (arith, length-map readings (λ (r : Reading). r.value), clean-fits subject.bytes (seq_reader subject call s) (Some size) env size refl turns i readings clean)

    seq-fits : (s : Seq) → InSeq IsFit s → (env : Pairs) (i : ℕ) → IfClean depth (term.Seq s) env i (seq_of subject (seq_reader subject call s) env i)
    seq-fits s h env i ok =
        let clean = clean-seq subject (seq_reader subject call s) env i ok in
        let all = elements-fit s h clean.size env _ [] i clean.readings clean.turns in
        by depth (term.Seq s) env i _ _ clean.is (record {
          forth = all.0;
          fits = fit.seq clean.sized_by (few s clean.size env _ i clean.readings clean.turns) all.1;
        })

  clean-forms : EachReading IfClean subject decls
  clean-forms = record {
    of_unit = λ depth env i ok. at-once depth term.Unit env i val.Unit fit.unit;
    of_base = λ depth base args env i ok. (
        let clean = clean-base subject base (arguments args env) i ok in
        by depth (term.Base base args) env i _ _ clean.is (over depth (term.Base base args) env i clean.size clean.value
        (fit.base base args clean.given (base_spelled base clean.found (drop i subject.bytes) clean.size clean.value clean.reads))));
    of_lit = λ depth literal env i ok. lit-fits depth literal env i ok;
    of_eor = λ depth env i ok. by depth term.Eor env i _ _ (clean-eor subject i ok).is (at-once depth term.Eor env i val.Unit fit.eor);
    of_struct = λ depth parts h env i ok. (
        let all = parts-fit depth parts h env i (clean-struct subject (caller subject decls depth) parts env i ok) in
        record { forth = all.0; fits = fit.struct all.1 });
    of_alt = λ depth arms h env i ok. (
        let clean = clean-alt subject (caller subject decls depth) arms env i ok in
        let here = h clean.number clean.arm clean.there env i clean.clean in
        let same : 0 + clean.number ≡ clean.number = omega arith in
        by depth (term.Alt arms) env i _ _ (clean.is ∙ ap (λ n. branch_of subject.origin n (meaning subject decls depth clean.arm.term env i) i) same)
        (branch-fits depth (term.Alt arms) env i clean.number _ here.forth (fit.alt arms clean.number clean.there here.fits)));
    of_switch = λ depth e cases h env i ok. (
        let clean = clean-switch subject (caller subject decls depth) (chosen (argument e env) (map (λ c. c.key) cases)) cases env i ok in
        let here = h clean.number clean.case clean.there env i clean.clean in
        by depth (term.Switch e cases) env i _ _ clean.is
        (branch-fits depth (term.Switch e cases) env i clean.number _ here.forth (fit.switch e cases clean.number clean.there here.fits)));
    of_guard = λ depth inner binder condition h env i ok. (
        let clean = clean-guard binder condition env (meaning subject decls depth inner env i) ok in
        let here = h env i clean.clean in
        by depth (term.Guard inner binder condition) env i _ _ clean.is (record { forth = here.forth; fits = fit.guard binder condition clean.holds here.fits }));
    of_seq = λ depth s h env i ok. seq-fits depth s h env i ok;
    of_compute = λ depth e form env i ok. (
        let clean = clean-compute subject form (worth_or_none (value e env)) i ok in
        by depth (term.Compute e form) env i _ _ clean.is (at-once depth (term.Compute e form) env i clean.value (fit.compute e form clean.told)));
    of_absorb = λ depth inner h env i ok. (
        let r = meaning subject decls depth inner env i in
        let clean = clean-absorb r ok in
        let here = h env i clean.0 in
        record {
          forth = here.forth;
          fits = subst (λ v. Fits decls depth (term.Absorb inner) env v (cut subject.bytes i r.place)) (sym clean.1) (fit.absorb here.fits);
        });
    of_scan = λ depth inner h env i ok. (
        let clean = clean-scan subject (meaning subject decls depth inner) env i ok in
        let here = h env i clean.0 in
        by depth (term.Scan inner) env i _ _ clean.1 (record { forth = here.forth; fits = fit.scan here.fits }));
    too_deep = λ number args env i. never 0 (term.Call number args) env i cause.Depth;
    unargued = λ depth number args env i none. never (suc depth) (term.Call number args) env i cause.BadParam;
    undeclared = λ depth number args env i none. never (suc depth) (term.Call number args) env i cause.BadParam;
    of_body = λ depth number args found decl env i given there h ok. (
        let here = h ok in record { forth = here.forth; fits = fit.call number args given there here.fits });
  }

  pub clean-reads : (depth : ℕ) (t : Term) (env : Pairs) (i : ℕ) → IfClean depth t env i (meaning subject decls depth t env i)
  clean-reads depth t env i ok = each-reading IfClean subject decls clean-forms depth t env i ok
