-- A term reads by given worths as in the calculus, where they are the calculus' own for each expression that
-- the reading evaluates.
use Rattle.std.proofs.Common.{◌≡◌, ◌∙◌, sym, ap, refl, subst, ℕ, suc, ◌++◌, List, [], ◌∷◌, map, Option, Some, None, slice_get, option_map, inl, inr}
use Rattle.pads_value.specs.Cuts.{Cut}
use Rattle.pads_value.specs.declared.value.Val.{Val}
use Rattle.pads_value.specs.declared.value.Val.TheVariants as val
use Rattle.pads_expr.specs.declared.expr.Expr.{Expr}
use Rattle.pads_expr.specs.Value.{Pairs}
use Rattle.pads_dispatch.specs.declared.base.Arg.{Arg}
use Rattle.pads_dispatch.specs.declared.base.Base.{Base}
use Rattle.pads_calc.specs.declared.decl.Decl.{Decl}
use Rattle.pads_calc.specs.declared.reading.Reading.{Reading}
use Rattle.pads_calc.specs.declared.term.Arm.{Arm}
use Rattle.pads_calc.specs.declared.term.Case.{Case}
use Rattle.pads_calc.specs.declared.term.Part.{Part}
use Rattle.pads_calc.specs.declared.term.ComputedForm.{ComputedForm}
use Rattle.pads_calc.specs.declared.term.Seq.{Seq}
use Rattle.pads_calc.specs.declared.term.Term.{Term, Term-F, out-Term}
use Rattle.pads_calc.specs.declared.term.Term.TheVariants as term
use Rattle.pads_calc.specs.Arguments.{arg_told, argument, arguments, bound_to}
use Rattle.pads_calc.specs.Arrays.{seq_of}
use Rattle.pads_calc.specs.Calculus.{caller, meaning, body_of, part_reader, arm_reader, case_reader, seq_reader}
use Rattle.pads_calc.specs.Choices.{alt_from, chosen, switch_of}
use Rattle.pads_calc.specs.Leaves.{base_of, compute_of}
use Rattle.pads_calc.specs.Readings.{Subject}
use Rattle.pads_calc.specs.Rows.{deepest, subject_of_cut, body_reading}
use Rattle.pads_calc.specs.Structs.{bind, in_turn, struct_of}
use Rattle.pads_calc.specs.Wrappers.{guard_of, absorb_of, scan}
use Rattle.pads_calc.proofs.Choices.{slice_get-map}
use Rattle.pads_calc.proofs.Induction.{EachPart, EachArm, EachCase, InSeq, EachReading, each-reading}
use Rattle.pads_calc.proofs.Rolls.{read-Call}
use Rattle.law_calculus.specs.Agreement.{own_worths, AgreesOnEvaluated, AgreesOnSorted, record_by}
use Rattle.law_calculus.specs.ByWorths.{Worths, arguments_by, guard_by, caller_by, meaning_by}
use Rattle.law_calculus.specs.Evaluated.{Moment, moment, IsOneOf, ReadsPart, ReadsNext, IsSize, AreElements, IsLast, Asks, asks, reads}
use Rattle.law_calculus.specs.Expressions.{SortScope}
use Rattle.law_calculus.specs.Sorted.{Sorts, AreSorted, IsSorted, Sorted}
use Rattle.law_calculus.specs.Terms.{if_there}
use Rattle.law_calculus.specs.Values.{HasSorts}
use Rattle.law_calculus.proofs.ByWorthsArrays.{seq-agrees}
use Rattle.law_calculus.proofs.ByWorthsForms.{arguments-agree, guard-agrees, alt-agrees, switch-agrees, scan-agrees, body-unargued, body-undeclared}
use Rattle.law_calculus.proofs.ByWorthsRolls.{part_reader_by, arm_reader_by, case_reader_by, by-Unit, by-Base, by-Lit, by-Eor, by-Struct, by-Alt, by-Switch, by-Guard, by-Seq, by-Call, by-Compute, by-Absorb, by-Scan, call-deepest, call-inner}
use Rattle.law_calculus.proofs.Evaluated.{evaluated-never_ill}
use Rattle.law_calculus.proofs.Layers.{out-Base, out-Struct, out-Alt, out-Switch, out-Guard, out-Seq, out-Call, out-Compute, out-Absorb, out-Scan}
use Rattle.law_calculus.proofs.SortedRows.{row-never_ill}

-- a separator and a terminator are among an array's terms
there-first : (o : Option Term) (more : List Term) (t : Term) → o ≡ Some t → IsOneOf (if_there o ++ more) t
there-first o more t is = (0, rw is refl)

there-last : (o one : Option Term) (t : Term) → o ≡ Some t → IsOneOf (if_there one ++ if_there o) t
there-last o None t is = (0, rw is refl)
there-last o (Some first) t is = (1, rw is refl)

mapped-there : {X : Type 0} (f : X → Term) (xs : List X) (n : ℕ) (x : X) → slice_get xs n ≡ Some x → IsOneOf (map f xs) (f x)
mapped-there f xs n x there = (n, slice_get-map f xs n ∙ ap (option_map f) there)

one-later : (first t : Term) (more : List Term) → IsOneOf more t → IsOneOf (first ∷ more) t
one-later first t more h = (suc h.0, h.1)

module _ (worths : Worths) (subject : Subject) (decls : List Decl) where
  abbrev Agrees : Moment → Type 0
  Agrees now = AgreesOnEvaluated subject decls now worths

  abbrev Own : Expr → Pairs → Type 0
  Own e env = worths e env ≡ own_worths e env

  -- a moment at which a term of this layer is read, and what follows of its own expressions and of the terms that are read next
  module _ (depth : ℕ) (t : Term) (layer : Term-F Term Arm Case Part Seq) (rolls : out-Term t ≡ layer) (env : Pairs) (i : ℕ) (h : Agrees (moment depth t env i)) where
    asked-own : (e : Expr) (inner : Pairs) → Asks subject decls layer (moment depth t env i) e inner → Own e inner
    asked-own e inner asked = h e inner (asks (subst (λ layer. Asks subject decls layer (moment depth t env i) e inner) (sym rolls) asked))

    next-agrees : (next : Moment) → ReadsNext subject decls layer (moment depth t env i) next → Agrees next
    next-agrees next read e inner later = h e inner (reads (subst (λ layer. ReadsNext subject decls layer (moment depth t env i) next) (sym rolls) read) later)

  -- what a term reads as, where the worths of what is evaluated are own
  abbrev Same : ℕ → Term → Pairs → ℕ → Reading → Type 0
  Same depth t env i r = Agrees (moment depth t env i) → meaning_by worths subject decls depth t env i ≡ r

  abbrev IsSame : ℕ → Term → Type 0
  IsSame depth t = (env : Pairs) (i : ℕ) → Same depth t env i (meaning subject decls depth t env i)

  -- the parts of a struct in turn
  parts-agree : (depth : ℕ) (parts : List Part) → EachPart (IsSame depth) parts → (env : Pairs) (i : ℕ)
      → ((next : Moment) → ReadsPart subject decls depth parts env i next → Agrees next)
      → in_turn (map (part_reader_by worths subject (caller_by worths subject decls depth)) parts) env i
      ≡ in_turn (map (part_reader subject (caller subject decls depth)) parts) env i
  parts-agree depth [] same env i h = refl
  parts-agree depth (part ∷ parts) same env i h =
      let r = meaning subject decls depth part.term env i in
      ap (λ (r : Reading). r ∷ in_turn (map (part_reader_by worths subject (caller_by worths subject decls depth)) parts) (bind part.name r.value env) r.place)
      (same 0 part refl env i (h (moment depth part.term env i) (inl refl)))
      ∙ ap (λ rest. r ∷ rest) (parts-agree depth parts (λ n. same (suc n)) (bind part.name r.value env) r.place (λ next read. h next (inr read)))

  base-same : (depth : ℕ) (base : Base) (args : List Expr) (env : Pairs) (i : ℕ) → Same depth (term.Base base args) env i (base_of subject base (arguments args env) i)
  base-same depth base args env i h =
      by-Base worths subject (caller_by worths subject decls depth) base args env i
      ∙ ap (λ found. base_of subject base found i)
      (arguments-agree worths args env (λ n e there. asked-own depth (term.Base base args) (Term-F.Base base args) (out-Base base args) env i h e env ((n, there), refl)))

  struct-same : (depth : ℕ) (parts : List Part) → EachPart (IsSame depth) parts → (env : Pairs) (i : ℕ)
      → Same depth (term.Struct parts) env i (struct_of subject.origin (in_turn (map (part_reader subject (caller subject decls depth)) parts) env i) i)
  struct-same depth parts same env i h =
      by-Struct worths subject (caller_by worths subject decls depth) parts env i
      ∙ ap (λ readings. struct_of subject.origin readings i)
      (parts-agree depth parts same env i (next-agrees depth (term.Struct parts) (Term-F.Struct parts) (out-Struct parts) env i h))

  alt-same : (depth : ℕ) (arms : List Arm) → EachArm (IsSame depth) arms → (env : Pairs) (i : ℕ)
      → Same depth (term.Alt arms) env i (alt_from subject.origin 0 (map (arm_reader subject (caller subject decls depth)) arms) env i)
  alt-same depth arms same env i h =
      by-Alt worths subject (caller_by worths subject decls depth) arms env i
      ∙ alt-agrees (arm_reader_by worths subject (caller_by worths subject decls depth)) (arm_reader subject (caller subject decls depth)) env i subject.origin 0 arms
      (λ n arm there. same n arm there env i
      (next-agrees depth (term.Alt arms) (Term-F.Alt arms) (out-Alt arms) env i h (moment depth arm.term env i)
      (arm.term, mapped-there (λ (arm : Arm). arm.term) arms n arm there, refl)))

  switch-same : (depth : ℕ) (e : Expr) (cases : List Case) → EachCase (IsSame depth) cases → (env : Pairs) (i : ℕ) → Same depth (term.Switch e cases) env i
      (switch_of subject.origin (chosen (argument e env) (map (λ c. c.key) cases)) (map (case_reader subject (caller subject decls depth)) cases) env i)
  switch-same depth e cases same env i h =
      by-Switch worths subject (caller_by worths subject decls depth) e cases env i
      ∙ ap (λ told. switch_of subject.origin (chosen (arg_told told) (map (λ c. c.key) cases)) (map (case_reader_by worths subject (caller_by worths subject decls depth)) cases) env i)
      (asked-own depth (term.Switch e cases) (Term-F.Switch e cases) (out-Switch e cases) env i h e env ((0, refl), refl))
      ∙ switch-agrees (case_reader_by worths subject (caller_by worths subject decls depth)) (case_reader subject (caller subject decls depth)) env i subject.origin
      (chosen (argument e env) (map (λ c. c.key) cases)) cases
      (λ n case there. same n case there env i
      (next-agrees depth (term.Switch e cases) (Term-F.Switch e cases) (out-Switch e cases) env i h (moment depth case.arm.term env i)
      (case.arm.term, mapped-there (λ (case : Case). case.arm.term) cases n case there, refl)))

  guard-same : (depth : ℕ) (inner : Term) (binder : ℕ) (condition : Expr) → IsSame depth inner → (env : Pairs) (i : ℕ)
      → Same depth (term.Guard inner binder condition) env i (guard_of binder condition env (meaning subject decls depth inner env i))
  guard-same depth inner binder condition same env i h =
      let r = meaning subject decls depth inner env i in
      by-Guard worths subject (caller_by worths subject decls depth) inner binder condition env i
      ∙ ap (λ r. guard_by worths binder condition env r)
      (same env i (next-agrees depth (term.Guard inner binder condition) (Term-F.Guard inner binder condition) (out-Guard inner binder condition) env i h
      (moment depth inner env i) (inner, (0, refl), refl)))
      ∙ guard-agrees worths binder condition env r
      (λ ok. asked-own depth (term.Guard inner binder condition) (Term-F.Guard inner binder condition) (out-Guard inner binder condition) env i h
      condition ((binder, r.value) ∷ env) (ok, refl, refl))

  -- an array's expressions are asked where it has them
  size-asked : (o : Option Expr) (now : Moment) (e : Expr) → o ≡ Some e → IsSize o now e now.env
  size-asked o now e is = rw is (refl, refl)

  last-asked : (elem : Term) (elts : ℕ) (o : Option Expr) (now : Moment) (e : Expr) (before : List Val) → o ≡ Some e → AreElements subject decls elem now before
      → IsLast subject decls elem elts o now e ((elts, val.Array before) ∷ now.env)
  last-asked elem elts o now e before is are = rw is (refl, before, are, refl)

  seq-same : (depth : ℕ) (s : Seq) → InSeq (IsSame depth) s → (env : Pairs) (i : ℕ)
      → Same depth (term.Seq s) env i (seq_of subject (seq_reader subject (caller subject decls depth) s) env i)
  seq-same depth s same env i h =
      let now = moment depth (term.Seq s) env i in
      let own = asked-own depth (term.Seq s) (Term-F.Seq s) (out-Seq s) env i h in
      let next = next-agrees depth (term.Seq s) (Term-F.Seq s) (out-Seq s) env i h in
      by-Seq worths subject (caller_by worths subject decls depth) s env i
      ∙ seq-agrees worths subject decls now s
      (λ j. same.elem env j (next (moment depth s.elem env j) (s.elem, j, (0, refl), refl)))
      (λ t there j. same.sep t there env j
      (next (moment depth t env j) (t, j, one-later s.elem t (if_there s.sep ++ if_there s.stop) (there-first s.sep (if_there s.stop) t there), refl)))
      (λ t there j. same.stop t there env j
      (next (moment depth t env j) (t, j, one-later s.elem t (if_there s.sep ++ if_there s.stop) (there-last s.stop s.sep t there), refl)))
      (λ e before is are. own e ((s.elts, val.Array before) ∷ env) (inr (last-asked s.elem s.elts s.last now e before is are)))
      (λ e is. own e env (inl (size-asked s.size now e is)))
      i

  compute-same : (depth : ℕ) (e : Expr) (form : ComputedForm) (env : Pairs) (i : ℕ)
      → Same depth (term.Compute e form) env i (compute_of subject.origin form (own_worths e env) i)
  compute-same depth e form env i h =
      by-Compute worths subject (caller_by worths subject decls depth) e form env i
      ∙ ap (λ told. compute_of subject.origin form told i) (asked-own depth (term.Compute e form) (Term-F.Compute e form) (out-Compute e form) env i h e env ((0, refl), refl))

  absorb-same : (depth : ℕ) (inner : Term) → IsSame depth inner → (env : Pairs) (i : ℕ)
      → Same depth (term.Absorb inner) env i (absorb_of (meaning subject decls depth inner env i))
  absorb-same depth inner same env i h =
      by-Absorb worths subject (caller_by worths subject decls depth) inner env i
      ∙ ap absorb_of (same env i (next-agrees depth (term.Absorb inner) (Term-F.Absorb inner) (out-Absorb inner) env i h (moment depth inner env i) (inner, (0, refl), refl)))

  scan-same : (depth : ℕ) (inner : Term) → IsSame depth inner → (env : Pairs) (i : ℕ)
      → Same depth (term.Scan inner) env i (scan subject (meaning subject decls depth inner) env i)
  scan-same depth inner same env i h =
      by-Scan worths subject (caller_by worths subject decls depth) inner env i
      ∙ scan-agrees (meaning_by worths subject decls depth inner) (meaning subject decls depth inner) env
      (λ j. same env j (next-agrees depth (term.Scan inner) (Term-F.Scan inner) (out-Scan inner) env i h (moment depth inner env j) (inner, j, (0, refl), refl)))
      subject i

  -- a call, where calls may be nested one deeper
  module _ (depth number : ℕ) (args : List Expr) (env : Pairs) (i : ℕ) (h : Agrees (moment (suc depth) (term.Call number args) env i)) where
    given-same : arguments_by worths args env ≡ arguments args env
    given-same =
        arguments-agree worths args env
        (λ n e there. asked-own (suc depth) (term.Call number args) (Term-F.Call number args) (out-Call number args) env i h e env ((n, there), refl))

    call-same : meaning_by worths subject decls (suc depth) (term.Call number args) env i
        ≡ body_of subject.origin (meaning_by worths subject decls depth) (slice_get decls number) (arguments args env) i
    call-same =
        by-Call worths subject (caller_by worths subject decls (suc depth)) number args env i
        ∙ call-inner worths subject decls number args env i depth
        ∙ ap (λ found. body_of subject.origin (meaning_by worths subject decls depth) (slice_get decls number) found i) given-same

    body-same : (found : List Arg) (decl : Decl) → arguments args env ≡ Some found → slice_get decls number ≡ Some decl
        → Same depth decl.body (bound_to decl.params found []) i (meaning subject decls depth decl.body (bound_to decl.params found []) i)
        → meaning_by worths subject decls (suc depth) (term.Call number args) env i ≡ meaning subject decls depth decl.body (bound_to decl.params found []) i
    body-same found decl given there same =
        call-same
        ∙ ap (λ found. body_of subject.origin (meaning_by worths subject decls depth) (slice_get decls number) found i) given
        ∙ ap (λ decl. body_of subject.origin (meaning_by worths subject decls depth) decl (Some found) i) there
        ∙ same (next-agrees (suc depth) (term.Call number args) (Term-F.Call number args) (out-Call number args) env i h
        (moment depth decl.body (bound_to decl.params found []) i) (depth, decl, found, refl, there, given, refl))

  each-same : EachReading Same subject decls
  each-same = record {
    of_unit = λ depth env i h. by-Unit worths subject (caller_by worths subject decls depth) env i;
    of_base = base-same;
    of_lit = λ depth literal env i h. by-Lit worths subject (caller_by worths subject decls depth) literal env i;
    of_eor = λ depth env i h. by-Eor worths subject (caller_by worths subject decls depth) env i;
    of_struct = struct-same;
    of_alt = alt-same;
    of_switch = switch-same;
    of_guard = guard-same;
    of_seq = seq-same;
    of_compute = compute-same;
    of_absorb = absorb-same;
    of_scan = scan-same;
    too_deep = λ number args env i h. by-Call worths subject (caller_by worths subject decls 0) number args env i ∙ call-deepest worths subject decls number args env i;
    unargued = λ depth number args env i none h.
        call-same depth number args env i h
        ∙ body-unargued subject.origin (meaning_by worths subject decls depth) (slice_get decls number) (arguments args env) i none;
    undeclared = λ depth number args env i none h.
        call-same depth number args env i h
        ∙ body-undeclared subject.origin (meaning_by worths subject decls depth) (slice_get decls number) (arguments args env) i none;
    of_body = λ depth number args found decl env i given there same h. body-same depth number args env i h found decl given there same;
  }

  pub evaluated-alone : (now : Moment) → Agrees now
      → meaning_by worths subject decls now.depth now.term now.env now.place ≡ meaning subject decls now.depth now.term now.env now.place
  evaluated-alone now h = each-reading Same subject decls each-same now.depth now.term now.env now.place h

-- with the calculus' own worths
pub own-is : (subject : Subject) (decls : List Decl) (depth : ℕ) (t : Term) (env : Pairs) (i : ℕ)
    → meaning_by own_worths subject decls depth t env i ≡ meaning subject decls depth t env i
own-is subject decls depth t env i = evaluated-alone own_worths subject decls (moment depth t env i) (λ e inner evaluated. refl)

-- whatever ill-sorted expressions are worth
module _ (worths : Worths) (agrees : AgreesOnSorted worths) where
  pub sorted-term : (subject : Subject) (decls : List Decl) (sorts : Sorts) (scope : SortScope) (now : Moment)
      → AreSorted sorts decls → IsSorted sorts scope now.term → HasSorts sorts.declared scope now.env
      → meaning_by worths subject decls now.depth now.term now.env now.place ≡ meaning subject decls now.depth now.term now.env now.place
  sorted-term subject decls sorts scope now are is_sorted has =
      evaluated-alone worths subject decls now (λ e env evaluated. agrees e env (evaluated-never_ill sorts decls are subject scope now e env is_sorted has evaluated))

  pub sorted-record : (decls : List Decl) (scan number : ℕ) (cut : Cut) → Sorted decls → record_by worths decls scan number cut ≡ body_reading decls scan number cut
  sorted-record decls scan number cut sorted =
      evaluated-alone worths (subject_of_cut scan cut) decls (moment deepest (term.Call number []) [] 0)
      (λ e env evaluated. agrees e env (row-never_ill sorted.0 decls sorted.1 (subject_of_cut scan cut) deepest number 0 e env evaluated))
      ∙ read-Call (subject_of_cut scan cut) (caller (subject_of_cut scan cut) decls deepest) number [] [] 0
