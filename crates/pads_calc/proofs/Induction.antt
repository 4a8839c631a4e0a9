-- Induction over terms and over what they read as: what holds of each form where it holds of the terms in
-- it holds of every term, at each depth of calls. Sizes, layers and their equations stand here alone.
use Rattle.std.proofs.Common.{◌≡◌, sym, ap, refl, subst, arith, ℕ, zero, suc, ◌+◌, ◌<◌, ◌≤◌, List, [], map, Option, None, Some, slice_get}
use Rattle.pads_value.specs.declared.cause.Cause.TheVariants as cause
use Rattle.pads_expr.specs.declared.expr.Expr.{Expr}
use Rattle.pads_expr.specs.Value.{Pairs, value}
use Rattle.pads_expr.specs.Worth.{worth_or_none}
use Rattle.pads_dispatch.specs.declared.base.Arg.{Arg}
use Rattle.pads_dispatch.specs.declared.base.Base.{Base}
use Rattle.pads_calc.specs.declared.decl.Decl.{Decl}
use Rattle.pads_calc.specs.declared.reading.Reading.{Reading}
use Rattle.pads_calc.specs.declared.term.Arm.{Arm, size-Arm}
use Rattle.pads_calc.specs.declared.term.Case.{Case, size-Case}
use Rattle.pads_calc.specs.declared.term.Part.{Part, size-Part}
use Rattle.pads_calc.specs.declared.term.ComputedForm.{ComputedForm}
use Rattle.pads_calc.specs.declared.term.Seq.{Seq, size-Seq}
use Rattle.pads_calc.specs.declared.term.Term.{Term, Term-F, size-Term, out-Term, roll-Term, roll-out-Term}
use Rattle.pads_calc.specs.declared.term.Term.TheVariants as term
use Rattle.pads_calc.specs.Arguments.{argument, arguments, bound_to}
use Rattle.pads_calc.specs.Arrays.{seq_of}
use Rattle.pads_calc.specs.Calculus.{caller, meaning, body_of, part_reader, arm_reader, case_reader, seq_reader}
use Rattle.pads_calc.specs.Choices.{alt_from, chosen, switch_of}
use Rattle.pads_calc.specs.Leaves.{unit_of, lit_of, eor_of, base_of, compute_of}
use Rattle.pads_calc.specs.Readings.{Subject, fails}
use Rattle.pads_calc.specs.Structs.{in_turn, struct_of}
use Rattle.pads_calc.specs.Wrappers.{guard_of, absorb_of, scan}
use Rattle.pads_calc.proofs.Calls.{caller-zero, caller-suc}
use Rattle.pads_calc.proofs.Rolls.{read-Unit, read-Base, read-Lit, read-Eor, read-Struct, read-Alt, read-Switch, read-Guard, read-Seq, read-Call, read-Compute, read-Absorb, read-Scan}
use Rattle.pads_calc.proofs.Sizes.{size-Struct, size-Alt, size-Switch, size-Guard, size-of_Seq, size-Absorb, size-Scan, size-in_Case, size-in_Part, size-in_Arm, size-elem, size-sep, size-stop, most-there}

-- of the terms in a form
module _ (P : Term → Type 0) where
  abbrev pub EachPart : List Part → Type 0
  EachPart parts = (n : ℕ) (part : Part) → slice_get parts n ≡ Some part → P part.term

  abbrev pub EachArm : List Arm → Type 0
  EachArm arms = (n : ℕ) (arm : Arm) → slice_get arms n ≡ Some arm → P arm.term

  abbrev pub EachCase : List Case → Type 0
  EachCase cases = (n : ℕ) (case : Case) → slice_get cases n ≡ Some case → P case.arm.term

  abbrev pub WhereThere : Option Term → Type 0
  WhereThere o = (t : Term) → o ≡ Some t → P t

  -- of an array's element, separator and terminator
  pub record InSeq (s : Seq) : Type 0 where
    pub elem : P s.elem
    pub sep : WhereThere s.sep
    pub stop : WhereThere s.stop

  -- of each form, where it holds of the terms in it
  pub record EachForm : Type 0 where
    pub of_unit : P term.Unit
    pub of_base : (base : Base) (args : List Expr) → P (term.Base base args)
    pub of_lit : (literal : List ℕ) → P (term.Lit literal)
    pub of_eor : P term.Eor
    pub of_struct : (parts : List Part) → EachPart parts → P (term.Struct parts)
    pub of_alt : (arms : List Arm) → EachArm arms → P (term.Alt arms)
    pub of_switch : (e : Expr) (cases : List Case) → EachCase cases → P (term.Switch e cases)
    pub of_guard : (inner : Term) (binder : ℕ) (condition : Expr) → P inner → P (term.Guard inner binder condition)
    pub of_seq : (s : Seq) → InSeq s → P (term.Seq s)
    pub of_call : (number : ℕ) (args : List Expr) → P (term.Call number args)
    pub of_compute : (e : Expr) (form : ComputedForm) → P (term.Compute e form)
    pub of_absorb : (inner : Term) → P inner → P (term.Absorb inner)
    pub of_scan : (inner : Term) → P inner → P (term.Scan inner)

  -- all terms that are smaller than `n`
  abbrev Smaller : ℕ → Type 0
  Smaller n = (t : Term) → size-Term t < n → P t

  module _ (forms : EachForm) where
    of-layer : (n : ℕ) → Smaller n → (layer : Term-F Term Arm Case Part Seq) → size-Term (roll-Term layer) ≤ n → P (roll-Term layer)
    of-layer n h Term-F.Unit fits = subst P (sym term.rolls-Unit) forms.of_unit
    of-layer n h (Term-F.Base base args) fits = subst P (sym (term.rolls-Base base args)) (forms.of_base base args)
    of-layer n h (Term-F.Lit literal) fits = subst P (sym (term.rolls-Lit literal)) (forms.of_lit literal)
    of-layer n h Term-F.Eor fits = subst P (sym term.rolls-Eor) forms.of_eor
    of-layer n h (Term-F.Struct parts) fits = subst P (sym (term.rolls-Struct parts)) (forms.of_struct parts (λ m part there.
        h part.term (omega (arith, size-Struct parts, most-there size-Part parts m part there, size-in_Part part, ap size-Term (term.rolls-Struct parts)))))
    of-layer n h (Term-F.Alt arms) fits = subst P (sym (term.rolls-Alt arms)) (forms.of_alt arms (λ m arm there.
        h arm.term (omega (arith, size-Alt arms, most-there size-Arm arms m arm there, size-in_Arm arm, ap size-Term (term.rolls-Alt arms)))))
    of-layer n h (Term-F.Switch e cases) fits = subst P (sym (term.rolls-Switch e cases)) (forms.of_switch e cases (λ m case there.
        h case.arm.term (omega (arith, size-Switch e cases, most-there size-Case cases m case there, size-in_Case case, ap size-Term (term.rolls-Switch e cases)))))
    of-layer n h (Term-F.Guard inner binder condition) fits = subst P (sym (term.rolls-Guard inner binder condition))
        (forms.of_guard inner binder condition (h inner (omega (arith, size-Guard inner binder condition, ap size-Term (term.rolls-Guard inner binder condition)))))
    of-layer n h (Term-F.Seq s) fits =
        let smaller : size-Seq s < n = omega (arith, size-of_Seq s, ap size-Term (term.rolls-Seq s)) in
        subst P (sym (term.rolls-Seq s)) (forms.of_seq s (record {
          elem = h s.elem (omega (arith, size-elem s));
          sep = λ t there. h t (omega (arith, size-sep s t there));
          stop = λ t there. h t (omega (arith, size-stop s t there));
        }))
    of-layer n h (Term-F.Call number args) fits = subst P (sym (term.rolls-Call number args)) (forms.of_call number args)
    of-layer n h (Term-F.Compute e form) fits = subst P (sym (term.rolls-Compute e form)) (forms.of_compute e form)
    of-layer n h (Term-F.Absorb inner) fits = subst P (sym (term.rolls-Absorb inner))
        (forms.of_absorb inner (h inner (omega (arith, size-Absorb inner, ap size-Term (term.rolls-Absorb inner)))))
    of-layer n h (Term-F.Scan inner) fits = subst P (sym (term.rolls-Scan inner))
        (forms.of_scan inner (h inner (omega (arith, size-Scan inner, ap size-Term (term.rolls-Scan inner)))))

    smaller-than : (n : ℕ) → Smaller n
    smaller-than zero t less = absurd (omega arith)
    smaller-than (suc n) t less =
        subst P (roll-out-Term t) (of-layer n (smaller-than n) (out-Term t) (omega (arith, ap size-Term (roll-out-Term t))))

    pub each-term : (t : Term) → P t
    each-term t = smaller-than (size-Term t + 1) t (omega arith)

-- of what terms read as, with calls nested so deep, in an environment at a place
module _ (Holds : ℕ → Term → Pairs → ℕ → Reading → Type 0) (subject : Subject) (decls : List Decl) where
  abbrev pub Reads : ℕ → Term → Type 0
  Reads depth t = (env : Pairs) (i : ℕ) → Holds depth t env i (meaning subject decls depth t env i)

  -- of each form, where it holds of the terms in it, and of a call, where it holds of the body one less deep
  pub record EachReading : Type 0 where
    pub of_unit : (depth : ℕ) (env : Pairs) (i : ℕ) → Holds depth term.Unit env i (unit_of subject.origin i)
    pub of_base : (depth : ℕ) (base : Base) (args : List Expr) (env : Pairs) (i : ℕ)
        → Holds depth (term.Base base args) env i (base_of subject base (arguments args env) i)
    pub of_lit : (depth : ℕ) (literal : List ℕ) (env : Pairs) (i : ℕ) → Holds depth (term.Lit literal) env i (lit_of subject literal i)
    pub of_eor : (depth : ℕ) (env : Pairs) (i : ℕ) → Holds depth term.Eor env i (eor_of subject i)
    pub of_struct : (depth : ℕ) (parts : List Part) → EachPart (Reads depth) parts → (env : Pairs) (i : ℕ)
        → Holds depth (term.Struct parts) env i (struct_of subject.origin (in_turn (map (part_reader subject (caller subject decls depth)) parts) env i) i)
    pub of_alt : (depth : ℕ) (arms : List Arm) → EachArm (Reads depth) arms → (env : Pairs) (i : ℕ)
        → Holds depth (term.Alt arms) env i (alt_from subject.origin 0 (map (arm_reader subject (caller subject decls depth)) arms) env i)
    pub of_switch : (depth : ℕ) (e : Expr) (cases : List Case) → EachCase (Reads depth) cases → (env : Pairs) (i : ℕ)
        → Holds depth (term.Switch e cases) env i
        (switch_of subject.origin (chosen (argument e env) (map (λ c. c.key) cases)) (map (case_reader subject (caller subject decls depth)) cases) env i)
    pub of_guard : (depth : ℕ) (inner : Term) (binder : ℕ) (condition : Expr) → Reads depth inner → (env : Pairs) (i : ℕ)
        → Holds depth (term.Guard inner binder condition) env i (guard_of binder condition env (meaning subject decls depth inner env i))
    pub of_seq : (depth : ℕ) (s : Seq) → InSeq (Reads depth) s → (env : Pairs) (i : ℕ)
        → Holds depth (term.Seq s) env i (seq_of subject (seq_reader subject (caller subject decls depth) s) env i)
    pub of_compute : (depth : ℕ) (e : Expr) (form : ComputedForm) (env : Pairs) (i : ℕ)
        → Holds depth (term.Compute e form) env i (compute_of subject.origin form (worth_or_none (value e env)) i)
    pub of_absorb : (depth : ℕ) (inner : Term) → Reads depth inner → (env : Pairs) (i : ℕ)
        → Holds depth (term.Absorb inner) env i (absorb_of (meaning subject decls depth inner env i))
    pub of_scan : (depth : ℕ) (inner : Term) → Reads depth inner → (env : Pairs) (i : ℕ)
        → Holds depth (term.Scan inner) env i (scan subject (meaning subject decls depth inner) env i)
    pub too_deep : (number : ℕ) (args : List Expr) (env : Pairs) (i : ℕ) → Holds 0 (term.Call number args) env i (fails subject.origin cause.Depth i)
    pub unargued : (depth number : ℕ) (args : List Expr) (env : Pairs) (i : ℕ) → arguments args env ≡ None
        → Holds (suc depth) (term.Call number args) env i (fails subject.origin cause.BadParam i)
    pub undeclared : (depth number : ℕ) (args : List Expr) (env : Pairs) (i : ℕ) → slice_get decls number ≡ None
        → Holds (suc depth) (term.Call number args) env i (fails subject.origin cause.BadParam i)
    pub of_body : (depth number : ℕ) (args : List Expr) (found : List Arg) (decl : Decl) (env : Pairs) (i : ℕ)
        → arguments args env ≡ Some found → slice_get decls number ≡ Some decl
        → Holds depth decl.body (bound_to decl.params found []) i (meaning subject decls depth decl.body (bound_to decl.params found []) i)
        → Holds (suc depth) (term.Call number args) env i (meaning subject decls depth decl.body (bound_to decl.params found []) i)

  module _ (all : EachReading) where
    abbrev Calls : ℕ → Type 0
    Calls depth = (number : ℕ) (args : List Expr) (env : Pairs) (i : ℕ) → Holds depth (term.Call number args) env i (caller subject decls depth number args env i)

    abbrev by_equation : (depth : ℕ) (t : Term) (env : Pairs) (i : ℕ) (r s : Reading) → r ≡ s → Holds depth t env i s → Holds depth t env i r
    by_equation depth t env i r s same h = subst (Holds depth t env i) (sym same) h

    forms-at : (depth : ℕ) → Calls depth → EachForm (Reads depth)
    forms-at depth calls =
        let call = caller subject decls depth in
        record {
          of_unit = λ env i. by_equation depth _ env i _ _ (read-Unit subject call env i) (all.of_unit depth env i);
          of_base = λ base args env i. by_equation depth _ env i _ _ (read-Base subject call base args env i) (all.of_base depth base args env i);
          of_lit = λ literal env i. by_equation depth _ env i _ _ (read-Lit subject call literal env i) (all.of_lit depth literal env i);
          of_eor = λ env i. by_equation depth _ env i _ _ (read-Eor subject call env i) (all.of_eor depth env i);
          of_struct = λ parts h env i. by_equation depth _ env i _ _ (read-Struct subject call parts env i) (all.of_struct depth parts h env i);
          of_alt = λ arms h env i. by_equation depth _ env i _ _ (read-Alt subject call arms env i) (all.of_alt depth arms h env i);
          of_switch = λ e cases h env i. by_equation depth _ env i _ _ (read-Switch subject call e cases env i) (all.of_switch depth e cases h env i);
          of_guard = λ inner binder condition h env i. by_equation depth _ env i _ _ (read-Guard subject call inner binder condition env i) (all.of_guard depth inner binder condition h env i);
          of_seq = λ s h env i. by_equation depth _ env i _ _ (read-Seq subject call s env i) (all.of_seq depth s h env i);
          of_call = λ number args env i. by_equation depth _ env i _ _ (read-Call subject call number args env i) (calls number args env i);
          of_compute = λ e form env i. by_equation depth _ env i _ _ (read-Compute subject call e form env i) (all.of_compute depth e form env i);
          of_absorb = λ inner h env i. by_equation depth _ env i _ _ (read-Absorb subject call inner env i) (all.of_absorb depth inner h env i);
          of_scan = λ inner h env i. by_equation depth _ env i _ _ (read-Scan subject call inner env i) (all.of_scan depth inner h env i);
        }

    -- a call, by its arguments and its declaration
    body-holds : (depth : ℕ) → ((t : Term) → Reads depth t) → (number : ℕ) (args : List Expr) (env : Pairs) (i : ℕ) (found : Option (List Arg)) (decl : Option Decl)
        → arguments args env ≡ found → slice_get decls number ≡ decl
        → Holds (suc depth) (term.Call number args) env i (body_of subject.origin (meaning subject decls depth) decl found i)
    body-holds depth h number args env i None decl argued declared = all.unargued depth number args env i argued
    body-holds depth h number args env i (Some found) None argued declared = all.undeclared depth number args env i declared
    body-holds depth h number args env i (Some found) (Some decl) argued declared =
        all.of_body depth number args found decl env i argued declared (h decl.body (bound_to decl.params found []) i)

    pub each-call : (depth : ℕ) → Calls depth
    each-call zero number args env i = by_equation zero _ env i _ _ (caller-zero subject decls number args env i) (all.too_deep number args env i)
    each-call (suc depth) number args env i =
        by_equation (suc depth) _ env i _ _ (caller-suc subject decls number args env i depth)
        (body-holds depth (each-term (Reads depth) (forms-at depth (each-call depth))) number args env i (arguments args env) (slice_get decls number) refl refl)

    pub each-reading : (depth : ℕ) (t : Term) → Reads depth t
    each-reading depth = each-term (Reads depth) (forms-at depth (each-call depth))
