-- Code that begins with a literal: what it reads is clean only where that literal stands.
use Rattle.std.proofs.Common.{◌≡◌, ◌∙◌, sym, ap, refl, subst, ℕ, zero, suc, ◌+◌, ◌-◌, true, List, [], ◌∷◌, ◌++◌, append_assoc, map, Option, Some, None, slice_get}
use Rattle.pads_value.specs.declared.cause.Cause.TheVariants as cause
use Rattle.pads_expr.specs.declared.expr.Expr.{Expr}
use Rattle.pads_expr.specs.Value.{Pairs}
use Rattle.pads_dispatch.specs.declared.base.Arg.{Arg}
use Rattle.pads_calc.specs.declared.decl.Decl.{Decl}
use Rattle.pads_calc.specs.declared.reading.Reading.{Reading}
use Rattle.pads_calc.specs.declared.term.Part.{Part}
use Rattle.pads_calc.specs.declared.term.Term.{Term}
use Rattle.pads_calc.specs.Arguments.{arguments, bound_to}
use Rattle.pads_calc.specs.Calculus.{Caller, caller, part_reader, read}
use Rattle.pads_calc.specs.Leaves.{lit_of}
use Rattle.pads_calc.specs.Readings.{Subject, Reader, is_ok}
use Rattle.pads_calc.specs.Structs.{in_turn, struct_of}
use Rattle.pads_calc.proofs.Calls.{call-found, call-unargued, caller-zero}
use Rattle.pads_calc.proofs.CleanForms.{clean-absorb, clean-guard, clean-scan, clean-struct}
use Rattle.pads_calc.proofs.CleanNodes.{fails-unclean}
use Rattle.pads_calc.proofs.Induction.{EachForm, EachPart, each-term}
use Rattle.pads_calc.proofs.Rolls.{read-Unit, read-Base, read-Lit, read-Eor, read-Struct, read-Alt, read-Switch, read-Guard, read-Seq, read-Call, read-Compute, read-Absorb, read-Scan}
use Rattle.pads_image.specs.declared.op.Op.{Op}
use Rattle.pads_image.specs.declared.op.Op.TheVariants as op
use Rattle.pads_image.specs.Beginnings.{begins_with}
use Rattle.pads_image.specs.Blocks.{Block, layout, named, part_layout, parts_code, struct_block}
use Rattle.pads_image.proofs.Layouts.{layout-Unit, layout-Base, layout-Lit, layout-Eor, layout-Struct, layout-Alt, layout-Switch, layout-Guard, layout-Seq, layout-Call, layout-Compute, layout-Absorb, layout-Scan}

module _ (subject : Subject) (call : Caller) where
  -- of some code, and of what it reads as
  abbrev BeginsAs : Block → Reader → Type 0
  BeginsAs b reader = (p : ℕ) (rest : List Op) (literal : List ℕ) → begins_with (b.code p ++ rest) ≡ Some literal
      → (env : Pairs) (i : ℕ) → is_ok (reader env i) ≡ true → is_ok (lit_of subject literal i) ≡ true

  abbrev Begins : Term → Type 0
  Begins t = BeginsAs (layout t) (read subject call t)

  as-laid : (t : Term) (b : Block) (reader : Reader) → layout t ≡ b → ((env : Pairs) (i : ℕ) → read subject call t env i ≡ reader env i) → BeginsAs b reader → Begins t
  as-laid t b reader laid reads h p rest literal begins env i ok =
      h p rest literal (ap (λ (b : Block). begins_with (b.code p ++ rest)) (sym laid) ∙ begins) env i (ap (λ (r : Reading). is_ok r) (sym (reads env i)) ∙ ok)

  -- code that begins with no literal
  none : (t : Term) (b : Block) (reader : Reader) → layout t ≡ b → ((env : Pairs) (i : ℕ) → read subject call t env i ≡ reader env i)
      → ((p : ℕ) (rest : List Op) → begins_with (b.code p ++ rest) ≡ None) → Begins t
  none t b reader laid reads without =
      as-laid t b reader laid reads (λ p rest literal begins env i ok. let never : None ≡ Some literal = sym (without p rest) ∙ begins in absurd cc)

  -- a struct begins with its first part
  parts-begin : (parts : List Part) → EachPart Begins parts
      → BeginsAs (struct_block (map part_layout parts)) (λ env i. struct_of subject.origin (in_turn (map (part_reader subject call) parts) env i) i)
  parts-begin [] h p rest literal begins env i ok = let never : None ≡ Some literal = begins in absurd cc
  parts-begin (part ∷ parts) h p rest literal begins env i ok =
      let body = (layout part.term).code (p + 1) in
      let more = op.Part part.name ∷ parts_code (map part_layout parts) (p + 1 + (layout part.term).size + 1) in
      let last = op.Close (named (map part_layout (part ∷ parts))) ∷ [] in
      let flat : ((body ++ more) ++ last) ++ rest ≡ body ++ (more ++ (last ++ rest)) =
      append_assoc (body ++ more) last rest ∙ append_assoc body more (last ++ rest) in
      h 0 part refl (p + 1) (more ++ (last ++ rest)) literal (ap (λ (code : List Op). begins_with code) (sym flat) ∙ begins) env i
      (clean-struct subject call (part ∷ parts) env i ok).0

  -- behind a term: it begins with that
  before : (ops : List Op) (instruction : Op) (rest : List Op) (literal : List ℕ) → begins_with ((ops ++ instruction ∷ []) ++ rest) ≡ Some literal
      → begins_with (ops ++ instruction ∷ rest) ≡ Some literal
  before ops instruction rest literal begins = ap (λ (code : List Op). begins_with code) (sym (append_assoc ops (instruction ∷ []) rest)) ∙ begins

  forms : EachForm Begins
  forms = record {
    of_unit = none _ _ _ layout-Unit (read-Unit subject call) (λ p rest. refl);
    of_base = λ base args. none _ _ _ (layout-Base base args) (read-Base subject call base args) (λ p rest. refl);
    of_lit = λ literal. as-laid _ _ _ (layout-Lit literal) (read-Lit subject call literal) (λ p rest found begins env i ok.
        let same : literal ≡ found = cc in subst (λ (literal : List ℕ). is_ok (lit_of subject literal i) ≡ true) same ok);
    of_eor = none _ _ _ layout-Eor (read-Eor subject call) (λ p rest. refl);
    of_struct = λ parts h. as-laid _ _ _ (layout-Struct parts) (read-Struct subject call parts) (parts-begin parts h);
    of_alt = λ arms h. none _ _ _ (layout-Alt arms) (read-Alt subject call arms) (λ p rest. refl);
    of_switch = λ e cases h. none _ _ _ (layout-Switch e cases) (read-Switch subject call e cases) (λ p rest. refl);
    of_guard = λ inner binder condition h. as-laid _ _ _ (layout-Guard inner binder condition) (read-Guard subject call inner binder condition)
        (λ p rest literal begins env i ok. h p (op.Guard binder condition ∷ rest) literal (before ((layout inner).code p) (op.Guard binder condition) rest literal begins) env i
        (clean-guard binder condition env (read subject call inner env i) ok).clean);
    of_seq = λ s h. none _ _ _ (layout-Seq s) (read-Seq subject call s) (λ p rest. refl);
    of_call = λ number args. none _ _ _ (layout-Call number args) (read-Call subject call number args) (λ p rest. refl);
    of_compute = λ e form. none _ _ _ (layout-Compute e form) (read-Compute subject call e form) (λ p rest. refl);
    of_absorb = λ inner h. as-laid _ _ _ (layout-Absorb inner) (read-Absorb subject call inner)
        (λ p rest literal begins env i ok. h p (op.Absorb ∷ rest) literal (before ((layout inner).code p) op.Absorb rest literal begins) env i
        (clean-absorb (read subject call inner env i) ok).0);
    of_scan = λ inner h. as-laid _ _ _ (layout-Scan inner) (read-Scan subject call inner)
        (λ p rest literal begins env i ok. h (p + 1) (op.ScanOn (p + 1) ∷ rest) literal (before ((layout inner).code (p + 1)) (op.ScanOn (p + 1)) rest literal begins) env i
        (clean-scan subject (read subject call inner) env i ok).0);
  }

  pub begun : (t : Term) → Begins t
  begun = each-term Begins forms

-- a call begins with what its declaration's code begins with
module _ (decls : List Decl) (subject : Subject) (number : ℕ) (args : List Expr) (env : Pairs) (i : ℕ) (decl : Decl) (there : slice_get decls number ≡ Some decl) (p : ℕ) (rest : List Op)
    (literal : List ℕ) (begins : begins_with ((layout decl.body).code p ++ rest) ≡ Some literal) where
  argued : (depth : ℕ) (found : Option (List Arg)) → arguments args env ≡ found → is_ok (caller subject decls (suc depth) number args env i) ≡ true → is_ok (lit_of subject literal i) ≡ true
  argued depth None is ok =
      let bad = ap (λ (r : Reading). is_ok r) (call-unargued subject decls number args env i (suc depth) (λ none. cc) is) ∙ fails-unclean subject.origin cause.BadParam i in absurd cc
  argued depth (Some found) is ok =
      begun subject (caller subject decls (suc depth - 1)) decl.body p rest literal begins (bound_to decl.params found []) i
      (ap (λ (r : Reading). is_ok r) (sym (call-found subject decls number args env i (suc depth) found decl (λ none. cc) is there)) ∙ ok)

  pub call-begun : (depth : ℕ) → is_ok (caller subject decls depth number args env i) ≡ true → is_ok (lit_of subject literal i) ≡ true
  call-begun zero ok = let bad = ap (λ (r : Reading). is_ok r) (caller-zero subject decls number args env i) ∙ fails-unclean subject.origin cause.Depth i in absurd cc
  call-begun (suc depth) ok = argued depth (arguments args env) refl ok
