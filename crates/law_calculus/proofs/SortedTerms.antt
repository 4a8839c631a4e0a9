-- What each term and each call reads has its sort, at each depth of calls.
use Rattle.std.proofs.Common.{◌≡◌, ◌∙◌, sym, ap, ℕ, ◌+◌, true, List, map, Some, slice_get, unwrap_or, option_map, arith}
use Rattle.pads_value.specs.declared.value.Val.{Val}
use Rattle.pads_expr.specs.declared.expr.Expr.{Expr}
use Rattle.pads_expr.specs.Value.{Pairs, value}
use Rattle.pads_expr.specs.Worth.{worth_or_none}
use Rattle.pads_calc.specs.declared.decl.Decl.{Decl}
use Rattle.pads_calc.specs.declared.reading.Reading.{Reading}
use Rattle.pads_calc.specs.declared.term.Arm.{Arm}
use Rattle.pads_calc.specs.declared.term.Case.{Case}
use Rattle.pads_calc.specs.declared.term.Part.{Part}
use Rattle.pads_calc.specs.declared.term.Seq.{Seq}
use Rattle.pads_calc.specs.declared.term.Term.{Term, Term-F, roll-Term}
use Rattle.pads_calc.specs.declared.term.Term.TheVariants as term
use Rattle.pads_calc.specs.Arguments.{arguments}
use Rattle.pads_calc.specs.Calculus.{caller, meaning, seq_reader}
use Rattle.pads_calc.specs.Readings.{Subject}
use Rattle.pads_calc.proofs.Choices.{slice_get-map}
use Rattle.pads_calc.proofs.Induction.{EachReading, each-call, each-reading}
use Rattle.law_calculus.specs.Sorts.{Sort, Nothing, sort_at, sort_of, AreSorts}
use Rattle.law_calculus.specs.Values.{has_sort}
use Rattle.law_calculus.proofs.SortedArrays.{seq-has}
use Rattle.law_calculus.proofs.SortedForms.{layer_sort, sort-roll}
use Rattle.law_calculus.proofs.SortedReadings.{ReadsAs, unit-has, lit-has, eor-has, base_of-has, compute-has, struct-has, alt-has, switch-has, guard-has, absorb-has, scan-has}
use Rattle.law_calculus.proofs.Values.{has-Missing}

module _ (declared : List Sort) (decls : List Decl) (are : AreSorts declared decls) where
  -- a declaration's sort is that of its body
  pub declared-is : (number : ℕ) (decl : Decl) → slice_get decls number ≡ Some decl → sort_at declared number ≡ sort_of declared decl.body
  declared-is number decl there =
      ap (λ sorts. unwrap_or (slice_get sorts number) Nothing) are
      ∙ ap (λ found. unwrap_or found Nothing) (slice_get-map (λ (decl : Decl). sort_of declared decl.body) decls number)
      ∙ ap (λ found. unwrap_or (option_map (λ (decl : Decl). sort_of declared decl.body) found) Nothing) there

  -- the sort of a form, where its layer has it
  sort-is : (t : Term) (layer : Term-F Term Arm Case Part Seq) → roll-Term layer ≡ t → sort_of declared t ≡ layer_sort declared layer
  sort-is t layer is = ap (sort_of declared) (sym is) ∙ sort-roll declared layer

  abbrev of_layer : (t : Term) (layer : Term-F Term Arm Case Part Seq) → roll-Term layer ≡ t → (v : Val) → has_sort declared v (layer_sort declared layer) ≡ true
      → has_sort declared v (sort_of declared t) ≡ true
  of_layer t layer is v h = ap (has_sort declared v) (sort-is t layer is) ∙ h

  module _ (subject : Subject) where
    abbrev HasItsSort : ℕ → Term → Pairs → ℕ → Reading → Type 0
    HasItsSort depth t env i r = has_sort declared r.value (sort_of declared t) ≡ true

    -- the arms are the branches from the first on
    same-arms : (arms : List Arm) (n : ℕ) → slice_get (map (λ (arm : Arm). arm.term) arms) (0 + n) ≡ slice_get (map (λ (arm : Arm). arm.term) arms) n
    same-arms arms n = let same : 0 + n ≡ n = omega arith in ap (slice_get (map (λ (arm : Arm). arm.term) arms)) same

    sorted-forms : EachReading HasItsSort subject decls
    sorted-forms = record {
      of_unit = λ depth env i. of_layer term.Unit Term-F.Unit term.rolls-Unit _ (unit-has declared subject i);
      of_base = λ depth base args env i.
          of_layer (term.Base base args) (Term-F.Base base args) (term.rolls-Base base args) _ (base_of-has declared subject base (arguments args env) i);
      of_lit = λ depth literal env i. of_layer (term.Lit literal) (Term-F.Lit literal) (term.rolls-Lit literal) _ (lit-has declared subject literal i);
      of_eor = λ depth env i. of_layer term.Eor Term-F.Eor term.rolls-Eor _ (eor-has declared subject i);
      of_struct = λ depth parts h env i.
          of_layer (term.Struct parts) (Term-F.Struct parts) (term.rolls-Struct parts) _ (struct-has declared subject (meaning subject decls depth) parts h env i);
      of_alt = λ depth arms h env i.
          of_layer (term.Alt arms) (Term-F.Alt arms) (term.rolls-Alt arms) _
          (alt-has declared subject (meaning subject decls depth) (map (λ arm. arm.term) arms) arms 0 (same-arms arms) h env i);
      of_switch = λ depth e cases h env i.
          of_layer (term.Switch e cases) (Term-F.Switch e cases) (term.rolls-Switch e cases) _ (switch-has declared subject (meaning subject decls depth) cases _ h env i);
      of_guard = λ depth inner binder condition h env i.
          of_layer (term.Guard inner binder condition) (Term-F.Guard inner binder condition) (term.rolls-Guard inner binder condition) _
          (guard-has declared subject (sort_of declared inner) binder condition env _ (h env i));
      of_seq = λ depth s h env i.
          of_layer (term.Seq s) (Term-F.Seq s) (term.rolls-Seq s) _ (seq-has declared subject s.elem (seq_reader subject (caller subject decls depth) s) h.elem env i);
      of_compute = λ depth e form env i.
          of_layer (term.Compute e form) (Term-F.Compute e form) (term.rolls-Compute e form) _ (compute-has declared subject form (worth_or_none (value e env)) i);
      of_absorb = λ depth inner h env i. of_layer (term.Absorb inner) (Term-F.Absorb inner) (term.rolls-Absorb inner) _ (absorb-has declared subject (meaning subject decls depth inner env i));
      of_scan = λ depth inner h env i.
          of_layer (term.Scan inner) (Term-F.Scan inner) (term.rolls-Scan inner) _ (scan-has declared subject (sort_of declared inner) (meaning subject decls depth inner) h env i);
      too_deep = λ number args env i. has-Missing declared (sort_of declared (term.Call number args));
      unargued = λ depth number args env i none. has-Missing declared (sort_of declared (term.Call number args));
      undeclared = λ depth number args env i none. has-Missing declared (sort_of declared (term.Call number args));
      of_body = λ depth number args found decl env i given there h.
          of_layer (term.Call number args) (Term-F.Call number args) (term.rolls-Call number args) _
          (ap (has_sort declared _) (declared-is number decl there) ∙ h);
    }

    pub caller-has : (depth number : ℕ) (args : List Expr) → ReadsAs declared subject (sort_at declared number) (caller subject decls depth number args)
    caller-has depth number args env i =
        ap (has_sort declared (caller subject decls depth number args env i).value) (sym (sort-is (term.Call number args) (Term-F.Call number args) (term.rolls-Call number args)))
        ∙ each-call HasItsSort subject decls sorted-forms depth number args env i

    pub meaning-has : (depth : ℕ) (t : Term) → ReadsAs declared subject (sort_of declared t) (meaning subject decls depth t)
    meaning-has depth t env i = each-reading HasItsSort subject decls sorted-forms depth t env i
