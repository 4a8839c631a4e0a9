-- Two readings of a form are one where the expressions in it are worth the same, and the terms in it read
-- the same. Structs and arrays stand elsewhere.
use Rattle.std.proofs.Common.{◌≡◌, ◌∙◌, sym, ap, refl, ℕ, zero, suc, ◌+◌, ◌-◌, not, ◌&&◌, Bool, true, false, if◌then◌else◌, List, [], ◌∷◌, map, Option, None, Some, slice_get, option_map}
use Rattle.pads_value.specs.declared.cause.Cause.TheVariants as cause
use Rattle.pads_expr.specs.declared.expr.Expr.{Expr}
use Rattle.pads_expr.specs.Value.{Pairs}
use Rattle.pads_dispatch.specs.declared.base.Arg.{Arg}
use Rattle.pads_calc.specs.declared.decl.Decl.{Decl}
use Rattle.pads_calc.specs.declared.reading.Reading.{Reading}
use Rattle.pads_calc.specs.declared.term.Term.{Term}
use Rattle.pads_calc.specs.Arguments.{arg_told, and_more, arguments, is_true_told, is_true}
use Rattle.pads_calc.specs.Calculus.{body_of}
use Rattle.pads_calc.specs.Choices.{branch_of, alt_from, case_at, switch_of}
use Rattle.pads_calc.specs.Readings.{Subject, Reader, fails, is_ok, blame}
use Rattle.pads_calc.specs.Wrappers.{constrained, guard_of, found_at, last_place, scan, scan_from}
use Rattle.pads_calc.proofs.Choices.{slice_get-map}
use Rattle.law_calculus.specs.ByWorths.{Worths, arguments_by, guard_by}
use Rattle.law_calculus.specs.Agreement.{own_worths}

module _ (worths : Worths) where
  pub arguments-agree : (args : List Expr) (env : Pairs) → ((n : ℕ) (e : Expr) → slice_get args n ≡ Some e → worths e env ≡ own_worths e env)
      → arguments_by worths args env ≡ arguments args env
  arguments-agree [] env h = refl
  arguments-agree (e ∷ args) env h =
      ap (λ told. and_more (arg_told told) (arguments_by worths args env)) (h 0 e refl)
      ∙ ap (λ more. and_more (arg_told (own_worths e env)) more) (arguments-agree args env (λ n. h (suc n)))

  -- a condition matters where it is asked
  pub guard-agrees : (binder : ℕ) (condition : Expr) (env : Pairs) (r : Reading)
      → (is_ok r ≡ true → worths condition ((binder, r.value) ∷ env) ≡ own_worths condition ((binder, r.value) ∷ env))
      → guard_by worths binder condition env r ≡ guard_of binder condition env r
  guard-agrees binder condition env r h = by_class (is_ok r) refl
    where
      by_class : (ok : Bool) → is_ok r ≡ ok → guard_by worths binder condition env r ≡ guard_of binder condition env r
      by_class true is = ap (λ told. if is_ok r && not (is_true_told told) then constrained r else r) (h is)
      by_class false is =
          ap (λ (ok : Bool). if ok && not (is_true_told (worths condition ((binder, r.value) ∷ env))) then constrained r else r) is
          ∙ sym (ap (λ (ok : Bool). if ok && not (is_true condition ((binder, r.value) ∷ env)) then constrained r else r) is)

-- branches that read the same here
module _ {X : Type 0} (one other : X → Reader) (env : Pairs) (i : ℕ) where
  abbrev Same : List X → Type 0
  Same xs = (n : ℕ) (x : X) → slice_get xs n ≡ Some x → one x env i ≡ other x env i

  pub alt-agrees : (origin number : ℕ) (xs : List X) → Same xs → alt_from origin number (map one xs) env i ≡ alt_from origin number (map other xs) env i
  alt-agrees origin number [] h = refl
  alt-agrees origin number (x ∷ xs) h =
      ap (λ (r : Reading). if is_ok r then branch_of origin number r i else alt_from origin (number + 1) (map one xs) env i) (h 0 x refl)
      ∙ ap (λ later. if is_ok (other x env i) then branch_of origin number (other x env i) i else later) (alt-agrees origin (number + 1) xs (λ n. h (suc n)))

  pub switch-agrees : (origin : ℕ) (number : Option ℕ) (xs : List X) → Same xs → switch_of origin number (map one xs) env i ≡ switch_of origin number (map other xs) env i
  switch-agrees origin None xs h = refl
  switch-agrees origin (Some number) xs h =
      ap (λ found. case_at origin number found env i) (slice_get-map one xs number)
      ∙ by_case (slice_get xs number) refl
      ∙ sym (ap (λ found. case_at origin number found env i) (slice_get-map other xs number))
    where
      by_case : (found : Option X) → slice_get xs number ≡ found → case_at origin number (option_map one found) env i ≡ case_at origin number (option_map other found) env i
      by_case None there = refl
      by_case (Some x) there = ap (λ (r : Reading). branch_of origin number r i) (h number x there)

-- a search for what reads the same at each place
module _ (one other : Reader) (env : Pairs) (same : (j : ℕ) → one env j ≡ other env j) where
  scan_from-agrees : (origin places i j : ℕ) → scan_from origin places one env i j ≡ scan_from origin places other env i j
  unfolding scan_from
  scan_from-agrees origin zero i j = ap (λ (r : Reading). fails origin (blame r) i) (same i)
  scan_from-agrees origin (suc places) i j =
      ap (λ (r : Reading). if is_ok r then found_at origin i j r else scan_from origin places one env i (j + 1)) (same j)
      ∙ ap (λ later. if is_ok (other env j) then found_at origin i j (other env j) else later) (scan_from-agrees origin places i (j + 1))

  pub scan-agrees : (subject : Subject) (i : ℕ) → scan subject one env i ≡ scan subject other env i
  scan-agrees subject i = scan_from-agrees subject.origin (suc (last_place subject i - i)) i i

-- a call without arguments that have values, or of what isn't declared
pub body-unargued : (origin : ℕ) (reader : Term → Reader) (decl : Option Decl) (args : Option (List Arg)) (i : ℕ) → args ≡ None
    → body_of origin reader decl args i ≡ fails origin cause.BadParam i
body-unargued origin reader decl args i none = rw none refl

pub body-undeclared : (origin : ℕ) (reader : Term → Reader) (decl : Option Decl) (args : Option (List Arg)) (i : ℕ) → decl ≡ None
    → body_of origin reader decl args i ≡ fails origin cause.BadParam i
body-undeclared origin reader decl None i none = refl
body-undeclared origin reader decl (Some args) i none = rw none refl
