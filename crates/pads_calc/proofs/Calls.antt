-- What a call reads as, case by case.
use Rattle.std.proofs.Common.{◌≡◌, ◌≢◌, ℕ, zero, suc, ◌-◌, ◌∙◌, List, [], Some, None, slice_get, refl, ap, arith}
use Rattle.pads_value.specs.declared.cause.Cause.TheVariants as cause
use Rattle.pads_expr.specs.Value.{Pairs}
use Rattle.pads_expr.specs.declared.expr.Expr.{Expr}
use Rattle.pads_dispatch.specs.declared.base.Arg.{Arg}
use Rattle.pads_calc.specs.declared.decl.Decl.{Decl}
use Rattle.pads_calc.specs.Arguments.{arguments, bound_to}
use Rattle.pads_calc.specs.Calculus.{caller, meaning, body_of, read}
use Rattle.pads_calc.specs.Readings.{Subject, fails}

module _ (subject : Subject) (decls : List Decl) (number : ℕ) (args : List Expr) (env : Pairs) (i : ℕ) where
  pub caller-zero : caller subject decls zero number args env i ≡ fails subject.origin cause.Depth i
  unfolding caller
  caller-zero = refl

  pub caller-suc : (depth : ℕ) → caller subject decls (suc depth) number args env i
      ≡ body_of subject.origin (read subject (caller subject decls depth)) (slice_get decls number) (arguments args env) i
  unfolding caller
  caller-suc depth = refl

  pub call-deep : (depth : ℕ) → depth ≡ 0 → caller subject decls depth number args env i ≡ fails subject.origin cause.Depth i
  call-deep depth none = rw none caller-zero

  pub call-unargued : (depth : ℕ) → depth ≢ 0 → arguments args env ≡ None → caller subject decls depth number args env i ≡ fails subject.origin cause.BadParam i
  call-unargued zero some none = absurd (some refl)
  call-unargued (suc depth) some none =
      caller-suc depth ∙ ap (λ found. body_of subject.origin (read subject (caller subject decls depth)) (slice_get decls number) found i) none

  pub call-undeclared : (depth : ℕ) (found : List Arg) → depth ≢ 0 → arguments args env ≡ Some found → slice_get decls number ≡ None
      → caller subject decls depth number args env i ≡ fails subject.origin cause.BadParam i
  call-undeclared zero found some argued none = absurd (some refl)
  call-undeclared (suc depth) found some argued none = rw (caller-suc depth, argued, none) refl

  pub call-found : (depth : ℕ) (found : List Arg) (decl : Decl) → depth ≢ 0 → arguments args env ≡ Some found → slice_get decls number ≡ Some decl
      → caller subject decls depth number args env i ≡ meaning subject decls (depth - 1) decl.body (bound_to decl.params found []) i
  call-found zero found decl some argued there = absurd (some refl)
  call-found (suc depth) found decl some argued there =
      let less : suc depth - 1 ≡ depth = omega arith in
      rw (less, caller-suc depth, argued, there) refl
