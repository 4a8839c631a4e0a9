-- An expression that is well formed in a scope has no variable that isn't bound there.
use Rattle.std.proofs.Common.{◌≡◌, ◌∙◌, sym, ap, refl, arith, ℕ, zero, suc, ◌+◌, ◌<◌, ◌≤◌, nat_lt, Bool, true, ◌&&◌, List, [], ◌∷◌, Option, None, Some}
use Rattle.std.proofs.lemmas.Bool.{and_parts}
use Rattle.pads_expr.specs.declared.expr.Expr.{Expr, Expr-F, fold_out-Expr, out-Expr, roll-Expr, roll-out-Expr, map-Expr, size-Expr, the_lemmas}
use Rattle.pads_module.specs.Scopes.{InScope, expr_in_scope, exprs_in_scope, option_in_scope}
use Rattle.pads_module.specs.Scopes as scopes
use Rattle.pads_image.specs.Variables.{is_closed, all_closed, option_closed, expr_step}

pub both : (a b : Bool) → a ≡ true → b ≡ true → (a && b) ≡ true
both a b x y = ap (λ a. a && b) x ∙ y

module _ (names : ℕ) where
  scope-out : (e : Expr) (scope : List ℕ) → expr_in_scope names e scope ≡ scopes.expr_step names (map-Expr Expr InScope (expr_in_scope names) (out-Expr e)) scope
  unfolding expr_in_scope
  scope-out e scope = ap (λ (f : InScope). f scope) (fold_out-Expr InScope (scopes.expr_step names) e)

  closed-out : (e : Expr) (scope : List ℕ) → is_closed e scope ≡ expr_step (map-Expr Expr InScope is_closed (out-Expr e)) scope
  unfolding is_closed
  closed-out e scope = ap (λ (f : InScope). f scope) (fold_out-Expr InScope expr_step e)

  abbrev IsClosed : Expr → Type 0
  IsClosed e = (scope : List ℕ) → expr_in_scope names e scope ≡ true → is_closed e scope ≡ true

  abbrev Smaller : ℕ → Type 0
  Smaller n = (e : Expr) → size-Expr e < n → IsClosed e

  abbrev ClosedLayer : Expr-F Expr → Type 0
  ClosedLayer layer = (scope : List ℕ) → scopes.expr_step names (map-Expr Expr InScope (expr_in_scope names) layer) scope ≡ true
      → expr_step (map-Expr Expr InScope is_closed layer) scope ≡ true

  two : (a b : Expr) → IsClosed a → IsClosed b → (scope : List ℕ) → (expr_in_scope names a scope && expr_in_scope names b scope) ≡ true
      → (is_closed a scope && is_closed b scope) ≡ true
  two a b x y scope h =
      let all = and_parts (expr_in_scope names a scope) (expr_in_scope names b scope) h in
      both (is_closed a scope) (is_closed b scope) (x scope all.0) (y scope all.1)

  for-all : (name : ℕ) (first last body : Expr) → IsClosed first → IsClosed last → IsClosed body → ClosedLayer (Expr-F.Forall name first last body)
  for-all name first last body x y z scope h =
      let inner = expr_in_scope names body (name ∷ scope) in
      let all = and_parts (nat_lt name names && expr_in_scope names first scope && expr_in_scope names last scope) inner h in
      let more = and_parts (nat_lt name names && expr_in_scope names first scope) (expr_in_scope names last scope) all.0 in
      let one = and_parts (nat_lt name names) (expr_in_scope names first scope) more.0 in
      both (is_closed first scope && is_closed last scope) (is_closed body (name ∷ scope))
      (both (is_closed first scope) (is_closed last scope) (x scope one.1) (y scope more.1)) (z (name ∷ scope) all.1)

  layer : (n : ℕ) → Smaller n → (layer : Expr-F Expr) → size-Expr (roll-Expr layer) ≤ n → ClosedLayer layer
  layer n smaller (Expr-F.Num number) within = λ scope h. refl
  layer n smaller (Expr-F.Text text) within = λ scope h. refl
  layer n smaller (Expr-F.Truth truth) within = λ scope h. refl
  layer n smaller (Expr-F.Var name) within = λ scope h. h
  layer n smaller (Expr-F.Part whole number) within = smaller whole (grind (arith, the_lemmas, within))
  layer n smaller (Expr-F.Arm whole number) within = smaller whole (grind (arith, the_lemmas, within))
  layer n smaller (Expr-F.Elem whole index) within = two whole index (smaller whole (grind (arith, the_lemmas, within))) (smaller index (grind (arith, the_lemmas, within)))
  layer n smaller (Expr-F.IsArm whole number) within = smaller whole (grind (arith, the_lemmas, within))
  layer n smaller (Expr-F.Len whole) within = smaller whole (grind (arith, the_lemmas, within))
  layer n smaller (Expr-F.Neg operand) within = smaller operand (grind (arith, the_lemmas, within))
  layer n smaller (Expr-F.Not operand) within = smaller operand (grind (arith, the_lemmas, within))
  layer n smaller (Expr-F.Bin op left right) within = two left right (smaller left (grind (arith, the_lemmas, within))) (smaller right (grind (arith, the_lemmas, within)))
  layer n smaller (Expr-F.Forall name first last body) within =
      for-all name first last body (smaller first (grind (arith, the_lemmas, within))) (smaller last (grind (arith, the_lemmas, within)))
      (smaller body (grind (arith, the_lemmas, within)))

  all-smaller : (n : ℕ) → Smaller n
  all-smaller zero e less scope h = absurd (omega arith)
  all-smaller (suc n) e less scope h =
      closed-out e scope ∙ layer n (all-smaller n) (out-Expr e) (omega (arith, ap size-Expr (roll-out-Expr e))) scope (sym (scope-out e scope) ∙ h)

  pub closed : (e : Expr) → IsClosed e
  closed e = all-smaller (size-Expr e + 1) e (omega arith)

  pub closed-all : (es : List Expr) (scope : List ℕ) → exprs_in_scope names es scope ≡ true → all_closed es scope ≡ true
  closed-all [] scope h = refl
  closed-all (e ∷ es) scope h =
      let all = and_parts (expr_in_scope names e scope) (exprs_in_scope names es scope) h in
      both (is_closed e scope) (all_closed es scope) (closed e scope all.0) (closed-all es scope all.1)

  pub closed-option : (o : Option Expr) (scope : List ℕ) → option_in_scope names o scope ≡ true → option_closed o scope ≡ true
  closed-option None scope h = refl
  closed-option (Some e) scope h = closed e scope h
