-- Expressions, one layer after another.
use Rattle.std.proofs.Common.{◌≡◌, ap, subst, arith, ℕ, zero, suc, ◌+◌, ◌<◌, ◌≤◌, List, Option}
use Rattle.std.specs.Prelude.{⊤}
use Rattle.pads_expr.specs.declared.expr.Expr.{Expr as Made}
use Rattle.pads_rules.specs.declared.sort.Sort.{Sort}
use Rattle.pads_resolution.specs.declared.decl.Decl.{Decl}
use Rattle.pads_resolution.specs.declared.expr.Expr.{Expr, Expr-F, out-Expr, roll-Expr, roll-out-Expr, map-Expr, fold-roll-Expr, size-Expr, the_lemmas}
use Rattle.pads_trans.specs.Expressions.{expr_of, expr_step as made_step}
use Rattle.pads_trans.specs.Names.{Name}
use Rattle.law_descriptions.specs.Expressions.{SortScope, sort_in, expr_step}

-- what holds of each expression directly in one
abbrev pub Inside : (Expr → Type 0) → Expr-F Expr → Type 0
Inside P (Expr-F.Number number) = ⊤
Inside P (Expr-F.Word points) = ⊤
Inside P (Expr-F.Truth value) = ⊤
Inside P (Expr-F.Name means sort) = ⊤
Inside P (Expr-F.Part whole number sort) = P whole
Inside P (Expr-F.Branch whole number sort) = P whole
Inside P (Expr-F.Index array index sort) = P array × P index
Inside P (Expr-F.Pis value number) = P value
Inside P (Expr-F.Plen value) = P value
Inside P (Expr-F.Minus operand) = P operand
Inside P (Expr-F.Not operand) = P operand
Inside P (Expr-F.Binary op left right) = P left × P right
Inside P (Expr-F.Pforall variable low high inner) = P low × P high × P inner

module _ (P : Expr → Type 0) (each : (layer : Expr-F Expr) → Inside P layer → P (roll-Expr layer)) where
  abbrev Smaller : ℕ → Type 0
  Smaller n = (e : Expr) → size-Expr e < n → P e

  inside : (n : ℕ) → Smaller n → (layer : Expr-F Expr) → size-Expr (roll-Expr layer) ≤ n → Inside P layer
  inside n smaller (Expr-F.Number number) within = tt
  inside n smaller (Expr-F.Word points) within = tt
  inside n smaller (Expr-F.Truth value) within = tt
  inside n smaller (Expr-F.Name means sort) within = tt
  inside n smaller (Expr-F.Part whole number sort) within = smaller whole (grind (arith, the_lemmas, within))
  inside n smaller (Expr-F.Branch whole number sort) within = smaller whole (grind (arith, the_lemmas, within))
  inside n smaller (Expr-F.Index array index sort) within = (smaller array (grind (arith, the_lemmas, within)), smaller index (grind (arith, the_lemmas, within)))
  inside n smaller (Expr-F.Pis value number) within = smaller value (grind (arith, the_lemmas, within))
  inside n smaller (Expr-F.Plen value) within = smaller value (grind (arith, the_lemmas, within))
  inside n smaller (Expr-F.Minus operand) within = smaller operand (grind (arith, the_lemmas, within))
  inside n smaller (Expr-F.Not operand) within = smaller operand (grind (arith, the_lemmas, within))
  inside n smaller (Expr-F.Binary op left right) within = (smaller left (grind (arith, the_lemmas, within)), smaller right (grind (arith, the_lemmas, within)))
  inside n smaller (Expr-F.Pforall variable low high inner) within =
      (smaller low (grind (arith, the_lemmas, within)), smaller high (grind (arith, the_lemmas, within)), smaller inner (grind (arith, the_lemmas, within)))

  all-smaller : (n : ℕ) → Smaller n
  all-smaller zero e less = absurd (omega arith)
  all-smaller (suc n) e less =
      subst P (roll-out-Expr e) (each (out-Expr e) (inside n (all-smaller n) (out-Expr e) (omega (arith, ap size-Expr (roll-out-Expr e)))))

  -- what holds of each layer in which it holds holds of all
  pub all-layers : (e : Expr) → P e
  all-layers e = all-smaller (size-Expr e + 1) e (omega arith)

pub sort-roll : (decls : List Decl) (sorts : List Sort) (layer : Expr-F Expr) (scope : SortScope)
    → sort_in decls sorts (roll-Expr layer) scope ≡ expr_step decls sorts (map-Expr Expr (SortScope → Option Sort) (sort_in decls sorts) layer) scope
unfolding sort_in
sort-roll decls sorts layer scope = ap (λ (f : SortScope → Option Sort). f scope) (fold-roll-Expr (SortScope → Option Sort) (expr_step decls sorts) layer)

pub made-roll : (names : List Name) (layer : Expr-F Expr) → expr_of names (roll-Expr layer) ≡ made_step names (map-Expr Expr Made (expr_of names) layer)
unfolding expr_of
made-roll names layer = fold-roll-Expr Made (made_step names) layer
