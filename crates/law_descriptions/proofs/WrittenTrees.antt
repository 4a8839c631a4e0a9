-- Written expressions, one layer after another.
use Rattle.std.proofs.Common.{ap, subst, arith, ℕ, zero, suc, ◌+◌, ◌<◌, ◌≤◌, List, [], ◌∷◌}
use Rattle.std.specs.Prelude.{⊤}
use denote.Param.Weighed.{most}
use Rattle.pads_ast.specs.declared.expr.Expr.{Expr, Expr-F, roll-Expr, out-Expr, roll-out-Expr, size-Expr, the_lemmas}
use Rattle.pads_ast.specs.declared.expr.Link.{Link}
use Rattle.pads_ast.specs.declared.expr.Step.{Step}
use Rattle.pads_ast.specs.declared.expr.Step.TheVariants as step_form
use Rattle.law_descriptions.specs.WellSorted.{Each}

abbrev pub InLink : (Expr → Type 0) → Link Expr → Type 0
InLink P link = P link.operand

abbrev pub InStep : (Expr → Type 0) → Step Expr → Type 0
InStep P (step_form.Name name) = ⊤
InStep P (step_form.Index at index) = P index

-- what holds of each expression directly in one
abbrev pub Inside : (Expr → Type 0) → Expr-F Expr → Type 0
Inside P (Expr-F.Chain first links) = P first × Each (InLink P) links
Inside P (Expr-F.Unary operator at operand) = P operand
Inside P (Expr-F.Post base steps) = P base × Each (InStep P) steps
Inside P (Expr-F.Number value at) = ⊤
Inside P (Expr-F.Word word) = ⊤
Inside P (Expr-F.Truth value at) = ⊤
Inside P (Expr-F.Name name) = ⊤
Inside P (Expr-F.Paren at inner) = P inner
Inside P (Expr-F.Pis at value name) = P value
Inside P (Expr-F.Plen at value) = P value
Inside P (Expr-F.Pforall at name low high body) = P low × P high × P body

abbrev link-size : Link Expr → ℕ
link-size link = size-Expr link.operand

abbrev step-size : Step Expr → ℕ
step-size (step_form.Name name) = 0
step-size (step_form.Index at index) = size-Expr index

chain-size : (first : Expr) (links : List (Link Expr)) (n : ℕ) → size-Expr (roll-Expr (Expr-F.Chain first links)) ≤ n → most link-size links < n
chain-size first links n within = grind (arith, the_lemmas, within)

post-size : (base : Expr) (steps : List (Step Expr)) (n : ℕ) → size-Expr (roll-Expr (Expr-F.Post base steps)) ≤ n → most step-size steps < n
post-size base steps n within = grind (arith, the_lemmas, within)

module _ (P : Expr → Type 0) (each : (layer : Expr-F Expr) → Inside P layer → P (roll-Expr layer)) where
  abbrev Smaller : ℕ → Type 0
  Smaller n = (e : Expr) → size-Expr e < n → P e

  in-links : (n : ℕ) → Smaller n → (links : List (Link Expr)) → most link-size links < n → Each (InLink P) links
  in-links n smaller [] less = tt
  in-links n smaller (link ∷ links) less = (smaller link.operand (omega arith), in-links n smaller links (omega arith))

  in-steps : (n : ℕ) → Smaller n → (steps : List (Step Expr)) → most step-size steps < n → Each (InStep P) steps
  in-steps n smaller [] less = tt
  in-steps n smaller (step_form.Name name ∷ steps) less = (tt, in-steps n smaller steps (omega arith))
  in-steps n smaller (step_form.Index at index ∷ steps) less = (smaller index (omega arith), in-steps n smaller steps (omega arith))

  inside : (n : ℕ) → Smaller n → (layer : Expr-F Expr) → size-Expr (roll-Expr layer) ≤ n → Inside P layer
  inside n smaller (Expr-F.Chain first links) within = (smaller first (grind (arith, the_lemmas, within)), in-links n smaller links (chain-size first links n within))
  inside n smaller (Expr-F.Unary operator at operand) within = smaller operand (grind (arith, the_lemmas, within))
  inside n smaller (Expr-F.Post base steps) within = (smaller base (grind (arith, the_lemmas, within)), in-steps n smaller steps (post-size base steps n within))
  inside n smaller (Expr-F.Number value at) within = tt
  inside n smaller (Expr-F.Word word) within = tt
  inside n smaller (Expr-F.Truth value at) within = tt
  inside n smaller (Expr-F.Name name) within = tt
  inside n smaller (Expr-F.Paren at inner) within = smaller inner (grind (arith, the_lemmas, within))
  inside n smaller (Expr-F.Pis at value name) within = smaller value (grind (arith, the_lemmas, within))
  inside n smaller (Expr-F.Plen at value) within = smaller value (grind (arith, the_lemmas, within))
  inside n smaller (Expr-F.Pforall at name low high body) within =
      (smaller low (grind (arith, the_lemmas, within)), smaller high (grind (arith, the_lemmas, within)), smaller body (grind (arith, the_lemmas, within)))

  all-smaller : (n : ℕ) → Smaller n
  all-smaller zero e less = absurd (omega arith)
  all-smaller (suc n) e less =
      subst P (roll-out-Expr e) (each (out-Expr e) (inside n (all-smaller n) (out-Expr e) (omega (arith, ap size-Expr (roll-out-Expr e)))))

  -- what holds of each layer in which it holds holds of all
  pub all-layers : (e : Expr) → P e
  all-layers e = all-smaller (size-Expr e + 1) e (omega arith)
