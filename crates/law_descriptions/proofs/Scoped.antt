-- The expression that is made of a well-sorted one speaks of names that are there and bound.
use Rattle.std.proofs.Common.{◌≡◌, ◌∙◌, sym, ap, refl, subst, ℕ, Bool, true, false, if◌then◌else◌, cond, ◌&&◌, ◌||◌, ◌==◌, nat_eq, nat_lt, List, ◌∷◌, ◌++◌, length, find, Option, Some, None, option_map, eq-eqb, append_assoc}
use Rattle.std.proofs.lemmas.Bool.{or_right, and_from}
use lib.Pointwise.{pointwise, bytes_decides}
use Rattle.pads_module.specs.Scopes.{is_bound, expr_in_scope}
use Rattle.pads_module.proofs.ExprRolls.{scope-Num, scope-Text, scope-Truth, scope-Var, scope-Part, scope-Arm, scope-Elem, scope-IsArm, scope-Len, scope-Neg, scope-Not, scope-Bin, scope-Forall}
use Rattle.pads_expr.specs.declared.expr.Expr.{Expr as Made}
use Rattle.pads_expr.specs.declared.expr.Expr.TheVariants as made
use Rattle.pads_rules.specs.declared.sort.Sort.{Sort}
use Rattle.pads_resolution.specs.declared.decl.Decl.{Decl}
use Rattle.pads_expr.specs.declared.expr.BinOp.{BinOp}
use Rattle.pads_resolution.specs.declared.expr.Expr.{Expr, Expr-F, roll-Expr, map-Expr}
use Rattle.pads_resolution.specs.declared.expr.NameUse.{NameUse}
use Rattle.pads_resolution.specs.declared.expr.NameUse.TheVariants as meaning
use Rattle.pads_trans.specs.Expressions.{expr_of, expr_step as made_step, meaning_of}
use Rattle.pads_trans.specs.Met.{Met, in_expr, expr_met}
use Rattle.pads_trans.specs.Names.{Name, at_sign, number_of}
use Rattle.pads_trans.proofs.MetRolls.{met-roll}
use Rattle.pads_rules.specs.Sorts.{same_form}
use Rattle.law_descriptions.specs.Expressions.{SortScope, sort_in_scope, as_told, sort_in, expr_step, meaning_sort}
use Rattle.law_descriptions.specs.Sorts.{num}
use Rattle.law_descriptions.specs.WellSorted.{Each}
use Rattle.law_descriptions.proofs.Lists.{each-left, each-right}
use Rattle.law_descriptions.proofs.SortedNames.{Known, number-below}
use Rattle.law_descriptions.proofs.TypedTrees.{Inside, all-layers, sort-roll, made-roll}
use Rattle.law_calculus.proofs.Expressions.{and_then-is}

told-by : (b : Bool) (found sort : Sort) → (if b then Some found else None) ≡ Some sort → Some found ≡ Some sort
told-by true found sort is = is
told-by false found sort is = cc

-- the sort that the tree tells is the one found
pub told-is : (told : Sort) (o : Option Sort) (sort : Sort) → as_told told o ≡ Some sort → o ≡ Some sort
told-is told None sort is = is
told-is told (Some found) sort is = told-by ((told.optional == found.optional) && same_form told.form found.form) found sort is

module _ (names : List Name) where
  -- the names in scope are bound
  abbrev pub Covers : SortScope → List ℕ → Type 0
  Covers scope bound = (name : Name) (sort : Sort) → sort_in_scope scope name ≡ Some sort → is_bound (number_of names name) bound ≡ true

  covers-by : (scope : SortScope) (bound : List ℕ) (name other : Name) (sort found : Sort) (b : Bool) → pointwise nat_eq other name ≡ b
      → is_bound (number_of names name) bound ≡ true
      → ((found : Sort) → sort_in_scope scope other ≡ Some found → is_bound (number_of names other) bound ≡ true)
      → option_map (λ (pair : Name × Sort). pair.1) (cond b (Some (name, sort)) (find (λ (pair : Name × Sort). pointwise nat_eq other pair.0) scope)) ≡ Some found
      → is_bound (number_of names other) bound ≡ true
  covers-by scope bound name other sort found true same here covers is =
      subst (λ n. is_bound (number_of names n) bound ≡ true) (sym ((bytes_decides other name).0 same)) here
  covers-by scope bound name other sort found false same here covers is = covers found is

  -- one more name that is bound
  pub covers-also : (scope : SortScope) (bound : List ℕ) (name : Name) (sort : Sort) → Covers scope bound → is_bound (number_of names name) bound ≡ true
      → Covers ((name, sort) ∷ scope) bound
  covers-also scope bound name sort covers here other found is =
      covers-by scope bound name other sort found (pointwise nat_eq other name) refl here (covers other) is

  pub covers-wider : (scope : SortScope) (bound : List ℕ) (number : ℕ) → Covers scope bound → Covers scope (number ∷ bound)
  covers-wider scope bound number covers name sort is =
      or_right (nat_eq (number_of names name) number) (is_bound (number_of names name) bound) (covers name sort is)

  pub covers-more : (scope : SortScope) (bound : List ℕ) (name : Name) (sort : Sort) → Covers scope bound → Covers ((name, sort) ∷ scope) (number_of names name ∷ bound)
  covers-more scope bound name sort covers =
      covers-also scope (number_of names name ∷ bound) name sort (covers-wider scope bound (number_of names name) covers)
      (ap (λ b. b || is_bound (number_of names name) bound) (eq-eqb (number_of names name) (number_of names name) refl))

  module _ (decls : List Decl) (sorts : List Sort) where
    abbrev InScope : Made → List ℕ → Type 0
    InScope e bound = expr_in_scope (length names) e bound ≡ true

    abbrev IsScoped : Expr → Type 0
    IsScoped e = (scope : SortScope) (bound : List ℕ) (sort : Sort) → Covers scope bound → Each (Known names) (in_expr e) → sort_in decls sorts e scope ≡ Some sort
        → InScope (expr_of names e) bound

    -- one layer
    abbrev Scoped : Expr-F Expr → Type 0
    Scoped layer = (scope : SortScope) (bound : List ℕ) (sort : Sort) → Covers scope bound → Each (Known names) (expr_met (map-Expr Expr Met in_expr layer))
        → expr_step decls sorts (map-Expr Expr (SortScope → Option Sort) (sort_in decls sorts) layer) scope ≡ Some sort
        → InScope (made_step names (map-Expr Expr Made (expr_of names) layer)) bound

    variable-scoped : (scope : SortScope) (bound : List ℕ) (name : Name) (sort : Sort) → Covers scope bound → sort_in_scope scope name ≡ Some sort → InScope (made.Var (number_of names name)) bound
    variable-scoped scope bound name sort covers is = scope-Var (length names) (number_of names name) bound ∙ covers name sort is

    meaning-scoped : (scope : SortScope) (bound : List ℕ) (means : NameUse) (sort : Sort) → Covers scope bound → meaning_sort decls sorts means scope ≡ Some sort → InScope (meaning_of names means) bound
    unfolding meaning_of
    meaning-scoped scope bound (meaning.Variable name) sort covers is = variable-scoped scope bound name sort covers is
    meaning-scoped scope bound meaning.Elts sort covers is = variable-scoped scope bound at_sign sort covers is
    meaning-scoped scope bound meaning.Length sort covers is =
        let x = and_then-is _ (sort_in_scope scope at_sign) sort is in
        scope-Len (length names) (made.Var (number_of names at_sign)) bound ∙ variable-scoped scope bound at_sign x.0 covers x.1
    meaning-scoped scope bound (meaning.Field number) sort covers is =
        let x = and_then-is _ (sort_in_scope scope at_sign) sort is in
        scope-Part (length names) (made.Var (number_of names at_sign)) number bound ∙ variable-scoped scope bound at_sign x.0 covers x.1

    scoped-Index : (array index : Expr) (told : Sort) → IsScoped array → IsScoped index → Scoped (Expr-F.Index array index told)
    scoped-Index array index told one other scope bound sort covers met is =
        let x = and_then-is _ (sort_in decls sorts array scope) sort (told-is told _ sort is) in
        let y = and_then-is _ (sort_in decls sorts index scope) sort x.2 in
        scope-Elem (length names) (expr_of names array) (expr_of names index) bound
        ∙ and_from (expr_in_scope (length names) (expr_of names array) bound) (expr_in_scope (length names) (expr_of names index) bound)
        (one scope bound x.0 covers (each-left (Known names) (in_expr array) (in_expr index) met) x.1)
        (other scope bound y.0 covers (each-right (Known names) (in_expr array) (in_expr index) met) y.1)

    scoped-Binary : (op : BinOp) (left right : Expr) → IsScoped left → IsScoped right → Scoped (Expr-F.Binary op left right)
    scoped-Binary op left right one other scope bound sort covers met is =
        let x = and_then-is _ (sort_in decls sorts left scope) sort is in
        let y = and_then-is _ (sort_in decls sorts right scope) sort x.2 in
        scope-Bin (length names) op (expr_of names left) (expr_of names right) bound
        ∙ and_from (expr_in_scope (length names) (expr_of names left) bound) (expr_in_scope (length names) (expr_of names right) bound)
        (one scope bound x.0 covers (each-left (Known names) (in_expr left) (in_expr right) met) x.1)
        (other scope bound y.0 covers (each-right (Known names) (in_expr left) (in_expr right) met) y.1)

    scoped-Pforall : (variable : Name) (low high inner : Expr) → IsScoped low → IsScoped high → IsScoped inner → Scoped (Expr-F.Pforall variable low high inner)
    scoped-Pforall variable low high inner one other each scope bound sort covers met' is =
        let x = and_then-is _ (sort_in decls sorts low scope) sort is in
        let y = and_then-is _ (sort_in decls sorts high scope) sort x.2 in
        let z = and_then-is _ (sort_in decls sorts inner ((variable, num) ∷ scope)) sort y.2 in
        let count = length names in
        let n = number_of names variable in
        let met : Each (Known names) (in_expr low ++ (in_expr high ++ in_expr inner)) =
        subst (Each (Known names)) (append_assoc (in_expr low) (in_expr high) (in_expr inner)) met'.1 in
        let later = each-right (Known names) (in_expr low) (in_expr high ++ in_expr inner) met in
        scope-Forall count n (expr_of names low) (expr_of names high) (expr_of names inner) bound
        ∙ and_from (nat_lt n count && expr_in_scope count (expr_of names low) bound && expr_in_scope count (expr_of names high) bound)
        (expr_in_scope count (expr_of names inner) (n ∷ bound))
        (and_from (nat_lt n count && expr_in_scope count (expr_of names low) bound) (expr_in_scope count (expr_of names high) bound)
        (and_from (nat_lt n count) (expr_in_scope count (expr_of names low) bound) (number-below names variable met'.0)
        (one scope bound x.0 covers (each-left (Known names) (in_expr low) (in_expr high ++ in_expr inner) met) x.1))
        (other scope bound y.0 covers (each-left (Known names) (in_expr high) (in_expr inner) later) y.1))
        (each ((variable, num) ∷ scope) (n ∷ bound) z.0 (covers-more scope bound variable num covers) (each-right (Known names) (in_expr high) (in_expr inner) later) z.1)

    scoped-layer : (layer : Expr-F Expr) → Inside IsScoped layer → Scoped layer
    scoped-layer (Expr-F.Number number) h = λ scope bound sort covers met is. scope-Num (length names) number bound
    scoped-layer (Expr-F.Word points) h = λ scope bound sort covers met is. scope-Text (length names) points bound
    scoped-layer (Expr-F.Truth value) h = λ scope bound sort covers met is. scope-Truth (length names) value bound
    scoped-layer (Expr-F.Name means told) h = λ scope bound sort covers met is. meaning-scoped scope bound means sort covers (told-is told _ sort is)
    scoped-layer (Expr-F.Part whole number told) h = λ scope bound sort covers met is.
        let x = and_then-is _ (sort_in decls sorts whole scope) sort (told-is told _ sort is) in
        scope-Part (length names) (expr_of names whole) number bound ∙ h scope bound x.0 covers met x.1
    scoped-layer (Expr-F.Branch whole number told) h = λ scope bound sort covers met is.
        let x = and_then-is _ (sort_in decls sorts whole scope) sort (told-is told _ sort is) in
        scope-Arm (length names) (expr_of names whole) number bound ∙ h scope bound x.0 covers met x.1
    scoped-layer (Expr-F.Index array index told) h = scoped-Index array index told h.0 h.1
    scoped-layer (Expr-F.Pis value number) h = λ scope bound sort covers met is.
        let x = and_then-is _ (sort_in decls sorts value scope) sort is in
        scope-IsArm (length names) (expr_of names value) number bound ∙ h scope bound x.0 covers met x.1
    scoped-layer (Expr-F.Plen value) h = λ scope bound sort covers met is.
        let x = and_then-is _ (sort_in decls sorts value scope) sort is in
        scope-Len (length names) (expr_of names value) bound ∙ h scope bound x.0 covers met x.1
    scoped-layer (Expr-F.Minus operand) h = λ scope bound sort covers met is.
        let x = and_then-is _ (sort_in decls sorts operand scope) sort is in
        scope-Neg (length names) (expr_of names operand) bound ∙ h scope bound x.0 covers met x.1
    scoped-layer (Expr-F.Not operand) h = λ scope bound sort covers met is.
        let x = and_then-is _ (sort_in decls sorts operand scope) sort is in
        scope-Not (length names) (expr_of names operand) bound ∙ h scope bound x.0 covers met x.1
    scoped-layer (Expr-F.Binary op left right) h = scoped-Binary op left right h.0 h.1
    scoped-layer (Expr-F.Pforall variable low high inner) h = scoped-Pforall variable low high inner h.0 h.1 h.2

    scoped-roll : (layer : Expr-F Expr) → Inside IsScoped layer → IsScoped (roll-Expr layer)
    scoped-roll layer h scope bound sort covers met is =
        ap (λ e. expr_in_scope (length names) e bound) (made-roll names layer)
        ∙ scoped-layer layer h scope bound sort covers (subst (Each (Known names)) (met-roll layer) met) (sym (sort-roll decls sorts layer scope) ∙ is)

    pub scoped : (e : Expr) → IsScoped e
    scoped e = all-layers IsScoped scoped-roll e
