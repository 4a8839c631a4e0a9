-- The expression that is made of a well-sorted one has the sort that its own sort is in the module.
use Rattle.std.proofs.Common.{◌≡◌, ◌∙◌, sym, ap, refl, subst, ℕ, ℤ, Bool, true, false, cond, ◌==◌, nat_eq, List, ◌∷◌, ◌++◌, map, find, Option, Some, option_map, option_and_then, slice_get, append_assoc}
use lib.Pointwise.{pointwise}
use Rattle.pads_code.specs.declared.Coding.{Coding}
use Rattle.pads_expr.specs.declared.expr.Expr.{Expr as Made, Expr-F as Made-F}
use Rattle.pads_expr.specs.declared.expr.Expr.TheVariants as form_of
use Rattle.pads_rules.specs.declared.sort.Sort.{Sort}
use Rattle.pads_resolution.specs.declared.decl.Decl.{Decl}
use Rattle.pads_expr.specs.declared.expr.BinOp.{BinOp}
use Rattle.pads_resolution.specs.declared.expr.Expr.{Expr, Expr-F, roll-Expr, map-Expr}
use Rattle.pads_resolution.specs.declared.expr.NameUse.{NameUse}
use Rattle.pads_resolution.specs.declared.expr.NameUse.TheVariants as meaning
use Rattle.law_calculus.specs.Expressions as made
use Rattle.law_calculus.specs.Sorts.{Sort as TermSort, Number, Text, Truth, AreSorts}
use Rattle.law_calculus.proofs.Accepted.{sort_in-roll}
use Rattle.law_calculus.proofs.Expressions.{and_then-is}
use Rattle.pads_trans.specs.Terms.{decl_of}
use Rattle.pads_trans.specs.Expressions.{expr_of, expr_step as made_step, meaning_of}
use Rattle.pads_trans.specs.Met.{Met, in_expr, expr_met}
use Rattle.pads_trans.specs.Names.{Name, at_sign, number_of}
use Rattle.pads_trans.proofs.MetRolls.{met-roll}
use Rattle.law_descriptions.specs.Expressions.{SortScope, sort_in_scope, plainly, part_sort, length_sort, sort_in, expr_step, meaning_sort}
use Rattle.law_descriptions.specs.Sorts.{num, text, truth}
use Rattle.law_descriptions.specs.WellSorted.{AreSorts as AreSortsOf, Each, IsDecl}
use Rattle.law_descriptions.proofs.Lists.{each-left, each-right}
use Rattle.law_descriptions.proofs.Means.{Means}
use Rattle.law_descriptions.proofs.MeantOperators.{Gives, plain-is, binary-gives, minus-gives, not-gives, length-gives, forall-gives}
use Rattle.law_descriptions.proofs.MeantParts.{part-gives, branch-gives, choice-gives, element-gives}
use Rattle.law_descriptions.proofs.SortedNames.{Known, same-number}
use Rattle.law_descriptions.proofs.Scoped.{told-is}
use Rattle.law_descriptions.proofs.TypedTrees.{Inside, all-layers, sort-roll, made-roll}

-- the sorts of the forms of the module's expressions
module _ (declared : List TermSort) (bound : made.SortScope) where
  sort-Num : (number : ℤ) → made.sort_in declared (form_of.Num number) bound ≡ Some Number
  sort-Num number = ap (λ e. made.sort_in declared e bound) (sym (form_of.rolls-Num number)) ∙ sort_in-roll declared (Made-F.Num number) bound

  sort-Text : (points : List ℕ) → made.sort_in declared (form_of.Text points) bound ≡ Some Text
  sort-Text points = ap (λ e. made.sort_in declared e bound) (sym (form_of.rolls-Text points)) ∙ sort_in-roll declared (Made-F.Text points) bound

  sort-Truth : (value : Bool) → made.sort_in declared (form_of.Truth value) bound ≡ Some Truth
  sort-Truth value = ap (λ e. made.sort_in declared e bound) (sym (form_of.rolls-Truth value)) ∙ sort_in-roll declared (Made-F.Truth value) bound

  sort-Var : (name : ℕ) → made.sort_in declared (form_of.Var name) bound ≡ made.sort_named bound name
  sort-Var name = ap (λ e. made.sort_in declared e bound) (sym (form_of.rolls-Var name)) ∙ sort_in-roll declared (Made-F.Var name) bound

  sort-Part : (whole : Made) (number : ℕ) → made.sort_in declared (form_of.Part whole number) bound ≡ option_and_then (made.part_sort declared number) (made.sort_in declared whole bound)
  sort-Part whole number = ap (λ e. made.sort_in declared e bound) (sym (form_of.rolls-Part whole number)) ∙ sort_in-roll declared (Made-F.Part whole number) bound

  sort-Arm : (whole : Made) (number : ℕ) → made.sort_in declared (form_of.Arm whole number) bound ≡ option_and_then (made.branch_sort declared number) (made.sort_in declared whole bound)
  sort-Arm whole number = ap (λ e. made.sort_in declared e bound) (sym (form_of.rolls-Arm whole number)) ∙ sort_in-roll declared (Made-F.Arm whole number) bound

  sort-Elem : (whole index : Made) → made.sort_in declared (form_of.Elem whole index) bound
      ≡ option_and_then (λ a. option_and_then (made.element_sort declared a) (made.sort_in declared index bound)) (made.sort_in declared whole bound)
  sort-Elem whole index = ap (λ e. made.sort_in declared e bound) (sym (form_of.rolls-Elem whole index)) ∙ sort_in-roll declared (Made-F.Elem whole index) bound

  sort-IsArm : (whole : Made) (number : ℕ) → made.sort_in declared (form_of.IsArm whole number) bound ≡ option_and_then (made.chooses_sort number) (made.sort_in declared whole bound)
  sort-IsArm whole number = ap (λ e. made.sort_in declared e bound) (sym (form_of.rolls-IsArm whole number)) ∙ sort_in-roll declared (Made-F.IsArm whole number) bound

  sort-Len : (whole : Made) → made.sort_in declared (form_of.Len whole) bound ≡ option_and_then made.length_sort (made.sort_in declared whole bound)
  sort-Len whole = ap (λ e. made.sort_in declared e bound) (sym (form_of.rolls-Len whole)) ∙ sort_in-roll declared (Made-F.Len whole) bound

  sort-Neg : (operand : Made) → made.sort_in declared (form_of.Neg operand) bound ≡ option_and_then made.minus_sort (made.sort_in declared operand bound)
  sort-Neg operand = ap (λ e. made.sort_in declared e bound) (sym (form_of.rolls-Neg operand)) ∙ sort_in-roll declared (Made-F.Neg operand) bound

  sort-Not : (operand : Made) → made.sort_in declared (form_of.Not operand) bound ≡ option_and_then made.negation_sort (made.sort_in declared operand bound)
  sort-Not operand = ap (λ e. made.sort_in declared e bound) (sym (form_of.rolls-Not operand)) ∙ sort_in-roll declared (Made-F.Not operand) bound

  sort-Bin : (op : BinOp) (left right : Made) → made.sort_in declared (form_of.Bin op left right) bound
      ≡ option_and_then (λ a. option_and_then (made.operator_sort op a) (made.sort_in declared right bound)) (made.sort_in declared left bound)
  sort-Bin op left right = ap (λ e. made.sort_in declared e bound) (sym (form_of.rolls-Bin op left right)) ∙ sort_in-roll declared (Made-F.Bin op left right) bound

  sort-Forall : (name : ℕ) (low high inner : Made) → made.sort_in declared (form_of.Forall name low high inner) bound
      ≡ option_and_then
      (λ a. option_and_then (λ b. option_and_then (made.forall_sort a b) (made.sort_in declared inner ((name, Number) ∷ bound))) (made.sort_in declared high bound))
      (made.sort_in declared low bound)
  sort-Forall name low high inner =
      ap (λ e. made.sort_in declared e bound) (sym (form_of.rolls-Forall name low high inner)) ∙ sort_in-roll declared (Made-F.Forall name low high inner) bound

  -- what is given of a sort that there is
  gives-then : (f : TermSort → Option TermSort) (o : Option TermSort) (t : TermSort) (sort : Sort) → o ≡ Some t → Gives declared (f t) sort → Gives declared (option_and_then f o) sort
  gives-then f o t sort is given = (given.0, ap (option_and_then f) is ∙ given.1, given.2)

  gives-by : (o same : Option TermSort) (sort : Sort) → o ≡ same → Gives declared same sort → Gives declared o sort
  gives-by o same sort is given = (given.0, is ∙ given.1, given.2)

module _ (declared : List TermSort) (names : List Name) where
  -- each name in scope has its sort in the module
  abbrev pub ScopeMeans : SortScope → made.SortScope → Type 0
  ScopeMeans scope bound = (name : Name) (sort : Sort) → sort_in_scope scope name ≡ Some sort → Gives declared (made.sort_named bound (number_of names name)) sort

  more-by : (scope : SortScope) (bound : made.SortScope) (name other : Name) (sort found : Sort) (t : TermSort) (b : Bool)
      → Means declared sort t
      → ((found : Sort) → sort_in_scope scope other ≡ Some found → Gives declared (made.sort_named bound (number_of names other)) found)
      → option_map (λ (pair : Name × Sort). pair.1) (cond b (Some (name, sort)) (find (λ (pair : Name × Sort). pointwise nat_eq other pair.0) scope)) ≡ Some found
      → Gives declared (option_map (λ (pair : ℕ × TermSort). pair.1) (cond b (Some (number_of names name, t)) (find (λ (pair : ℕ × TermSort). pair.0 == number_of names other) bound))) found
  more-by scope bound name other sort found t true means before is =
      let same : sort ≡ found = cc in subst (Gives declared (Some t)) same (t, refl, means)
  more-by scope bound name other sort found t false means before is = before found is

  pub scope-more : (scope : SortScope) (bound : made.SortScope) (name : Name) (sort : Sort) (t : TermSort) → Known names name → Means declared sort t → ScopeMeans scope bound
      → ScopeMeans ((name, sort) ∷ scope) ((number_of names name, t) ∷ bound)
  scope-more scope bound name sort t known means before other found is =
      subst (λ b. Gives declared (option_map (λ (pair : ℕ × TermSort). pair.1)
      (cond b (Some (number_of names name, t)) (find (λ (pair : ℕ × TermSort). pair.0 == number_of names other) bound))) found)
      (sym (same-number names name other known))
      (more-by scope bound name other sort found t (pointwise nat_eq other name) means (before other) is)

module _ (declared : List TermSort) (names : List Name) (ambient : Coding) (decls : List Decl) (sorts : List Sort)
    (are : AreSorts declared (map (decl_of names ambient) decls)) (are_of : AreSortsOf sorts decls)
    (each : (number : ℕ) (d : Decl) → slice_get decls number ≡ Some d → IsDecl decls sorts number d) where
  abbrev pub IsMeant : Expr → Type 0
  IsMeant e = (scope : SortScope) (bound : made.SortScope) (sort : Sort) → ScopeMeans declared names scope bound → Each (Known names) (in_expr e) → sort_in decls sorts e scope ≡ Some sort
      → Gives declared (made.sort_in declared (expr_of names e) bound) sort

  abbrev Meant : Expr-F Expr → Type 0
  Meant layer = (scope : SortScope) (bound : made.SortScope) (sort : Sort) → ScopeMeans declared names scope bound → Each (Known names) (expr_met (map-Expr Expr Met in_expr layer))
      → expr_step decls sorts (map-Expr Expr (SortScope → Option Sort) (sort_in decls sorts) layer) scope ≡ Some sort
      → Gives declared (made.sort_in declared (made_step names (map-Expr Expr Made (expr_of names) layer)) bound) sort

  variable-meant : (scope : SortScope) (bound : made.SortScope) (name : Name) (sort : Sort) → ScopeMeans declared names scope bound → sort_in_scope scope name ≡ Some sort
      → Gives declared (made.sort_in declared (form_of.Var (number_of names name)) bound) sort
  variable-meant scope bound name sort means is =
      gives-by declared bound (made.sort_in declared (form_of.Var (number_of names name)) bound) (made.sort_named bound (number_of names name)) sort (sort-Var declared bound (number_of names name)) (means name sort is)

  -- a part of a struct, and a length
  part-meant : (bound : made.SortScope) (e : Made) (number : ℕ) (whole sort : Sort) → Gives declared (made.sort_in declared e bound) whole → plainly (part_sort decls sorts number) whole ≡ Some sort
      → Gives declared (made.sort_in declared (form_of.Part e number) bound) sort
  part-meant bound e number whole sort given is =
      let x = plain-is declared (part_sort decls sorts number) whole.optional whole.form given.0 sort given.2 is in
      gives-by declared bound (made.sort_in declared (form_of.Part e number) bound) (option_and_then (made.part_sort declared number) (made.sort_in declared e bound)) sort (sort-Part declared bound e number)
      (gives-then declared bound (made.part_sort declared number) (made.sort_in declared e bound) given.0 sort given.1
      (part-gives declared names ambient decls sorts are are_of each number whole.form given.0 sort x.0 x.1))

  length-meant : (bound : made.SortScope) (e : Made) (whole sort : Sort) → Gives declared (made.sort_in declared e bound) whole → plainly length_sort whole ≡ Some sort
      → Gives declared (made.sort_in declared (form_of.Len e) bound) sort
  length-meant bound e whole sort given is =
      gives-by declared bound (made.sort_in declared (form_of.Len e) bound) (option_and_then made.length_sort (made.sort_in declared e bound)) sort (sort-Len declared bound e)
      (gives-then declared bound made.length_sort (made.sort_in declared e bound) given.0 sort given.1 (length-gives declared whole given.0 sort given.2 is))

  meaning-meant : (scope : SortScope) (bound : made.SortScope) (means : NameUse) (sort : Sort) → ScopeMeans declared names scope bound → meaning_sort decls sorts means scope ≡ Some sort
      → Gives declared (made.sort_in declared (meaning_of names means) bound) sort
  unfolding meaning_of
  meaning-meant scope bound (meaning.Variable name) sort scoped is = variable-meant scope bound name sort scoped is
  meaning-meant scope bound meaning.Elts sort scoped is = variable-meant scope bound at_sign sort scoped is
  meaning-meant scope bound meaning.Length sort scoped is =
      let x = and_then-is (plainly length_sort) (sort_in_scope scope at_sign) sort is in
      length-meant bound (form_of.Var (number_of names at_sign)) x.0 sort (variable-meant scope bound at_sign x.0 scoped x.1) x.2
  meaning-meant scope bound (meaning.Field number) sort scoped is =
      let x = and_then-is (plainly (part_sort decls sorts number)) (sort_in_scope scope at_sign) sort is in
      part-meant bound (form_of.Var (number_of names at_sign)) number x.0 sort (variable-meant scope bound at_sign x.0 scoped x.1) x.2

  meant-Part : (whole : Expr) (number : ℕ) (told : Sort) → IsMeant whole → Meant (Expr-F.Part whole number told)
  meant-Part whole number told h scope bound sort scoped met is =
      let x = and_then-is (plainly (part_sort decls sorts number)) (sort_in decls sorts whole scope) sort (told-is told _ sort is) in
      part-meant bound (expr_of names whole) number x.0 sort (h scope bound x.0 scoped met x.1) x.2

  meant-Branch : (whole : Expr) (number : ℕ) (told : Sort) → IsMeant whole → Meant (Expr-F.Branch whole number told)
  meant-Branch whole number told h scope bound sort scoped met is =
      let x = and_then-is _ (sort_in decls sorts whole scope) sort (told-is told _ sort is) in
      let given = h scope bound x.0 scoped met x.1 in
      gives-by declared bound _ _ sort (sort-Arm declared bound (expr_of names whole) number)
      (gives-then declared bound (made.branch_sort declared number) (made.sort_in declared (expr_of names whole) bound) given.0 sort given.1
      (branch-gives declared names ambient decls sorts are are_of each number x.0 given.0 sort given.2 x.2))

  meant-Index : (array index : Expr) (told : Sort) → IsMeant array → IsMeant index → Meant (Expr-F.Index array index told)
  meant-Index array index told one other scope bound sort scoped met is =
      let x = and_then-is _ (sort_in decls sorts array scope) sort (told-is told _ sort is) in
      let y = and_then-is _ (sort_in decls sorts index scope) sort x.2 in
      let a = one scope bound x.0 scoped (each-left (Known names) (in_expr array) (in_expr index) met) x.1 in
      let b = other scope bound y.0 scoped (each-right (Known names) (in_expr array) (in_expr index) met) y.1 in
      gives-by declared bound _ _ sort (sort-Elem declared bound (expr_of names array) (expr_of names index))
      (gives-then declared bound (λ a. option_and_then (made.element_sort declared a) (made.sort_in declared (expr_of names index) bound)) (made.sort_in declared (expr_of names array) bound) a.0 sort a.1
      (gives-then declared bound (made.element_sort declared a.0) (made.sort_in declared (expr_of names index) bound) b.0 sort b.1
      (element-gives declared names ambient decls sorts are are_of each x.0 y.0 a.0 b.0 sort a.2 b.2 y.2)))

  meant-Pis : (value : Expr) (number : ℕ) → IsMeant value → Meant (Expr-F.Pis value number)
  meant-Pis value number h scope bound sort scoped met is =
      let x = and_then-is _ (sort_in decls sorts value scope) sort is in
      let given = h scope bound x.0 scoped met x.1 in
      gives-by declared bound _ _ sort (sort-IsArm declared bound (expr_of names value) number)
      (gives-then declared bound (made.chooses_sort number) (made.sort_in declared (expr_of names value) bound) given.0 sort given.1
      (choice-gives declared names ambient decls sorts are are_of each number x.0 given.0 sort given.2 x.2))

  meant-Plen : (value : Expr) → IsMeant value → Meant (Expr-F.Plen value)
  meant-Plen value h scope bound sort scoped met is =
      let x = and_then-is (plainly length_sort) (sort_in decls sorts value scope) sort is in
      length-meant bound (expr_of names value) x.0 sort (h scope bound x.0 scoped met x.1) x.2

  meant-Minus : (operand : Expr) → IsMeant operand → Meant (Expr-F.Minus operand)
  meant-Minus operand h scope bound sort scoped met is =
      let x = and_then-is _ (sort_in decls sorts operand scope) sort is in
      let given = h scope bound x.0 scoped met x.1 in
      gives-by declared bound _ _ sort (sort-Neg declared bound (expr_of names operand))
      (gives-then declared bound made.minus_sort (made.sort_in declared (expr_of names operand) bound) given.0 sort given.1 (minus-gives declared x.0 given.0 sort given.2 x.2))

  meant-Not : (operand : Expr) → IsMeant operand → Meant (Expr-F.Not operand)
  meant-Not operand h scope bound sort scoped met is =
      let x = and_then-is _ (sort_in decls sorts operand scope) sort is in
      let given = h scope bound x.0 scoped met x.1 in
      gives-by declared bound _ _ sort (sort-Not declared bound (expr_of names operand))
      (gives-then declared bound made.negation_sort (made.sort_in declared (expr_of names operand) bound) given.0 sort given.1 (not-gives declared x.0 given.0 sort given.2 x.2))

  meant-Binary : (op : BinOp) (left right : Expr) → IsMeant left → IsMeant right → Meant (Expr-F.Binary op left right)
  meant-Binary op left right one other scope bound sort scoped met is =
      let x = and_then-is _ (sort_in decls sorts left scope) sort is in
      let y = and_then-is _ (sort_in decls sorts right scope) sort x.2 in
      let a = one scope bound x.0 scoped (each-left (Known names) (in_expr left) (in_expr right) met) x.1 in
      let b = other scope bound y.0 scoped (each-right (Known names) (in_expr left) (in_expr right) met) y.1 in
      gives-by declared bound _ _ sort (sort-Bin declared bound op (expr_of names left) (expr_of names right))
      (gives-then declared bound (λ a. option_and_then (made.operator_sort op a) (made.sort_in declared (expr_of names right) bound)) (made.sort_in declared (expr_of names left) bound) a.0 sort a.1
      (gives-then declared bound (made.operator_sort op a.0) (made.sort_in declared (expr_of names right) bound) b.0 sort b.1
      (binary-gives declared op x.0 y.0 a.0 b.0 sort a.2 b.2 y.2)))

  meant-Pforall : (variable : Name) (low high inner : Expr) → IsMeant low → IsMeant high → IsMeant inner → Meant (Expr-F.Pforall variable low high inner)
  meant-Pforall variable low high inner one other law scope bound sort scoped met' is =
      let x = and_then-is _ (sort_in decls sorts low scope) sort is in
      let y = and_then-is _ (sort_in decls sorts high scope) sort x.2 in
      let z = and_then-is _ (sort_in decls sorts inner ((variable, num) ∷ scope)) sort y.2 in
      let n = number_of names variable in
      let met : Each (Known names) (in_expr low ++ (in_expr high ++ in_expr inner)) =
      subst (Each (Known names)) (append_assoc (in_expr low) (in_expr high) (in_expr inner)) met'.1 in
      let later = each-right (Known names) (in_expr low) (in_expr high ++ in_expr inner) met in
      let a = one scope bound x.0 scoped (each-left (Known names) (in_expr low) (in_expr high ++ in_expr inner) met) x.1 in
      let b = other scope bound y.0 scoped (each-left (Known names) (in_expr high) (in_expr inner) later) y.1 in
      let c = law ((variable, num) ∷ scope) ((n, Number) ∷ bound) z.0 (scope-more declared names scope bound variable num Number met'.0 refl scoped)
      (each-right (Known names) (in_expr high) (in_expr inner) later) z.1 in
      gives-by declared bound _ _ sort (sort-Forall declared bound n (expr_of names low) (expr_of names high) (expr_of names inner))
      (gives-then declared bound (λ a. option_and_then (λ b. option_and_then (made.forall_sort a b) (made.sort_in declared (expr_of names inner) ((n, Number) ∷ bound))) (made.sort_in declared (expr_of names high) bound))
      (made.sort_in declared (expr_of names low) bound) a.0 sort a.1
      (gives-then declared bound (λ b. option_and_then (made.forall_sort a.0 b) (made.sort_in declared (expr_of names inner) ((n, Number) ∷ bound))) (made.sort_in declared (expr_of names high) bound) b.0 sort b.1
      (gives-then declared bound (made.forall_sort a.0 b.0) (made.sort_in declared (expr_of names inner) ((n, Number) ∷ bound)) c.0 sort c.1
      (forall-gives declared x.0 y.0 z.0 a.0 b.0 c.0 sort a.2 b.2 c.2 z.2))))

  meant-layer : (layer : Expr-F Expr) → Inside IsMeant layer → Meant layer
  meant-layer (Expr-F.Number number) h = λ scope bound sort scoped met is.
      let same : num ≡ sort = cc in subst (Gives declared (made.sort_in declared (form_of.Num number) bound)) same (Number, sort-Num declared bound number, refl)
  meant-layer (Expr-F.Word points) h = λ scope bound sort scoped met is.
      let same : text ≡ sort = cc in subst (Gives declared (made.sort_in declared (form_of.Text points) bound)) same (Text, sort-Text declared bound points, refl)
  meant-layer (Expr-F.Truth value) h = λ scope bound sort scoped met is.
      let same : truth ≡ sort = cc in subst (Gives declared (made.sort_in declared (form_of.Truth value) bound)) same (Truth, sort-Truth declared bound value, refl)
  meant-layer (Expr-F.Name means told) h = λ scope bound sort scoped met is. meaning-meant scope bound means sort scoped (told-is told _ sort is)
  meant-layer (Expr-F.Part whole number told) h = meant-Part whole number told h
  meant-layer (Expr-F.Branch whole number told) h = meant-Branch whole number told h
  meant-layer (Expr-F.Index array index told) h = meant-Index array index told h.0 h.1
  meant-layer (Expr-F.Pis value number) h = meant-Pis value number h
  meant-layer (Expr-F.Plen value) h = meant-Plen value h
  meant-layer (Expr-F.Minus operand) h = meant-Minus operand h
  meant-layer (Expr-F.Not operand) h = meant-Not operand h
  meant-layer (Expr-F.Binary op left right) h = meant-Binary op left right h.0 h.1
  meant-layer (Expr-F.Pforall variable low high inner) h = meant-Pforall variable low high inner h.0 h.1 h.2

  meant-roll : (layer : Expr-F Expr) → Inside IsMeant layer → IsMeant (roll-Expr layer)
  meant-roll layer h scope bound sort scoped met is =
      gives-by declared bound (made.sort_in declared (expr_of names (roll-Expr layer)) bound) (made.sort_in declared (made_step names (map-Expr Expr Made (expr_of names) layer)) bound) sort
      (ap (λ e. made.sort_in declared e bound) (made-roll names layer))
      (meant-layer layer h scope bound sort scoped (subst (Each (Known names)) (met-roll layer) met) (sym (sort-roll decls sorts layer scope) ∙ is))

  pub meant : (e : Expr) → IsMeant e
  meant e = all-layers IsMeant meant-roll e
