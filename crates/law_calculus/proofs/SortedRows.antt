-- What holds of the record's row: its value has its type's sort, and nothing ill-sorted is evaluated.
use Rattle.std.proofs.Common.{◌≡◌, ◌≢◌, ◌∙◌, sym, ap, refl, subst, ℕ, true, List, [], Some, slice_get}
use Rattle.pads_value.specs.Cuts.{Cut}
use Rattle.pads_value.specs.declared.frame.Mark.{Mark}
use Rattle.pads_value.specs.declared.frame.Mark.TheVariants as mark
use Rattle.pads_expr.specs.declared.expr.Expr.{Expr}
use Rattle.pads_expr.specs.Value.{Pairs, value}
use Rattle.pads_expr.specs.Worth.{Ill}
use Rattle.pads_calc.specs.declared.decl.Decl.{Decl}
use Rattle.pads_calc.specs.declared.decl.Shape.{Shape}
use Rattle.pads_calc.specs.declared.reading.Reading.{Reading}
use Rattle.pads_calc.specs.declared.term.Term.{Term-F, out-Term}
use Rattle.pads_calc.specs.declared.term.Term.TheVariants as term
use Rattle.pads_calc.specs.Arguments.{bound_to}
use Rattle.pads_calc.specs.Readings.{Subject}
use Rattle.pads_calc.specs.Rows.{deepest, type_of, body_reading, kept_reading, row_by, row_of, subject_of_cut}
use Rattle.pads_calc.specs.Skeletons.{keepings_of}
use Rattle.pads_calc.proofs.Bindings.{bound-none}
use Rattle.law_calculus.specs.Evaluated.{Moment, moment, IsOwn, ReadsBody, ReadsNext, Asks, Evaluates, asks, reads}
use Rattle.law_calculus.specs.Expressions.{SortScope}
use Rattle.law_calculus.specs.Sorted.{Sorts, AreSorted, IsSorted, params_scope}
use Rattle.law_calculus.specs.Sorts.{Sort, sort_at, AreSorts}
use Rattle.law_calculus.specs.Values.{has_sort, HasSorts}
use Rattle.law_calculus.proofs.ErasedSorts.{erased-has}
use Rattle.law_calculus.proofs.SortedTerms.{caller-has}
use Rattle.law_calculus.proofs.Evaluated.{evaluated-never_ill}
use Rattle.law_calculus.proofs.Layers.{out-Call}
use Rattle.law_calculus.proofs.Values.{has-Missing}

module _ (declared : List Sort) (decls : List Decl) (are : AreSorts declared decls) where
  row_by-has : (m : Mark) (number : ℕ) (cut : Cut) (r : Reading) (sort : Sort) → has_sort declared r.value sort ≡ true → has_sort declared (row_by m number cut r).value sort ≡ true
  row_by-has mark.Plain number cut r sort h = h
  row_by-has mark.Short number cut r sort h = h
  row_by-has mark.Long number cut r sort h = has-Missing declared sort
  row_by-has mark.Broken number cut r sort h = has-Missing declared sort

  pub row-has : (shape : Shape) (scan number : ℕ) (cut : Cut) → has_sort declared (row_of decls shape scan number cut).value (sort_at declared (type_of shape number)) ≡ true
  row-has shape scan number cut =
      row_by-has cut.mark number cut (kept_reading decls scan (type_of shape number) cut) (sort_at declared (type_of shape number))
      (erased-has declared (keepings_of decls) deepest (type_of shape number) (body_reading decls scan (type_of shape number) cut).value (sort_at declared (type_of shape number))
      (caller-has declared decls are (subject_of_cut scan cut) deepest (type_of shape number) [] [] 0))

module _ (sorts : Sorts) (decls : List Decl) (are : AreSorted sorts decls) (subject : Subject) where
  -- where nothing is bound
  nothing-bound : (scope : SortScope) → HasSorts sorts.declared scope []
  nothing-bound scope name sort value is there = cc

  body-never_ill : (depth number i : ℕ) (next : Moment) (e : Expr) (env : Pairs) → ReadsBody decls number [] (moment depth (term.Call number []) [] i) next
      → Evaluates subject decls next e env → value e env ≢ Ill
  body-never_ill depth number i next e env (inner, decl, found, less, there, given, is) evaluated =
      let body = are.bodies number decl there in
      let none : [] ≡ found = cc in
      let empty : next.env ≡ [] = ap (λ (next : Moment). next.env) is ∙ ap (λ found. bound_to decl.params found []) (sym none) ∙ bound-none decl.params [] in
      let term_is : next.term ≡ decl.body = ap (λ (next : Moment). next.term) is in
      evaluated-never_ill sorts decls are subject (params_scope decl.params body.0 []) next e env
      (subst (IsSorted sorts (params_scope decl.params body.0 [])) (sym term_is) body.3)
      (subst (HasSorts sorts.declared (params_scope decl.params body.0 [])) (sym empty) (nothing-bound (params_scope decl.params body.0 [])))
      evaluated

  no-argument : (e : Expr) (n : ℕ) → slice_get {X = Expr} [] n ≡ Some e → ⊥
  no-argument e n there = cc

  call-never_ill : (now : Moment) (e : Expr) (env : Pairs) (depth number i : ℕ) → now ≡ moment depth (term.Call number []) [] i → Evaluates subject decls now e env → value e env ≢ Ill
  call-never_ill now e env depth number i is (asks asked) =
      let layer : out-Term now.term ≡ Term-F.Call number [] = ap (λ (now : Moment). out-Term now.term) is ∙ out-Call number [] in
      let own : IsOwn [] now e env = subst (λ layer. Asks subject decls layer now e env) layer asked in
      absurd (no-argument e own.0.0 own.0.1)
  call-never_ill now e env depth number i is (reads {next = next} read later) =
      let layer : out-Term now.term ≡ Term-F.Call number [] = ap (λ (now : Moment). out-Term now.term) is ∙ out-Call number [] in
      let body : ReadsBody decls number [] now next = subst (λ layer. ReadsNext subject decls layer now next) layer read in
      body-never_ill depth number i next e env (subst (λ now. ReadsBody decls number [] now next) is body) later

  pub row-never_ill : (depth number i : ℕ) (e : Expr) (env : Pairs) → Evaluates subject decls (moment depth (term.Call number []) [] i) e env → value e env ≢ Ill
  row-never_ill depth number i e env evaluated = call-never_ill (moment depth (term.Call number []) [] i) e env depth number i refl evaluated
