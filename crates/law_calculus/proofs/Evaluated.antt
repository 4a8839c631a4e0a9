-- No expression that the calculus evaluates in a sorted module is ill-sorted.
use Rattle.std.proofs.Common.{◌≡◌, ◌≢◌, ◌∙◌, sym, ap, refl, subst, ℕ, zero, suc, Bool, true, false, ◌&&◌, ◌||◌, List, [], ◌∷◌, map, Option, Some, None, slice_get, option_map, inl, inr}
use Rattle.std.proofs.lemmas.Bool.{and_from, and_parts}
use Rattle.pads_value.specs.declared.value.Val.{Val}
use Rattle.pads_value.specs.declared.value.Val.TheVariants as val
use Rattle.pads_expr.specs.declared.expr.Expr.{Expr}
use Rattle.pads_expr.specs.Value.{Pairs, value}
use Rattle.pads_expr.specs.Worth.{Worth, Answer, Is, Absent, Ill, worth_or_none}
use Rattle.pads_expr.specs.Worth as worth
use Rattle.pads_dispatch.specs.declared.base.Arg.{Arg}
use Rattle.pads_dispatch.specs.declared.base.Arg.TheVariants as arg
use Rattle.pads_dispatch.specs.declared.base.Base.{Base}
use Rattle.pads_dispatch.specs.declared.base.Base.TheVariants as base
use Rattle.pads_calc.specs.declared.decl.Decl.{Decl}
use Rattle.pads_calc.specs.declared.term.Arm.{Arm}
use Rattle.pads_calc.specs.declared.term.Case.{Case}
use Rattle.pads_calc.specs.declared.term.Key.{Key}
use Rattle.pads_calc.specs.declared.term.Part.{Part}
use Rattle.pads_calc.specs.declared.term.ComputedForm.{ComputedForm}
use Rattle.pads_calc.specs.declared.term.ComputedForm.TheVariants as form
use Rattle.pads_calc.specs.declared.term.Seq.{Seq}
use Rattle.pads_calc.specs.declared.term.Term.{Term, Term-F, out-Term}
use Rattle.pads_calc.specs.Arguments.{arg_told, argument, arguments, and_more, bound_to, value_of_arg}
use Rattle.pads_calc.specs.Calculus.{meaning}
use Rattle.pads_calc.specs.Readings.{Subject}
use Rattle.pads_calc.specs.Structs.{bind}
use Rattle.pads_calc.proofs.Choices.{slice_get-map}
use Rattle.law_calculus.specs.Evaluated.{Moment, moment, IsOneOf, ReadsPart, ReadsBody, ReadsNext, IsOwn, IsConstraint, AreElements, IsSize, IsLast, Asks, Evaluates, asks, reads}
use Rattle.law_calculus.specs.Expressions.{SortScope, sort_in}
use Rattle.law_calculus.specs.Sorted.{Sorts, has, takes, no_argument, one_number, one_text, chooses, is_argument, are_arguments, calls, computes, size_fits, last_fits, sorts_in, fits, Standing, stands, bind_sort, parts_standing, standing_in, IsSorted, sorted, params_scope, are_parameters, AreSorted}
use Rattle.law_calculus.specs.Sorts.{Sort, Number, Text, Array, is_number, is_text, is_truth, sort_of}
use Rattle.law_calculus.specs.Terms.{terms_in}
use Rattle.law_calculus.specs.Values.{has_sort, each_element, HasSorts}
use Rattle.law_calculus.proofs.SortedTerms.{meaning-has}
use Rattle.law_calculus.proofs.Expressions.{bound-has, expression-has, never-ill}
use Rattle.law_calculus.proofs.Operators.{Has}
use Rattle.law_calculus.proofs.Values.{has-Num, has-Text, has-Array}
use Rattle.law_calculus.proofs.Worths.{number-is, text-is}

-- a sort that there is
abbrev IsThere : Option Sort → Type 0
IsThere o = (sort : Sort) × (o ≡ Some sort)

has-there : (p : Sort → Bool) (o : Option Sort) → has p o ≡ true → (sort : Sort) × (o ≡ Some sort) × (p sort ≡ true)
has-there p None h = cc
has-there p (Some sort) h = (sort, refl, h)

AreThere : List (Option Sort) → Type 0
AreThere sorts = (n : ℕ) (o : Option Sort) → slice_get sorts n ≡ Some o → IsThere o

none-there : (sorts : List (Option Sort)) → no_argument sorts ≡ true → AreThere sorts
unfolding AreThere
none-there [] h n o there = cc
none-there (first ∷ more) h n o there = cc

one-there : (p : Sort → Bool) (first : Option Sort) (more : List (Option Sort)) → (has p first && no_argument more) ≡ true → AreThere (first ∷ more)
unfolding AreThere
one-there p first more h zero o there =
    let found = has-there p first (and_parts (has p first) (no_argument more) h).0 in
    let same : first ≡ o = cc in
    (found.0, sym same ∙ found.1)
one-there p first more h (suc n) o there = none-there more (and_parts (has p first) (no_argument more) h).1 n o there

number-there : (sorts : List (Option Sort)) → one_number sorts ≡ true → AreThere sorts
number-there [] h = cc
number-there (first ∷ more) h = one-there is_number first more h

text-there : (sorts : List (Option Sort)) → one_text sorts ≡ true → AreThere sorts
text-there [] h = cc
text-there (first ∷ more) h = one-there is_text first more h

either-there : (a b : Bool) (P : Type 0) → (a || b) ≡ true → (a ≡ true → P) → (b ≡ true → P) → P
either-there true b P h f g = f refl
either-there false b P h f g = g h

takes-there : (b : Base) (sorts : List (Option Sort)) → takes b sorts ≡ true → AreThere sorts
takes-there (base.Int kind coding) sorts h = none-there sorts h
takes-there (base.IntFw kind coding) sorts h = number-there sorts h
takes-there (base.Bin kind order) sorts h = either-there (no_argument sorts) (one_number sorts) (AreThere sorts) h (none-there sorts) (number-there sorts)
takes-there (base.Until coding) sorts h = text-there sorts h
takes-there (base.UntilEor coding) sorts h = none-there sorts h
takes-there (base.Fixed coding) sorts h = number-there sorts h
takes-there (base.Class coding) sorts h = text-there sorts h
takes-there (base.Char coding) sorts h = none-there sorts h
takes-there (base.Ip coding) sorts h = none-there sorts h
takes-there (base.Enum coding labels) sorts h = none-there sorts h
takes-there (base.Packed signed) sorts h = number-there sorts h
takes-there (base.Zoned signed) sorts h = number-there sorts h

argument-there : (param : Sort) (o : Option Sort) → is_argument param o ≡ true → IsThere o
argument-there Number o h = let found = has-there is_number o h in (found.0, found.1)
argument-there Text o h = let found = has-there is_text o h in (found.0, found.1)
argument-there _ o h = cc

arguments-there : (params : List Sort) (sorts : List (Option Sort)) → are_arguments params sorts ≡ true → AreThere sorts
unfolding AreThere
arguments-there [] [] h n o there = cc
arguments-there [] (sort ∷ sorts) h n o there = cc
arguments-there (param ∷ params) [] h n o there = cc
arguments-there (param ∷ params) (sort ∷ sorts) h zero o there =
    let same : sort ≡ o = cc in
    subst IsThere same (argument-there param sort (and_parts (is_argument param sort) (are_arguments params sorts) h).0)
arguments-there (param ∷ params) (sort ∷ sorts) h (suc n) o there =
    arguments-there params sorts (and_parts (is_argument param sort) (are_arguments params sorts) h).1 n o there

calls-there : (params : Option (List Sort)) (sorts : List (Option Sort)) → calls params sorts ≡ true → AreThere sorts
calls-there None sorts h = cc
calls-there (Some params) sorts h = arguments-there params sorts h

chooses-there : (o : Option Sort) (keys : List (Option Key)) → chooses o keys ≡ true → IsThere o
chooses-there None keys h = cc
chooses-there (Some sort) keys h = (sort, refl)

computes-there : (f : ComputedForm) (o : Option Sort) → computes f o ≡ true → IsThere o
computes-there f None h = by_form f h
  where
    by_form : (f : ComputedForm) → computes f None ≡ true → IsThere None
    by_form (form.Range least greatest) h = cc
    by_form form.Text h = cc
computes-there f (Some sort) h = (sort, refl)

module _ (sorts : Sorts) (decls : List Decl) (are : AreSorted sorts decls) (subject : Subject) where
  -- an expression that has a sort, where names have sorts that their values have
  abbrev Sure : Expr → Pairs → Type 0
  Sure e env = (scope : SortScope) × (sort : Sort) × HasSorts sorts.declared scope env × (sort_in sorts.declared e scope ≡ Some sort)

  sure : (scope : SortScope) (e : Expr) (env other : Pairs) → HasSorts sorts.declared scope env → other ≡ env → IsThere (sort_in sorts.declared e scope) → Sure e other
  sure scope e env other h is there = (scope, there.0, subst (HasSorts sorts.declared scope) (sym is) h, there.1)

  own-sure : (scope : SortScope) (es : List Expr) (now : Moment) (e : Expr) (env : Pairs) → AreThere (sorts_in sorts es scope) → HasSorts sorts.declared scope now.env → IsOwn es now e env → Sure e env
  unfolding AreThere
  own-sure scope es now e env all h own =
      sure scope e now.env env h own.1
      (all own.0.0 (sort_in sorts.declared e scope)
      (slice_get-map (λ e. sort_in sorts.declared e scope) es own.0.0 ∙ ap (option_map (λ e. sort_in sorts.declared e scope)) own.0.1))

  single : (o : Option Sort) → IsThere o → AreThere (o ∷ [])
  unfolding AreThere
  single o h zero other there = let same : o ≡ other = cc in subst IsThere same h
  single o h (suc n) other there = cc

  constraint-sure : (scope : SortScope) (inner : Term) (binder : ℕ) (condition : Expr) (now : Moment) (e : Expr) (env : Pairs)
      → has is_truth (sort_in sorts.declared condition ((binder, sort_of sorts.declared inner) ∷ scope)) ≡ true
      → HasSorts sorts.declared scope now.env → IsConstraint subject decls inner binder condition now e env → Sure e env
  constraint-sure scope inner binder condition now e env fit h asked =
      let there = has-there is_truth (sort_in sorts.declared condition ((binder, sort_of sorts.declared inner) ∷ scope)) fit in
      subst (λ e. Sure e env) (sym asked.1)
      (sure ((binder, sort_of sorts.declared inner) ∷ scope) condition _ env
      (bound-has sorts.declared scope now.env binder (sort_of sorts.declared inner) _ h
      (meaning-has sorts.declared decls are.declared subject now.depth inner now.env now.place))
      asked.2 (there.0, there.1))

  size-sure : (scope : SortScope) (size : Option Expr) (now : Moment) (e : Expr) (env : Pairs) → size_fits sorts size scope ≡ true → HasSorts sorts.declared scope now.env
      → IsSize size now e env → Sure e env
  size-sure scope None now e env fit h asked = absurd asked
  size-sure scope (Some size) now e env fit h asked =
      let there = has-there is_number (sort_in sorts.declared size scope) fit in
      subst (λ e. Sure e env) (sym asked.0) (sure scope size now.env env h asked.1 (there.0, there.1))

  elements-have : (elem : Term) (now : Moment) (values : List Val) → AreElements subject decls elem now values
      → each_element sorts.declared (map (has_sort sorts.declared) values) (sort_of sorts.declared elem) ≡ true
  elements-have elem now [] all = refl
  elements-have elem now (value ∷ values) all =
      and_from (has_sort sorts.declared value (sort_of sorts.declared elem)) _
      (subst (λ value. has_sort sorts.declared value (sort_of sorts.declared elem) ≡ true) (sym all.0.1) (meaning-has sorts.declared decls are.declared subject now.depth elem now.env all.0.0))
      (elements-have elem now values all.1)

  last-sure : (scope : SortScope) (elem : Term) (elts : ℕ) (last : Option Expr) (now : Moment) (e : Expr) (env : Pairs) → last_fits sorts last ((elts, Array elem) ∷ scope) ≡ true
      → HasSorts sorts.declared scope now.env → IsLast subject decls elem elts last now e env → Sure e env
  last-sure scope elem elts None now e env fit h asked = absurd asked
  last-sure scope elem elts (Some last) now e env fit h asked =
      let there = has-there is_truth (sort_in sorts.declared last ((elts, Array elem) ∷ scope)) fit in
      subst (λ e. Sure e env) (sym asked.0)
      (sure ((elts, Array elem) ∷ scope) last _ env
      (bound-has sorts.declared scope now.env elts (Array elem) (val.Array asked.1) h (has-Array sorts.declared asked.1 elem ∙ elements-have elem now asked.1 asked.2))
      asked.3 (there.0, there.1))

  -- what a term evaluates itself
  asks-sure : (scope : SortScope) (layer : Term-F Term Arm Case Part Seq) (now : Moment) (e : Expr) (env : Pairs) → fits sorts scope layer ≡ true → HasSorts sorts.declared scope now.env
      → Asks subject decls layer now e env → Sure e env
  asks-sure scope Term-F.Unit now e env fit h asked = absurd asked
  asks-sure scope (Term-F.Base base args) now e env fit h asked = own-sure scope args now e env (takes-there base (sorts_in sorts args scope) fit) h asked
  asks-sure scope (Term-F.Lit literal) now e env fit h asked = absurd asked
  asks-sure scope Term-F.Eor now e env fit h asked = absurd asked
  asks-sure scope (Term-F.Struct parts) now e env fit h asked = absurd asked
  asks-sure scope (Term-F.Alt arms) now e env fit h asked = absurd asked
  asks-sure scope (Term-F.Switch chooser cases) now e env fit h asked =
      own-sure scope (chooser ∷ []) now e env (single (sort_in sorts.declared chooser scope) (chooses-there (sort_in sorts.declared chooser scope) (map (λ (case : Case). case.key) cases) fit)) h asked
  asks-sure scope (Term-F.Guard inner binder condition) now e env fit h asked = constraint-sure scope inner binder condition now e env fit h asked
  asks-sure scope (Term-F.Seq s) now e env fit h (inl asked) = size-sure scope s.size now e env (and_parts (size_fits sorts s.size scope) _ fit).0 h asked
  asks-sure scope (Term-F.Seq s) now e env fit h (inr asked) =
      last-sure scope s.elem s.elts s.last now e env (and_parts (size_fits sorts s.size scope) _ fit).1 h asked
  asks-sure scope (Term-F.Call number args) now e env fit h asked =
      own-sure scope args now e env (calls-there (slice_get sorts.params number) (sorts_in sorts args scope) fit) h asked
  asks-sure scope (Term-F.Compute computed form) now e env fit h asked =
      own-sure scope (computed ∷ []) now e env (single (sort_in sorts.declared computed scope) (computes-there form (sort_in sorts.declared computed scope) fit)) h asked
  asks-sure scope (Term-F.Absorb inner) now e env fit h asked = absurd asked
  asks-sure scope (Term-F.Scan inner) now e env fit h asked = absurd asked

  -- a moment at which a sorted term is read where names have sorts that their values have
  abbrev IsGood : Moment → Type 0
  IsGood now = (scope : SortScope) × IsSorted sorts scope now.term × HasSorts sorts.declared scope now.env

  bind-has : (scope : SortScope) (env : Pairs) (name : Option ℕ) (sort : Sort) (value : Val) → HasSorts sorts.declared scope env → has_sort sorts.declared value sort ≡ true
      → HasSorts sorts.declared (bind_sort name sort scope) (bind name value env)
  bind-has scope env None sort value h is = h
  bind-has scope env (Some name) sort value h is = bound-has sorts.declared scope env name sort value h is

  abbrev AllSorted : List Standing → Type 0
  AllSorted all = (n : ℕ) (inner : Standing) → slice_get all n ≡ Some inner → IsSorted sorts inner.scope inner.term

  part-good : (depth : ℕ) (parts : List Part) (scope : SortScope) (env : Pairs) (i : ℕ) (next : Moment) → AllSorted (parts_standing sorts.declared scope parts) → HasSorts sorts.declared scope env
      → ReadsPart subject decls depth parts env i next → IsGood next
  part-good depth [] scope env i next all h read = absurd read
  part-good depth (part ∷ parts) scope env i next all h (inl is) =
      subst IsGood (sym is) (scope, all 0 (stands scope part.term) refl, h)
  part-good depth (part ∷ parts) scope env i next all h (inr later) =
      let r = meaning subject decls depth part.term env i in
      part-good depth parts (bind_sort part.name (sort_of sorts.declared part.term) scope) (bind part.name r.value env) r.place next
      (λ n inner there. all (suc n) inner there)
      (bind-has scope env part.name (sort_of sorts.declared part.term) r.value h (meaning-has sorts.declared decls are.declared subject depth part.term env i))
      later

  term-good : (scope : SortScope) (terms : List Term) (now next : Moment) → AllSorted (map (stands scope) terms) → HasSorts sorts.declared scope now.env
      → (t : Term) (j : ℕ) → IsOneOf terms t → next ≡ moment now.depth t now.env j → IsGood next
  term-good scope terms now next all h t j there is =
      subst IsGood (sym is) (scope, all there.0 (stands scope t) (slice_get-map (stands scope) terms there.0 ∙ ap (option_map (stands scope)) there.1), h)

  -- the arguments of a call have their parameters' sorts
  told-number : (a : Answer) (first : Arg) → Has sorts.declared a Number → arg_told (worth_or_none a) ≡ Some first → has_sort sorts.declared (value_of_arg first) Number ≡ true
  told-number (Is w) first h is =
      let n = number-is sorts.declared w h in
      number-arg n.0 (rw n.1 at is)
    where
      number-arg : (n : _) → arg_told (Some (worth.Num n)) ≡ Some first → has_sort sorts.declared (value_of_arg first) Number ≡ true
      number-arg n is = let same : arg.Num n ≡ first = cc in rw (← same) (has-Num sorts.declared n)
  told-number Absent first h is = cc
  told-number Ill first h is = cc

  told-text : (a : Answer) (first : Arg) → Has sorts.declared a Text → arg_told (worth_or_none a) ≡ Some first → has_sort sorts.declared (value_of_arg first) Text ≡ true
  told-text (Is w) first h is =
      let text = text-is sorts.declared w h in
      text-arg text.0 (rw text.1 at is)
    where
      text-arg : (text : _) → arg_told (Some (worth.Text text)) ≡ Some first → has_sort sorts.declared (value_of_arg first) Text ≡ true
      text-arg text is = let same : arg.Text text ≡ first = cc in rw (← same) (has-Text sorts.declared text)
  told-text Absent first h is = cc
  told-text Ill first h is = cc

  number_sort : (sort : Sort) → is_number sort ≡ true → sort ≡ Number
  number_sort Number h = refl
  number_sort _ h = cc

  text_sort : (sort : Sort) → is_text sort ≡ true → sort ≡ Text
  text_sort Text h = refl
  text_sort _ h = cc

  argument-has : (scope : SortScope) (env : Pairs) (e : Expr) (param : Sort) (first : Arg) → HasSorts sorts.declared scope env → is_argument param (sort_in sorts.declared e scope) ≡ true
      → argument e env ≡ Some first → has_sort sorts.declared (value_of_arg first) param ≡ true
  argument-has scope env e Number first h fit is =
      let there = has-there is_number (sort_in sorts.declared e scope) fit in
      told-number (value e env) first (expression-has sorts.declared e scope env Number h (there.1 ∙ ap (λ s. Some s) (number_sort there.0 there.2))) is
  argument-has scope env e Text first h fit is =
      let there = has-there is_text (sort_in sorts.declared e scope) fit in
      told-text (value e env) first (expression-has sorts.declared e scope env Text h (there.1 ∙ ap (λ s. Some s) (text_sort there.0 there.2))) is
  argument-has scope env e _ first h fit is = cc

  both-told : (one : Option Arg) (more : Option (List Arg)) (found : List Arg) → and_more one more ≡ Some found
      → (first : Arg) × (rest : List Arg) × (one ≡ Some first) × (more ≡ Some rest) × (first ∷ rest ≡ found)
  both-told None more found is = cc
  both-told (Some first) None found is = cc
  both-told (Some first) (Some rest) found is = (first, rest, refl, refl, cc)

  params-have : (scope : SortScope) (env : Pairs) → HasSorts sorts.declared scope env → (names : List ℕ) (params : List Sort) (args : List Expr) (found : List Arg)
      → are_arguments params (sorts_in sorts args scope) ≡ true → are_parameters names params ≡ true → arguments args env ≡ Some found
      → (outer : SortScope) (inner : Pairs) → HasSorts sorts.declared outer inner → HasSorts sorts.declared (params_scope names params outer) (bound_to names found inner)
  params-have scope env h [] params args found fit as_many is outer inner so_far = so_far
  params-have scope env h (name ∷ names) [] args found fit as_many is outer inner so_far = cc
  params-have scope env h (name ∷ names) (param ∷ params) [] found fit as_many is outer inner so_far = cc
  params-have scope env h (name ∷ names) (param ∷ params) (e ∷ args) found fit as_many is outer inner so_far =
      let both = both-told (argument e env) (arguments args env) found is in
      rw (← both.4) (params-have scope env h names params args both.1
      (and_parts (is_argument param (sort_in sorts.declared e scope)) _ fit).1 (and_parts _ (are_parameters names params) as_many).1 both.3
      ((name, param) ∷ outer) ((name, value_of_arg both.0) ∷ inner)
      (bound-has sorts.declared outer inner name param (value_of_arg both.0) so_far
      (argument-has scope env e param both.0 h (and_parts (is_argument param (sort_in sorts.declared e scope)) _ fit).0 both.2)))

  nothing-bound : HasSorts sorts.declared [] []
  nothing-bound name sort value is there = cc

  body-good : (scope : SortScope) (number : ℕ) (args : List Expr) (now next : Moment) → calls (slice_get sorts.params number) (sorts_in sorts args scope) ≡ true → HasSorts sorts.declared scope now.env
      → ReadsBody decls number args now next → IsGood next
  body-good scope number args now next fit h (depth, decl, found, less, there, given, is) =
      let body = are.bodies number decl there in
      let arguments_fit : are_arguments body.0 (sorts_in sorts args scope) ≡ true = ap (λ params. calls params (sorts_in sorts args scope)) (sym body.1) ∙ fit in
      subst IsGood (sym is)
      (params_scope decl.params body.0 [], body.3, params-have scope now.env h decl.params body.0 args found arguments_fit body.2 given [] [] nothing-bound)

  next-good : (scope : SortScope) (layer : Term-F Term Arm Case Part Seq) (now next : Moment) → fits sorts scope layer ≡ true → AllSorted (standing_in sorts.declared scope layer)
      → HasSorts sorts.declared scope now.env → ReadsNext subject decls layer now next → IsGood next
  next-good scope Term-F.Unit now next fit all h read = absurd read
  next-good scope (Term-F.Base base args) now next fit all h read = absurd read
  next-good scope (Term-F.Lit literal) now next fit all h read = absurd read
  next-good scope Term-F.Eor now next fit all h read = absurd read
  next-good scope (Term-F.Struct parts) now next fit all h read = part-good now.depth parts scope now.env now.place next all h read
  next-good scope (Term-F.Alt arms) now next fit all h (t, there, is) = term-good scope (terms_in (Term-F.Alt arms)) now next all h t now.place there is
  next-good scope (Term-F.Switch e cases) now next fit all h (t, there, is) = term-good scope (terms_in (Term-F.Switch e cases)) now next all h t now.place there is
  next-good scope (Term-F.Guard inner binder condition) now next fit all h (t, there, is) = term-good scope (terms_in (Term-F.Guard inner binder condition)) now next all h t now.place there is
  next-good scope (Term-F.Seq s) now next fit all h (t, j, there, is) = term-good scope (terms_in (Term-F.Seq s)) now next all h t j there is
  next-good scope (Term-F.Call number args) now next fit all h read = body-good scope number args now next fit h read
  next-good scope (Term-F.Compute e form) now next fit all h read = absurd read
  next-good scope (Term-F.Absorb inner) now next fit all h (t, there, is) = term-good scope (terms_in (Term-F.Absorb inner)) now next all h t now.place there is
  next-good scope (Term-F.Scan inner) now next fit all h (t, j, there, is) = term-good scope (terms_in (Term-F.Scan inner)) now next all h t j there is

  step-good : (now next : Moment) → IsGood now → ReadsNext subject decls (out-Term now.term) now next → IsGood next
  step-good now next (scope, sorted fit all, h) read = next-good scope (out-Term now.term) now next fit all h read

  here-sure : (now : Moment) (e : Expr) (env : Pairs) → IsGood now → Asks subject decls (out-Term now.term) now e env → Sure e env
  here-sure now e env (scope, sorted fit all, h) asked = asks-sure scope (out-Term now.term) now e env fit h asked

  evaluated-sure : (now : Moment) (e : Expr) (env : Pairs) → IsGood now → Evaluates subject decls now e env → Sure e env
  evaluated-sure now e env good (asks asked) = here-sure now e env good asked
  evaluated-sure now e env good (reads {next = next} read later) = evaluated-sure next e env (step-good now next good read) later

  pub evaluated-never_ill : (scope : SortScope) (now : Moment) (e : Expr) (env : Pairs) → IsSorted sorts scope now.term → HasSorts sorts.declared scope now.env
      → Evaluates subject decls now e env → value e env ≢ Ill
  evaluated-never_ill scope now e env good h evaluated =
      let found = evaluated-sure now e env (scope, good, h) evaluated in
      never-ill sorts.declared e found.0 env found.1 found.2 found.3
