-- A masked module stays well-sorted: what is asked of a sort doesn't depend on the constraints
-- in the terms that it tells of.
use Rattle.std.proofs.Common.{◌≡◌, ◌∙◌, sym, ap, refl, subst, arith, ℕ, zero, suc, ◌≤◌, length, Bool, true, false, ◌&&◌, ◌||◌, if◌then◌else◌, List, [], ◌∷◌, ◌++◌, map, Option, None, Some, option_map, slice_get}
use Rattle.std.proofs.lemmas.List.{length-map}
use Rattle.std.specs.List.{list_all}
use Rattle.pads_expr.specs.declared.expr.Expr.{Expr}
use Rattle.pads_dispatch.specs.declared.base.Base.{Base}
use Rattle.pads_dispatch.specs.declared.base.Base.TheVariants as base
use Rattle.pads_calc.specs.declared.decl.Decl.{Decl}
use Rattle.pads_calc.specs.declared.term.Arm.{Arm}
use Rattle.pads_calc.specs.declared.term.Case.{Case}
use Rattle.pads_calc.specs.declared.term.Key.{Key}
use Rattle.pads_calc.specs.declared.term.Part.{Part}
use Rattle.pads_calc.specs.declared.term.ComputedForm.{ComputedForm}
use Rattle.pads_calc.specs.declared.term.ComputedForm.TheVariants as form
use Rattle.pads_calc.specs.declared.term.Seq.{Seq}
use Rattle.pads_calc.specs.declared.term.Term.{Term, Term-F, out-Term, roll-Term, roll-out-Term}
use Rattle.pads_calc.specs.declared.term.Term.TheVariants as term
use Rattle.pads_module.specs.Modules.{Contents}
use Rattle.law_calculus.specs.Expressions.{SortScope, sort_in}
use Rattle.law_calculus.specs.Sorted.{AreSorted, IsSorted, IsSortedDecl, Sorted, Sorts, Standing, are_arguments, are_parameters, bind_sort, calls, chooses, computes, fits, has, is_argument, is_number_key, is_text_key, last_fits, no_argument, one_number, one_text, params_scope, parts_standing, size_fits, sorted, sorts_in, standing_in, stands, takes}
use Rattle.law_calculus.specs.Sorts.{Sort, Number, Text, Truth, Nothing, Labels, Struct, Choice, Array, AreSorts, is_number, is_text, is_truth, sort_at, sort_of}
use Rattle.law_calculus.specs.Terms.{if_there, terms_in}
use Rattle.law_calculus.proofs.ModuleSorts.{made, made-are, made-like}
use Rattle.law_calculus.proofs.SortedTerms.{declared-is}
use Rattle.pads_erase.specs.declared.mask.Mask.{Mask}
use Rattle.pads_erase.specs.declared.mode.Mode.{Mode}
use Rattle.pads_erase.specs.Modes.{checks, mode_for}
use Rattle.pads_mask.specs.Masks.{masked, masked_decl, name_of}
use Rattle.pads_mask.specs.Unguarded.{unguarded}
use Rattle.pads_mask.proofs.ExpressionNorms.{expression-norm, norm_scope, normed}
use Rattle.pads_mask.proofs.Layers.{Layer, left-is}
use Rattle.pads_mask.proofs.Norms.{norm, norms, sort-norm}
use Rattle.pads_mask.proofs.Once.{once}
use Rattle.pads_mask.proofs.PlainMasks.{found-changed}
use Rattle.pads_mask.proofs.Rolls.{unguarded-Guard}

number-norm : (s : Sort) → is_number (norm s) ≡ is_number s
number-norm Number = refl
number-norm _ = refl

text-norm : (s : Sort) → is_text (norm s) ≡ is_text s
text-norm Text = refl
text-norm _ = refl

truth-norm : (s : Sort) → is_truth (norm s) ≡ is_truth s
truth-norm Truth = refl
truth-norm _ = refl

has-norm : (wanted : Sort → Bool) → ((s : Sort) → wanted (norm s) ≡ wanted s) → (o : Option Sort) → has wanted (normed o) ≡ has wanted o
has-norm wanted law None = refl
has-norm wanted law (Some s) = law s

none-norm : (sorts : List (Option Sort)) → no_argument (map normed sorts) ≡ no_argument sorts
none-norm [] = refl
none-norm (first ∷ more) = refl

one_number-norm : (sorts : List (Option Sort)) → one_number (map normed sorts) ≡ one_number sorts
one_number-norm [] = refl
one_number-norm (first ∷ more) = rw (has-norm is_number number-norm first, none-norm more) refl

one_text-norm : (sorts : List (Option Sort)) → one_text (map normed sorts) ≡ one_text sorts
one_text-norm [] = refl
one_text-norm (first ∷ more) = rw (has-norm is_text text-norm first, none-norm more) refl

takes-norm : (b : Base) (sorts : List (Option Sort)) → takes b (map normed sorts) ≡ takes b sorts
takes-norm (base.Int kind coding) sorts = none-norm sorts
takes-norm (base.IntFw kind coding) sorts = one_number-norm sorts
takes-norm (base.Bin kind order) sorts = rw (none-norm sorts, one_number-norm sorts) refl
takes-norm (base.Until coding) sorts = one_text-norm sorts
takes-norm (base.UntilEor coding) sorts = none-norm sorts
takes-norm (base.Fixed coding) sorts = one_number-norm sorts
takes-norm (base.Class coding) sorts = one_text-norm sorts
takes-norm (base.Char coding) sorts = none-norm sorts
takes-norm (base.Ip coding) sorts = none-norm sorts
takes-norm (base.Packed signed) sorts = one_number-norm sorts
takes-norm (base.Zoned signed) sorts = one_number-norm sorts
takes-norm (base.Enum coding labels) sorts = none-norm sorts

chooses-norm : (keys : List (Option Key)) (o : Option Sort) → chooses (normed o) keys ≡ chooses o keys
chooses-norm keys o = rw (has-norm is_number number-norm o, has-norm is_text text-norm o) refl

argument-norm : (param : Sort) (o : Option Sort) → is_argument param (normed o) ≡ is_argument param o
argument-norm Number o = has-norm is_number number-norm o
argument-norm Text o = has-norm is_text text-norm o
argument-norm _ o = refl

arguments-norm : (params : List Sort) (sorts : List (Option Sort)) → are_arguments params (map normed sorts) ≡ are_arguments params sorts
arguments-norm [] [] = refl
arguments-norm [] (sort ∷ sorts) = refl
arguments-norm (param ∷ params) [] = refl
arguments-norm (param ∷ params) (sort ∷ sorts) = rw (argument-norm param sort, arguments-norm params sorts) refl

calls-norm : (params : Option (List Sort)) (sorts : List (Option Sort)) → calls params (map normed sorts) ≡ calls params sorts
calls-norm None sorts = refl
calls-norm (Some params) sorts = arguments-norm params sorts

computes-norm : (f : ComputedForm) (o : Option Sort) → computes f (normed o) ≡ computes f o
computes-norm (form.Range least greatest) o = has-norm is_number number-norm o
computes-norm form.Text o = has-norm is_text text-norm o

-- what is told so doesn't tell more
by-norm : {A B : Type 0} (f : A → B) (n : A → A) → ((x : A) → f (n x) ≡ f x) → (x y : A) → n x ≡ n y → f x ≡ f y
by-norm f n law x y same = sym (law x) ∙ ap f same ∙ law y

-- two lists of sorts that tell the same
module _ (one other : List Sort) (same : norms other ≡ norms one) (params : List (List Sort)) where
  abbrev sorts_one : Sorts
  sorts_one = record { declared = one; params = params }

  abbrev sorts_other : Sorts
  sorts_other = record { declared = other; params = params }

  abbrev SameScope : SortScope → SortScope → Type 0
  SameScope later earlier = norm_scope later ≡ norm_scope earlier

  bound : (name : ℕ) (s t : Sort) (later earlier : SortScope) → norm s ≡ norm t → SameScope later earlier → SameScope ((name, s) ∷ later) ((name, t) ∷ earlier)
  bound name s t later earlier sort scope = ap (λ sort. (name, sort) ∷ norm_scope later) sort ∙ ap (λ scope. (name, norm t) ∷ scope) scope

  bound-name : (name : Option ℕ) (s t : Sort) (later earlier : SortScope) → norm s ≡ norm t → SameScope later earlier → SameScope (bind_sort name s later) (bind_sort name t earlier)
  bound-name None s t later earlier sort scope = scope
  bound-name (Some name) s t later earlier sort scope = bound name s t later earlier sort scope

  sort-same : (e : Expr) (later earlier : SortScope) → SameScope later earlier → normed (sort_in other e later) ≡ normed (sort_in one e earlier)
  sort-same e later earlier scope =
      sym (expression-norm other e later) ∙ ap (λ declared. sort_in declared e (norm_scope later)) same ∙ ap (sort_in (norms one) e) scope ∙ expression-norm one e earlier

  sorts-same : (es : List Expr) (later earlier : SortScope) → SameScope later earlier → map normed (sorts_in sorts_other es later) ≡ map normed (sorts_in sorts_one es earlier)
  sorts-same [] later earlier scope = refl
  sorts-same (e ∷ es) later earlier scope =
      ap (λ first. first ∷ map normed (sorts_in sorts_other es later)) (sort-same e later earlier scope)
      ∙ ap (λ rest. normed (sort_in one e earlier) ∷ rest) (sorts-same es later earlier scope)

  has-same : (wanted : Sort → Bool) → ((s : Sort) → wanted (norm s) ≡ wanted s) → (e : Expr) (later earlier : SortScope) → SameScope later earlier
      → has wanted (sort_in other e later) ≡ has wanted (sort_in one e earlier)
  has-same wanted law e later earlier scope = by-norm (has wanted) normed (has-norm wanted law) (sort_in other e later) (sort_in one e earlier) (sort-same e later earlier scope)

  size-same : (size : Option Expr) (later earlier : SortScope) → SameScope later earlier → size_fits sorts_other size later ≡ size_fits sorts_one size earlier
  size-same None later earlier scope = refl
  size-same (Some e) later earlier scope = has-same is_number number-norm e later earlier scope

  last-same : (last : Option Expr) (later earlier : SortScope) → SameScope later earlier → last_fits sorts_other last later ≡ last_fits sorts_one last earlier
  last-same None later earlier scope = refl
  last-same (Some e) later earlier scope = has-same is_truth truth-norm e later earlier scope

  -- terms that are changed so that only constraints go
  module _ (g : Term → Term) (bare : (t : Term) → unguarded (g t) ≡ unguarded t) where
    abbrev g_part : Part → Part
    g_part part = record { name = part.name; term = g part.term }

    abbrev g_arm : Arm → Arm
    g_arm arm = record { name = arm.name; term = g arm.term }

    abbrev g_case : Case → Case
    g_case case = record { key = case.key; arm = g_arm case.arm }

    abbrev g_seq : Seq → Seq
    g_seq s = record { elem = g s.elem; sep = option_map g s.sep; size = s.size; last = s.last; stop = option_map g s.stop; elts = s.elts }

    abbrev like : Layer → Layer
    like Term-F.Unit = Term-F.Unit
    like (Term-F.Base base args) = Term-F.Base base args
    like (Term-F.Lit literal) = Term-F.Lit literal
    like Term-F.Eor = Term-F.Eor
    like (Term-F.Struct parts) = Term-F.Struct (map g_part parts)
    like (Term-F.Alt arms) = Term-F.Alt (map g_arm arms)
    like (Term-F.Switch e cases) = Term-F.Switch e (map g_case cases)
    like (Term-F.Guard inner binder condition) = Term-F.Guard (g inner) binder condition
    like (Term-F.Seq s) = Term-F.Seq (g_seq s)
    like (Term-F.Call number args) = Term-F.Call number args
    like (Term-F.Compute e form) = Term-F.Compute e form
    like (Term-F.Absorb inner) = Term-F.Absorb (g inner)
    like (Term-F.Scan inner) = Term-F.Scan (g inner)

    sort-like : (t : Term) → norm (sort_of other (g t)) ≡ norm (sort_of one t)
    sort-like t =
        sym (sort-norm other (g t)) ∙ ap (sort_of (norms other)) (bare t) ∙ ap (λ declared. sort_of declared (unguarded t)) same ∙ sort-norm one t

    keys-like : (cases : List Case) → map (λ (case : Case). case.key) (map g_case cases) ≡ map (λ (case : Case). case.key) cases
    keys-like [] = refl
    keys-like (case ∷ cases) = ap (λ rest. case.key ∷ rest) (keys-like cases)

    fits-like : (later earlier : SortScope) → SameScope later earlier → (layer : Layer) → fits sorts_other later (like layer) ≡ fits sorts_one earlier layer
    fits-like later earlier scope Term-F.Unit = refl
    fits-like later earlier scope (Term-F.Base b args) =
        by-norm (takes b) (map normed) (takes-norm b) (sorts_in sorts_other args later) (sorts_in sorts_one args earlier) (sorts-same args later earlier scope)
    fits-like later earlier scope (Term-F.Lit literal) = refl
    fits-like later earlier scope Term-F.Eor = refl
    fits-like later earlier scope (Term-F.Struct parts) = refl
    fits-like later earlier scope (Term-F.Alt arms) = refl
    fits-like later earlier scope (Term-F.Switch e cases) =
        ap (chooses (sort_in other e later)) (keys-like cases)
        ∙ by-norm (λ o. chooses o (map (λ (case : Case). case.key) cases)) normed (chooses-norm (map (λ (case : Case). case.key) cases)) (sort_in other e later) (sort_in one e earlier)
        (sort-same e later earlier scope)
    fits-like later earlier scope (Term-F.Guard inner binder condition) =
        has-same is_truth truth-norm condition ((binder, sort_of other (g inner)) ∷ later) ((binder, sort_of one inner) ∷ earlier)
        (bound binder (sort_of other (g inner)) (sort_of one inner) later earlier (sort-like inner) scope)
    fits-like later earlier scope (Term-F.Seq s) =
        ap (λ front. front && last_fits sorts_other s.last ((s.elts, Array (g s.elem)) ∷ later)) (size-same s.size later earlier scope)
        ∙ ap (λ rest. size_fits sorts_one s.size earlier && rest)
        (last-same s.last ((s.elts, Array (g s.elem)) ∷ later) ((s.elts, Array s.elem) ∷ earlier)
        (bound s.elts (Array (g s.elem)) (Array s.elem) later earlier (ap Array (bare s.elem)) scope))
    fits-like later earlier scope (Term-F.Call number args) =
        by-norm (calls (slice_get params number)) (map normed) (calls-norm (slice_get params number)) (sorts_in sorts_other args later) (sorts_in sorts_one args earlier) (sorts-same args later earlier scope)
    fits-like later earlier scope (Term-F.Compute e f) =
        by-norm (computes f) normed (computes-norm f) (sort_in other e later) (sort_in one e earlier) (sort-same e later earlier scope)
    fits-like later earlier scope (Term-F.Absorb inner) = refl
    fits-like later earlier scope (Term-F.Scan inner) = refl

    -- of a term where it stands, whatever tells the same is bound there
    abbrev Stays : Standing → Type 0
    Stays inner = (later : SortScope) → SameScope later inner.scope → IsSorted sorts_other later (g inner.term)

    abbrev EachStays : List Standing → Type 0
    EachStays standing = (n : ℕ) (inner : Standing) → slice_get standing n ≡ Some inner → Stays inner

    abbrev EachSorted : List Standing → Type 0
    EachSorted standing = (n : ℕ) (inner : Standing) → slice_get standing n ≡ Some inner → IsSorted sorts_other inner.scope inner.term

    abbrev SortedThere : Standing → Type 0
    SortedThere inner = IsSorted sorts_other inner.scope inner.term

    terms-stay : (later earlier : SortScope) → SameScope later earlier → (terms : List Term) → EachStays (map (stands earlier) terms) → EachSorted (map (stands later) (map g terms))
    terms-stay later earlier scope [] all n inner there = cc
    terms-stay later earlier scope (t ∷ terms) all zero inner there =
        let e : stands later (g t) ≡ inner = cc in subst SortedThere e (all zero (stands earlier t) refl later scope)
    terms-stay later earlier scope (t ∷ terms) all (suc n) inner there = terms-stay later earlier scope terms (λ n. all (suc n)) n inner there

    parts-stay : (later earlier : SortScope) → SameScope later earlier → (parts : List Part) → EachStays (parts_standing one earlier parts)
        → EachSorted (parts_standing other later (map g_part parts))
    parts-stay later earlier scope [] all n inner there = cc
    parts-stay later earlier scope (part ∷ parts) all zero inner there =
        let e : stands later (g part.term) ≡ inner = cc in subst SortedThere e (all zero (stands earlier part.term) refl later scope)
    parts-stay later earlier scope (part ∷ parts) all (suc n) inner there =
        parts-stay (bind_sort part.name (sort_of other (g part.term)) later) (bind_sort part.name (sort_of one part.term) earlier)
        (bound-name part.name (sort_of other (g part.term)) (sort_of one part.term) later earlier (sort-like part.term) scope) parts (λ n. all (suc n)) n inner there

    part-likes : (arms : List Arm) → map (λ (arm : Arm). arm.term) (map g_arm arms) ≡ map g (map (λ (arm : Arm). arm.term) arms)
    part-likes [] = refl
    part-likes (arm ∷ arms) = ap (λ rest. g arm.term ∷ rest) (part-likes arms)

    case-likes : (cases : List Case) → map (λ (case : Case). case.arm.term) (map g_case cases) ≡ map g (map (λ (case : Case). case.arm.term) cases)
    case-likes [] = refl
    case-likes (case ∷ cases) = ap (λ rest. g case.arm.term ∷ rest) (case-likes cases)

    option-likes : (a b : Option Term) → (if_there (option_map g a) ++ if_there (option_map g b)) ≡ map g (if_there a ++ if_there b)
    option-likes None None = refl
    option-likes None (Some b) = refl
    option-likes (Some a) None = refl
    option-likes (Some a) (Some b) = refl

    others-stay : (later earlier : SortScope) → SameScope later earlier → (terms made : List Term) → made ≡ map g terms → EachStays (map (stands earlier) terms) → EachSorted (map (stands later) made)
    others-stay later earlier scope terms made is all = subst (λ made. EachSorted (map (stands later) made)) (sym is) (terms-stay later earlier scope terms all)

    standing-stays : (later earlier : SortScope) → SameScope later earlier → (layer : Layer) → EachStays (standing_in one earlier layer) → EachSorted (standing_in other later (like layer))
    standing-stays later earlier scope Term-F.Unit all = others-stay later earlier scope [] [] refl all
    standing-stays later earlier scope (Term-F.Base b args) all = others-stay later earlier scope [] [] refl all
    standing-stays later earlier scope (Term-F.Lit literal) all = others-stay later earlier scope [] [] refl all
    standing-stays later earlier scope Term-F.Eor all = others-stay later earlier scope [] [] refl all
    standing-stays later earlier scope (Term-F.Struct parts) all = parts-stay later earlier scope parts all
    standing-stays later earlier scope (Term-F.Alt arms) all = others-stay later earlier scope (terms_in (Term-F.Alt arms)) (terms_in (like (Term-F.Alt arms))) (part-likes arms) all
    standing-stays later earlier scope (Term-F.Switch e cases) all =
        others-stay later earlier scope (terms_in (Term-F.Switch e cases)) (terms_in (like (Term-F.Switch e cases))) (case-likes cases) all
    standing-stays later earlier scope (Term-F.Guard inner binder condition) all = others-stay later earlier scope (inner ∷ []) (g inner ∷ []) refl all
    standing-stays later earlier scope (Term-F.Seq s) all =
        others-stay later earlier scope (terms_in (Term-F.Seq s)) (terms_in (like (Term-F.Seq s))) (ap (λ rest. g s.elem ∷ rest) (option-likes s.sep s.stop)) all
    standing-stays later earlier scope (Term-F.Call number args) all = others-stay later earlier scope [] [] refl all
    standing-stays later earlier scope (Term-F.Compute e f) all = others-stay later earlier scope [] [] refl all
    standing-stays later earlier scope (Term-F.Absorb inner) all = others-stay later earlier scope (inner ∷ []) (g inner ∷ []) refl all
    standing-stays later earlier scope (Term-F.Scan inner) all = others-stay later earlier scope (inner ∷ []) (g inner ∷ []) refl all

    like-sorted : (layer : Layer) (made : Term) → out-Term made ≡ like layer → (later earlier : SortScope) → SameScope later earlier → fits sorts_one earlier layer ≡ true
        → EachStays (standing_in one earlier layer) → IsSorted sorts_other later made
    like-sorted layer made is later earlier scope here all =
        sorted (ap (fits sorts_other later) is ∙ fits-like later earlier scope layer ∙ here)
        (subst (λ layer. EachSorted (standing_in other later layer)) (sym is) (standing-stays later earlier scope layer all))

  -- a term that stays
  abbrev itself : Term → Term
  itself t = t

  is-itself : (t : Term) → unguarded (itself t) ≡ unguarded t
  is-itself t = refl

  each-itself : {A : Type 0} (f : A → A) → ((x : A) → f x ≡ x) → (xs : List A) → map f xs ≡ xs
  each-itself f is [] = refl
  each-itself f is (x ∷ xs) = ap (λ first. first ∷ map f xs) (is x) ∙ ap (λ rest. x ∷ rest) (each-itself f is xs)

  option-itself : (o : Option Term) → option_map itself o ≡ o
  option-itself None = refl
  option-itself (Some t) = refl

  abbrev with_terms : Seq → Option Term → Option Term → Seq
  with_terms s sep stop = record { elem = s.elem; sep = sep; size = s.size; last = s.last; stop = stop; elts = s.elts }

  like-itself : (layer : Layer) → layer ≡ like itself is-itself layer
  like-itself Term-F.Unit = refl
  like-itself (Term-F.Base b args) = refl
  like-itself (Term-F.Lit literal) = refl
  like-itself Term-F.Eor = refl
  like-itself (Term-F.Struct parts) = ap Term-F.Struct (sym (each-itself (g_part itself is-itself) (λ part. refl) parts))
  like-itself (Term-F.Alt arms) = ap Term-F.Alt (sym (each-itself (g_arm itself is-itself) (λ arm. refl) arms))
  like-itself (Term-F.Switch e cases) = ap (Term-F.Switch e) (sym (each-itself (g_case itself is-itself) (λ case. refl) cases))
  like-itself (Term-F.Guard inner binder condition) = refl
  like-itself (Term-F.Seq s) =
      ap (λ sep. Term-F.Seq (with_terms s sep s.stop)) (sym (option-itself s.sep)) ∙ ap (λ stop. Term-F.Seq (with_terms s (option_map itself s.sep) stop)) (sym (option-itself s.stop))
  like-itself (Term-F.Call number args) = refl
  like-itself (Term-F.Compute e f) = refl
  like-itself (Term-F.Absorb inner) = refl
  like-itself (Term-F.Scan inner) = refl

  stays-sorted : {earlier : SortScope} {t : Term} → IsSorted sorts_one earlier t → (later : SortScope) → SameScope later earlier → IsSorted sorts_other later t
  stays-sorted {earlier = earlier} {t = t} (sorted here all) later scope =
      like-sorted itself is-itself (out-Term t) t (like-itself (out-Term t)) later earlier scope here (λ n inner there later scope. stays-sorted (all n inner there) later scope)

  -- a term without its constraints
  layer-sorted : (layer : Layer) (later earlier : SortScope) → SameScope later earlier → fits sorts_one earlier layer ≡ true
      → EachStays unguarded once (standing_in one earlier layer) → IsSorted sorts_other later (unguarded (roll-Term layer))
  layer-sorted Term-F.Unit later earlier scope here all = like-sorted unguarded once Term-F.Unit _ (left-is Term-F.Unit) later earlier scope here all
  layer-sorted (Term-F.Base b args) later earlier scope here all = like-sorted unguarded once (Term-F.Base b args) _ (left-is (Term-F.Base b args)) later earlier scope here all
  layer-sorted (Term-F.Lit literal) later earlier scope here all = like-sorted unguarded once (Term-F.Lit literal) _ (left-is (Term-F.Lit literal)) later earlier scope here all
  layer-sorted Term-F.Eor later earlier scope here all = like-sorted unguarded once Term-F.Eor _ (left-is Term-F.Eor) later earlier scope here all
  layer-sorted (Term-F.Struct parts) later earlier scope here all = like-sorted unguarded once (Term-F.Struct parts) _ (left-is (Term-F.Struct parts)) later earlier scope here all
  layer-sorted (Term-F.Alt arms) later earlier scope here all = like-sorted unguarded once (Term-F.Alt arms) _ (left-is (Term-F.Alt arms)) later earlier scope here all
  layer-sorted (Term-F.Switch e cases) later earlier scope here all = like-sorted unguarded once (Term-F.Switch e cases) _ (left-is (Term-F.Switch e cases)) later earlier scope here all
  layer-sorted (Term-F.Guard inner binder condition) later earlier scope here all =
      subst (IsSorted sorts_other later) (sym (ap unguarded (term.rolls-Guard inner binder condition) ∙ unguarded-Guard inner binder condition))
      (all zero (stands earlier inner) refl later scope)
  layer-sorted (Term-F.Seq s) later earlier scope here all = like-sorted unguarded once (Term-F.Seq s) _ (left-is (Term-F.Seq s)) later earlier scope here all
  layer-sorted (Term-F.Call number args) later earlier scope here all = like-sorted unguarded once (Term-F.Call number args) _ (left-is (Term-F.Call number args)) later earlier scope here all
  layer-sorted (Term-F.Compute e f) later earlier scope here all = like-sorted unguarded once (Term-F.Compute e f) _ (left-is (Term-F.Compute e f)) later earlier scope here all
  layer-sorted (Term-F.Absorb inner) later earlier scope here all = like-sorted unguarded once (Term-F.Absorb inner) _ (left-is (Term-F.Absorb inner)) later earlier scope here all
  layer-sorted (Term-F.Scan inner) later earlier scope here all = like-sorted unguarded once (Term-F.Scan inner) _ (left-is (Term-F.Scan inner)) later earlier scope here all

  left-sorted : {earlier : SortScope} {t : Term} → IsSorted sorts_one earlier t → (later : SortScope) → SameScope later earlier → IsSorted sorts_other later (unguarded t)
  left-sorted {earlier = earlier} {t = t} (sorted here all) later scope =
      subst (λ t. IsSorted sorts_other later (unguarded t)) (roll-out-Term t)
      (layer-sorted (out-Term t) later earlier scope here (λ n inner there later scope. left-sorted (all n inner there) later scope))

  -- a body whose constraints are kept or not
  pub body-sorted : (check : Bool) (t : Term) (scope : SortScope) → IsSorted sorts_one scope t → IsSorted sorts_other scope (if check then t else unguarded t)
  body-sorted true t scope is = stays-sorted is scope refl
  body-sorted false t scope is = left-sorted is scope refl

-- lists of sorts that tell the same at each number
same-norms : (one other : List Sort) → length one ≡ length other → ((k : ℕ) → norm (sort_at one k) ≡ norm (sort_at other k)) → norms one ≡ norms other
same-norms [] [] size same = refl
same-norms [] (sort ∷ other) size same = cc
same-norms (sort ∷ one) [] size same = cc
same-norms (sort ∷ one) (first ∷ other) size same =
    ap (λ sort. sort ∷ norms one) (same 0) ∙ ap (λ rest. norm first ∷ rest) (same-norms one other (omega (arith, size)) (λ k. same (suc k)))

bare-body : (check : Bool) (t : Term) → unguarded (if check then t else unguarded t) ≡ unguarded t
bare-body true t = refl
bare-body false t = once t

module _ (m : Contents) (mask : Mask) where
  abbrev mode_of : Decl → Mode
  mode_of decl = mode_for mask (name_of m decl)

  -- what a masked body makes of the module's sorts tells what the declaration's sort tells
  masked-like : (sorts : Sorts) → AreSorts sorts.declared m.decls → (number : ℕ) (made : Decl) → slice_get (masked m mask).decls number ≡ Some made
      → norm (sort_of sorts.declared made.body) ≡ norm (sort_at sorts.declared number)
  masked-like sorts are number made there =
      let declared = sorts.declared in
      let from = found-changed (λ decl. masked_decl (mode_of decl) decl) m.decls number made there in
      let decl = from.0 in
      let body : norm (sort_of declared (masked_decl (mode_of decl) decl).body) ≡ norm (sort_of declared decl.body) =
      sym (sort-norm declared (masked_decl (mode_of decl) decl).body) ∙ ap (sort_of (norms declared)) (bare-body (checks (mode_of decl)) decl.body) ∙ sort-norm declared decl.body in
      subst (λ (made : Decl). norm (sort_of declared made.body) ≡ norm (sort_at declared number)) from.2
      (body ∙ ap norm (sym (declared-is declared m.decls are number decl from.1)))

  pub stays-sorted-module : Sorted m.decls → Sorted (masked m mask).decls
  stays-sorted-module (sorts, are) =
      let decls = (masked m mask).decls in
      let many : length sorts.declared ≡ length decls = ap length are.declared ∙ length-map m.decls (λ (decl : Decl). sort_of sorts.declared decl.body) ∙ sym (length-map m.decls (λ (decl : Decl). masked_decl (mode_of decl) decl)) in
      let within : length sorts.declared ≤ length decls = omega (arith, many) in
      let declared = made decls sorts.declared within in
      let found : AreSorts declared decls = made-are decls sorts.declared within in
      let size : length declared ≡ length sorts.declared = ap length found ∙ length-map decls (λ (decl : Decl). sort_of declared decl.body) ∙ sym many in
      let same : norms declared ≡ norms sorts.declared = same-norms declared sorts.declared size (made-like decls sorts.declared within norm (masked-like sorts are.declared)) in (
        record { declared = declared; params = sorts.params },
        record {
          declared = found;
          bodies = λ number decl there.
              let from = found-changed (λ decl. masked_decl (mode_of decl) decl) m.decls number decl there in
              let body = are.bodies number from.0 from.1 in
              subst (λ (decl : Decl). (params : List Sort) × (slice_get sorts.params number ≡ Some params) × (are_parameters decl.params params ≡ true)
              × IsSortedDecl (record { declared = declared; params = sorts.params }) decl params) from.2
              (body.0, body.1, body.2, body-sorted sorts.declared declared same sorts.params (checks (mode_of from.0)) from.0.body (params_scope from.0.params body.0 []) body.3);
        },
      )
