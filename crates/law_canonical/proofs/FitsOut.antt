-- What fits, form by form: the shape of the value, and what its bytes are made of.
use Rattle.std.proofs.Common.{◌≡◌, sym, refl, subst, ℕ, suc, Bool, true, false, List, [], ◌∷◌, ◌++◌, length, Option, Some, None, slice_get}
use Rattle.pads_value.specs.declared.value.Val.{Val}
use Rattle.pads_value.specs.declared.value.Val.TheVariants as val
use Rattle.pads_expr.specs.Value.{Pairs, value}
use Rattle.pads_expr.specs.Worth.{worth_or_none}
use Rattle.pads_dispatch.specs.declared.base.Arg.{Arg}
use Rattle.pads_dispatch.specs.Texts.{SpellsBase}
use Rattle.pads_calc.specs.declared.decl.Decl.{Decl}
use Rattle.pads_calc.specs.declared.term.Arm.{Arm}
use Rattle.pads_calc.specs.declared.term.Case.{Case}
use Rattle.pads_calc.specs.declared.term.Part.{Part}
use Rattle.pads_calc.specs.declared.term.Seq.{Seq}
use Rattle.pads_calc.specs.declared.term.Term.{Term, Term-F, out-Term}
use Rattle.pads_calc.specs.declared.term.Term.TheVariants as term
use Rattle.pads_calc.specs.Arguments.{arguments, bound_to, is_true}
use Rattle.pads_calc.specs.Arrays.{size_at}
use Rattle.pads_calc.specs.Leaves.{computed_told}
use Rattle.pads_calc.specs.Structs.{bind}
use Rattle.law_canonical.specs.Fitting.{AtMost, Fits, FitParts, FitElements, FitBetween}
use Rattle.law_canonical.specs.Fitting as fit

module _ (decls : List Decl) where
  abbrev pub OutOf : ℕ → Term-F Term Arm Case Part Seq → Pairs → Val → List ℕ → Type 0
  OutOf depth Term-F.Unit env v bytes = (v ≡ val.Unit) × (bytes ≡ [])
  OutOf depth (Term-F.Base base args) env v bytes = (found : List Arg) × (arguments args env ≡ Some found) × SpellsBase base found v bytes
  OutOf depth (Term-F.Lit literal) env v bytes = (v ≡ val.Unit) × (bytes ≡ literal)
  OutOf depth Term-F.Eor env v bytes = (v ≡ val.Unit) × (bytes ≡ [])
  OutOf depth (Term-F.Struct parts) env v bytes = (values : List Val) × (v ≡ val.Tuple values) × FitParts decls depth parts env values bytes
  OutOf depth (Term-F.Alt arms) env v bytes =
      (number : ℕ) × (inner : Val) × (arm : Arm) × (v ≡ val.Branch number inner) × (slice_get arms number ≡ Some arm) × Fits decls depth arm.term env inner bytes
  OutOf depth (Term-F.Switch e cases) env v bytes =
      (number : ℕ) × (inner : Val) × (case : Case) × (v ≡ val.Branch number inner) × (slice_get cases number ≡ Some case) × Fits decls depth case.arm.term env inner bytes
  OutOf depth (Term-F.Guard inner binder condition) env v bytes = (is_true condition ((binder, v) ∷ env) ≡ true) × Fits decls depth inner env v bytes
  OutOf depth (Term-F.Seq s) env v bytes =
      (size : Option ℕ) × (values : List Val) × (v ≡ val.Array values) × (size_at s.size env ≡ Some size) × AtMost size (length values)
      × FitElements decls depth s true env values bytes
  OutOf depth (Term-F.Call number args) env v bytes =
      (less : ℕ) × (found : List Arg) × (decl : Decl) × (depth ≡ suc less) × (arguments args env ≡ Some found) × (slice_get decls number ≡ Some decl)
      × Fits decls less decl.body (bound_to decl.params found []) v bytes
  OutOf depth (Term-F.Compute e form) env v bytes = (computed_told form (worth_or_none (value e env)) ≡ Some v) × (bytes ≡ [])
  OutOf depth (Term-F.Absorb inner) env v bytes = (inside : Val) × (v ≡ val.Unit) × Fits decls depth inner env inside bytes
  OutOf depth (Term-F.Scan inner) env v bytes = Fits decls depth inner env v bytes

  at-layer : (depth : ℕ) (t : Term) (layer : Term-F Term Arm Case Part Seq) (env : Pairs) (v : Val) (bytes : List ℕ) → out-Term t ≡ layer
      → OutOf depth layer env v bytes → OutOf depth (out-Term t) env v bytes
  at-layer depth t layer env v bytes is h = subst (λ layer. OutOf depth layer env v bytes) (sym is) h

  pub fits-out : {depth : ℕ} {t : Term} {env : Pairs} {v : Val} {bytes : List ℕ} → Fits decls depth t env v bytes → OutOf depth (out-Term t) env v bytes
  fits-out {depth} {env = env} fit.unit = at-layer depth term.Unit Term-F.Unit env _ _ term.outs-Unit (refl, refl)
  fits-out {depth} {env = env} (fit.base base args {found = found} given spells) =
      at-layer depth (term.Base base args) (Term-F.Base base args) env _ _ (term.outs-Base base args) (found, given, spells)
  fits-out {depth} {env = env} (fit.literal {bytes = literal}) = at-layer depth (term.Lit literal) (Term-F.Lit literal) env _ _ (term.outs-Lit literal) (refl, refl)
  fits-out {depth} {env = env} fit.eor = at-layer depth term.Eor Term-F.Eor env _ _ term.outs-Eor (refl, refl)
  fits-out {depth} {env = env} (fit.struct {parts = parts} {values = values} all) =
      at-layer depth (term.Struct parts) (Term-F.Struct parts) env _ _ (term.outs-Struct parts) (values, refl, all)
  fits-out {depth} {env = env} (fit.alt arms number {arm = arm} {v = inner} there h) =
      at-layer depth (term.Alt arms) (Term-F.Alt arms) env _ _ (term.outs-Alt arms) (number, inner, arm, refl, there, h)
  fits-out {depth} {env = env} (fit.switch e cases number {case = case} {v = inner} there h) =
      at-layer depth (term.Switch e cases) (Term-F.Switch e cases) env _ _ (term.outs-Switch e cases) (number, inner, case, refl, there, h)
  fits-out {depth} {env = env} (fit.guard {inner = inner} binder condition holds h) =
      at-layer depth (term.Guard inner binder condition) (Term-F.Guard inner binder condition) env _ _ (term.outs-Guard inner binder condition) (holds, h)
  fits-out {depth} {env = env} (fit.seq {s = s} {size = size} {values = values} sized few all) =
      at-layer depth (term.Seq s) (Term-F.Seq s) env _ _ (term.outs-Seq s) (size, values, refl, sized, few, all)
  fits-out {env = env} (fit.call {depth = less} number args {found = found} {decl = decl} given there h) =
      at-layer (suc less) (term.Call number args) (Term-F.Call number args) env _ _ (term.outs-Call number args) (less, found, decl, refl, given, there, h)
  fits-out {depth} {env = env} (fit.compute e form is) =
      at-layer depth (term.Compute e form) (Term-F.Compute e form) env _ _ (term.outs-Compute e form) (is, refl)
  fits-out {depth} {env = env} (fit.absorb {inner = inner} {v = inside} h) =
      at-layer depth (term.Absorb inner) (Term-F.Absorb inner) env _ _ (term.outs-Absorb inner) (inside, refl, h)
  fits-out {depth} {env = env} (fit.scan {inner = inner} h) = at-layer depth (term.Scan inner) (Term-F.Scan inner) env _ _ (term.outs-Scan inner) h

  -- a struct's parts
  abbrev pub PartsOut : ℕ → List Part → Pairs → List Val → List ℕ → Type 0
  PartsOut depth [] env values bytes = (values ≡ []) × (bytes ≡ [])
  PartsOut depth (first ∷ parts) env values bytes =
      (v : Val) × (rest : List Val) × (front : List ℕ) × (back : List ℕ) × (values ≡ v ∷ rest) × (bytes ≡ front ++ back)
      × Fits decls depth first.term env v front × FitParts decls depth parts (bind first.name v env) rest back

  pub parts-out : {depth : ℕ} {parts : List Part} {env : Pairs} {values : List Val} {bytes : List ℕ} → FitParts decls depth parts env values bytes
      → PartsOut depth parts env values bytes
  parts-out fit.no_part = (refl, refl)
  parts-out (fit.part {v = v} {values = rest} {front = front} {back = back} here later) = (v, rest, front, back, refl, refl, here, later)

  -- an array's elements, by its values
  abbrev pub ElementsOut : ℕ → Seq → Bool → Pairs → List Val → List ℕ → Type 0
  ElementsOut depth s is_first env [] bytes = bytes ≡ []
  ElementsOut depth s is_first env (v ∷ values) bytes =
      (between : List ℕ) × (front : List ℕ) × (back : List ℕ) × (bytes ≡ between ++ (front ++ back)) × FitBetween decls depth s.sep is_first env between
      × Fits decls depth s.elem env v front × FitElements decls depth s false env values back

  pub elements-out : {depth : ℕ} {s : Seq} {is_first : Bool} {env : Pairs} {values : List Val} {bytes : List ℕ} → FitElements decls depth s is_first env values bytes
      → ElementsOut depth s is_first env values bytes
  elements-out fit.no_element = refl
  elements-out (fit.element {between = between} {front = front} {back = back} apart here later) = (between, front, back, refl, apart, here, later)

  -- before an element without a separator
  pub between-out : {depth : ℕ} {sep : Option Term} {is_first : Bool} {env : Pairs} {bytes : List ℕ} → FitBetween decls depth sep is_first env bytes → sep ≡ None → bytes ≡ []
  between-out fit.at_first none = refl
  between-out fit.unseparated none = refl
  between-out (fit.separated h) none = absurd cc
