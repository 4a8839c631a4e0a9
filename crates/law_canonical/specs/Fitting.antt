-- Which bytes a value may stand for as its term has it: without a place, a descriptor or an order of
-- trying. A struct's bytes are those of its parts behind each other, and an array's those of its elements
-- and of the separators between them, at most as many elements as the size.
use Rattle.std.specs.Prelude.{◌≡◌, ℕ, suc, ◌≤◌, Bool, true, false, List, [], ◌∷◌, ◌++◌, length, Option, Some, None, slice_get, ⊤}
use Rattle.pads_value.specs.declared.value.Val.{Val}
use Rattle.pads_value.specs.declared.value.Val.TheVariants as val
use Rattle.pads_expr.specs.declared.expr.Expr.{Expr}
use Rattle.pads_expr.specs.Value.{Pairs, value}
use Rattle.pads_expr.specs.Worth.{worth_or_none}
use Rattle.pads_dispatch.specs.declared.base.Arg.{Arg}
use Rattle.pads_dispatch.specs.declared.base.Base.{Base}
use Rattle.pads_dispatch.specs.Texts.{SpellsBase}
use Rattle.pads_calc.specs.declared.decl.Decl.{Decl}
use Rattle.pads_calc.specs.declared.term.Arm.{Arm}
use Rattle.pads_calc.specs.declared.term.Case.{Case}
use Rattle.pads_calc.specs.declared.term.Part.{Part}
use Rattle.pads_calc.specs.declared.term.ComputedForm.{ComputedForm}
use Rattle.pads_calc.specs.declared.term.Seq.{Seq}
use Rattle.pads_calc.specs.declared.term.Term.{Term}
use Rattle.pads_calc.specs.declared.term.Term.TheVariants as term
use Rattle.pads_calc.specs.Arguments.{arguments, bound_to, is_true}
use Rattle.pads_calc.specs.Arrays.{size_at}
use Rattle.pads_calc.specs.Leaves.{computed_told}
use Rattle.pads_calc.specs.Rows.{deepest}
use Rattle.pads_calc.specs.Structs.{bind}

-- no more than the size, where there is one
abbrev pub AtMost : Option ℕ → ℕ → Type 0
AtMost None count = ⊤
AtMost (Some size) count = count ≤ size

mutual
  -- the bytes of a term's value, in an environment, inside of which calls may be nested so deep
  pub data Fits (decls : List Decl) : ℕ → Term → Pairs → Val → List ℕ → Type 0 where
    unit : {depth : ℕ} {env : Pairs} → Fits decls depth term.Unit env val.Unit []
    base : {depth : ℕ} (base : Base) (args : List Expr) {found : List Arg} {env : Pairs} {v : Val} {bytes : List ℕ}
        → arguments args env ≡ Some found → SpellsBase base found v bytes → Fits decls depth (term.Base base args) env v bytes
    literal : {depth : ℕ} {bytes : List ℕ} {env : Pairs} → Fits decls depth (term.Lit bytes) env val.Unit bytes
    eor : {depth : ℕ} {env : Pairs} → Fits decls depth term.Eor env val.Unit []
    struct : {depth : ℕ} {parts : List Part} {env : Pairs} {values : List Val} {bytes : List ℕ}
        → FitParts decls depth parts env values bytes → Fits decls depth (term.Struct parts) env (val.Tuple values) bytes
    alt : {depth : ℕ} (arms : List Arm) (number : ℕ) {arm : Arm} {env : Pairs} {v : Val} {bytes : List ℕ}
        → slice_get arms number ≡ Some arm → Fits decls depth arm.term env v bytes → Fits decls depth (term.Alt arms) env (val.Branch number v) bytes
    switch : {depth : ℕ} (e : Expr) (cases : List Case) (number : ℕ) {case : Case} {env : Pairs} {v : Val} {bytes : List ℕ}
        → slice_get cases number ≡ Some case → Fits decls depth case.arm.term env v bytes → Fits decls depth (term.Switch e cases) env (val.Branch number v) bytes
    guard : {depth : ℕ} {inner : Term} (binder : ℕ) (condition : Expr) {env : Pairs} {v : Val} {bytes : List ℕ}
        → is_true condition ((binder, v) ∷ env) ≡ true → Fits decls depth inner env v bytes → Fits decls depth (term.Guard inner binder condition) env v bytes
    seq : {depth : ℕ} {s : Seq} {size : Option ℕ} {env : Pairs} {values : List Val} {bytes : List ℕ}
        → size_at s.size env ≡ Some size → AtMost size (length values) → FitElements decls depth s true env values bytes
        → Fits decls depth (term.Seq s) env (val.Array values) bytes
    call : {depth : ℕ} (number : ℕ) (args : List Expr) {found : List Arg} {decl : Decl} {env : Pairs} {v : Val} {bytes : List ℕ}
        → arguments args env ≡ Some found → slice_get decls number ≡ Some decl → Fits decls depth decl.body (bound_to decl.params found []) v bytes
        → Fits decls (suc depth) (term.Call number args) env v bytes
    compute : {depth : ℕ} (e : Expr) (form : ComputedForm) {env : Pairs} {v : Val}
        → computed_told form (worth_or_none (value e env)) ≡ Some v → Fits decls depth (term.Compute e form) env v []
    absorb : {depth : ℕ} {inner : Term} {env : Pairs} {v : Val} {bytes : List ℕ} → Fits decls depth inner env v bytes → Fits decls depth (term.Absorb inner) env val.Unit bytes
    scan : {depth : ℕ} {inner : Term} {env : Pairs} {v : Val} {bytes : List ℕ} → Fits decls depth inner env v bytes → Fits decls depth (term.Scan inner) env v bytes

  -- the bytes of a struct's parts, each named value bound for the later ones
  pub data FitParts (decls : List Decl) : ℕ → List Part → Pairs → List Val → List ℕ → Type 0 where
    no_part : {depth : ℕ} {env : Pairs} → FitParts decls depth [] env [] []
    part : {depth : ℕ} {first : Part} {parts : List Part} {env : Pairs} {v : Val} {values : List Val} {front back : List ℕ}
        → Fits decls depth first.term env v front → FitParts decls depth parts (bind first.name v env) values back
        → FitParts decls depth (first ∷ parts) env (v ∷ values) (front ++ back)

  -- the bytes of an array's elements, the first of them or later ones
  pub data FitElements (decls : List Decl) : ℕ → Seq → Bool → Pairs → List Val → List ℕ → Type 0 where
    no_element : {depth : ℕ} {s : Seq} {is_first : Bool} {env : Pairs} → FitElements decls depth s is_first env [] []
    element : {depth : ℕ} {s : Seq} {is_first : Bool} {env : Pairs} {v : Val} {values : List Val} {between front back : List ℕ}
        → FitBetween decls depth s.sep is_first env between → Fits decls depth s.elem env v front → FitElements decls depth s false env values back
        → FitElements decls depth s is_first env (v ∷ values) (between ++ (front ++ back))

  -- the bytes before an element: from the second on those of the separator, with some value
  pub data FitBetween (decls : List Decl) : ℕ → Option Term → Bool → Pairs → List ℕ → Type 0 where
    at_first : {depth : ℕ} {sep : Option Term} {env : Pairs} → FitBetween decls depth sep true env []
    unseparated : {depth : ℕ} {is_first : Bool} {env : Pairs} → FitBetween decls depth None is_first env []
    separated : {depth : ℕ} {sep : Term} {env : Pairs} {v : Val} {bytes : List ℕ} → Fits decls depth sep env v bytes → FitBetween decls depth (Some sep) false env bytes

-- the bytes of a record's value, by the number of its type
abbrev pub FitsType : List Decl → ℕ → Val → List ℕ → Type 0
FitsType decls number v bytes = Fits decls deepest (term.Call number []) [] v bytes
