-- Which expressions the calculus evaluates, and in which environments. More is told here than is read: a
-- union may be read in any of its branches, and elements, separators, terminators and what is searched
-- for at any place. Nothing is missing: a reading depends on the worths of these expressions alone, by the
-- law `only_these_are_evaluated`.
use Rattle.std.specs.Prelude.{◌≡◌, ◌⊎◌, ℕ, suc, ⊤, true, List, [], ◌∷◌, Option, Some, None, slice_get}
use Rattle.pads_value.specs.declared.value.Val.{Val}
use Rattle.pads_value.specs.declared.value.Val.TheVariants as val
use Rattle.pads_expr.specs.declared.expr.Expr.{Expr}
use Rattle.pads_expr.specs.Value.{Pairs}
use Rattle.pads_dispatch.specs.declared.base.Arg.{Arg}
use Rattle.pads_calc.specs.declared.decl.Decl.{Decl}
use Rattle.pads_calc.specs.declared.term.Arm.{Arm}
use Rattle.pads_calc.specs.declared.term.Case.{Case}
use Rattle.pads_calc.specs.declared.term.Part.{Part}
use Rattle.pads_calc.specs.declared.term.Seq.{Seq}
use Rattle.pads_calc.specs.declared.term.Term.{Term, Term-F, out-Term}
use Rattle.pads_calc.specs.Arguments.{arguments, bound_to}
use Rattle.pads_calc.specs.Calculus.{meaning}
use Rattle.pads_calc.specs.Readings.{Subject, is_ok}
use Rattle.pads_calc.specs.Structs.{bind}
use Rattle.law_calculus.specs.Terms.{terms_in}

-- A term is read in an environment at a place, with calls nested so deep at most.
pub record Moment : Type 0 where
  pub depth : ℕ
  pub term : Term
  pub env : Pairs
  pub place : ℕ

abbrev pub moment : ℕ → Term → Pairs → ℕ → Moment
moment depth t env i = record { depth = depth; term = t; env = env; place = i }

abbrev pub IsOneOf : {A : Type 0} → List A → A → Type 0
IsOneOf xs x = (n : ℕ) × (slice_get xs n ≡ Some x)

-- one of these terms, at the same place
abbrev pub ReadsHere : List Term → Moment → Moment → Type 0
ReadsHere terms now next = (t : Term) × IsOneOf terms t × (next ≡ moment now.depth t now.env now.place)

-- one of these terms, at some place
abbrev pub ReadsSomewhere : List Term → Moment → Moment → Type 0
ReadsSomewhere terms now next = (t : Term) × (j : ℕ) × IsOneOf terms t × (next ≡ moment now.depth t now.env j)

-- the body of a declaration, with calls nested one less deep and the arguments as its whole environment
abbrev pub ReadsBody : List Decl → ℕ → List Expr → Moment → Moment → Type 0
ReadsBody decls number args now next =
    (depth : ℕ) × (decl : Decl) × (found : List Arg) × (now.depth ≡ suc depth) × (slice_get decls number ≡ Some decl)
    × (arguments args now.env ≡ Some found) × (next ≡ moment depth decl.body (bound_to decl.params found []) now.place)

-- an expression of the term's own, in the term's environment
abbrev pub IsOwn : List Expr → Moment → Expr → Pairs → Type 0
IsOwn es now e env = IsOneOf es e × (env ≡ now.env)

-- an array's size, in the array's environment
abbrev pub IsSize : Option Expr → Moment → Expr → Pairs → Type 0
IsSize None now e env = ⊥
IsSize (Some size) now e env = (e ≡ size) × (env ≡ now.env)

module _ (subject : Subject) (decls : List Decl) where
  -- the parts of a struct in turn, each in the environment behind the earlier ones
  abbrev pub ReadsPart : ℕ → List Part → Pairs → ℕ → Moment → Type 0
  ReadsPart depth [] env i next = ⊥
  ReadsPart depth (part ∷ parts) env i next =
      let r = meaning subject decls depth part.term env i in
      (next ≡ moment depth part.term env i) ⊎ ReadsPart depth parts (bind part.name r.value env) r.place next

  -- which terms the reading of a term reads next
  abbrev pub ReadsNext : Term-F Term Arm Case Part Seq → Moment → Moment → Type 0
  ReadsNext Term-F.Unit now next = ⊥
  ReadsNext (Term-F.Base base args) now next = ⊥
  ReadsNext (Term-F.Lit literal) now next = ⊥
  ReadsNext Term-F.Eor now next = ⊥
  ReadsNext (Term-F.Struct parts) now next = ReadsPart now.depth parts now.env now.place next
  ReadsNext (Term-F.Alt arms) now next = ReadsHere (terms_in (Term-F.Alt arms)) now next
  ReadsNext (Term-F.Switch e cases) now next = ReadsHere (terms_in (Term-F.Switch e cases)) now next
  ReadsNext (Term-F.Guard inner binder condition) now next = ReadsHere (inner ∷ []) now next
  ReadsNext (Term-F.Seq s) now next = ReadsSomewhere (terms_in (Term-F.Seq s)) now next
  ReadsNext (Term-F.Call number args) now next = ReadsBody decls number args now next
  ReadsNext (Term-F.Compute e form) now next = ⊥
  ReadsNext (Term-F.Absorb inner) now next = ReadsHere (inner ∷ []) now next
  ReadsNext (Term-F.Scan inner) now next = ReadsSomewhere (inner ∷ []) now next

  -- a constraint is asked of a clean reading alone, with the binder for its value
  abbrev pub IsConstraint : Term → ℕ → Expr → Moment → Expr → Pairs → Type 0
  IsConstraint inner binder condition now e env =
      let r = meaning subject decls now.depth inner now.env now.place in
      (is_ok r ≡ true) × (e ≡ condition) × (env ≡ (binder, r.value) ∷ now.env)

  -- elements so far: each is what the element reads as at some place
  abbrev pub AreElements : Term → Moment → List Val → Type 0
  AreElements elem now [] = ⊤
  AreElements elem now (value ∷ values) =
      ((j : ℕ) × (value ≡ (meaning subject decls now.depth elem now.env j).value)) × AreElements elem now values

  -- the condition of an array's last element, with a name for the elements so far
  abbrev pub IsLast : Term → ℕ → Option Expr → Moment → Expr → Pairs → Type 0
  IsLast elem elts None now e env = ⊥
  IsLast elem elts (Some last) now e env =
      (e ≡ last) × (values : List Val) × AreElements elem now values × (env ≡ (elts, val.Array values) ∷ now.env)

  -- which expressions the reading of a term evaluates itself, and in which environment
  abbrev pub Asks : Term-F Term Arm Case Part Seq → Moment → Expr → Pairs → Type 0
  Asks Term-F.Unit now e env = ⊥
  Asks (Term-F.Base base args) now e env = IsOwn args now e env
  Asks (Term-F.Lit literal) now e env = ⊥
  Asks Term-F.Eor now e env = ⊥
  Asks (Term-F.Struct parts) now e env = ⊥
  Asks (Term-F.Alt arms) now e env = ⊥
  Asks (Term-F.Switch chooser cases) now e env = IsOwn (chooser ∷ []) now e env
  Asks (Term-F.Guard inner binder condition) now e env = IsConstraint inner binder condition now e env
  Asks (Term-F.Seq s) now e env = IsSize s.size now e env ⊎ IsLast s.elem s.elts s.last now e env
  Asks (Term-F.Call number args) now e env = IsOwn args now e env
  Asks (Term-F.Compute computed form) now e env = IsOwn (computed ∷ []) now e env
  Asks (Term-F.Absorb inner) now e env = ⊥
  Asks (Term-F.Scan inner) now e env = ⊥

-- the reading of a term evaluates an expression in an environment: itself, or in a term that it reads
pub data Evaluates (subject : Subject) (decls : List Decl) : Moment → Expr → Pairs → Type 0 where
  asks : {now : Moment} {e : Expr} {env : Pairs} → Asks subject decls (out-Term now.term) now e env → Evaluates subject decls now e env
  reads : {now next : Moment} {e : Expr} {env : Pairs} → ReadsNext subject decls (out-Term now.term) now next → Evaluates subject decls next e env
      → Evaluates subject decls now e env
