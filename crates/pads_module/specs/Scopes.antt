-- Names, declarations and variables of a module are there: each name's number is one of the table's,
-- each call names a declaration and has its number of arguments, and each variable is bound where it
-- stands. A named part is bound in the later parts of its struct, a binder in its constraint, the
-- elements so far in the condition of the last one, a parameter in its declaration's body.
use Rattle.std.specs.Prelude.{ℕ, Bool, true, false, ◌&&◌, nat_lt, nat_eq, List, [], ◌∷◌, length, map, Option, Some, None, slice_get}
use Rattle.std.specs.List.{list_all, list_any}
use Rattle.pads_expr.specs.declared.expr.Expr.{Expr, Expr-F, fold-Expr}
use Rattle.pads_calc.specs.declared.decl.Decl.{Decl}
use Rattle.pads_calc.specs.declared.decl.Shape.{Shape}
use Rattle.pads_calc.specs.declared.term.Arm.{Arm, Arm-F}
use Rattle.pads_calc.specs.declared.term.Case.{Case, Case-F}
use Rattle.pads_calc.specs.declared.term.Part.{Part, Part-F}
use Rattle.pads_calc.specs.declared.term.Seq.{Seq, Seq-F}
use Rattle.pads_calc.specs.declared.term.Term.{Term, Term-F, fold-Term}

-- whether something is well formed where these names are bound
abbrev pub InScope : Type 0
InScope = List ℕ → Bool

abbrev pub is_bound : ℕ → List ℕ → Bool
is_bound name scope = list_any (nat_eq name) scope

abbrev pub bind_name : Option ℕ → List ℕ → List ℕ
bind_name None scope = scope
bind_name (Some name) scope = name ∷ scope

abbrev pub if_any : Option InScope → InScope
if_any None scope = true
if_any (Some term) scope = term scope

-- of a number of names
module _ (names : ℕ) where
  abbrev pub expr_step : Expr-F InScope → InScope
  expr_step (Expr-F.Num number) scope = true
  expr_step (Expr-F.Text text) scope = true
  expr_step (Expr-F.Truth truth) scope = true
  expr_step (Expr-F.Var name) scope = is_bound name scope
  expr_step (Expr-F.Part whole number) scope = whole scope
  expr_step (Expr-F.Arm whole number) scope = whole scope
  expr_step (Expr-F.Elem whole index) scope = whole scope && index scope
  expr_step (Expr-F.IsArm whole number) scope = whole scope
  expr_step (Expr-F.Len whole) scope = whole scope
  expr_step (Expr-F.Neg operand) scope = operand scope
  expr_step (Expr-F.Not operand) scope = operand scope
  expr_step (Expr-F.Bin op left right) scope = left scope && right scope
  expr_step (Expr-F.Forall name first last body) scope =
      nat_lt name names && first scope && last scope && body (name ∷ scope)

unfoldable pub expr_in_scope : ℕ → Expr → InScope
expr_in_scope names = fold-Expr InScope (expr_step names)

abbrev pub exprs_in_scope : ℕ → List Expr → InScope
exprs_in_scope names es scope = list_all (λ e. expr_in_scope names e scope) es

abbrev pub option_in_scope : ℕ → Option Expr → InScope
option_in_scope names None scope = true
option_in_scope names (Some e) scope = expr_in_scope names e scope

abbrev pub name_there : ℕ → Option ℕ → Bool
name_there names None = true
name_there names (Some name) = nat_lt name names

-- a part, and the name that it binds
pub record Binding : Type 0 where
  pub name : Option ℕ
  pub term : InScope

abbrev pub all_in : List InScope → InScope
all_in terms scope = list_all (λ term. term scope) terms

abbrev pub parts_in : List Binding → InScope
parts_in [] scope = true
parts_in (part ∷ parts) scope = part.term scope && parts_in parts (bind_name part.name scope)

-- how many arguments a call has
abbrev pub has_arity : Option ℕ → ℕ → Bool
has_arity None count = false
has_arity (Some arity) count = nat_eq arity count

-- of a number of names, and of declarations by their numbers of parameters
module _ (names : ℕ) (arities : List ℕ) where
  abbrev pub term_scope : Term-F InScope InScope InScope Binding InScope → InScope
  term_scope Term-F.Unit scope = true
  term_scope (Term-F.Base base args) scope = exprs_in_scope names args scope
  term_scope (Term-F.Lit literal) scope = true
  term_scope Term-F.Eor scope = true
  term_scope (Term-F.Struct parts) scope = list_all (λ part. name_there names part.name) parts && parts_in parts scope
  term_scope (Term-F.Alt arms) scope = all_in arms scope
  term_scope (Term-F.Switch e cases) scope = expr_in_scope names e scope && all_in cases scope
  term_scope (Term-F.Guard inner binder condition) scope =
      inner scope && nat_lt binder names && expr_in_scope names condition (binder ∷ scope)
  term_scope (Term-F.Seq s) scope = s scope
  term_scope (Term-F.Call number args) scope =
      has_arity (slice_get arities number) (length args) && exprs_in_scope names args scope
  term_scope (Term-F.Compute e form) scope = expr_in_scope names e scope
  term_scope (Term-F.Absorb inner) scope = inner scope
  term_scope (Term-F.Scan inner) scope = inner scope

  abbrev pub arm_scope : Arm-F InScope InScope InScope Binding InScope → InScope
  arm_scope arm scope = nat_lt arm.name names && arm.term scope

  abbrev pub case_scope : Case-F InScope InScope InScope Binding InScope → InScope
  case_scope case scope = case.arm scope

  abbrev pub part_scope : Part-F InScope InScope InScope Binding InScope → Binding
  part_scope part = record { name = part.name; term = part.term }

  abbrev pub seq_scope : Seq-F InScope InScope InScope Binding InScope → InScope
  seq_scope s scope =
      s.elem scope && if_any s.sep scope && if_any s.stop scope && nat_lt s.elts names
      && option_in_scope names s.size scope && option_in_scope names s.last (s.elts ∷ scope)

unfoldable pub in_scope : ℕ → List ℕ → Term → InScope
in_scope names arities =
    fold-Term InScope InScope InScope Binding InScope (term_scope names arities) (arm_scope names arities) (case_scope names arities)
    (part_scope names arities) (seq_scope names arities)

-- the same of the parts of a term
module _ (names : ℕ) (arities : List ℕ) where
  abbrev pub arm_in : Arm → InScope
  arm_in arm scope = nat_lt arm.name names && in_scope names arities arm.term scope

  abbrev pub case_in : Case → InScope
  case_in case scope = nat_lt case.arm.name names && in_scope names arities case.arm.term scope

  abbrev pub binding_of : Part → Binding
  binding_of part = record { name = part.name; term = in_scope names arities part.term }

  abbrev pub option_term_in : Option Term → InScope
  option_term_in None scope = true
  option_term_in (Some term) scope = in_scope names arities term scope

  abbrev pub seq_in : Seq → InScope
  seq_in s scope =
      in_scope names arities s.elem scope && option_term_in s.sep scope && option_term_in s.stop scope && nat_lt s.elts names
      && option_in_scope names s.size scope && option_in_scope names s.last (s.elts ∷ scope)

abbrev pub arities_of : List Decl → List ℕ
arities_of decls = map (λ decl. length decl.params) decls

abbrev pub decl_in_scope : ℕ → List ℕ → Decl → Bool
decl_in_scope names arities decl =
    nat_lt decl.name names && list_all (λ name. nat_lt name names) decl.params && in_scope names arities decl.body decl.params

abbrev pub shape_there : ℕ → Shape → Bool
shape_there decls shape = name_there decls shape.head && nat_lt shape.each decls

-- all declarations and the shape of the source
abbrev pub module_in_scope : List Decl → List (List ℕ) → Shape → Bool
module_in_scope decls names shape =
    list_all (decl_in_scope (length names) (arities_of decls)) decls && shape_there (length decls) shape
