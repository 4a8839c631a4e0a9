-- The canonical bytes of a value as its term has it: one equation for each form, in an environment; none
-- where the value has another shape, an argument has no value, or a base type has no spelling of it.
use Rattle.std.specs.Prelude.{ℕ, zero, suc, ◌&&◌, int_le, ℤ, Bool, true, false, List, [], ◌∷◌, ◌++◌, Option, Some, None, slice_get, if◌then◌else◌}
use Rattle.pads_value.specs.declared.value.Val.{Val, Val-F, out-Val}
use Rattle.pads_value.specs.declared.value.Val.TheVariants as val
use Rattle.pads_expr.specs.declared.expr.Expr.{Expr}
use Rattle.pads_expr.specs.Value.{Pairs}
use Rattle.pads_dispatch.specs.declared.base.Arg.{Arg}
use Rattle.pads_dispatch.specs.declared.base.Base.{Base}
use Rattle.pads_dispatch.specs.Spellings.{base_spelling}
use Rattle.pads_calc.specs.declared.decl.Decl.{Decl}
use Rattle.pads_calc.specs.declared.term.Arm.{Arm-F}
use Rattle.pads_calc.specs.declared.term.Case.{Case-F}
use Rattle.pads_calc.specs.declared.term.Part.{Part-F}
use Rattle.pads_calc.specs.declared.term.ComputedForm.{ComputedForm}
use Rattle.pads_calc.specs.declared.term.ComputedForm.TheVariants as form
use Rattle.pads_calc.specs.declared.term.Seq.{Seq-F}
use Rattle.pads_calc.specs.declared.term.Term.{Term, Term-F, fold-Term}
use Rattle.pads_calc.specs.Arguments.{arguments, bound_to}
use Rattle.pads_calc.specs.Rows.{deepest}
use Rattle.pads_calc.specs.Structs.{bind}
use Rattle.pads_forms.specs.Shapes.{num_in, text_in, tuple_in, branch_in, array_in}

-- how a term spells a value in an environment
abbrev pub Speller : Type 0
Speller = Pairs → Val → Option (List ℕ)

-- how a part spells its value, and the value's name
pub record NamedSpeller : Type 0 where
  pub name : Option ℕ
  pub speller : Speller

-- how an array spells its elements and what stands between them
pub record SeqSpeller : Type 0 where
  pub elem : Speller
  pub sep : Option Speller

-- how a call of a declaration with such arguments spells a value
abbrev pub CallSpeller : Type 0
CallSpeller = ℕ → List Expr → Speller

-- bytes behind each other, where there are both
abbrev pub joined : Option (List ℕ) → Option (List ℕ) → Option (List ℕ)
joined None later = None
joined (Some first) None = None
joined (Some first) (Some later) = Some (first ++ later)

abbrev pub is_unit : Val-F Val → Bool
is_unit Val-F.Unit = true
is_unit Val-F.Missing = false
is_unit (Val-F.Num number) = false
is_unit (Val-F.Text text) = false
is_unit (Val-F.Enum label) = false
is_unit (Val-F.Tuple parts) = false
is_unit (Val-F.Branch number inner) = false
is_unit (Val-F.Array elements) = false

-- nothing has these bytes, and no other value has any
abbrev pub of_unit : Option (List ℕ) → Val → Option (List ℕ)
of_unit bytes v = if is_unit (out-Val v) then bytes else None

abbrev pub of_base : Base → Option (List Arg) → Val → Option (List ℕ)
of_base base None v = None
of_base base (Some args) v = base_spelling base args v

-- what is computed has no bytes: a number in the range, or a text
abbrev pub in_range : ℤ → ℤ → Option ℤ → Option (List ℕ)
in_range least greatest None = None
in_range least greatest (Some number) = if int_le least number && int_le number greatest then Some [] else None

abbrev pub any_text : Option (List ℕ) → Option (List ℕ)
any_text None = None
any_text (Some text) = Some []

abbrev pub of_computed : ComputedForm → Val → Option (List ℕ)
of_computed (form.Range least greatest) v = in_range least greatest (num_in (out-Val v))
of_computed form.Text v = any_text (text_in (out-Val v))

-- as many parts as values, each named value bound for the later ones
abbrev pub in_order : List NamedSpeller → Pairs → List Val → Option (List ℕ)
in_order [] env [] = Some []
in_order [] env (v ∷ values) = None
in_order (part ∷ parts) env [] = None
in_order (part ∷ parts) env (v ∷ values) = joined (part.speller env v) (in_order parts (bind part.name v env) values)

abbrev pub of_struct : List NamedSpeller → Pairs → Option (List Val) → Option (List ℕ)
of_struct parts env None = None
of_struct parts env (Some values) = in_order parts env values

-- the branch of this number with its value
abbrev pub of_arm : Option Speller → Pairs → Val → Option (List ℕ)
of_arm None env v = None
of_arm (Some speller) env v = speller env v

abbrev pub of_branch : List Speller → Pairs → Option (ℕ × Val) → Option (List ℕ)
of_branch arms env None = None
of_branch arms env (Some branch) = of_arm (slice_get arms branch.0) env branch.1

-- what stands before an element: from the second on the separator, with nothing for its value
abbrev pub before : Option Speller → Bool → Pairs → Option (List ℕ)
before None is_first env = Some []
before (Some sep) true env = Some []
before (Some sep) false env = sep env val.Unit

abbrev pub each_element : SeqSpeller → Bool → Pairs → List Val → Option (List ℕ)
each_element s is_first env [] = Some []
each_element s is_first env (v ∷ values) = joined (before s.sep is_first env) (joined (s.elem env v) (each_element s false env values))

abbrev pub of_array : SeqSpeller → Pairs → Option (List Val) → Option (List ℕ)
of_array s env None = None
of_array s env (Some values) = each_element s true env values

module _ (call : CallSpeller) where
  -- one equation for each form
  abbrev pub term_step : Term-F Speller Speller Speller NamedSpeller SeqSpeller → Speller
  term_step Term-F.Unit env v = of_unit (Some []) v
  term_step (Term-F.Base base args) env v = of_base base (arguments args env) v
  term_step (Term-F.Lit literal) env v = of_unit (Some literal) v
  term_step Term-F.Eor env v = of_unit (Some []) v
  term_step (Term-F.Struct parts) env v = of_struct parts env (tuple_in (out-Val v))
  term_step (Term-F.Alt arms) env v = of_branch arms env (branch_in (out-Val v))
  term_step (Term-F.Switch e cases) env v = of_branch cases env (branch_in (out-Val v))
  term_step (Term-F.Guard inner binder condition) env v = inner env v
  term_step (Term-F.Seq s) env v = of_array s env (array_in (out-Val v))
  term_step (Term-F.Call number args) env v = call number args env v
  term_step (Term-F.Compute e form) env v = of_computed form v
  term_step (Term-F.Absorb inner) env v = of_unit (inner env val.Unit) v
  term_step (Term-F.Scan inner) env v = inner env v

abbrev pub arm_step : Arm-F Speller Speller Speller NamedSpeller SeqSpeller → Speller
arm_step arm = arm.term

abbrev pub case_step : Case-F Speller Speller Speller NamedSpeller SeqSpeller → Speller
case_step case = case.arm

abbrev pub part_step : Part-F Speller Speller Speller NamedSpeller SeqSpeller → NamedSpeller
part_step part = record { name = part.name; speller = part.term }

abbrev pub seq_step : Seq-F Speller Speller Speller NamedSpeller SeqSpeller → SeqSpeller
seq_step s = record { elem = s.elem; sep = s.sep }

-- how a term spells a value, where the calls spell so
unfoldable pub spelled : CallSpeller → Term → Speller
spelled call = fold-Term Speller Speller Speller NamedSpeller SeqSpeller (term_step call) arm_step case_step part_step seq_step

-- a declaration's body, with the arguments as its whole environment
abbrev pub of_body : (Term → Speller) → Option Decl → Option (List Arg) → Val → Option (List ℕ)
of_body speller decl None v = None
of_body speller None (Some args) v = None
of_body speller (Some decl) (Some args) v = speller decl.body (bound_to decl.params args []) v

-- a call where calls may be nested so deep; below, one less
unfoldable pub call_spelled : List Decl → ℕ → CallSpeller
call_spelled decls zero number args env v = None
call_spelled decls (suc depth) number args env v =
    of_body (spelled (call_spelled decls depth)) (slice_get decls number) (arguments args env) v

-- the canonical bytes of a term's value, inside of which calls may be nested so deep
abbrev pub canon : List Decl → ℕ → Term → Speller
canon decls depth = spelled (call_spelled decls depth)

-- the canonical bytes of a record's value, by the number of its type
abbrev pub canon_of : List Decl → ℕ → Val → Option (List ℕ)
canon_of decls number v = call_spelled decls deepest number [] [] v
