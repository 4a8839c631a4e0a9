-- The translation of types and declarations: the term of each form.
--
--   base type                 Base with its arguments
--   declared type             Call with its arguments
--   Popt T                    Alt of `some`: T and `none`: Unit
--   literal part              unnamed part Scan(Absorb(Lit)), Peor: Scan(Absorb(Eor))
--   field or branch T n       T under the name n
--   T n : e                   Guard(T, n, e) under the name n
--   Pcompute T n = e          Compute(e, the range of T, or Text) under the name n
--   Pstruct .. Pwhere {e}     Guard(Struct, `@`, e)
--   Punion                    Alt of its branches, or Switch; the case of Pdefault, the last, has no key
--   Parray                    Seq with `@` as the elements so far; Psep is Absorb(Lit), Pterm is Lit or Eor
--   Parray .. Pwhere {e}      Guard(Seq, `@`, e)
--   Penum                     Base Enum
--   Ptypedef T n : n x => {e} Guard(T, x, e); without constraint T
--   record list or source     Unit
use Rattle.std.specs.Prelude.{ℕ, List, [], ◌∷◌, ◌++◌, map, true, Option, Some, None, option_map, if◌then◌else◌}
use Rattle.std.specs.Option.{option_or}
use Rattle.pads_bases.specs.declared.binary.Order.TheVariants as order
use Rattle.pads_bases.specs.declared.enums.Label.{Label as Spelled}
use Rattle.pads_calc.specs.declared.decl.Decl.{Decl}
use Rattle.pads_calc.specs.declared.term.Arm.{Arm}
use Rattle.pads_calc.specs.declared.term.Case.{Case}
use Rattle.pads_calc.specs.declared.term.Key.{Key}
use Rattle.pads_calc.specs.declared.term.Key.TheVariants as key
use Rattle.pads_calc.specs.declared.term.Part.{Part}
use Rattle.pads_calc.specs.declared.term.ComputedForm.{ComputedForm}
use Rattle.pads_calc.specs.declared.term.ComputedForm.TheVariants as result2
use Rattle.pads_calc.specs.declared.term.Seq.{Seq}
use Rattle.pads_calc.specs.declared.term.Term.{Term}
use Rattle.pads_calc.specs.declared.term.Term.TheVariants as term
use Rattle.pads_code.specs.CodePage.{byte_of}
use Rattle.pads_code.specs.declared.Coding.{Coding}
use Rattle.pads_code.specs.declared.Coding.TheVariants as coding
use Rattle.pads_dispatch.specs.declared.base.Base.{Base}
use Rattle.pads_dispatch.specs.declared.base.Base.TheVariants as base
use Rattle.pads_expr.specs.declared.expr.Expr.{Expr}
use Rattle.pads_int.specs.Kinds.{least, greatest}
use Rattle.pads_base_names.specs.declared.meaning.BaseName.{BaseName}
use Rattle.pads_base_names.specs.declared.meaning.BaseName.TheVariants as base_name
use Rattle.pads_base_names.specs.declared.meaning.NamedCoding.{NamedCoding}
use Rattle.pads_base_names.specs.declared.meaning.NamedCoding.TheVariants as named_coding
use Rattle.pads_resolution.specs.declared.decl.Array.{Array}
use Rattle.pads_resolution.specs.declared.decl.ArrayOption.{ArrayOption}
use Rattle.pads_resolution.specs.declared.decl.ArrayOption.TheVariants as option
use Rattle.pads_resolution.specs.declared.decl.Case.{Case as CaseTree}
use Rattle.pads_resolution.specs.declared.decl.Computed.{Computed}
use Rattle.pads_resolution.specs.declared.decl.Computed.TheVariants as computed
use Rattle.pads_resolution.specs.declared.decl.Constraint.{Constraint}
use Rattle.pads_resolution.specs.declared.decl.Decl.{Decl as DeclTree}
use Rattle.pads_resolution.specs.declared.decl.DeclBody.{DeclBody}
use Rattle.pads_resolution.specs.declared.decl.DeclBody.TheVariants as body
use Rattle.pads_resolution.specs.declared.decl.Label.{Label}
use Rattle.pads_resolution.specs.declared.decl.Part.{Part as PartTree}
use Rattle.pads_resolution.specs.declared.decl.Part.TheVariants as part
use Rattle.pads_resolution.specs.declared.decl.Role.{Role}
use Rattle.pads_resolution.specs.declared.decl.Role.TheVariants as role
use Rattle.pads_resolution.specs.declared.decl.Struct.{Struct}
use Rattle.pads_resolution.specs.declared.decl.Switch.{Switch}
use Rattle.pads_resolution.specs.declared.decl.Union.{Union}
use Rattle.pads_resolution.specs.declared.decl.Union.TheVariants as union
use Rattle.pads_resolution.specs.declared.expr.Expr.{Expr as ExprTree}
use Rattle.pads_resolution.specs.declared.types.Branch.{Branch}
use Rattle.pads_resolution.specs.declared.types.Const.{Const}
use Rattle.pads_resolution.specs.declared.types.Const.TheVariants as const
use Rattle.pads_resolution.specs.declared.types.Literal.{Literal}
use Rattle.pads_resolution.specs.declared.types.Literal.TheVariants as literal
use Rattle.pads_resolution.specs.declared.types.«Type».{«Type» as Typed}
use Rattle.pads_resolution.specs.declared.types.TypeName.{TypeName}
use Rattle.pads_resolution.specs.declared.types.TypeName.TheVariants as type_name
use Rattle.pads_trans.specs.Expressions.{expr_of, option_of}
use Rattle.pads_trans.specs.Names.{Name, at_sign, some_name, none_name, number_of}

-- The coding that a base type's name says, in a description of this coding.
abbrev pub coding_of : Coding → NamedCoding → Coding
coding_of ambient named_coding.Ambient = ambient
coding_of ambient named_coding.Ascii = coding.Ascii
coding_of ambient named_coding.Ebcdic = coding.Ebcdic

-- A text up to the stop that is its argument; without an argument up to the record's end.
abbrev pub until : Coding → List Expr → Base
until c [] = base.UntilEor c
until c (stop ∷ more) = base.Until c

-- A base type by its name and its arguments. A binary number whose name says no order has its low byte first.
abbrev pub base_of : Coding → BaseName → List Expr → Base
base_of ambient (base_name.Int named kind) args = base.Int kind (coding_of ambient named)
base_of ambient (base_name.IntFw named kind) args = base.IntFw kind (coding_of ambient named)
base_of ambient (base_name.Bin kind) args = base.Bin kind order.Low
base_of ambient (base_name.SizedBin o kind) args = base.Bin kind o
base_of ambient (base_name.Until named) args = until (coding_of ambient named) args
base_of ambient (base_name.Fixed named) args = base.Fixed (coding_of ambient named)
base_of ambient (base_name.Class named) args = base.Class (coding_of ambient named)
base_of ambient (base_name.Char named) args = base.Char (coding_of ambient named)
base_of ambient (base_name.Ip named) args = base.Ip (coding_of ambient named)
base_of ambient (base_name.Packed signed) args = base.Packed signed
base_of ambient (base_name.Zoned signed) args = base.Zoned signed

-- A text is its code points, encoded.
abbrev pub text_of : Coding → List ℕ → Term
text_of ambient points = term.Lit (map (byte_of ambient) points)

abbrev pub literal_of : Coding → Literal → Term
literal_of ambient (literal.Word points) = text_of ambient points
literal_of ambient literal.Peor = term.Eor

-- What a `Pcompute` is to give.
abbrev pub form_of : Computed → ComputedForm
form_of (computed.Int kind) = result2.Range (least kind) (greatest kind)
form_of computed.Text = result2.Text

abbrev pub key_of : Const → Key
key_of (const.Number number) = key.Num number
key_of (const.Word points) = key.Text points

-- A label is spelled by its text, or else by its name.
abbrev pub spelling_of : Name → Option (List ℕ) → List ℕ
spelling_of name None = name
spelling_of name (Some points) = points

abbrev pub label_of : Label → Spelled
label_of l = record { name = l.name; spelling = spelling_of l.name l.spelling }

abbrev pub enum_of : Coding → List Label → Term
enum_of ambient labels = term.Base (base.Enum ambient (map label_of labels)) []

-- What an option of an array gives, where it is a separator, a terminator or a condition of the last element.
abbrev pub separator : ArrayOption → Option (List ℕ)
separator (option.Psep points) = Some points
separator (option.Pterm l) = None
separator (option.Plast e) = None

abbrev pub terminator : ArrayOption → Option Literal
terminator (option.Psep points) = None
terminator (option.Pterm l) = Some l
terminator (option.Plast e) = None

abbrev pub last : ArrayOption → Option ExprTree
last (option.Psep points) = None
last (option.Pterm l) = None
last (option.Plast e) = Some e

-- What the first option that gives something gives.
unfoldable pub first : {A : Type 0} → (ArrayOption → Option A) → List ArrayOption → Option A
first gives [] = None
first gives (option ∷ options) = option_or (gives option) (first gives options)

abbrev pub separator_of : Coding → List ArrayOption → Option Term
separator_of ambient options = option_map (λ points. term.Absorb (text_of ambient points)) (first separator options)

abbrev pub terminator_of : Coding → List ArrayOption → Option Term
terminator_of ambient options = option_map (literal_of ambient) (first terminator options)

-- A type by its name.
abbrev pub named_type : Coding → TypeName → List Expr → Term
named_type ambient (type_name.Base b) args = term.Base (base_of ambient b args) args
named_type ambient (type_name.Declared number) args = term.Call number args

abbrev pub literal_part : Coding → Literal → Part
literal_part ambient l = record { name = None; term = term.Scan (term.Absorb (literal_of ambient l)) }

-- By the names of the description.
module _ (names : List Name) where
  abbrev pub named_part : Name → Term → Part
  named_part name inner = record { name = Some (number_of names name); term = inner }

  -- A term under a constraint, if there is one, in which a name stands for its value.
  abbrev pub constrained : Term → Name → Option ExprTree → Term
  constrained inner name None = inner
  constrained inner name (Some e) = term.Guard inner (number_of names name) (expr_of names e)

  abbrev pub constrained_type : Term → Option Constraint → Term
  constrained_type inner None = inner
  constrained_type inner (Some c) = constrained inner c.variable (Some c.condition)

  abbrev pub some_arm : Term → Arm
  some_arm inner = record { name = number_of names some_name; term = inner }

  abbrev pub none_arm : Arm
  none_arm = record { name = number_of names none_name; term = term.Unit }

  unfoldable pub optional : Term → Term
  optional inner = term.Alt (some_arm inner ∷ none_arm ∷ [])

  -- By the coding of the description.
  module _ (ambient : Coding) where
    unfoldable pub bare_type : Typed → Term
    bare_type t = named_type ambient t.name (map (expr_of names) t.args)

    unfoldable pub type_of : Typed → Term
    type_of t = if t.optional then optional (bare_type t) else bare_type t

    -- The term of a field or a branch.
    unfoldable pub field_of : Branch → Term
    field_of f = constrained (type_of f.of) f.name f.constraint

    unfoldable pub part_of : PartTree → Part
    part_of (part.Literal l) = literal_part ambient l
    part_of (part.Pcompute of name value) = named_part name (term.Compute (expr_of names value) (form_of of))
    part_of (part.Field f) = named_part f.name (field_of f)

    unfoldable pub struct_of : Struct → Term
    struct_of s = constrained (term.Struct (map part_of s.parts)) at_sign s.condition

    unfoldable pub arm_of : Branch → Arm
    arm_of f = record { name = number_of names f.name; term = field_of f }

    unfoldable pub case_of : CaseTree → Case
    case_of c = record { key = Some (key_of c.key); arm = arm_of c.branch }

    -- The case for all other values.
    abbrev pub default_of : Option Branch → List Case
    default_of None = []
    default_of (Some f) = record { key = None; arm = arm_of f } ∷ []

    unfoldable pub switch_of : Switch → Term
    switch_of s = term.Switch (expr_of names s.value) (map case_of s.cases ++ default_of s.default)

    unfoldable pub union_of : Union → Term
    union_of (union.Branches branches) = term.Alt (map arm_of branches)
    union_of (union.Pswitch s) = switch_of s

    unfoldable pub seq_of : Array → Seq
    seq_of a = record {
      elem = type_of a.of;
      sep = separator_of ambient a.options;
      size = option_of names a.size;
      last = option_of names (first last a.options);
      stop = terminator_of ambient a.options;
      elts = number_of names at_sign;
    }

    unfoldable pub array_of : Array → Term
    array_of a = constrained (term.Seq (seq_of a)) at_sign a.condition

    unfoldable pub body_of : DeclBody → Term
    body_of (body.Struct s) = struct_of s
    body_of (body.Union u) = union_of u
    body_of (body.Array a) = array_of a
    body_of (body.Enum labels) = enum_of ambient labels
    body_of (body.Typedef t) = constrained_type (type_of t.of) t.constraint
    body_of (body.Opt inner) = optional (type_of inner)

    -- A record list or a source is never read.
    unfoldable pub read_body : Role → DeclBody → Term
    read_body role.Part inner = body_of inner
    read_body role.Precord inner = body_of inner
    read_body role.Source inner = term.Unit

    unfoldable pub decl_of : DeclTree → Decl
    decl_of d = record {
      name = number_of names d.name;
      params = map (λ param. number_of names param.name) d.params;
      body = read_body d.role d.body;
      set = true;
    }
