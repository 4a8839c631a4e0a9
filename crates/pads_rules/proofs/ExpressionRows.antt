-- Rows of the rules in expressions, computed: descriptions with their least violation, worked out by hand.
use Rattle.std.proofs.Common.{◌≡◌, refl, ℕ, true, false, List, [], ◌∷◌, Option, Some, None}
use Rattle.std.specs.List.{list_all}
use Rattle.std.specs.Prelude.{codes}
use Rattle.pads_lex.specs.Spelling.{is_name}
use Rattle.pads_ast.specs.NameTokens.{names_in}
use Rattle.pads_ast.specs.declared.decl.Case.{Case}
use Rattle.pads_ast.specs.declared.decl.Decl.{Decl}
use Rattle.pads_ast.specs.declared.decl.DeclBody.{DeclBody}
use Rattle.pads_ast.specs.declared.decl.DeclBody.TheVariants as decl
use Rattle.pads_ast.specs.declared.decl.DeclMark.TheVariants as mark
use Rattle.pads_ast.specs.declared.decl.Part.{Part}
use Rattle.pads_ast.specs.declared.decl.Part.TheVariants as part
use Rattle.pads_ast.specs.declared.decl.UnionBody.TheVariants as union
use Rattle.pads_ast.specs.declared.expr.Expr.{Expr}
use Rattle.pads_ast.specs.declared.expr.Expr.TheVariants as expr
use Rattle.pads_ast.specs.declared.expr.Step.TheVariants as step_form
use Rattle.pads_ast.specs.declared.name.Name.{Name}
use Rattle.pads_ast.specs.declared.types.Const.TheVariants as const
use Rattle.pads_ast.specs.declared.types.Type.{«Type»}
use Rattle.pads_base_names.specs.Names.{base_name, kind_of, field_of, behind}
use Rattle.pads_value.specs.Words.{is_word}
use Rattle.pads_rules.specs.declared.fault.CheckFault.{CheckFault}
use Rattle.pads_rules.specs.declared.rule.Rule.TheVariants as rule
use Rattle.pads_rules.specs.Faults.{breaks, lesser, least}
use Rattle.pads_rules.specs.Rules.{number}
use Rattle.pads_rules.specs.Resolving.{meaning, unsorted, leads, outlines, declared}
use Rattle.pads_rules.specs.Sorts.{optional_by}
use Rattle.pads_rules.specs.Texts.{same_text}
use Rattle.pads_rules.specs.Violations.{violations}
use Rattle.pads_rules.proofs.Judgements.{on_names}
use Rattle.pads_rules.proofs.SmallExpressions.{small}

abbrev name : List ℕ → ℕ → Name
name text at = record { text = text; at = at }

-- a type without arguments
abbrev bare : List ℕ → ℕ → «Type»
bare text at = record { optional = None; name = name text at; args = None }

-- Precord Pstruct r { .. }; its parts begin at 20, and where there are none the next declaration at 23
abbrev record_type : List Part → Decl
record_type parts = record { mark = Some mark.Precord; body = decl.Struct (record { name = name (codes "r") 16; params = None; parts = parts; condition = None }) }

-- Precord Pstruct r { Puint8 a : ..; }; the constraint begins at 31
abbrev constrained : Expr → List Decl
constrained e = record_type (part.Field (record { of = bare (codes "Puint8") 20; name = name (codes "a") 27; constraint = Some e }) ∷ []) ∷ []

-- Precord Pstruct r { }; and another declaration
abbrev beside : DeclBody → List Decl
beside body = record_type [] ∷ record { mark = None; body = body } ∷ []

abbrev case_of : ℕ → ℕ → List ℕ → ℕ → ℕ → Case
case_of value at text type_at name_at = record { key = const.Number false value at; branch = record { of = bare (codes "Puint8") type_at; name = name text name_at; constraint = None } }

-- what is told first of a tree of these declarations, whose names are spelled as names
abbrev Told : List Decl → Option CheckFault → Type 0
Told decls first = (spelled : list_all is_name (names_in decls) ≡ true) → least (violations (record { decls = decls; end = 99; spelled = spelled })) ≡ first

-- Precord Pstruct r { Puint8 a : b; };
rule_5 : Told (constrained (expr.Name (name (codes "b") 31))) (Some (breaks rule.UnknownName 31))
unfolding violations lesser declared outlines leads unsorted optional_by meaning same_text base_name kind_of field_of is_word behind
rule_5 = λ spelled. simp on_names refl

-- Precord Pstruct r { }; Parray a { Puint8[true]; };
rule_9 : Told (beside (decl.Array (record { name = name (codes "a") 30; params = None; of = bare (codes "Puint8") 34; size = Some (expr.Truth true 41); options = []; condition = None }))) (Some (breaks rule.OperandSort 41))
unfolding violations lesser declared outlines leads unsorted optional_by meaning same_text base_name kind_of field_of is_word behind
rule_9 = λ spelled. simp small refl

-- Precord Pstruct r { }; Ptypedef Puint8 t : u x => { true };
rule_11 : Told (beside (decl.Typedef (record { of = bare (codes "Puint8") 32; name = name (codes "t") 39; params = None; constraint = Some (record { name = name (codes "u") 43; variable = name (codes "x") 45; condition = expr.Truth true 52 }) }))) (Some (breaks rule.OtherName 43))
unfolding violations lesser declared outlines leads unsorted optional_by meaning same_text base_name kind_of field_of is_word behind
rule_11 = λ spelled. simp small refl

-- Precord Pstruct r { }; Punion u { Pswitch (true) { } };
rule_12 : Told (beside (decl.Union (record { name = name (codes "u") 30; params = None; body = union.Switch (record { value = expr.Truth true 43; cases = []; default = None }) }))) (Some (breaks rule.CaseSort 43))
unfolding violations lesser declared outlines leads unsorted optional_by meaning same_text base_name kind_of field_of is_word behind
rule_12 = λ spelled. simp small refl

-- Precord Pstruct r { }; Punion u { Pswitch (1) { Pcase 1: Puint8 a; Pcase 0x1: Puint8 b; } };
rule_13 : Told (beside (decl.Union (record { name = name (codes "u") 30; params = None; body = union.Switch (record { value = expr.Number 1 43; cases = case_of 1 54 (codes "a") 57 64 ∷ case_of 1 73 (codes "b") 78 85 ∷ []; default = None }) }))) (Some (breaks rule.CaseAgain 73))
unfolding violations lesser declared outlines leads unsorted optional_by meaning same_text base_name kind_of field_of is_word behind
rule_13 = λ spelled. simp small refl

-- Precord Pstruct r { Puint8 a : a.x; };
rule_16 : Told (constrained (expr.Post (expr.Name (name (codes "a") 31)) (step_form.Name (name (codes "x") 33) ∷ []))) (Some (breaks rule.UnknownMember 33))
unfolding violations lesser declared outlines leads unsorted optional_by meaning same_text base_name kind_of field_of is_word behind
rule_16 = λ spelled. simp (on_names, small) refl

-- Precord Pstruct r { Puint8 a : Pis(a, x); };
rule_17 : Told (constrained (expr.Pis 31 (expr.Name (name (codes "a") 35)) (name (codes "x") 38))) (Some (breaks rule.UnknownChoice 35))
unfolding violations lesser declared outlines leads unsorted optional_by meaning same_text base_name kind_of field_of is_word behind
rule_17 = λ spelled. simp (on_names, small) refl

-- Precord Pstruct r { Pcompute Pip n = 1; };
rule_18 : Told (record_type (part.Pcompute (bare (codes "Pip") 29) (name (codes "n") 33) (expr.Number 1 37) ∷ []) ∷ []) (Some (breaks rule.ComputedType 29))
unfolding violations lesser declared outlines leads unsorted optional_by meaning same_text base_name kind_of field_of is_word behind
rule_18 = λ spelled. simp small refl

-- Precord Pstruct r { t v : v; }; and a later typedef that is marked `Precursive`: a number is no condition, and no
-- sort is known of a typedef of itself
abbrev field_of_later : «Type» → List Decl
field_of_later of =
    record_type (part.Field (record { of = bare (codes "t") 20; name = name (codes "v") 22; constraint = Some (expr.Name (name (codes "v") 26)) }) ∷ [])
    ∷ record { mark = Some mark.Precursive; body = decl.Typedef (record { of = of; name = name (codes "t") 60; params = None; constraint = None }) } ∷ []

number_later : Told (field_of_later (bare (codes "Puint8") 50)) (Some (breaks rule.ConditionSort 26))
unfolding violations lesser declared outlines leads unsorted optional_by meaning same_text base_name kind_of field_of is_word behind
number_later = λ spelled. simp on_names refl

itself_later : Told (field_of_later (bare (codes "t") 50)) (Some (breaks rule.MisplacedPrecursive 60))
unfolding violations lesser declared outlines leads unsorted optional_by meaning same_text base_name kind_of field_of is_word behind
itself_later = λ spelled. simp on_names refl
