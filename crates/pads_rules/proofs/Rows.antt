-- Rows of the rules, computed: descriptions with their least violation, worked out by hand.
use Rattle.std.proofs.Common.{◌≡◌, refl, ℕ, true, List, [], ◌∷◌, Option, Some, None}
use Rattle.std.specs.List.{list_all}
use Rattle.std.specs.Prelude.{codes}
use Rattle.pads_lex.specs.Spelling.{is_name}
use Rattle.pads_ast.specs.NameTokens.{names_in}
use Rattle.pads_ast.specs.declared.decl.ArrayOption.TheVariants as array_option
use Rattle.pads_ast.specs.declared.decl.Decl.{Decl}
use Rattle.pads_ast.specs.declared.decl.DeclBody.TheVariants as decl
use Rattle.pads_ast.specs.declared.decl.DeclMark.TheVariants as mark
use Rattle.pads_ast.specs.declared.decl.Part.{Part}
use Rattle.pads_ast.specs.declared.decl.Part.TheVariants as part
use Rattle.pads_ast.specs.declared.decl.Label.{Label}
use Rattle.pads_ast.specs.declared.expr.Expr.{Expr}
use Rattle.pads_ast.specs.declared.expr.Expr.TheVariants as expr
use Rattle.pads_ast.specs.declared.name.Name.{Name}
use Rattle.pads_ast.specs.declared.name.Word.TheVariants as word
use Rattle.pads_ast.specs.declared.types.Arg.{Arg}
use Rattle.pads_ast.specs.declared.types.Arg.TheVariants as arg
use Rattle.pads_ast.specs.declared.types.Literal.TheVariants as literal
use Rattle.pads_ast.specs.declared.types.Type.{«Type»}
use Rattle.pads_base_names.specs.Names.{base_name, kind_of, field_of, behind}
use Rattle.pads_value.specs.Words.{is_word}
use Rattle.pads_rules.specs.declared.fault.CheckFault.{CheckFault}
use Rattle.pads_rules.specs.declared.rule.Rule.TheVariants as rule
use Rattle.pads_rules.specs.Faults.{breaks, lesser, least}
use Rattle.pads_rules.specs.Rules.{number}
use Rattle.pads_rules.specs.Resolving.{meaning, unsorted, leads, outlines, declared}
use Rattle.pads_rules.specs.Sorts.{optional_by}
use Rattle.pads_rules.specs.Texts.{same_text}
use Rattle.pads_rules.specs.Violations.{violations}
use Rattle.pads_rules.proofs.Judgements.{on_names}

abbrev name : List ℕ → ℕ → Name
name text at = record { text = text; at = at }

-- a type without arguments
abbrev bare : List ℕ → ℕ → «Type»
bare text at = record { optional = None; name = name text at; args = None }

-- a type with one argument
abbrev of_one : List ℕ → ℕ → Arg → «Type»
of_one text at a = record { optional = None; name = name text at; args = Some (a ∷ []) }

abbrev field : «Type» → Name → Option Expr → Part
field of own constraint = part.Field (record { of = of; name = own; constraint = constraint })

-- Precord Pstruct r { .. }, its parts from offset 20 on
abbrev record_type : List Part → Decl
record_type parts = record { mark = Some mark.Precord; body = decl.Struct (record { name = name (codes "r") 16; params = None; parts = parts; condition = None }) }

-- what is told first of a tree of these declarations, whose names are spelled as names
abbrev Told : List Decl → Option CheckFault → Type 0
Told decls first = (spelled : list_all is_name (names_in decls) ≡ true) → least (violations (record { decls = decls; end = 99; spelled = spelled })) ≡ first

-- the empty description has no record type
empty : least (violations (record { decls = []; end = 0; spelled = refl })) ≡ Some (breaks rule.NoRecordType 0)
unfolding violations lesser declared outlines leads unsorted
empty = refl

-- Precord Pstruct r { };
accepted : Told (record_type [] ∷ []) None
unfolding violations lesser declared outlines leads unsorted optional_by meaning same_text base_name kind_of field_of is_word behind
accepted = λ spelled. refl

-- Precord Pstruct r { Puint8 a; Pstring(:Peor:) b; };
accepted_fields : Told (record_type (field (bare (codes "Puint8") 20) (name (codes "a") 27) None ∷ field (of_one (codes "Pstring") 30 (arg.Peor 39)) (name (codes "b") 46) None ∷ []) ∷ []) None
unfolding violations lesser declared outlines leads unsorted optional_by meaning same_text base_name kind_of field_of is_word behind
accepted_fields = λ spelled. refl

-- Precord Pstruct Puint8 { };
rule_1 : Told (record { mark = Some mark.Precord; body = decl.Struct (record { name = name (codes "Puint8") 16; params = None; parts = []; condition = None }) } ∷ []) (Some (breaks rule.NameTaken 16))
unfolding violations lesser declared outlines leads unsorted optional_by meaning same_text base_name kind_of field_of is_word behind
rule_1 = λ spelled. refl

-- Precord Pstruct r { Pfoo a; Puint8 a; };
rule_2_before_4 : Told (record_type (field (bare (codes "Pfoo") 20) (name (codes "a") 25) None ∷ field (bare (codes "Puint8") 28) (name (codes "a") 35) None ∷ []) ∷ []) (Some (breaks rule.UnknownType 20))
unfolding violations lesser declared outlines leads unsorted optional_by meaning same_text base_name kind_of field_of is_word behind
rule_2_before_4 = λ spelled. refl

-- Precord Pstruct r { r a; };
rule_3 : Told (record_type (field (bare (codes "r") 20) (name (codes "a") 22) None ∷ []) ∷ []) (Some (breaks rule.LaterType 20))
unfolding violations lesser declared outlines leads unsorted optional_by meaning same_text base_name kind_of field_of is_word behind
rule_3 = λ spelled. refl

-- Precord Pstruct r { Puint8 a; Puint8 a; };
rule_4 : Told (record_type (field (bare (codes "Puint8") 20) (name (codes "a") 27) None ∷ field (bare (codes "Puint8") 30) (name (codes "a") 37) None ∷ []) ∷ []) (Some (breaks rule.NameAgain 37))
unfolding violations lesser declared outlines leads unsorted optional_by meaning same_text base_name kind_of field_of is_word behind
rule_4 = λ spelled. refl

-- Precord Pstruct r { Pstring_FW(:n:) s; Puint8 n; };
rule_6 : Told (record_type (field (of_one (codes "Pstring_FW") 20 (arg.Expr (expr.Name (name (codes "n") 32)))) (name (codes "s") 36) None ∷ field (bare (codes "Puint8") 39) (name (codes "n") 46) None ∷ []) ∷ []) (Some (breaks rule.LaterField 32))
unfolding violations lesser declared outlines leads unsorted optional_by meaning same_text base_name kind_of field_of is_word behind
rule_6 = λ spelled. simp on_names refl

-- Precord Pstruct r { Pstring a; };
rule_7 : Told (record_type (field (bare (codes "Pstring") 20) (name (codes "a") 28) None ∷ []) ∷ []) (Some (breaks rule.ArgumentCount 20))
unfolding violations lesser declared outlines leads unsorted optional_by meaning same_text base_name kind_of field_of is_word behind
rule_7 = λ spelled. refl

-- Precord Pstruct r { Puint8_FW(:Peor:) a; };
rule_8 : Told (record_type (field (of_one (codes "Puint8_FW") 20 (arg.Peor 31)) (name (codes "a") 38) None ∷ []) ∷ []) (Some (breaks rule.ArgumentSort 31))
unfolding violations lesser declared outlines leads unsorted optional_by meaning same_text base_name kind_of field_of is_word behind
rule_8 = λ spelled. refl

-- Precord Pstruct r { Puint8 a : a; };
rule_10 : Told (record_type (field (bare (codes "Puint8") 20) (name (codes "a") 27) (Some (expr.Name (name (codes "a") 31))) ∷ []) ∷ []) (Some (breaks rule.ConditionSort 31))
unfolding violations lesser declared outlines leads unsorted optional_by meaning same_text base_name kind_of field_of is_word behind
rule_10 = λ spelled. simp on_names refl

-- Precord Pstruct r { ""; };
rule_14 : Told (record_type (part.Literal (literal.Word (word.Text [] 20)) ∷ []) ∷ []) (Some (breaks rule.EmptyLiteral 20))
unfolding violations lesser declared outlines leads unsorted optional_by meaning same_text base_name kind_of field_of is_word behind
rule_14 = λ spelled. refl

-- Penum e { A Pfrom("x"), B Pfrom("x") }; Precord Pstruct r { e v; };
abbrev label : List ℕ → ℕ → ℕ → Label
label text at spelled_at = record { name = name text at; spelling = Some (word.Text (codes "x") spelled_at) }

rule_15 : Told
    (record { mark = None; body = decl.Enum (record { name = name (codes "e") 6; labels = label (codes "A") 10 18 ∷ label (codes "B") 24 32 ∷ [] }) }
    ∷ record { mark = Some mark.Precord; body = decl.Struct (record { name = name (codes "r") 56; params = None; parts = field (bare (codes "e") 60) (name (codes "v") 62) None ∷ []; condition = None }) } ∷ [])
    (Some (breaks rule.SpellingAgain 32))
unfolding violations lesser declared outlines leads unsorted optional_by meaning same_text base_name kind_of field_of is_word behind
rule_15 = λ spelled. refl

-- Popt Puint8 o (: Pip p :); and then a record type
rule_19 : Told
    (record { mark = None; body = decl.Opt (record { of = bare (codes "Puint8") 5; name = name (codes "o") 12; params = Some (record { of = bare (codes "Pip") 17; name = name (codes "p") 21 } ∷ []) }) }
    ∷ record_type [] ∷ [])
    (Some (breaks rule.ParameterType 17))
unfolding violations lesser declared outlines leads unsorted optional_by meaning same_text base_name kind_of field_of is_word behind
rule_19 = λ spelled. refl

-- Precord Pstruct r { }; Popt r o;
rule_20 : Told (record_type [] ∷ record { mark = None; body = decl.Opt (record { of = bare (codes "r") 28; name = name (codes "o") 30; params = None }) } ∷ [])
    (Some (breaks rule.RecordTypeNamed 28))
unfolding violations lesser declared outlines leads unsorted optional_by meaning same_text base_name kind_of field_of is_word behind
rule_20 = λ spelled. refl

-- Precord Pstruct r (: Pchar c :) { };
rule_21 : Told
    (record { mark = Some mark.Precord; body = decl.Struct (record { name = name (codes "r") 16; params = Some (record { of = bare (codes "Pchar") 21; name = name (codes "c") 27 } ∷ []); parts = []; condition = None }) } ∷ [])
    (Some (breaks rule.MarkedWithParameters 16))
unfolding violations lesser declared outlines leads unsorted optional_by meaning same_text base_name kind_of field_of is_word behind
rule_21 = λ spelled. refl

-- Psource Pstruct s { }; and then a record type: it isn't the last
rule_22 : Told
    (record { mark = Some mark.Psource; body = decl.Struct (record { name = name (codes "s") 16; params = None; parts = []; condition = None }) }
    ∷ record { mark = Some mark.Precord; body = decl.Struct (record { name = name (codes "r") 39; params = None; parts = []; condition = None }) } ∷ [])
    (Some (breaks rule.MisplacedSource 16))
unfolding violations lesser declared outlines leads unsorted optional_by meaning same_text base_name kind_of field_of is_word behind
rule_22 = λ spelled. refl

-- Precord Pstruct r { }; Psource Parray s { r[]; };
accepted_source : Told
    (record_type [] ∷ record { mark = Some mark.Psource; body = decl.Array (record { name = name (codes "s") 38; params = None; of = bare (codes "r") 42; size = None; options = []; condition = None }) } ∷ [])
    None
unfolding violations lesser declared outlines leads unsorted optional_by meaning same_text base_name kind_of field_of is_word behind
accepted_source = λ spelled. refl

-- Precord Pstruct r { }; Parray a { Puint8[] : Psep(',') && Psep(';'); };
rule_4_options : Told
    (record_type [] ∷ record {
      mark = None;
      body = decl.Array (record {
        name = name (codes "a") 30;
        params = None;
        of = bare (codes "Puint8") 34;
        size = None;
        options = array_option.Psep 45 (word.Char 44 50) ∷ array_option.Psep 58 (word.Char 59 63) ∷ [];
        condition = None;
      });
    } ∷ [])
    (Some (breaks rule.NameAgain 58))
unfolding violations lesser declared outlines leads unsorted optional_by meaning same_text base_name kind_of field_of is_word behind
rule_4_options = λ spelled. refl

-- Precord Pstruct r { a v; }; Precursive Pstruct a { a x; };
forward_and_itself : Told
    (record_type (field (bare (codes "a") 20) (name (codes "v") 22) None ∷ [])
    ∷ record { mark = Some mark.Precursive; body = decl.Struct (record { name = name (codes "a") 46; params = None; parts = field (bare (codes "a") 50) (name (codes "x") 52) None ∷ []; condition = None }) } ∷ [])
    None
unfolding violations lesser declared outlines leads unsorted optional_by meaning same_text base_name kind_of field_of is_word behind
forward_and_itself = λ spelled. refl

-- Precursive Ptypedef Puint8 t; Precord Pstruct r { t v; };
abbrev recursive_typedef : «Type» → Decl
recursive_typedef of = record { mark = Some mark.Precursive; body = decl.Typedef (record { of = of; name = name (codes "t") 27; params = None; constraint = None }) }

abbrev after_typedef : List Decl
after_typedef = record { mark = Some mark.Precord; body = decl.Struct (record { name = name (codes "r") 46; params = None; parts = field (bare (codes "t") 50) (name (codes "v") 52) None ∷ []; condition = None }) } ∷ []

rule_25 : Told (recursive_typedef (bare (codes "Puint8") 20) ∷ after_typedef) (Some (breaks rule.MisplacedPrecursive 27))
unfolding violations lesser declared outlines leads unsorted optional_by meaning same_text base_name kind_of field_of is_word behind
rule_25 = λ spelled. refl

-- Precursive Ptypedef t t; Precord Pstruct r { t v; };
to_itself : Told (recursive_typedef (bare (codes "t") 20) ∷ after_typedef) (Some (breaks rule.MisplacedPrecursive 27))
unfolding violations lesser declared outlines leads unsorted optional_by meaning same_text base_name kind_of field_of is_word behind
to_itself = λ spelled. refl
