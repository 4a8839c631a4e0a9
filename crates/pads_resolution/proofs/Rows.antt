-- Rows of resolving, computed: descriptions with what they resolve to, worked out by hand.
use Rattle.std.proofs.Common.{◌≡◌, refl, ℕ, pos, true, false, List, [], ◌∷◌, Option, Some, None}
use Rattle.std.specs.List.{list_all}
use Rattle.std.specs.Prelude.{codes}
use Rattle.pads_lex.specs.Bytes.{is_letter, is_digit, is_word_byte}
use Rattle.pads_lex.specs.Spelling.{is_name}
use Rattle.pads_lex.specs.Words.{keyword_of}
use Rattle.pads_ast.specs.NameTokens.{names_in}
use Rattle.pads_ast.specs.declared.decl.Decl.{Decl}
use Rattle.pads_ast.specs.declared.decl.DeclBody.TheVariants as decl
use Rattle.pads_ast.specs.declared.decl.DeclMark.{DeclMark}
use Rattle.pads_ast.specs.declared.decl.DeclMark.TheVariants as mark
use Rattle.pads_ast.specs.declared.decl.Part.{Part}
use Rattle.pads_ast.specs.declared.decl.Part.TheVariants as part
use Rattle.pads_expr.specs.declared.expr.BinOp.TheVariants as operator
use Rattle.pads_ast.specs.declared.expr.Expr.{Expr}
use Rattle.pads_ast.specs.declared.expr.Expr.TheVariants as expr
use Rattle.pads_ast.specs.declared.expr.Step.TheVariants as step
use Rattle.pads_ast.specs.declared.name.Name.{Name}
use Rattle.pads_ast.specs.declared.name.Word.TheVariants as word
use Rattle.pads_ast.specs.declared.types.Arg.TheVariants as arg
use Rattle.pads_ast.specs.declared.types.Literal.TheVariants as literal
use Rattle.pads_ast.specs.declared.types.Type.{«Type»}
use Rattle.pads_int.specs.declared.kind.Kind.TheVariants.{U8}
use Rattle.pads_rules.specs.declared.sort.Form.TheVariants as form
use Rattle.pads_rules.specs.declared.sort.Sort.{Sort}
use Rattle.pads_base_names.specs.Names.{base_name, kind_of, field_of, behind}
use Rattle.pads_value.specs.Words.{is_word}
use Rattle.pads_base_names.specs.declared.meaning.BaseName.TheVariants as base
use Rattle.pads_base_names.specs.declared.meaning.NamedCoding.TheVariants as coding
use Rattle.pads_resolution.specs.declared.decl.DeclBody.TheVariants as body
use Rattle.pads_resolution.specs.declared.decl.Part.TheVariants as resolved_part
use Rattle.pads_resolution.specs.declared.decl.Role.TheVariants as role
use Rattle.pads_resolution.specs.declared.expr.Expr.TheVariants as resolved_expr
use Rattle.pads_resolution.specs.declared.expr.NameUse.TheVariants as meaning
use Rattle.pads_resolution.specs.declared.types.TypeName.TheVariants as type_name
use Rattle.pads_rules.specs.declared.declared.Content.TheVariants as content
use Rattle.pads_rules.specs.declared.expr_sort.ExprSort.TheVariants as expr_sort
use Rattle.pads_rules.specs.Pieces.{sites}
use Rattle.pads_rules.specs.Resolving.{meaning as name_meaning, declared, outlines}
use Rattle.pads_rules.specs.Sorts.{num, truth, plain}
use Rattle.pads_rules.specs.Texts.{same_text}
use Rattle.pads_resolution.specs.declared.visible.Stands.TheVariants as stands
use Rattle.pads_resolution.specs.Bodies.{branch_at, part_at, struct_at, body_at}
use Rattle.pads_resolution.specs.Chains.{linked, stepped}
use Rattle.pads_resolution.specs.Expressions.{as_sort, expression, name_in, binary, member_of, indexed}
use Rattle.pads_resolution.specs.Numbers.{member_number}
use Rattle.pads_resolution.specs.Resolution.{role_of, params_scope, decl_at, named_number, list_record, source_after, source_of, resolved}
use Rattle.pads_resolution.specs.Scopes.{fields_after, array_scope, name_as}
use Rattle.pads_resolution.specs.Types.{named_type, args, type_at}
use Rattle.pads_resolution.proofs.Forms.{forms}

abbrev name : List ℕ → Name
name text = record { text = text; at = 0 }

-- a type without arguments
abbrev bare : List ℕ → «Type»
bare text = record { optional = None; name = name text; args = None }

abbrev field : «Type» → List ℕ → Part
field of own = part.Field (record { of = of; name = name own; constraint = None })

abbrev struct : Option DeclMark → List ℕ → List Part → Option Expr → Decl
struct m own parts condition = record { mark = m; body = decl.Struct (record { name = name own; params = None; parts = parts; condition = condition }) }

abbrev array : Option DeclMark → List ℕ → «Type» → Decl
array m own of = record { mark = m; body = decl.Array (record { name = name own; params = None; of = of; size = None; options = []; condition = None }) }

abbrev plain_sort : Sort
plain_sort = record { optional = 0; form = form.Num }

-- Precord Pstruct r { Puint8 a; Pstring(:Peor:) b; };
abbrev two_fields : List Decl
two_fields = struct (Some mark.Precord) (codes "r") (field (bare (codes "Puint8")) (codes "a") ∷ field (record { optional = None; name = name (codes "Pstring"); args = Some (arg.Peor 0 ∷ []) }) (codes "b") ∷ []) None ∷ []

two_spelled : list_all is_name (names_in two_fields) ≡ true
unfolding is_name is_letter is_word_byte is_digit keyword_of is_word
two_spelled = refl

fields : resolved (record { decls = two_fields; end = 0; spelled = two_spelled })
    ≡ record {
      decls = record {
        role = role.Precord;
        name = codes "r";
        params = [];
        body = body.Struct (record {
          parts =
              resolved_part.Field (record { of = record { optional = false; name = type_name.Base (base.Int coding.Ambient U8); args = [] }; name = codes "a"; constraint = None })
              ∷ resolved_part.Field (record { of = record { optional = false; name = type_name.Base (base.Until coding.Ambient); args = [] }; name = codes "b"; constraint = None }) ∷ [];
          condition = None;
        });
      } ∷ [];
      source = record { header = None; «record» = 0 };
    }
unfolding resolved decl_at role_of params_scope body_at struct_at part_at branch_at type_at named_type args source_of source_after declared outlines name_meaning same_text base_name kind_of field_of is_word behind
fields = refl

-- Pstruct r { '|'; Puint8 a; } Pwhere { (a) < 3 }: the field is part number 1
condition : expression [] [] (expr.Chain (expr.Paren 0 (expr.Name (name (codes "a")))) (record { operator = operator.Lt; operand = expr.Number 3 0 } ∷ []))
    (fields_after (record { types = []; number = 0 }) [] 0 (part.Literal (literal.Word (word.Char 124 0)) ∷ field (bare (codes "Puint8")) (codes "a") ∷ []))
    ≡ as_sort (resolved_expr.Binary operator.Lt (resolved_expr.Name (meaning.Field 1) plain_sort) (resolved_expr.Number (pos 3))) truth
unfolding linked binary name_in same_text name_meaning base_name kind_of field_of is_word behind
condition = simp forms refl

-- Precord Pstruct h { }; Precord Pstruct r { }; Parray l { r[]; }; Psource Pstruct s { h h; l l; };
with_header : source_of (sites (
    struct (Some mark.Precord) (codes "h") [] None ∷ struct (Some mark.Precord) (codes "r") [] None ∷ array None (codes "l") (bare (codes "r"))
    ∷ struct (Some mark.Psource) (codes "s") (field (bare (codes "h")) (codes "h") ∷ field (bare (codes "l")) (codes "l") ∷ []) None ∷ []))
    ≡ record { header = Some 0; «record» = 1 }
unfolding source_of source_after named_number list_record declared outlines name_meaning same_text base_name kind_of field_of is_word behind
with_header = refl

-- Precord Pstruct h { }; Precord Pstruct r { }; Psource Parray s { h[]; };
listed : source_of (sites (
    struct (Some mark.Precord) (codes "h") [] None ∷ struct (Some mark.Precord) (codes "r") [] None ∷ array (Some mark.Psource) (codes "s") (bare (codes "h")) ∷ []))
    ≡ record { header = None; «record» = 0 }
unfolding source_of source_after named_number declared outlines name_meaning same_text base_name kind_of field_of is_word behind
listed = refl

-- the last `Precord` declaration
last : source_of (sites (struct (Some mark.Precord) (codes "h") [] None ∷ struct (Some mark.Precord) (codes "r") [] None ∷ struct None (codes "s") [] None ∷ []))
    ≡ record { header = None; «record» = 1 }
unfolding source_of source_after declared outlines name_meaning same_text base_name kind_of field_of is_word behind
last = refl

-- `o.none` of an optional number, and `s.b` of a struct `'|'; Puint8 b;`
none : expression [] [] (expr.Post (expr.Name (name (codes "o"))) (step.Name (name (codes "none")) ∷ []))
    (name_as (codes "o") stands.Variable (expr_sort.Known (record { optional = 1; form = form.Num })) ∷ [])
    ≡ as_sort (resolved_expr.Branch (resolved_expr.Name (meaning.Variable (codes "o")) (record { optional = 1; form = form.Num })) 1 plain_sort) expr_sort.Nothing
unfolding stepped member_of member_number name_in same_text
none = simp forms refl

-- `elts[length - 1]` of an array of numbers, declaration number 0
element : expression []
    (record { name = codes "a"; mark = None; record_list = false; params = []; sort = plain (form.Array 0); content = content.Element num } ∷ [])
    (expr.Post (expr.Name (name (codes "elts"))) (step.Index 0 (expr.Chain (expr.Name (name (codes "length"))) (record { operator = operator.Sub; operand = expr.Number 1 0 } ∷ [])) ∷ []))
    (array_scope 0 [])
    ≡ as_sort
    (resolved_expr.Index (resolved_expr.Name meaning.Elts (record { optional = 0; form = form.Array 0 }))
    (resolved_expr.Binary operator.Sub (resolved_expr.Name meaning.Length plain_sort) (resolved_expr.Number (pos 1))) plain_sort)
    num
unfolding stepped linked binary indexed name_in same_text
element = simp forms refl

-- Pstruct a { b x; }; Precursive Pstruct b { a y; };
abbrev to_each_other : List Decl
to_each_other = struct None (codes "a") (field (bare (codes "b")) (codes "x") ∷ []) None ∷ struct (Some mark.Precursive) (codes "b") (field (bare (codes "a")) (codes "y") ∷ []) None ∷ []

-- a name that no earlier type has is that of a later one
forward : named_type (record { types = declared to_each_other; number = 0 }) (bare (codes "b")) ≡ type_name.Declared 1
unfolding named_type declared outlines name_meaning same_text base_name kind_of field_of is_word behind
forward = refl

-- Pstruct b { }; Pstruct a { b x; }; Precursive Pstruct b { };
abbrev named_twice : List Decl
named_twice = struct None (codes "b") [] None ∷ struct None (codes "a") (field (bare (codes "b")) (codes "x") ∷ []) None ∷ struct (Some mark.Precursive) (codes "b") [] None ∷ []

-- an earlier type goes before a later one of that name
backward : named_type (record { types = declared named_twice; number = 1 }) (bare (codes "b")) ≡ type_name.Declared 0
unfolding named_type declared outlines name_meaning same_text base_name kind_of field_of is_word behind
backward = refl
