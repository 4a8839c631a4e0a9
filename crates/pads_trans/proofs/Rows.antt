-- Rows of the translation, computed on the definitions. Names are numbered as they stand in `some`, `none`, `y`.
use Rattle.std.proofs.Common.{◌≡◌, refl, pos, negsuc, List, [], ◌∷◌, true, Some, None}
use Rattle.pads_calc.specs.declared.term.Term.TheVariants as term
use Rattle.pads_calc.specs.declared.term.ComputedForm.TheVariants as result2
use Rattle.pads_code.specs.CodePage.{byte_of, page_037}
use Rattle.pads_code.specs.declared.Coding.TheVariants as coding
use Rattle.pads_dispatch.specs.declared.base.Base.TheVariants as base
use Rattle.pads_expr.specs.declared.expr.Expr.TheVariants as expr
use Rattle.pads_int.specs.declared.kind.Kind.TheVariants as kind
use Rattle.pads_base_names.specs.declared.meaning.BaseName.TheVariants as base_name
use Rattle.pads_base_names.specs.declared.meaning.NamedCoding.TheVariants as named_coding
use Rattle.pads_resolution.specs.declared.decl.ArrayOption.TheVariants as option
use Rattle.pads_resolution.specs.declared.decl.Computed.TheVariants as computed
use Rattle.pads_resolution.specs.declared.decl.Part.TheVariants as part
use Rattle.pads_resolution.specs.declared.expr.Expr.TheVariants as tree
use Rattle.pads_resolution.specs.declared.types.Literal.TheVariants as literal
use Rattle.pads_resolution.specs.declared.types.TypeName.TheVariants as type_name
use Rattle.pads_trans.specs.Terms.{base_of, part_of, type_of, bare_type, optional, separator_of, first}
use Rattle.pads_trans.specs.Names.{Name, some_name, none_name, number_of}
use Rattle.pads_trans.proofs.ExprRolls.{made-Number}

y : Name
y = 0x79 ∷ []

names : List Name
names = some_name ∷ none_name ∷ y ∷ []

-- A comma is 6B in code page 037.
literal_row : part_of names coding.Ebcdic (part.Literal (literal.Word (0x2c ∷ [])))
    ≡ record { name = None; term = term.Scan (term.Absorb (term.Lit (0x6b ∷ []))) }
unfolding part_of byte_of page_037
literal_row = refl

-- Popt Puint32
optional_row : type_of names coding.Ascii (record { optional = true; name = type_name.Base (base_name.Int named_coding.Ambient kind.U32); args = [] })
    ≡ term.Alt (record { name = 0; term = term.Base (base.Int kind.U32 coding.Ascii) [] } ∷ record { name = 1; term = term.Unit } ∷ [])
unfolding type_of bare_type optional number_of names
optional_row = refl

-- Pe_string(:Peor:), and Pe_string with a stop
end_row : base_of coding.Ascii (base_name.Until named_coding.Ebcdic) [] ≡ base.UntilEor coding.Ebcdic
end_row = refl

stop_row : base_of coding.Ascii (base_name.Until named_coding.Ebcdic) (expr.Text (0x2c ∷ []) ∷ []) ≡ base.Until coding.Ebcdic
stop_row = refl

-- Psep('|') behind Pterm(Peor)
separator_row : separator_of coding.Ascii (option.Pterm literal.Peor ∷ option.Psep (0x7c ∷ []) ∷ []) ≡ Some (term.Absorb (term.Lit (0x7c ∷ [])))
unfolding first byte_of
separator_row = refl

-- Pcompute Pint8 y = 1
computed_row : part_of names coding.Ascii (part.Pcompute (computed.Int kind.I8) y (tree.Number (pos 1)))
    ≡ record { name = Some 2; term = term.Compute (expr.Num (pos 1)) (result2.Range (negsuc 127) (pos 127)) }
unfolding part_of number_of names y
computed_row = rw (made-Number names (pos 1)) refl
