-- What begins each form of declaration, a switch and a declaration.
use Rattle.std.proofs.Common.{◌≡◌, Bool, ◌||◌, refl}
use Rattle.pads_grammar.specs.declared.kind.Kind.{Kind}
use Rattle.pads_lex.specs.declared.token.Keyword.TheVariants.{Parray, Penum, Popt, Precord, Precursive, Psource, Pstruct, Pswitch, Ptypedef, Punion}
use Rattle.pads_grammar.specs.declared.kind.Kind.TheVariants as kind
use Rattle.pads_grammar.specs.Kinds.{is}
use Rattle.pads_grammar.specs.Grammar.{begins}
use Rattle.pads_grammar.proofs.Disjoint.{every_kind}
use Rattle.pads_syntax_parts.proofs.Outermost.{alike, agree}
use Rattle.pads_syntax.specs.Switches.{switch}
use Rattle.pads_syntax.specs.Declarations.{struct_decl, union_decl, array_decl, enum_decl, typedef_decl, opt_decl, other_body, decl_body, marked, decl}

pub begins-struct_decl : (j : Kind) → begins struct_decl j ≡ is (kind.Keyword Pstruct) j
unfolding struct_decl
begins-struct_decl j = agree (begins struct_decl j) (is (kind.Keyword Pstruct) j) (every_kind (λ i. alike (begins struct_decl i) (is (kind.Keyword Pstruct) i)) refl j)

pub begins-union_decl : (j : Kind) → begins union_decl j ≡ is (kind.Keyword Punion) j
unfolding union_decl
begins-union_decl j = agree (begins union_decl j) (is (kind.Keyword Punion) j) (every_kind (λ i. alike (begins union_decl i) (is (kind.Keyword Punion) i)) refl j)

pub begins-array_decl : (j : Kind) → begins array_decl j ≡ is (kind.Keyword Parray) j
unfolding array_decl
begins-array_decl j = agree (begins array_decl j) (is (kind.Keyword Parray) j) (every_kind (λ i. alike (begins array_decl i) (is (kind.Keyword Parray) i)) refl j)

pub begins-enum_decl : (j : Kind) → begins enum_decl j ≡ is (kind.Keyword Penum) j
unfolding enum_decl
begins-enum_decl j = agree (begins enum_decl j) (is (kind.Keyword Penum) j) (every_kind (λ i. alike (begins enum_decl i) (is (kind.Keyword Penum) i)) refl j)

pub begins-typedef_decl : (j : Kind) → begins typedef_decl j ≡ is (kind.Keyword Ptypedef) j
unfolding typedef_decl
begins-typedef_decl j = agree (begins typedef_decl j) (is (kind.Keyword Ptypedef) j) (every_kind (λ i. alike (begins typedef_decl i) (is (kind.Keyword Ptypedef) i)) refl j)

pub begins-switch : (j : Kind) → begins switch j ≡ is (kind.Keyword Pswitch) j
unfolding switch
begins-switch j = agree (begins switch j) (is (kind.Keyword Pswitch) j) (every_kind (λ i. alike (begins switch i) (is (kind.Keyword Pswitch) i)) refl j)

abbrev first-decl : Kind → Bool
first-decl j = is (kind.Keyword Precord) j || (is (kind.Keyword Psource) j || (is (kind.Keyword Precursive) j || (is (kind.Keyword Pstruct) j || (is (kind.Keyword Punion) j || (is (kind.Keyword Parray) j || (is (kind.Keyword Penum) j || (is (kind.Keyword Ptypedef) j || is (kind.Keyword Popt) j)))))))

pub begins_decl : (j : Kind) → begins decl j ≡ (is (kind.Keyword Precord) j || (is (kind.Keyword Psource) j || (is (kind.Keyword Precursive) j || (is (kind.Keyword Pstruct) j || (is (kind.Keyword Punion) j || (is (kind.Keyword Parray) j || (is (kind.Keyword Penum) j || (is (kind.Keyword Ptypedef) j || is (kind.Keyword Popt) j))))))))
unfolding decl marked decl_body other_body struct_decl union_decl array_decl enum_decl typedef_decl opt_decl
begins_decl j = agree (begins decl j) (first-decl j) (every_kind (λ i. alike (begins decl i) (first-decl i)) refl j)

pub ruleset firsts = (begins-switch, begins-struct_decl, begins-union_decl, begins-array_decl, begins-enum_decl, begins-typedef_decl)
