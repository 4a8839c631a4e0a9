-- Which form of declaration is read, by its keyword.
use Rattle.std.proofs.Common.{◌≡◌, true, false, refl}
use Rattle.pads_lex.specs.declared.token.Keyword.TheVariants.{Parray, Pstruct, Punion}
use Rattle.pads_grammar.specs.declared.kind.Kind.TheVariants as kind
use Rattle.pads_grammar.specs.Kinds.{Tokens, is, peek}
use Rattle.pads_grammar.specs.Grammar.{apply, reads}
use Rattle.pads_ast.specs.declared.decl.DeclBody.TheVariants as decl_form
use Rattle.pads_syntax.specs.Declarations.{struct_decl, union_decl, array_decl, other_body, decl_body}
use Rattle.pads_syntax.proofs.Firsts.{begins-struct_decl, begins-union_decl, begins-array_decl}

pub body_struct : (ts : Tokens) → is (kind.Keyword Pstruct) (peek ts) ≡ true → reads decl_body ts ≡ reads (apply decl_form.Struct struct_decl) ts
unfolding decl_body
body_struct ts a = rw (begins-struct_decl, a) refl

pub body_union : (ts : Tokens) → is (kind.Keyword Pstruct) (peek ts) ≡ false → is (kind.Keyword Punion) (peek ts) ≡ true → reads decl_body ts ≡ reads (apply decl_form.Union union_decl) ts
unfolding decl_body
body_union ts a b = rw (begins-struct_decl, a, begins-union_decl, b) refl

pub body_array : (ts : Tokens) → is (kind.Keyword Pstruct) (peek ts) ≡ false → is (kind.Keyword Punion) (peek ts) ≡ false → is (kind.Keyword Parray) (peek ts) ≡ true → reads decl_body ts ≡ reads (apply decl_form.Array array_decl) ts
unfolding decl_body
body_array ts a b c = rw (begins-struct_decl, a, begins-union_decl, b, begins-array_decl, c) refl

pub body_other : (ts : Tokens) → is (kind.Keyword Pstruct) (peek ts) ≡ false → is (kind.Keyword Punion) (peek ts) ≡ false → is (kind.Keyword Parray) (peek ts) ≡ false → reads decl_body ts ≡ reads other_body ts
unfolding decl_body
body_other ts a b c = rw (begins-struct_decl, a, begins-union_decl, b, begins-array_decl, c) refl

pub ruleset body_laws = (body_struct, body_union, body_array, body_other)
