-- Declarations with a name `@`: the grammar makes them of tokens that no text is cut into, and no tree has them.
use Rattle.std.proofs.Common.{◌≡◌, refl, subst, ℕ, ◌+◌, true, List, [], ◌∷◌, ◌++◌, None, inl, inr, codes}
use Rattle.std.specs.List.{list_all}
use Rattle.std.proofs.lemmas.Bool.{and_parts}
use Rattle.pads_lex.proofs.NameLaws.{cut_names}
use Rattle.pads_lex.specs.Bytes.{is_letter}
use Rattle.pads_lex.specs.Cut.{IsCut}
use Rattle.pads_lex.specs.Spelling.{is_name}
use Rattle.pads_lex.specs.declared.token.Token.{Token}
use Rattle.pads_lex.specs.declared.token.TokenKind.{TokenKind}
use Rattle.pads_lex.specs.declared.token.TokenKind.TheVariants as token_kind
use Rattle.pads_grammar.specs.declared.kind.Kind.{Kind}
use Rattle.pads_lex.specs.declared.token.Keyword.TheVariants.{Penum}
use Rattle.pads_lex.specs.declared.token.Mark.TheVariants.{CloseBrace, Comma, OpenBrace, Semicolon}
use Rattle.pads_grammar.specs.declared.kind.Kind.TheVariants as kind
use Rattle.pads_grammar.specs.Kinds.{Tokens, kind_of}
use Rattle.pads_grammar.specs.Whole.{Whole}
use Rattle.pads_grammar.specs.Grammar.{Grammar, Derives, token, pair, optional, many, rest_of, ◌<*◌, ◌*>◌, mark, keyword}
use Rattle.pads_ast.specs.NameTokens.{names_in}
use Rattle.pads_ast.specs.declared.decl.Ast.{Ast}
use Rattle.pads_ast.specs.declared.decl.DeclBody.TheVariants as decl_form
use Rattle.pads_ast.specs.declared.decl.Decl.{Decl}
use Rattle.pads_ast.specs.declared.decl.Enum.{Enum}
use Rattle.pads_ast.specs.declared.decl.Label.{Label}
use Rattle.pads_ast.specs.declared.name.Name.{Name}
use Rattle.pads_syntax_expr.specs.Leaves.{name}
use Rattle.pads_syntax_parts.specs.Parts.{spelling, label, labels}
use Rattle.pads_syntax.specs.Declarations.{enum_heading, enum_decl, marked, other_body, decl_body, decl, decls}
use Rattle.pads_syntax.specs.Trees.{description, IsTree}
use Rattle.pads_syntax.proofs.DeclDecides.{decls_ok}
use Rattle.pads_syntax.proofs.TreeLaws.{one}

abbrev at : ℕ → TokenKind → Token
at place kind = record { kind = kind; begin = place; «end» = place + 1 }

-- Penum @ { a } ;
abbrev opening : Tokens
opening = at 0 (token_kind.Keyword Penum) ∷ at 1 (token_kind.Name (codes "@")) ∷ []

abbrev heading : Tokens
heading = opening ++ at 2 (token_kind.Mark OpenBrace) ∷ []

abbrev inside : Tokens
inside = at 3 (token_kind.Name (codes "a")) ∷ []

abbrev body : Tokens
body = heading ++ inside ++ at 4 (token_kind.Mark CloseBrace) ∷ []

abbrev written : Tokens
written = body ++ at 5 (token_kind.Mark Semicolon) ∷ []

abbrev the_tokens : Tokens
the_tokens = written ++ at 6 token_kind.End ∷ []

-- what they make
abbrev the_name : Name
the_name = record { text = codes "@"; at = 1 }

abbrev the_label : Label
the_label = record { name = record { text = codes "a"; at = 3 }; spelling = None }

abbrev the_enum : Enum
the_enum = record { name = the_name; labels = the_label ∷ [] }

abbrev the_decl : Decl
the_decl = record { mark = None; body = decl_form.Enum the_enum }

marked-by : (k : Kind) (t : Token) → kind_of t.kind ≡ k → Derives (token k (λ t. t.begin)) t.begin (t ∷ [])
marked-by k t is = record { token = t; alone = refl; kind = is; taken = refl }

named : (text : List ℕ) (place : ℕ) → Derives name (record { text = text; at = place }) (at place (token_kind.Name text) ∷ [])
named text place = record { token = at place (token_kind.Name text); alone = refl; kind = refl; taken = refl }

module _ {A B : Type 0} (g : Grammar A) (h : Grammar B) (a : A) (b : B) (front back : Tokens) (one : Derives g a front) (other : Derives h b back) where
  joined : Derives (pair g h) (a, b) (front ++ back)
  joined = record { front = front; back = back; whole = refl; first = one; second = other }

  first-kept : Derives (g <* h) a (front ++ back)
  first-kept = record { value = (a, b); is = refl; derived = joined }

  second-kept : Derives (g *> h) b (front ++ back)
  second-kept = record { value = (a, b); is = refl; derived = joined }

opening-derived : Derives (keyword Penum *> name) the_name opening
opening-derived = second-kept (keyword Penum) name 0 the_name (at 0 (token_kind.Keyword Penum) ∷ []) (at 1 (token_kind.Name (codes "@")) ∷ []) (marked-by (kind.Keyword Penum) (at 0 (token_kind.Keyword Penum)) refl) (named (codes "@") 1)

heading-derived : Derives enum_heading the_name heading
heading-derived = first-kept (keyword Penum *> name) (mark OpenBrace) the_name 2 opening (at 2 (token_kind.Mark OpenBrace) ∷ []) opening-derived (marked-by (kind.Mark OpenBrace) (at 2 (token_kind.Mark OpenBrace)) refl)

label-derived : Derives label the_label inside
unfolding label
label-derived = record { value = (the_label.name, None); is = refl; derived = joined name (optional spelling) the_label.name None inside [] (named (codes "a") 3) refl }

labels-derived : Derives labels (the_label ∷ []) inside
unfolding labels
labels-derived = record { value = (the_label, []); is = refl; derived = joined label (rest_of (kind.Mark Comma) label) the_label [] inside [] label-derived (inl refl) }

enum-derived : Derives enum_decl the_enum body
unfolding enum_decl
enum-derived = record {
  value = (the_name, the_label ∷ []);
  is = refl;
  derived = first-kept (pair enum_heading labels) (mark CloseBrace) (the_name, the_label ∷ []) 4 (heading ++ inside) (at 4 (token_kind.Mark CloseBrace) ∷ [])
      (joined enum_heading labels the_name (the_label ∷ []) heading inside heading-derived labels-derived) (marked-by (kind.Mark CloseBrace) (at 4 (token_kind.Mark CloseBrace)) refl);
}

body-derived : Derives decl_body (decl_form.Enum the_enum) body
unfolding decl_body other_body
body-derived = inr (inr (inr (inl (record { value = the_enum; is = refl; derived = enum-derived }))))

unmarked : Derives marked None []
unfolding marked
unmarked = refl

decl-derived : Derives decl the_decl written
unfolding decl
decl-derived = record {
  value = (None, decl_form.Enum the_enum);
  is = refl;
  derived = first-kept (pair marked decl_body) (mark Semicolon) (None, decl_form.Enum the_enum) 5 body (at 5 (token_kind.Mark Semicolon) ∷ [])
      (joined marked decl_body None (decl_form.Enum the_enum) [] body unmarked body-derived) (marked-by (kind.Mark Semicolon) (at 5 (token_kind.Mark Semicolon)) refl);
}

-- The grammar alone doesn't keep such a name out.
pub derives-at_sign : Whole decls description (the_decl ∷ [], 6) the_tokens
derives-at_sign = record {
  front = written;
  «end» = at 6 token_kind.End;
  value = the_decl ∷ [];
  whole = refl;
  last = refl;
  derived = joined decl (many decl) the_decl [] written [] decl-derived refl;
  made = refl;
}

at_sign-refused : is_name (codes "@") ≡ true → ⊥
unfolding is_name is_letter
at_sign-refused spelled = cc

-- A tree does.
pub no_tree : (tree : Ast) → IsTree tree the_tokens → ⊥
no_tree tree is =
    let same = one decls description decls_ok the_tokens (tree.decls, tree.end) (the_decl ∷ [], 6) is derives-at_sign in
    let spelled = subst (λ (both : List Decl × ℕ). list_all is_name (names_in both.0) ≡ true) same tree.spelled in
    at_sign-refused (and_parts (is_name (codes "@")) _ spelled).0

-- And no text is cut into these tokens.
pub no_text : (text : List ℕ) → IsCut 0 text the_tokens → ⊥
no_text text cut = at_sign-refused ((cut_names 0 text the_tokens cut).1.0 (codes "@") refl)
