-- Which alternative of a part is read, by its first token.
use Rattle.std.proofs.Common.{◌≡◌, true, false, refl}
use Rattle.pads_lex.specs.declared.token.Keyword.TheVariants.{Pcompute}
use Rattle.pads_grammar.specs.declared.kind.Kind.TheVariants as kind
use Rattle.pads_grammar.specs.Kinds.{Tokens, is, peek}
use Rattle.pads_grammar.specs.Grammar.{apply, reads, begins}
use Rattle.pads_ast.specs.declared.decl.Part.TheVariants as part_form
use Rattle.pads_syntax_parts.specs.Types.{branch, literal}
use Rattle.pads_syntax_parts.specs.Parts.{literal_part, computed_part, part}
use Rattle.pads_syntax_parts.proofs.Firsts.{solid-literal}

pub part_literal : (ts : Tokens) → begins literal (peek ts) ≡ true → reads part ts ≡ reads literal_part ts
unfolding part
part_literal ts a = rw a refl

pub part_computed : (ts : Tokens) → begins literal (peek ts) ≡ false → is (kind.Keyword Pcompute) (peek ts) ≡ true → reads part ts ≡ reads computed_part ts
unfolding part
part_computed ts a b = rw (a, solid-literal, b) refl

pub part_field : (ts : Tokens) → begins literal (peek ts) ≡ false → is (kind.Keyword Pcompute) (peek ts) ≡ false → reads part ts ≡ reads (apply part_form.Field branch) ts
unfolding part
part_field ts a b = rw (a, solid-literal, b) refl

pub ruleset part_laws = (part_literal, part_computed, part_field)
