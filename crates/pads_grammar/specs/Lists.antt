-- Lists of items with a mark between each two.
use Rattle.std.specs.Prelude.{List, ◌∷◌}
use Rattle.pads_lex.specs.declared.token.Mark.{Mark}
use Rattle.pads_grammar.specs.Grammar.{Grammar, mark, apply, many, ◌&◌, ◌*>◌}

-- One item or more.
abbrev pub listed : {A : Type 0} → Mark → Grammar A → Grammar (List A)
listed separator item = apply (λ both. both.0 ∷ both.1) (item & many (mark separator *> item))
