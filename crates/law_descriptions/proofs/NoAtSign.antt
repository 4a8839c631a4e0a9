-- No name of a tree is spelled `@`: each is spelled as a name.
use Rattle.std.proofs.Common.{◌≡◌, refl, arith, ℕ, true, false, nat_eq, not, is_some, ◌&&◌, List, [], ◌∷◌}
use Rattle.std.specs.List.{list_all}
use Rattle.std.proofs.lemmas.Bool.{and_parts}
use Rattle.std.proofs.lemmas.Bool.Decides.{nat_tests}
use Rattle.pads_lex.specs.Bytes.{is_letter, is_word_byte}
use Rattle.pads_lex.specs.Spelling.{is_name}
use Rattle.pads_lex.specs.Words.{keyword_of}
use Rattle.pads_ast.specs.NameTokens.{names_in, names_in_decl}
use Rattle.pads_ast.specs.declared.decl.Ast.{Ast}
use Rattle.pads_ast.specs.declared.decl.Decl.{Decl}
use Rattle.law_descriptions.specs.Described.{IsSpelled, AreSpelled}
use Rattle.law_descriptions.specs.Known.{IsSpelledTree}
use Rattle.law_descriptions.proofs.Lists.{each-flat}

-- what begins with a letter or `_` isn't `@`
letter-spelled : (first : ℕ) (others : List ℕ) → is_letter first ≡ true → IsSpelled (first ∷ others)
unfolding is_letter
letter-spelled first others letter = let no : nat_eq 0x40 first ≡ false = grind (arith, nat_tests) in rw no refl

name-spelled : (name : List ℕ) → is_name name ≡ true → IsSpelled name
unfolding is_name
name-spelled [] is = cc
name-spelled (first ∷ others) is =
    let front = and_parts (is_letter first && list_all is_word_byte others) (not (is_some (keyword_of (first ∷ others)))) is in
    letter-spelled first others (and_parts (is_letter first) (list_all is_word_byte others) front.0).0

names-spelled : (names : List (List ℕ)) → list_all is_name names ≡ true → AreSpelled names
names-spelled [] all = tt
names-spelled (name ∷ names) all =
    let parts = and_parts (is_name name) (list_all is_name names) all in (name-spelled name parts.0, names-spelled names parts.1)

pub tree-spelled : (tree : Ast) → IsSpelledTree tree
tree-spelled tree number d there =
    each-flat IsSpelled (λ (d : Decl). names_in_decl d.body) tree.decls number d (names-spelled (names_in tree.decls) tree.spelled) there
