-- The names in a whole tree.
use Rattle.std.proofs.Common.{◌≡◌, subst, ℕ, true, List, [], ◌∷◌}
use Rattle.std.specs.List.{AllByRecursion as Each, list_all}
use Rattle.pads_lex.specs.Answers.{HasSpelledNames}
use Rattle.pads_lex.specs.Spelling.{is_name}
use Rattle.pads_grammar.specs.Kinds.{Tokens}
use Rattle.pads_grammar.specs.Whole.{Whole}
use Rattle.pads_ast.specs.NameTokens.{names_in, names_in_decl}
use Rattle.pads_ast.specs.declared.decl.Decl.{Decl}
use Rattle.pads_syntax.specs.Declarations.{decls}
use Rattle.pads_syntax.specs.Trees.{description}
use Rattle.pads_syntax.proofs.Keeps.{names-left}
use Rattle.pads_syntax.proofs.SpelledDeclarations.{SpelledDecl, keeps-decls}
use Rattle.pads_syntax.proofs.SpelledLists.{IsSpelled, all-spelled, each-flat_map}

-- Each name in what tokens derive is spelled as a name, where each name among the tokens is.
pub tree-spelled : (tokens : Tokens) (made : List Decl × ℕ) → Whole decls description made tokens → HasSpelledNames tokens → list_all is_name (names_in made.0) ≡ true
tree-spelled tokens made whole fine =
    let front = names-left whole.front (whole.end ∷ []) (subst HasSpelledNames whole.whole fine) in
    let each : Each SpelledDecl whole.value = keeps-decls.kept whole.value whole.front whole.derived front in
    let all = all-spelled (names_in whole.value) (each-flat_map IsSpelled (λ (d : Decl). names_in_decl d.body) whole.value each) in
    subst (λ (both : List Decl × ℕ). list_all is_name (names_in both.0) ≡ true) whole.made all
