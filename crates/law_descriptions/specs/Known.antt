-- The sorts that the rules know of the declarations of a tree, and how its names are spelled.
use Rattle.std.specs.Prelude.{◌≡◌, ℕ, List, map, Some, slice_get}
use Rattle.pads_ast.specs.declared.decl.Ast.{Ast}
use Rattle.pads_ast.specs.declared.decl.Decl.{Decl}
use Rattle.pads_resolution.specs.Expressions.{sort_known}
use Rattle.pads_ast.specs.NameTokens.{names_in_decl}
use Rattle.pads_rules.specs.Resolving.{declared}
use Rattle.pads_rules.specs.declared.sort.Sort.{Sort}
use Rattle.law_descriptions.specs.Described.{AreSpelled}

abbrev pub known_sorts : Ast → List Sort
known_sorts tree = map (λ x. sort_known x.sort) (declared tree.decls)

-- No name of the tree is spelled `@`.
abbrev pub IsSpelledTree : Ast → Type 0
IsSpelledTree tree = (number : ℕ) (d : Decl) → slice_get tree.decls number ≡ Some d → AreSpelled (names_in_decl d.body)
