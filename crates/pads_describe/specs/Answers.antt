-- What a call tells that may refuse.
use Rattle.std.specs.Prelude.{◌≡◌, ℕ, List, length}
use Rattle.pads_ast.specs.declared.decl.Ast.{Ast}
use Rattle.pads_describe.specs.Trees.{IsAccepted}

-- The text is accepted, and has so many declarations.
abbrev pub IsAcceptedWith : List ℕ → ℕ → Type 0
IsAcceptedWith text count = (tree : Ast) × IsAccepted text tree × (count ≡ length tree.decls)
