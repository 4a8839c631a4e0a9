-- What the check of a tree gives.
use Rattle.std.specs.Prelude.{◌≡◌, []}
use Rattle.pads_ast.specs.declared.decl.Ast.{Ast}
use Rattle.pads_resolution.specs.declared.decl.Description.{Description}
use Rattle.pads_rules.specs.Violations.{violations}
use Rattle.pads_resolution.specs.Resolution.{resolved}

-- A tree is accepted and resolves to a description: it breaks no rule, and the description is what it resolves to.
pub record Accepts (tree : Ast) (description : Description) : Type 0 where
  pub clean : violations tree ≡ []
  pub resolves : description ≡ resolved tree
