-- What an accepted text describes, in a coding of the data.
use Rattle.std.specs.Prelude.{◌≡◌, ℕ, List}
use Rattle.pads_ast.specs.declared.decl.Ast.{Ast}
use Rattle.pads_code.specs.declared.Coding.{Coding}
use Rattle.pads_resolution.specs.Resolution.{resolved}
use Rattle.pads_module.specs.Modules.{Contents}
use Rattle.pads_trans.specs.Modules.{module_of}
use Rattle.pads_describe.specs.Trees.{IsAccepted}

-- what its module has, whose names are those of the tree, resolved
abbrev pub contents_in : Coding → Ast → Contents
contents_in coding tree = module_of (resolved tree) coding

-- The text is accepted, and this is its module.
pub record Describes (text : List ℕ) (coding : Coding) (contents : Contents) : Type 0 where
  pub tree : Ast
  pub accepted : IsAccepted text tree
  pub contents_is : contents ≡ contents_in coding tree
