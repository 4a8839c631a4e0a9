-- The names in scope where all names of a declaration are.
use Rattle.std.specs.Prelude.{not, Bool, false, List, [], ◌∷◌, flat_map, codes}
use Rattle.pads_ast.specs.declared.decl.DeclBody.{DeclBody}
use Rattle.pads_ast.specs.declared.decl.DeclBody.TheVariants as decl
use Rattle.pads_rules.specs.DeclRules.{texts, variable_names}
use Rattle.pads_ast.specs.NameTokens.{Names}
use Rattle.pads_ast.specs.Trees.{is_empty, part_names, branches_of}

-- Those beside the parameters: a struct's parts, an array's elements and their number, a typedef's variable.
abbrev pub beside_params : DeclBody → Names
beside_params (decl.Struct d) = texts (flat_map part_names d.parts)
beside_params (decl.Array d) = codes "elts" ∷ codes "length" ∷ []
beside_params (decl.Union d) = []
beside_params (decl.Enum d) = []
beside_params (decl.Typedef d) = texts (variable_names d.constraint)
beside_params (decl.Opt d) = []

-- Whether one more is in scope somewhere: a branch.
abbrev pub one_more : DeclBody → Bool
one_more (decl.Union d) = not (is_empty (branches_of d.body))
one_more (decl.Typedef d) = false
one_more (decl.Struct d) = false
one_more (decl.Array d) = false
one_more (decl.Enum d) = false
one_more (decl.Opt d) = false
