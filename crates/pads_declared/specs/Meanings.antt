-- What the types of the code stand for in the rules.
use Rattle.std.specs.Prelude.{Bool, ◌&&◌, is_none}
use Rattle.pads_ast.specs.declared.decl.Array.{Array}
use Rattle.pads_ast.specs.declared.name.Name.{Name}
use Rattle.pads_rules.specs.declared.declared.Named.{Named}
use Rattle.pads_rules.specs.declared.expr_sort.ExprSort.{ExprSort}
use Rattle.pads_rules.specs.Resolving as resolving
use Rattle.pads_ast.specs.Trees.{is_empty, written}
use Rattle.pads_declared.specs.declared.types.Meaning.{Meaning}
use Rattle.pads_declared.specs.declared.types.Meaning.TheVariants as meaning

-- The meaning that a borrowed one stands for.
abbrev pub meant : Meaning → resolving.Meaning
meant (meaning.Base base) = resolving.Base base
meant (meaning.Known declared) = resolving.Known declared.now
meant meaning.Undeclared = resolving.Undeclared

abbrev pub with_sort : Name → ExprSort → Named
with_sort name sort = record { text = name.text; sort = sort }

-- An array with nothing written to it but its type.
abbrev pub is_bare_array : Array → Bool
is_bare_array d = is_empty (written d.params) && is_none d.size && is_empty d.options && is_none d.condition
