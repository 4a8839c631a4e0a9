-- Names that are met from the left, of which each counts once.
use Rattle.std.specs.Prelude.{ℕ, List, [], ◌∷◌}
use Rattle.pads_ast.specs.declared.expr.Expr.{Expr}
use Rattle.pads_ast.specs.declared.expr.Step.{Step}
use Rattle.pads_ast.specs.declared.expr.Step.TheVariants as step_form
use Rattle.pads_ast.specs.NameTokens.{Names, names_in_expr}
use Rattle.pads_rules.specs.DifferentNames.{with_name, with_names}

-- The different names so far, behind one more.
unfoldable pub met_name : Names → List ℕ → Names
met_name names name = with_name names name

-- The different names so far, behind some more.
unfoldable pub met : Names → Names → Names
met names more = with_names names more

-- The names of what stands behind an atom.
abbrev pub names_behind : Step Expr → Names
names_behind (step_form.Name name) = name.text ∷ []
names_behind (step_form.Index at index) = names_in_expr index
