-- The names in scope that a scope on the stack stands for.
use Rattle.std.specs.Prelude.{ℕ, Bool, false, List}
use Rattle.pads_ast.specs.declared.decl.Part.{Part}
use Rattle.pads_ast.specs.declared.decl.Part.TheVariants as part
use Rattle.pads_rules.specs.Texts.{same_text}
use Rattle.pads_judge.specs.declared.scope.Scope.{Scope, Scope-F, fold-Scope}
use Rattle.pads_rules.specs.Judging as judging
use Rattle.pads_rules.specs.Judging.{hiding}
use Rattle.pads_rules.specs.Pieces.{texts_of_parts}

abbrev pub scope_step : Scope-F judging.Scope → judging.Scope
scope_step (Scope-F.Names visible parts) = record { visible = visible.now; later = texts_of_parts parts.now }
scope_step (Scope-F.Hiding name sort outer) = hiding name.now sort outer.now

abbrev pub names_in_scope : Scope → judging.Scope
names_in_scope = fold-Scope judging.Scope scope_step

-- A part of a struct has a name.
abbrev pub is_named : List ℕ → Part → Bool
is_named text (part.Literal literal) = false
is_named text (part.Pcompute of name value) = same_text text name.text
is_named text (part.Field branch) = same_text text branch.name.text
