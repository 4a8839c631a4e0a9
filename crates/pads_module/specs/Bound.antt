-- The names that a scope of the checking code binds, which lives on the stack.
use Rattle.std.specs.Prelude.{ℕ, Bool, false, nat_eq, List, [], ◌∷◌, Option, Some, None}
use Rattle.pads_module.specs.declared.scope.BoundNames.{BoundNames, BoundNames-F, fold-BoundNames}
use Rattle.pads_calc.specs.declared.term.Part.{Part}
use Rattle.pads_module.specs.Scopes.{bind_name}

-- the names behind a struct's parts
abbrev pub parts_names : List Part → List ℕ → List ℕ
parts_names [] scope = scope
parts_names (part ∷ parts) scope = parts_names parts (bind_name part.name scope)

abbrev pub bound_step : BoundNames-F (List ℕ) → List ℕ
bound_step (BoundNames-F.Params names) = names.now
bound_step (BoundNames-F.Bind name outer) = name ∷ outer.now
bound_step (BoundNames-F.Parts parts outer) = parts_names parts.now outer.now

abbrev pub bound_names : BoundNames → List ℕ
bound_names = fold-BoundNames (List ℕ) bound_step

abbrev pub has_name : ℕ → Option ℕ → Bool
has_name name None = false
has_name name (Some bound) = nat_eq name bound
