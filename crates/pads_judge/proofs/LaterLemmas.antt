-- A name is among those of some parts where a part has it.
use Rattle.std.proofs.Common.{◌≡◌, ap, refl, ℕ, ◌||◌, List, [], ◌∷◌}
use Rattle.std.specs.List.{list_any}
use Rattle.pads_ast.specs.declared.decl.Part.{Part}
use Rattle.pads_ast.specs.declared.decl.Part.TheVariants as part
use Rattle.pads_rules.specs.Pieces.{texts_of_parts}
use Rattle.pads_rules.specs.Texts.{same_text, is_among}
use Rattle.pads_judge.specs.Scopes.{is_named}

pub among_parts : (parts : List Part) (text : List ℕ) → list_any (is_named text) parts ≡ is_among (texts_of_parts parts) text
among_parts [] text = refl
among_parts (part.Literal l ∷ parts) text = among_parts parts text
among_parts (part.Pcompute of name value ∷ parts) text = ap (λ rest. same_text text name.text || rest) (among_parts parts text)
among_parts (part.Field branch ∷ parts) text = ap (λ rest. same_text text branch.name.text || rest) (among_parts parts text)

pub ruleset later_rules = (among_parts)
