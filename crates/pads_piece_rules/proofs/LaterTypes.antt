-- A name that names no type where it stands is that of this or a later declaration, or none's.
use Rattle.std.proofs.Common.{◌≡◌, ◌∙◌, sym, ap, refl, ℕ, Bool, true, false, not, ◌&&◌, Option, Some, is_some}
use Rattle.pads_ast.specs.declared.types.Type.{«Type»}
use Rattle.pads_rules.specs.declared.fault.CheckFault.{CheckFault}
use Rattle.pads_rules.specs.declared.rule.Rule.TheVariants as rule
use Rattle.pads_rules.specs.Faults.{breaks, when, lesser, least}
use Rattle.pads_rules.specs.PieceRules.{meaning_at, is_undeclared, is_declared}
use Rattle.pads_rules.specs.Pieces.{Site}
use Rattle.pads_rules.specs.Resolving.{declared_as}
use Rattle.pads_piece_rules.specs.Told.{name_told}

-- what is told of a name that means nothing, by whether it is declared at all
told-by : ℕ → Bool → Bool → Option CheckFault
told-by at nothing later = lesser (least (when (nothing && not later) (breaks rule.UnknownType at))) (least (when (nothing && later) (breaks rule.LaterType at)))

told-both : (site : Site) (t : «Type») (declared : Bool) → is_undeclared (meaning_at site t) ≡ true → declared ≡ is_some (declared_as site.env t.name.text) → told-by t.name.at true declared ≡ name_told site t
unfolding name_told told-by
told-both site t declared nothing is = ap (told-by t.name.at true) is ∙ ap (λ b. told-by t.name.at b (is_declared site t)) (sym nothing)

pub told-later : (site : Site) (t : «Type») → is_undeclared (meaning_at site t) ≡ true → true ≡ is_some (declared_as site.env t.name.text) → Some (breaks rule.LaterType t.name.at) ≡ name_told site t
unfolding told-by lesser
told-later site t nothing is = told-both site t true nothing is

pub told-unknown : (site : Site) (t : «Type») → is_undeclared (meaning_at site t) ≡ true → false ≡ is_some (declared_as site.env t.name.text) → Some (breaks rule.UnknownType t.name.at) ≡ name_told site t
unfolding told-by lesser
told-unknown site t nothing is = told-both site t false nothing is
