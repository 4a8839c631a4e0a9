-- Sets of constants, by their values.
use Rattle.std.specs.Prelude.{◌≡◌, Bool, false, ◌||◌}
use Rattle.std.specs.List.{list_any}
use Rattle.std.specs.Ordering.{int_eq}
use Rattle.pads_ast.specs.declared.types.Const.{Const}
use Rattle.pads_ast.specs.declared.types.Const.TheVariants as const
use Rattle.pads_rules.specs.PieceRules.{signed, same_const}
use Rattle.pads_rules.specs.Texts.{is_among}
use Rattle.pads_ast.specs.Trees.{points_of}
use Rattle.pads_piece_rules.specs.declared.const_set.ConstSet.{ConstSet}

-- A constant of that value is in a set.
abbrev pub has_const : ConstSet → Const → Bool
has_const set (const.Number negative value at) = list_any (int_eq (signed negative value)) set.numbers.keys
has_const set (const.Word word) = is_among set.words (points_of word)

-- No constant is in a set.
abbrev pub NoConst : ConstSet → Type 0
NoConst set = (key : Const) → has_const set key ≡ false

-- A set has got a constant, and no other.
abbrev pub AddsConst : ConstSet → Const → ConstSet → Type 0
AddsConst old key new = (other : Const) → has_const new other ≡ (has_const old other || same_const other key)
