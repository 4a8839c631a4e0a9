-- The frame of an input that has exactly one.
use Rattle.std.specs.Prelude.{Option, None, Some, List, [], ◌∷◌}
use Rattle.pads_value.specs.Cuts.{Cut}

-- the frame, where these are exactly one, and else none
abbrev pub only : List Cut → Option Cut
only [] = None
only (frame ∷ []) = Some frame
only (frame ∷ other ∷ others) = None
