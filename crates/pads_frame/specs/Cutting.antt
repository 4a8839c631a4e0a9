-- The cutting of an input into frames, on its whole list of bytes.
use Rattle.std.specs.Prelude.{ℕ, zero, suc, ◌+◌, ◌-◌, Bool, true, false, ◌||◌, List, [], ◌∷◌, if◌then◌else◌}
use Rattle.pads_frame.specs.declared.discipline.Discipline.{Discipline}
use Rattle.pads_value.specs.Cuts.{Cut}
use Rattle.pads_frame.specs.Placed.{cut_at, size_of}
use Rattle.pads_frame.specs.Extents.{extent}

-- The frames of the bytes that stand from offset `at` on: `skip` bytes that belong to an earlier frame,
-- then the first frame, then those behind it. Where the input goes on (`ended` is false) a frame that
-- only its end would close isn't there yet.
unfoldable pub cuts : Discipline → ℕ → Bool → ℕ → ℕ → List ℕ → List Cut
cuts discipline max ended at skip [] = []
cuts discipline max ended at (suc skip) (b ∷ bytes) = cuts discipline max ended (at + 1) skip bytes
cuts discipline max ended at zero (b ∷ bytes) =
    let first = extent discipline max (b ∷ bytes) in
    if first.closed || ended
    then cut_at at (b ∷ bytes) first ∷ cuts discipline max ended (at + 1) (size_of first - 1) bytes
    else []

-- the frames of a whole input
abbrev pub records : Discipline → ℕ → List ℕ → List Cut
records discipline max bytes = cuts discipline max true 0 0 bytes

-- the frames that are closed so far, in an input that may go on
abbrev pub closed : Discipline → ℕ → List ℕ → List Cut
closed discipline max bytes = cuts discipline max false 0 0 bytes
