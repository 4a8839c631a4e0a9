-- Bytes that came, and the frames that they complete.
use Rattle.std.specs.Prelude.{◌≡◌, ℕ, ◌+◌, ◌*◌, ◌<◌, ◌⊎◌, Bool, true, false, List, [], ◌∷◌, ◌++◌, length}
use Rattle.std.specs.List.{list_all}
use Rattle.pads_value.specs.Cuts.{Cut}
use Rattle.pads_value.specs.declared.frame.Mark.{Mark}
use Rattle.pads_value.specs.declared.frame.Mark.TheVariants as mark

-- A frame's bytes are there: it is neither too long nor broken.
abbrev pub has_bytes : Mark → Bool
has_bytes mark.Plain = true
has_bytes mark.Short = true
has_bytes mark.Long = false
has_bytes mark.Broken = false

abbrev pub all_have_bytes : List Cut → Bool
all_have_bytes frames = list_all (λ frame. has_bytes frame.mark) frames

-- The list begins with these.
abbrev pub BeginsWith : List Cut → List Cut → Type 0
BeginsWith whole front = (others : List Cut) × (whole ≡ front ++ others)

-- how many bytes frames carry
abbrev pub weight : List Cut → ℕ
weight [] = 0
weight (frame ∷ frames) = length frame.bytes + weight frames

-- the most bytes of an input that they take up, each with its descriptor word or its terminator
abbrev pub spread : List Cut → ℕ
spread frames = weight frames + 4 * length frames

-- A batch has at most 8,192 frames, and all but its last carry less than 4,194,304 bytes.
pub record IsFull (frames : List Cut) : Type 0 where
  pub front : List Cut
  pub last : Cut
  pub whole : frames ≡ front ++ last ∷ []
  pub few : length front < 8192
  pub light : weight front < 4194304

abbrev pub IsBatch : List Cut → Type 0
IsBatch frames = (frames ≡ []) ⊎ IsFull frames

-- the most bytes that are read and aren't written for
abbrev pub most_ahead : ℕ → ℕ
most_ahead max = 2 * max + 4259840
