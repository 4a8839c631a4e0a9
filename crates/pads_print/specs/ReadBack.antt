-- What it is that the bytes of a value read back: framed by a discipline, they are cut into one record of
-- just these bytes, which reads without a fault as the value.
use Rattle.std.specs.Prelude.{◌≡◌, ℕ, ◌&&◌, bytes_eq, Bool, true, false, List, [], ◌∷◌, map, Option, Some, None}
use Rattle.pads_value.specs.Cuts.{Cut}
use Rattle.pads_value.specs.Header.{is_clean}
use Rattle.pads_value.specs.declared.frame.Mark.{Mark}
use Rattle.pads_value.specs.declared.frame.Mark.TheVariants as mark
use Rattle.pads_value.specs.declared.row.Row.{Row}
use Rattle.pads_value.specs.declared.value.Val.{Val}
use Rattle.pads_frame.specs.declared.discipline.Discipline.{Discipline}
use Rattle.pads_frame.specs.Cutting.{records}
use Rattle.pads_frame.specs.Framed.{framed}
use Rattle.pads_frame.specs.OnlyFrame.{only}
use Rattle.pads_module.specs.Modules.{Contents}
use Rattle.pads_calc.specs.Rows.{row_of}
use Rattle.pads_print.specs.Same.{same, holds_of}

-- what a frame reads as, as the record of this number
abbrev pub row_in : Contents → ℕ → Cut → Row
row_in m number frame = row_of m.decls m.shape m.scan number frame

-- the frames of an input, where there is one
abbrev pub frames_in : Discipline → ℕ → Option (List ℕ) → List Cut
frames_in d max None = []
frames_in d max (Some input) = records d max input

-- the frames that bytes are cut into once they are framed
abbrev pub frames_of : Discipline → ℕ → List ℕ → List Cut
frames_of d max bytes = frames_in d max (framed d bytes)

-- The rows that bytes read as once they are framed: each frame is read as the record of this number.
abbrev pub back : Contents → Discipline → ℕ → ℕ → List ℕ → List Row
back m d max number bytes = map (row_in m number) (frames_of d max bytes)

-- The bytes, once they are framed, are one unmarked frame of just these bytes, and this frame reads without
-- a fault as the value.
pub record ReadsBack (m : Contents) (d : Discipline) (max number : ℕ) (bytes : List ℕ) (v : Val) : Type 0 where
  pub input : List ℕ
  pub frame : Cut
  pub framed : framed d bytes ≡ Some input
  pub one : records d max input ≡ frame ∷ []
  pub plain : frame.mark ≡ mark.Plain
  pub whole : frame.bytes ≡ bytes
  pub clean : is_clean (row_in m number frame).pd ≡ true
  pub value : (row_in m number frame).value ≡ v

-- As an input, these bytes are one unmarked frame, which reads without a fault as the value.
pub record IsInput (m : Contents) (d : Discipline) (max number : ℕ) (v : Val) (input : List ℕ) : Type 0 where
  pub frame : Cut
  pub one : records d max input ≡ frame ∷ []
  pub plain : frame.mark ≡ mark.Plain
  pub clean : is_clean (row_in m number frame).pd ≡ true
  pub value : (row_in m number frame).value ≡ v

-- Reading back as a test.
abbrev pub is_plain : Mark → Bool
is_plain mark.Plain = true
is_plain mark.Short = false
is_plain mark.Long = false
is_plain mark.Broken = false

abbrev pub is_of : Row → Val → Bool
is_of row v = is_clean row.pd && same row.value v

abbrev pub is_back : Contents → ℕ → List ℕ → Val → Cut → Bool
is_back m number bytes v frame = is_plain frame.mark && bytes_eq frame.bytes bytes && is_of (row_in m number frame) v

unfoldable pub reads_back : Contents → Discipline → ℕ → ℕ → List ℕ → Val → Bool
reads_back m d max number bytes v = holds_of (is_back m number bytes v) (only (frames_of d max bytes))
