-- A frame as plain data: where it lies in the input, its bytes and its mark, whoever holds the bytes.
use Rattle.std.specs.Prelude.{ℕ, List}
use Rattle.pads_value.specs.declared.frame.Mark.{Mark}
use Rattle.pads_value.specs.declared.frame.Frame.{Frame}
use Rattle.pads_value.specs.declared.frame.Kept.{Kept}

pub record Cut : Type 0 where
  pub first : ℕ
  pub end : ℕ
  pub bytes : List ℕ
  pub mark : Mark

abbrev pub cut_of_frame : Frame → Cut
cut_of_frame frame = record { first = frame.first; end = frame.end; bytes = frame.bytes.now; mark = frame.mark }

abbrev pub cut_of_kept : Kept → Cut
cut_of_kept kept = record { first = kept.first; end = kept.end; bytes = kept.bytes; mark = kept.mark }
