-- The moment at which a reading stands.
use Rattle.std.specs.Prelude.{map}
use Rattle.pads_value.specs.Cuts.{cut_of_kept}
use Rattle.pads_drive.specs.Progress.{Moment}
use Rattle.pads_drive.specs.declared.driving.Reading.{Reading}

abbrev pub moment_of : {Tally : Type 0} → Reading Tally → Moment Tally
moment_of r = record { framer = r.framer; waiting = map cut_of_kept r.batch.frames; number = r.number; tally = r.tally }
