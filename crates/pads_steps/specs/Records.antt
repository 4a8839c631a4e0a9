-- What the code reads, as the rules have it.
use Rattle.pads_calc.specs.Readings.{Subject}
use Rattle.pads_steps.specs.declared.record.Record.{Record}

abbrev pub subject_of : Record → Subject
subject_of from = record { origin = from.origin; bytes = from.bytes.now; scan = from.scan }
