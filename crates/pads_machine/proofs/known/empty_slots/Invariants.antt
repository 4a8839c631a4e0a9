use Rattle.std.proofs.Common.{List, All}
use Rattle.pads_calc.specs.Readings.{Subject}
use Rattle.pads_image.specs.declared.entry.Entry.{Entry}
use Rattle.pads_image.specs.declared.op.Op.{Op}
use Rattle.pads_machine.specs.Known.{Holds}
use Rattle.pads_machine.proofs.known.empty_slots.Given as goal

abbrev pub invariant-slots : goal.invariant-slots
invariant-slots l = (code : List Op) (of_entries : List Entry) (subject : Subject) → All (Holds code of_entries subject) l.slots.items
