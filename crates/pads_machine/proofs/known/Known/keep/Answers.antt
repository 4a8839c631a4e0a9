use Rattle.std.proofs.Common.{Some, subst, sym}
use Rattle.std.proofs.lemmas.List.Elements.{All-set}
use Rattle.pads_machine.specs.declared.known.Fact.{Fact}
use Rattle.pads_machine.specs.Known.{HasOutcome, Holds}
use Rattle.pads_machine.proofs.known.Known.keep.Goals as goal

pub returns-in-Ok : goal.returns-in-Ok
returns-in-Ok c =
    let m = c.prepare.new.self in
    record {
      knows = λ code of_entries subject knows has.
          All-set (Holds code of_entries subject) m.slots.items c.slot-slot.result (Some c.in-Ok.fact)
          (subst (λ (fact : Fact). HasOutcome code of_entries subject fact.call fact.outcome) (sym c.in-Ok.ensures.value) has)
          (c.prepare.ensures.knows code of_entries subject knows);
    }

pub returns-in_default : goal.returns-in_default
returns-in_default c = record { knows = λ code of_entries subject knows has. c.prepare.ensures.knows code of_entries subject knows }

pub returns-else-slot-len : goal.returns-else-slot-len
returns-else-slot-len c = record { knows = λ code of_entries subject knows has. c.prepare.ensures.knows code of_entries subject knows }
