use Rattle.std.proofs.Common.{sym, subst, All, List, Option, None}
use Rattle.std.proofs.lemmas.List.Elements.{All-push}
use Rattle.pads_machine.specs.declared.known.Fact.{Fact}
use Rattle.pads_machine.specs.Known.{Holds}
use Rattle.pads_machine.proofs.known.empty_slots.Goals as goal

pub slots-preserved : goal.slots-preserved
slots-preserved c code of_entries subject =
    subst (λ (slots : List (Option Fact)). All (Holds code of_entries subject) slots) (sym c.in_ok-push.ensures.items)
    (All-push (Holds code of_entries subject) c.slots.slots.items None (c.slots.invariant code of_entries subject) tt)
