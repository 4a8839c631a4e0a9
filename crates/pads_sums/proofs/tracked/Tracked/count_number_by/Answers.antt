use Rattle.std.proofs.Common.{◌∙◌, sym, ap, length}
use Rattle.std.specs.Int.{w128}
use Rattle.std.proofs.lemmas.Int.{to_z-of_z}
use Rattle.std.proofs.lemmas.Result.{IfOk-weaker, on_ok_weaker}
use Rattle.pads_sums.specs.Adding.{has_room}
use Rattle.pads_sums.proofs.Apart.{number_found, number_put}
use Rattle.pads_sums.proofs.tracked.Tracked.count_number_by.Goals as goal

pub returns-clause-found : goal.returns-clause-found
returns-clause-found c =
    let free = c.has_room-free.ensures.room ∙ ap (has_room c.args.room) (c.len.ensures.length ∙ ap length (sym c.self.view_is)) in
    rw (← c.self.view_is)
    (IfOk-weaker c.put_number.result _ _
    (λ found h.
    rw (to_z-of_z w128 c.args.number c.ranges.number) at h
    ∙ number_found c.self.inside.numbers.entries c.self.inside.texts.entries c.args.room c.has_room-free.result free c.args.number)
    c.put_number.ensures.found)

pub returns-clause-counted : goal.returns-clause-counted
returns-clause-counted c =
    let free = c.has_room-free.ensures.room ∙ ap (has_room c.args.room) (c.len.ensures.length ∙ ap length (sym c.self.view_is)) in
    rw (← c.self.view_is)
    (on_ok_weaker c.put_number.result
    (λ h. number_put c.self.inside.numbers.entries c.self.inside.texts.entries c.args.room c.has_room-free.result free c.args.more c.args.number _
    (rw (to_z-of_z w128 c.args.number c.ranges.number) at h))
    c.put_number.ensures.pairs)
