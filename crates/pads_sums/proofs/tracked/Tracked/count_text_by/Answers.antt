use Rattle.std.proofs.Common.{◌∙◌, sym, ap, length}
use Rattle.std.proofs.lemmas.Result.{IfOk-weaker, on_ok_weaker}
use Rattle.pads_sums.specs.Adding.{has_room}
use Rattle.pads_sums.proofs.Apart.{text_found, text_put}
use Rattle.pads_sums.proofs.tracked.Tracked.count_text_by.Goals as goal

pub returns-clause-found : goal.returns-clause-found
returns-clause-found c =
    let free = c.has_room-free.ensures.room ∙ ap (has_room c.args.room) (c.len.ensures.length ∙ ap length (sym c.self.view_is)) in
    rw (← c.self.view_is)
    (IfOk-weaker c.take_text.result _ _
    (λ found h. h ∙ text_found c.self.inside.numbers.entries c.self.inside.texts.entries c.args.room c.has_room-free.result free c.args.points.items)
    c.take_text.ensures.found)

pub returns-clause-counted : goal.returns-clause-counted
returns-clause-counted c =
    let free = c.has_room-free.ensures.room ∙ ap (has_room c.args.room) (c.len.ensures.length ∙ ap length (sym c.self.view_is)) in
    rw (← c.self.view_is)
    (on_ok_weaker c.take_text.result
    (λ h. text_put c.self.inside.numbers.entries c.self.inside.texts.entries c.args.room c.has_room-free.result free c.args.more c.args.points.items _ h)
    c.take_text.ensures.pairs)
