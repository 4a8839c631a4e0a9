use Rattle.std.proofs.Common.{◌∙◌, subst, sym}
use Rattle.pads_drive.proofs.Sharing.{Gathered, gathered-all, gathered-more, gathered-none, gathered-refused, next-counted, next-given}
use Rattle.pads_drive.proofs.gather.gather.Goals as goal

pub parts-init : goal.parts-init
parts-init g c =
    gathered-none (g.C.Command.work c.args.command.now) (g.C.Command.share_of c.args.command.now) _ _ _ _ (c.into_iter-part-iterator.ensures.into_iter_gives.0 ∙ c.into_vec-part-items.ensures.same) c.new-output.ensures

pub take_part-requires-clause-counted : goal.take_part-requires-clause-counted
take_part-requires-clause-counted g c κs within =
    let work = g.C.Command.work c.args.command.now in
    let share_of = g.C.Command.share_of c.args.command.now in
    let (before, tallied) = c.requires.counted in
    let (rows, given) = c.requires.given in
    next-counted work share_of before rows c.in-Some.part c.next.new.self.rest.items c.parts.output c.parts.tally
    (subst (λ l. Gathered work share_of before rows l c.parts.output c.parts.tally) c.in-Some.ensures.steps.0 (c.parts.invariant before rows tallied given))

pub take_part-requires-clause-given : goal.take_part-requires-clause-given
take_part-requires-clause-given g c κs within =
    let work = g.C.Command.work c.args.command.now in
    let share_of = g.C.Command.share_of c.args.command.now in
    let (before, tallied) = c.requires.counted in
    let (rows, given) = c.requires.given in
    next-given work share_of before rows c.in-Some.part c.next.new.self.rest.items c.parts.output c.parts.tally
    (subst (λ l. Gathered work share_of before rows l c.parts.output c.parts.tally) c.in-Some.ensures.steps.0 (c.parts.invariant before rows tallied given))

pub returns-in-Err-clause-tally : goal.returns-in-Err-clause-tally
returns-in-Err-clause-tally g c = λ before rows tallied given.
    let work = g.C.Command.work c.args.command.now in
    let share_of = g.C.Command.share_of c.args.command.now in
    let laws = g.met.C.Command g.world.𝓛 g.world.𝓜 g.world.𝓡 ((λ s x. x), (λ x. x), (λ x. x), λ x. x) in
    gathered-refused work share_of before rows c.in-Some.part c.next.new.self.rest.items c.parts.output c.parts.tally (laws.stays_over c.args.command.now) c.in-Err.refusal
    (subst (λ l. Gathered work share_of before rows l c.parts.output c.parts.tally) c.in-Some.ensures.steps.0 (c.parts.invariant before rows tallied given))
    c.in-Err.ensures.tally

pub parts-preserved : goal.parts-preserved
parts-preserved g c = λ before rows tallied given.
    let work = g.C.Command.work c.args.command.now in
    let share_of = g.C.Command.share_of c.args.command.now in
    gathered-more work share_of before rows c.in-Some.part c.next.new.self.rest.items c.parts.output c.parts.tally c.take_part.new.output c.take_part.new.tally
    (subst (λ l. Gathered work share_of before rows l c.parts.output c.parts.tally) c.in-Some.ensures.steps.0 (c.parts.invariant before rows tallied given))
    c.in_default.ensures.output c.in_default.ensures.tally

pub returns-clause-output : goal.returns-clause-output
returns-clause-output g c = λ rows given.
    let (before, tallied) = c.requires.counted in
    (gathered-all (g.C.Command.work c.args.command.now) (g.C.Command.share_of c.args.command.now) before rows _ _ _ (sym c.parts.part-iterator.rest.ok.0 ∙ c.in-None.ensures.steps.0)
    (c.parts.invariant before rows tallied given)).0

pub returns-clause-tally : goal.returns-clause-tally
returns-clause-tally g c = λ before rows tallied given.
    (gathered-all (g.C.Command.work c.args.command.now) (g.C.Command.share_of c.args.command.now) before rows _ _ _ (sym c.parts.part-iterator.rest.ok.0 ∙ c.in-None.ensures.steps.0)
    (c.parts.invariant before rows tallied given)).1
