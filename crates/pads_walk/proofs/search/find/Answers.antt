use Rattle.std.proofs.Common.{◌∙◌, ap, subst, ℕ, ◌+◌}
use Rattle.pads_calc.specs.Readings.{is_ok}
use Rattle.pads_steps.specs.Records.{subject_of}
use Rattle.pads_steps.specs.Searches.{IsFirst, StandsNowhere}
use Rattle.pads_steps.proofs.Searches.{ok-there}
use Rattle.pads_calc.specs.Wrappers.{found_at}
use Rattle.pads_walk.proofs.Searches.{scan-literal, scan-none}
use Rattle.pads_walk.proofs.search.find.Goals as goal

pub found-requires-clause-ok : goal.found-requires-clause-ok
found-requires-clause-ok c =
    let from = c.args.from.now in
    ap is_ok c.literal.ensures.literal ∙ ok-there (subject_of from) c.args.literal.now c.in-Some.at c.in-Some.ensures.first.here

pub returns-in-Some-clause-found : goal.returns-in-Some-clause-found
returns-in-Some-clause-found c env =
    let from = c.args.from.now in
    c.found.ensures.found
    ∙ ap (found_at from.origin c.args.place c.in-Some.at) c.literal.ensures.literal
    ∙ scan-literal (subject_of from) c.args.literal.now c.args.place c.requires.within env c.in-Some.at
    (subst (λ (last : ℕ). IsFirst from.bytes.now c.args.literal.now c.args.place last c.in-Some.at) c.last_place.ensures.last c.in-Some.ensures.first)

pub returns-in-None-clause-found : goal.returns-in-None-clause-found
returns-in-None-clause-found c env =
    let from = c.args.from.now in
    c.fails.ensures.fails
    ∙ scan-none (subject_of from) c.args.literal.now c.args.place c.requires.within env
    (subst (λ (last : ℕ). StandsNowhere from.bytes.now c.args.literal.now c.args.place (last + 1)) c.last_place.ensures.last c.in-None.ensures.none)
