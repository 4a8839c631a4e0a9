use Rattle.std.proofs.Common.{◌∙◌, sym, ap, map}
use Rattle.pads_accum.specs.Guides.{plan_of}
use Rattle.pads_accum.specs.States.{State, has_others}
use Rattle.pads_accum.specs.Summaries.{summary_of}
use Rattle.pads_accum.proofs.ChunkLaws.{whole_rows}
use Rattle.pads_accum.proofs.summary.Summary.chunk.Goals as goal

pub returns-clause-rows : goal.returns-clause-rows
returns-clause-rows c =
    let sums = c.self.inside.sums in
    let none = ap has_others (sym c.as_slice.ensures.items) ∙ sym c.if-has_others.ensures.others in
    λ rows were.
    whole_rows (map plan_of sums.guides) (map plan_of c.in_ok-sums.sums.guides) sums.lists c.in_ok-sums.sums.lists rows none c.in_ok-sums.ensures.lists c.in_ok-sums.ensures.plan
    (ap (λ (state : State). state.lists) c.self.view_is ∙ were ∙ ap (λ (state : State). summary_of state.plan rows) (sym c.self.view_is))
