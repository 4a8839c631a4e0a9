use Rattle.std.proofs.Common.{◌≡◌, ◌∙◌, ℕ, ◌+◌, ◌-◌, ap, List, drop, length, take}
use Rattle.pads_steps.proofs.Searches.{first-place, no-place}
use Rattle.pads_steps.proofs.record.Record.first_place.Goals as goal

pub returns-in-Some-clause-first : goal.returns-in-Some-clause-first
returns-in-Some-clause-first c =
    let bytes = c.args.self.now.bytes.now in
    let size = c.args.last - c.args.place + length c.args.literal.now in
    let part : c.beginning.result.now ≡ take size (drop c.args.place bytes) = c.beginning.ensures.beginning ∙ ap (λ (rest : List ℕ). take size rest) c.rest.ensures.rest in
    first-place bytes c.args.literal.now c.args.place c.args.last c.requires.place c.requires.last c.in-Some.skipped (rw part at c.in-Some.ensures.0) (rw part at c.in-Some.ensures.1)

pub returns-in-None-clause-none : goal.returns-in-None-clause-none
returns-in-None-clause-none c =
    let bytes = c.args.self.now.bytes.now in
    let size = c.args.last - c.args.place + length c.args.literal.now in
    let part : c.beginning.result.now ≡ take size (drop c.args.place bytes) = c.beginning.ensures.beginning ∙ ap (λ (rest : List ℕ). take size rest) c.rest.ensures.rest in
    no-place bytes c.args.literal.now c.args.place c.args.last c.requires.place c.requires.last (rw part at c.in-None.ensures)
