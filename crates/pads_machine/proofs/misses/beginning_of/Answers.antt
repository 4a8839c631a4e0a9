use Rattle.std.proofs.Common.{◌≡◌, sym, drop, Some}
use Rattle.pads_image.specs.Beginnings.{begins_with}
use Rattle.pads_machine.specs.Missing.{BeginsWith}
use Rattle.pads_machine.proofs.Branches.{if-some}
use Rattle.pads_machine.proofs.misses.beginning_of.Goals as goal

pub returns-in-Some : goal.returns-in-Some
returns-in-Some c =
    let code = c.args.code.now in
    let entry = c.in-Some.entry.now in
    record {
      begins = if-some c.beginning_from.result (λ literal. begins_with (drop entry.first code) ≡ Some literal.now)
          (λ literal. BeginsWith code c.args.entries.now c.args.number literal.now) (λ literal begins. (entry, sym c.in-Some.ensures.entry, begins)) c.beginning_from.ensures.begins;
    }
