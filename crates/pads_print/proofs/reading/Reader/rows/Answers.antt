use Rattle.std.proofs.Common.{◌≡◌, ◌∙◌, sym, ap, [], ◌++◌, true, map, drop, length, ◌-◌, ◌≤◌, arith}
use Rattle.std.proofs.lemmas.List.{append-nil, length-drop, take_all}
use Rattle.pads_frame.specs.Cutting.{cuts}
use Rattle.pads_frame.proofs.CuttingLemmas.{cuts_nil}
use Rattle.pads_print.specs.ReadBack.{row_in}
use Rattle.pads_print.proofs.reading.Reader.rows.Goals as goal

pub returns-clause-rows : goal.returns-clause-rows
returns-clause-rows c m reads =
    let d = c.args.self.now.discipline in
    let max = c.args.self.now.max in
    let at = c.frames.at in
    let input = c.args.input.now in
    let none : drop at input ≡ [] = sym (take_all (length input - at) (drop at input) (omega (arith, length-drop at input))) ∙ c.in_default.ensures.none in
    let no_more = ap (λ rest. cuts d max true at 0 rest) none ∙ cuts_nil d max true at 0 in
    let all = c.frames.invariant.rest m reads ∙ ap (λ frames. c.frames.rows ++ map (row_in m c.args.self.now.record_no) frames) no_more ∙ append-nil c.frames.rows in
    sym all
