use Rattle.std.proofs.Common.{◌∙◌, ◌++◌, ap, List, ℕ}
use Rattle.std.proofs.lemmas.Result.{on_ok_weaker}
use Rattle.serde_json.specs.Written.{compact_text}
use Rattle.pads_calc.specs.Rows.{deepest}
use Rattle.pads_json.specs.Values.{shown}
use Rattle.pads_json.proofs.Written.{row_written}
use Rattle.pads_json.proofs.line.write_object.Goals as goal

pub returns : goal.returns
returns c =
    let terms = c.args.terms.now in
    let row = c.args.row.now in
    let value = c.in_ok-write_value.ensures.written
    ∙ ap (λ (names : List (List ℕ)). c.extend_from_slice.new.self ++ compact_text (shown terms.bare.decls.now names row.value deepest c.args.body.now)) terms.named in
    record {
      row = on_ok_weaker c.push.result (λ e. e ∙ row_written terms.bare.decls.now terms.bare.names.now c.args.body.now row c.args.out.now _ _ _ _
          c.in_ok-write_head.ensures.head c.in_ok-write_counts.ensures.counts c.in_ok-extend_from_slice.ensures.ok value) c.push.ensures.ok;
    }
