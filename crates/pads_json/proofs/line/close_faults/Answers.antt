use Rattle.std.proofs.Common.{◌∙◌, ◌++◌, ◌∷◌, [], List, ℕ, length, sym, ap, arith}
use Rattle.std.proofs.lemmas.Result.{on_ok_weaker}
use Rattle.pads_json.proofs.Written.{popped, some_closed, none_closed}
use Rattle.pads_json.proofs.line.close_faults.Goals as goal
use Rattle.pads_json.proofs.line.close_faults.Goals.{then-len-begin, else-len-begin}

pub returns : goal.returns
returns c =
    record {
      closed = elim c.if-len-begin.branch [
        | then-len-begin w ↦
            let cut = popped w.pop.result c.args.out.now w.pop.new.self w.pop.ensures.last w.pop.ensures.empty (omega (arith, w.if-len-begin.true, c.len.ensures.length)) in
            on_ok_weaker c.push.result (λ e front told old begin. e ∙ ap (λ (text : List ℕ). text ++ 93 ∷ []) w.out-is
            ∙ some_closed front told w.pop.new.self cut.0 (sym old ∙ cut.1) (omega (arith, w.if-len-begin.true, c.len.ensures.length, ap length old, begin))) c.push.ensures.ok
        | else-len-begin w ↦
            on_ok_weaker c.push.result (λ e front told old begin. e ∙ ap (λ (text : List ℕ). text ++ 93 ∷ []) (w.out-is ∙ old)
            ∙ none_closed front told (omega (arith, w.if-len-begin.false, c.len.ensures.length, ap length old, begin))) c.push.ensures.ok
      ];
    }
