use Rattle.std.proofs.Common.{◌≡◌, ◌∙◌, sym, ap, ◌+◌, length, Ok, Err, arith}
use Rattle.pads_grammar.specs.Grammar.{reads}
use Rattle.pads_syntax_path.specs.Paths.{path}
use Rattle.pads_syntax_path.proofs.PathLaws.{is_path, fault_left, fault_met_at, found_within, met_within, behind_within}
use Rattle.pads_syntax_path.proofs.whole.whole_path.Goals as goal
use Rattle.pads_syntax_path.proofs.whole.whole_path.Goals.{then-left-eq0+else-size-len, else-left-eq0}

pub overflow_sub-size : goal.overflow_sub-size
overflow_sub-size c =
    let e : reads path c.reach-reach.result.now ≡ Ok (c.in-Ok-2.field-0, c.path.new.cursor) = ap (reads path) (sym c.new-cursor.ensures.left) ∙ c.in-Ok-2.ensures.reads in
    let within = found_within c.reach-reach.result.now c.path.new.cursor c.in-Ok-2.field-0 e in
    let behind = behind_within c.path.new.cursor in
    let left = c.behind_end-left.ensures.left in
    omega arith

pub overflow_sub-size-in-Err-Fault : goal.overflow_sub-size-in-Err-Fault
overflow_sub-size-in-Err-Fault c =
    let e : reads path c.reach-reach.result.now ≡ Err c.path.new.cursor = ap (reads path) (sym c.new-cursor.ensures.left) ∙ (rw c.in-Err-Fault.field-0-is at c.in-Err-Fault.ensures.reads) in
    let within = met_within c.reach-reach.result.now c.path.new.cursor e in
    let left = c.left-in-Err-Fault.ensures.left in
    omega arith

pub returns-in-Ok : goal.returns-in-Ok
returns-in-Ok c = record {
  answers = is_path c.args.tokens.now c.reach-reach.result.now c.reach-reach.ensures.reach c.in-Ok.path c.path.new.cursor c.requires.ends
      (ap (reads path) (sym c.new-cursor.ensures.left) ∙ c.in-Ok.ensures.reads) (sym c.left.ensures.left ∙ c.if-left-eq0.true) (c.if-size-len.true ∙ c.len.ensures.length);
}

pub returns-in-Ok-2 : goal.returns-in-Ok-2
returns-in-Ok-2 c =
    let e : reads path c.reach-reach.result.now ≡ Ok (c.in-Ok-2.field-0, c.path.new.cursor) = ap (reads path) (sym c.new-cursor.ensures.left) ∙ c.in-Ok-2.ensures.reads in
    let within = found_within c.reach-reach.result.now c.path.new.cursor c.in-Ok-2.field-0 e in
    let behind = behind_within c.path.new.cursor in
    let left = c.behind_end-left.ensures.left in
    let token = c.fault_at.ensures.token in
    let some : length c.path.new.cursor ≡ 0 → length c.reach-reach.result.now + 1 ≡ length c.args.tokens.now → ⊥ = elim c.if-left-eq0.branch [
      | then-left-eq0+else-size-len w ↦ λ none long. w.if-size-len.false (long ∙ sym w.len.ensures.length)
      | else-left-eq0 w ↦ λ none long. w.if-left-eq0.false (c.left.ensures.left ∙ none)
    ] in
    record {
      answers = (
        fault_left c.args.tokens.now c.reach-reach.result.now c.reach-reach.ensures.reach c.in-Ok-2.field-0 c.path.new.cursor c.fault_at.result.token e some (omega arith),
        c.fault_at.ensures.place,
      );
    }

pub returns-in-Err-Fault : goal.returns-in-Err-Fault
returns-in-Err-Fault c =
    let e : reads path c.reach-reach.result.now ≡ Err c.path.new.cursor = ap (reads path) (sym c.new-cursor.ensures.left) ∙ (rw c.in-Err-Fault.field-0-is at c.in-Err-Fault.ensures.reads) in
    let within = met_within c.reach-reach.result.now c.path.new.cursor e in
    let left = c.left-in-Err-Fault.ensures.left in
    let token = c.fault_at-in-Err-Fault.ensures.token in
    record {
      answers = (
        fault_met_at c.args.tokens.now c.reach-reach.result.now c.reach-reach.ensures.reach c.path.new.cursor c.fault_at-in-Err-Fault.result.token e (omega arith),
        c.fault_at-in-Err-Fault.ensures.place,
      );
    }
