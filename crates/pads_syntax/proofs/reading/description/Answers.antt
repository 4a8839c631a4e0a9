use Rattle.std.proofs.Common.{sym, ◌∙◌}
use Rattle.pads_syntax.specs.Declarations.{decls}
use Rattle.pads_syntax.proofs.DeclDecides.{decls_ok}
use Rattle.pads_syntax.specs.Trees.{description}
use Rattle.pads_syntax.proofs.Stops.{ends, fewer_found, fewer_met, completed, stopped_at, stopped_behind}
use Rattle.pads_syntax.proofs.reading.description.Goals as goal

pub fault_behind-requires : goal.fault_behind-requires
fault_behind-requires c =
    let h = ends c.args.tokens.now c.new-cursor.result _ _ c.new-cursor.ensures.left c.split_end.ensures.whole c.split_end.ensures.last in
    record { left = fewer_found decls description decls_ok _ _ _ _ _ h c.in-Ok-2.ensures.reads }

pub next_fault-requires : goal.next_fault-requires
next_fault-requires c =
    let h = ends c.args.tokens.now c.new-cursor.result _ _ c.new-cursor.ensures.left c.split_end.ensures.whole c.split_end.ensures.last in
    record { left = fewer_met decls description decls_ok _ _ _ _ h (rw c.in-Err-Fault.field-0-is at c.in-Err-Fault.ensures.reads) }

pub returns-in-Ok : goal.returns-in-Ok
returns-in-Ok c =
    let h = ends c.args.tokens.now c.new-cursor.result _ _ c.new-cursor.ensures.left c.split_end.ensures.whole c.split_end.ensures.last in
    record {
      answers = completed decls description decls_ok _ _ _ _ _ h c.in-Ok.ensures.reads
          (sym c.left.ensures.left ∙ c.if-left-eq0.true);
    }

pub returns-in-Ok-2 : goal.returns-in-Ok-2
returns-in-Ok-2 c =
    let h = ends c.args.tokens.now c.new-cursor.result _ _ c.new-cursor.ensures.left c.split_end.ensures.whole c.split_end.ensures.last in
    record {
      answers = (
        stopped_behind decls description decls_ok _ _ _ _ _ _ h c.in-Ok-2.ensures.reads
            (λ n. c.if-left-eq0.false (c.left.ensures.left ∙ n)) c.fault_behind.ensures.token,
        c.fault_behind.ensures.place,
      );
    }

pub returns-in-Err-Fault : goal.returns-in-Err-Fault
returns-in-Err-Fault c =
    let h = ends c.args.tokens.now c.new-cursor.result _ _ c.new-cursor.ensures.left c.split_end.ensures.whole c.split_end.ensures.last in
    record {
      answers = (
        stopped_at decls description decls_ok _ _ _ _ _ h (rw c.in-Err-Fault.field-0-is at c.in-Err-Fault.ensures.reads) c.next_fault.ensures.token,
        c.next_fault.ensures.place,
      );
    }
