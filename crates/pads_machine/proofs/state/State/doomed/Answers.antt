use Rattle.std.proofs.Common.{sym, ap, ◌∙◌, refl, arith}
use Rattle.std.proofs.lemmas.Bool.Decides.{nat_tests}
use Rattle.pads_value.specs.Header.{all_clean}
use Rattle.pads_machine.proofs.state.State.doomed.Goals as goal

pub returns-in-Ok : goal.returns-in-Ok
returns-in-Ok c =
    let m = c.args.self.now in
    let bindings = m.bindings.ok.0 in
    let marks = m.marks.ok.0 in
    let named = c.in-Ok.ensures.1 in
    let left = c.saturating_sub.ensures in
    let all = c.len-3.ensures in
    let count = c.len-2.ensures in
    let some = c.if-len-eq0-3.false in
    let low = c.if-len-caller.false in
    let marks_counted = c.len-else-len-eq0-2.ensures in
    record {
      doomed = record {
        rest = c.if-not-ends_struct.ensures.ends refl;
        node = c.node-node.result.now;
        latest = c.node-node.ensures.node;
        unclean = sym (c.if-all_ok.ensures.all ∙ ap all_clean c.as_slice.ensures.value);
        names_are = omega (arith, named, left, all, bindings);
        caller = c.caller-caller.result;
        called = c.caller-caller.ensures.caller;
        ends = c.in_ok-end.ensures.end;
        marked = grind (arith, nat_tests);
        sane = grind (arith, nat_tests);
      };
    }
