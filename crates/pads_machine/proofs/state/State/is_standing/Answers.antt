use Rattle.std.proofs.Common.{arith, ◌<◌, eqb-true}
use Rattle.pads_machine.proofs.state.State.is_standing.Goals as goal

pub returns : goal.returns
returns c =
    let m = c.args.self.now in
    let n = c.node-node.result.now in
    record {
      standing = λ same.
          let alone = eqb-true n.base c.len-2.result same in
          let some : 0 < c.len.result = omega (arith, c.if-len-eq0.false) in
          record {
            node = n;
            latest = c.node-node.ensures.node;
            later = omega (arith, some, c.len.ensures, n.values.ok.0);
            alone = omega (arith, alone, c.len-2.ensures, m.bindings.ok.0);
          };
    }
