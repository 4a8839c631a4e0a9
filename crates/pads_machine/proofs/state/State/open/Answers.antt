use Rattle.std.proofs.Common.{arith, reverse}
use Rattle.std.proofs.lemmas.List.{length-reverse}
use Rattle.pads_machine.proofs.Shows.{nodes-count}
use Rattle.pads_machine.proofs.state.State.open.Goals as goal

pub push_reserved-requires : goal.push_reserved-requires
push_reserved-requires c =
    let m = c.args.self.now in
    omega (
      arith,
      c.requires.within,
      c.requires.roomy.nodes,
      nodes-count (reverse m.nodes.items) (reverse m.homes.items) (reverse m.bindings.items),
      length-reverse m.nodes.items,
      m.nodes.ok.0,
    )
