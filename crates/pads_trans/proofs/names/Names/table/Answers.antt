use Rattle.pads_trans.proofs.Places.{table-room, table-more}
use Rattle.pads_trans.proofs.names.Names.table.Goals as goal

pub add-requires : goal.add-requires
add-requires c =
    let few = rw (← c.self.view_is) at c.requires.few in
    record {
      room = table-room c.as_slice-name-items.result.now c.loop-name.name-index c.loop-name.table c.loop-name.invariant c.loop-name-test.true
          (rw c.as_slice-name-items.ensures.keys few);
    }

pub loop-name-preserved : goal.loop-name-preserved
loop-name-preserved c =
    table-more c.as_slice-name-items.result.now c.loop-name.name-index c.loop-name.table c.add.new.self c.name-item.result c.in_ok-add.field-0
    c.loop-name.invariant c.loop-name-test.true c.name-item.is (rw (← c.as_slice.ensures.value) c.in_ok-add.ensures.number)
