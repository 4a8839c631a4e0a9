use Rattle.pads_batch.proofs.Sums.{row-takes}
use Rattle.pads_batch.proofs.summing.add_row.Goals as goal

pub add-requires : goal.add-requires
add-requires c = record { unspent = c.requires.fits.2.unspent }

pub returns : goal.returns
returns c = record {
  takes = λ plan rows is. row-takes plan rows c.args.row.now c.args.chunk.now is c.add.new.self c.add.result c.add.ensures.plan c.add.ensures.spent
      c.add.ensures.added c.add.ensures.within c.add.ensures.limit;
}
