use Rattle.pads_violations.proofs.DescriptionLaws.{tree-joined}
use Rattle.pads_violations.proofs.description.first_violation.Goals as goal

pub returns : goal.returns
returns c = record {
  told =
      rw (c.lesser.ensures.least, c.in_ok-fault.ensures.told, c.no_record_type.ensures.told, c.as_slice.ensures.items)
      (tree-joined c.args.tree.now);
}
