use Rattle.std.proofs.Common.{◌∙◌, sym, ap}
use Rattle.std.specs.Option.{option_copied}
use Rattle.pads_resolve_expr.proofs.PartLemmas.{no-part, part-there}
use Rattle.pads_resolve_expr.proofs.part_table.PartTable.part_position.Goals as goal

pub returns-in_err-get : goal.returns-in_err-get
returns-in_err-get c = record {
  first =
      rw (← c.self.view_is)
      (c.from_residual.ensures ∙ no-part c.self.inside.decls.now c.self.inside.numbers c.args.number c.args.name.now c.self.invariant (sym (ap option_copied c.in_err-get.was) ∙ c.get.ensures.item));
}

pub returns : goal.returns
returns c = record {
  first =
      rw (← c.self.view_is)
      (c.number_of.ensures.number
      ∙ part-there c.self.inside.decls.now c.self.inside.numbers c.args.number c.args.name.now c.in_ok-get.field-0.now c.self.invariant (sym (ap option_copied c.in_ok-get.was) ∙ c.get.ensures.item));
}
