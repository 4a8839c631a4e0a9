use Rattle.std.proofs.Common.{◌∙◌, sym, ap}
use Rattle.std.specs.Option.{option_copied}
use Rattle.pads_declared.proofs.MemberLemmas.{no-member, member-there}
use Rattle.pads_declared.proofs.type_table.TypeTable.member_position.Goals as goal

pub returns-in_err-get : goal.returns-in_err-get
returns-in_err-get c = record {
  first =
      rw (← c.self.view_is)
      (c.from_residual.ensures ∙ no-member c.self.inside.types c.self.inside.members c.args.number c.args.name.now c.self.invariant.members (sym (ap option_copied c.in_err-get.was) ∙ c.get.ensures.item));
}

pub returns : goal.returns
returns c = record {
  first =
      rw (← c.self.view_is)
      (c.number_of.ensures.number
      ∙ member-there c.self.inside.types c.self.inside.members c.args.number c.args.name.now c.in_ok-get.field-0.now c.self.invariant.members (sym (ap option_copied c.in_ok-get.was) ∙ c.get.ensures.item));
}
