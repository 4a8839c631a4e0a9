use Rattle.std.proofs.Common.{◌≡◌, ◌∙◌, sym, ap, option_map, slice_get}
use Rattle.std.specs.Option.{option_copied}
use Rattle.pads_rules.specs.declared.declared.Content.{Content}
use Rattle.pads_rules.specs.declared.declared.Named.{Named}
use Rattle.pads_rules.specs.Members.{content_of, names_in}
use Rattle.pads_declared.proofs.MemberLemmas.{content-at, sort-none, sort-there}
use Rattle.pads_declared.proofs.members.sort_in.Goals as goal

pub returns-in_err-member : goal.returns-in_err-member
returns-in_err-member c = record {
  found = c.from_residual.ensures ∙ sort-none (content_of c.args.env.now c.args.number) c.args.name.now (sym c.in_err-member.was ∙ c.member_position.ensures.first);
}

pub returns : goal.returns
returns c =
    let at : content_of c.args.env.now c.args.number ≡ c.in_ok-get.field-0.now.content = content-at c.args.env.now c.args.number c.in_ok-get.field-0.now (sym (ap option_copied c.in_ok-get.was) ∙ c.get.ensures.item) in
    record {
      found =
          c.sort_at.ensures.sort ∙ ap (λ (k : Content). option_map (λ (one : Named). one.sort) (slice_get (names_in k) c.in_ok-member.member)) (sym at)
          ∙ sort-there (content_of c.args.env.now c.args.number) c.args.name.now c.in_ok-member.member (sym c.in_ok-member.was ∙ c.member_position.ensures.first);
    }
