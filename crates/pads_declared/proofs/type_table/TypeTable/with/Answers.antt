use Rattle.std.proofs.Common.{length}
use Rattle.pads_rules.specs.declared.declared.Declared.{Declared}
use Rattle.pads_declared.specs.declared.first_numbers.FirstNumbers.{FirstNumbers}
use Rattle.pads_declared.specs.Numbered.{NumbersThing, AreMembers, is_declared_as}
use Rattle.pads_declared.proofs.NumberLemmas.{numbered-more, pairs-more}
use Rattle.pads_declared.proofs.type_table.TypeTable.with.Goals as goal

pub invariant_of-result : goal.invariant_of-result
invariant_of-result c =
    let first : NumbersThing is_declared_as c.self.inside.numbers c.args.declared (length c.self.inside.types) c.add.new.self = rw (← c.len-number.ensures.length, ← c.as_slice.ensures.items) c.in_ok-add.ensures.numbered in
    rw (c.in_ok-push.ensures.ok, c.in_ok-push-2.ensures.ok) (record {
      named = numbered-more is_declared_as c.self.inside.types c.args.declared c.self.inside.numbers c.add.new.self c.self.invariant.named first;
      members = pairs-more (λ (d : Declared) (f : FirstNumbers). AreMembers d.content f) c.self.inside.types c.self.inside.members c.args.declared c.in_ok-number_members.field-0 c.self.invariant.members c.in_ok-number_members.ensures.numbered;
    })
