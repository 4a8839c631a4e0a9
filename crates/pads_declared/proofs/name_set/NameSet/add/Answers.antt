use Rattle.std.proofs.Common.{◌≡◌, ◌∙◌, sym, true}
use Rattle.pads_rules.specs.Texts.{is_among}
use Rattle.pads_declared.proofs.NameLemmas.{among-texts, name-there, name-added}
use Rattle.pads_declared.proofs.name_set.NameSet.add.Goals as goal

pub returns-then-contains-clause-again : goal.returns-then-contains-clause-again
returns-then-contains-clause-again c =
    rw (← c.self.view_is) (sym c.if-contains.true ∙ c.contains.ensures ∙ sym (among-texts c.self.inside.names.keys c.args.name.now))

pub returns-then-contains-clause-ok : goal.returns-then-contains-clause-ok
returns-then-contains-clause-ok c =
    let there : true ≡ is_among c.args.self.now c.args.name.now =
    rw (← c.self.view_is) (sym c.if-contains.true ∙ c.contains.ensures ∙ sym (among-texts c.self.inside.names.keys c.args.name.now)) in
    name-there c.args.self.now c.args.name.now there

pub returns-clause-again : goal.returns-clause-again
returns-clause-again c =
    rw (← c.self.view_is) (sym c.if-contains.false ∙ c.contains.ensures ∙ sym (among-texts c.self.inside.names.keys c.args.name.now))

pub returns-clause-ok : goal.returns-clause-ok
returns-clause-ok c =
    rw (← c.self.view_is)
    (name-added c.self.inside.names.keys c.args.name.now c.in_ok-from_slice.field-0 c.insert.new.self.keys
    (sym c.if-contains.false ∙ c.contains.ensures) c.in_ok-from_slice.ensures.items c.in_ok-insert.ensures.keys)
