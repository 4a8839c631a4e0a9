use Rattle.std.proofs.Common.{◌≡◌, ◌∙◌, ◌++◌, ◌+◌, ◌-◌, [], drop, sym, ap, arith}
use Rattle.std.proofs.lemmas.List.{drop_all}
use Rattle.pads_selftest.specs.Records.{records_from}
use Rattle.pads_selftest.proofs.Made.{records-first}
use Rattle.pads_selftest.proofs.source.Progress.advance.Goals as goal

pub returns-clause-same : goal.returns-clause-same
returns-clause-same c =
    let self = c.args.self.now in
    let given : drop self.at self.line.items ≡ [] = drop_all self.at self.line.items (omega (arith, c.len.ensures.value, c.if-self-len.false)) in
    ap (λ l. l ++ records_from (self.next + 1) (self.end - (self.next + 1))) c.made_record-self.ensures.line
    ∙ sym (records-first self.next self.end c.if-self.false) ∙ ap (λ l. l ++ records_from self.next (self.end - self.next)) (sym given)
