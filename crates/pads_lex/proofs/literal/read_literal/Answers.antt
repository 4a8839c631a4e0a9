use Rattle.std.proofs.Common.{sym, ap, ◌∙◌, arith}
use Rattle.std.proofs.lemmas.List.{drop_all}
use Rattle.pads_lex.specs.Literals.{literal_from}
use Rattle.pads_lex.specs.declared.literal.Character.TheVariants.{Close, Open, Fault}
use Rattle.pads_lex.proofs.LiteralLemmas.{literal_at_end, reads_there, within_there, passed_there}
use Rattle.pads_lex.proofs.literal.read_literal.Goals as goal

pub returns-in-Close-clause-found : goal.returns-in-Close-clause-found
returns-in-Close-clause-found c =
    sym (reads_there _ _ _ c.args.text.now Close (sym c.read_character.ensures.found ∙ c.in-Close.is)) ∙ c.bytes.invariant.0

pub returns-in-Open-clause-found : goal.returns-in-Open-clause-found
returns-in-Open-clause-found c =
    sym (reads_there _ c.bytes.at c.bytes.points c.args.text.now Open (sym c.read_character.ensures.found ∙ c.in-Open.is)) ∙ c.bytes.invariant.0

pub returns-in-Fault-clause-found : goal.returns-in-Fault-clause-found
returns-in-Fault-clause-found c =
    sym (reads_there _ _ c.bytes.points c.args.text.now (Fault c.in-Fault.kind) (sym c.read_character.ensures.found ∙ c.in-Fault.is)) ∙ c.bytes.invariant.0

pub overflow_add-at : goal.overflow_add-at
overflow_add-at c =
    omega (arith, within_there _ _ c.args.text.now _ _ c.bytes-test.true (sym c.read_character.ensures.found ∙ c.in-Point.is))

pub bytes-smaller : goal.bytes-smaller
bytes-smaller c =
    omega (arith, within_there _ _ c.args.text.now _ _ c.bytes-test.true (sym c.read_character.ensures.found ∙ c.in-Point.is))

pub bytes-preserved : goal.bytes-preserved
bytes-preserved c =
    let found = sym c.read_character.ensures.found ∙ c.in-Point.is in
    (passed_there _ _ _ c.args.text.now _ _ _ _ found c.in_ok-push-in-Point.ensures.ok c.bytes.invariant.0, (within_there _ _ c.args.text.now _ _ c.bytes-test.true found).1)

pub returns-clause-found : goal.returns-clause-found
returns-clause-found c =
    sym (literal_at_end c.args.quote c.bytes.at c.bytes.points) ∙ ap (literal_from c.args.quote 0 c.bytes.at c.bytes.points) (sym (drop_all _ _ c.bytes-test.false)) ∙ c.bytes.invariant.0
