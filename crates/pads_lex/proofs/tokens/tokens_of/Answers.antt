use Rattle.std.proofs.Common.{Ok, sym, ap, ◌∙◌, arith}
use Rattle.std.proofs.lemmas.List.{drop_all}
use Rattle.pads_lex.specs.Reading.{tokens_from}
use Rattle.pads_lex.specs.declared.step.Step.TheVariants.{Fault}
use Rattle.pads_lex.proofs.TokensLemmas.{tokens_at_end, read_there, gap_there, stands_there, fault_there, passes_there, pushes_there}
use Rattle.pads_lex.proofs.tokens.tokens_of.Goals as goal

pub overflow_add-at : goal.overflow_add-at
overflow_add-at c = omega (arith, gap_there c.args.text.now _ _ _ c.bytes-test.true c.in_ok-size.ensures.found c.in-Gap.is)

pub bytes-smaller-in-Gap : goal.bytes-smaller-in-Gap
bytes-smaller-in-Gap c = omega (arith, gap_there c.args.text.now _ _ _ c.bytes-test.true c.in_ok-size.ensures.found c.in-Gap.is)

pub bytes-preserved-in-Gap : goal.bytes-preserved-in-Gap
bytes-preserved-in-Gap c = (
  passes_there c.args.text.now _ _ _ _ _ c.bytes-test.true c.in_ok-size.ensures.found c.in-Gap.is c.bytes.invariant.0,
  (gap_there c.args.text.now _ _ _ c.bytes-test.true c.in_ok-size.ensures.found c.in-Gap.is).1,
)

pub overflow_add-at-in-Stands : goal.overflow_add-at-in-Stands
overflow_add-at-in-Stands c = omega (arith, stands_there c.args.text.now _ _ _ _ c.bytes-test.true c.in_ok-size.ensures.found c.in-Stands.is)

pub bytes-smaller : goal.bytes-smaller
bytes-smaller c = omega (arith, stands_there c.args.text.now _ _ _ _ c.bytes-test.true c.in_ok-size.ensures.found c.in-Stands.is)

pub bytes-preserved : goal.bytes-preserved
bytes-preserved c = (
  pushes_there c.args.text.now _ _ c.in-Stands.kind _ _ _ _ c.bytes-test.true c.in_ok-size.ensures.found c.in-Stands.is c.in_ok-push-in-Stands.ensures.ok c.bytes.invariant.0,
  (stands_there c.args.text.now _ _ _ _ c.bytes-test.true c.in_ok-size.ensures.found c.in-Stands.is).1,
)

pub overflow_add-place : goal.overflow_add-place
overflow_add-place c = omega (arith, fault_there c.args.text.now _ _ _ _ c.bytes-test.true c.in_ok-size.ensures.found c.in-Fault.is)

pub returns-in-Fault : goal.returns-in-Fault
returns-in-Fault c = record { found = sym c.bytes.invariant.0 ∙ read_there c.args.text.now c.bytes.at c.bytes.tokens _ (Fault c.in-Fault.kind c.in-Fault.offset) c.bytes-test.true c.in_ok-size.ensures.found c.in-Fault.is }

pub returns : goal.returns
returns c = record { found = sym c.bytes.invariant.0 ∙ ap (tokens_from 0 c.bytes.at c.bytes.tokens) (drop_all _ _ c.bytes-test.false) ∙ tokens_at_end c.bytes.at c.bytes.tokens ∙ ap Ok (sym c.in_ok-push.ensures.ok) }
