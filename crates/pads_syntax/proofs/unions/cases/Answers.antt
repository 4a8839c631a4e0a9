use Rattle.std.proofs.Common.{◌∙◌, sym, ap}
use Rattle.std.proofs.lemmas.Result.{err_from_is_err_and}
use Rattle.pads_grammar.specs.Grammar.{begins}
use Rattle.pads_syntax.specs.Switches.{case_rule}
use Rattle.pads_syntax.proofs.DeclLoops.{cases_go, cases_refuse, cases_shorten}
use Rattle.pads_syntax.proofs.unions.cases.Goals as goal

pub cases-smaller : goal.cases-smaller
cases-smaller c = cases_shorten c.cases.cursor c.case_rule.new.cursor c.in_ok-case_rule.field-0 c.in_ok-case_rule.ensures.reads

pub cases-preserved : goal.cases-preserved
cases-preserved c = rw c.in_ok-push.ensures.ok (cases_go _ c.cases.cases c.cases.cursor c.case_rule.new.cursor c.in_ok-case_rule.field-0
    (ap (begins case_rule) (sym c.peek.ensures.kind) ∙ (sym c.begins_case.ensures.begins ∙ c.cases-test.true)) c.in_ok-case_rule.ensures.reads c.cases.invariant)

pub returns-in_err-case_rule : goal.returns-in_err-case_rule
returns-in_err-case_rule c =
    let p = err_from_is_err_and c.from_residual.result c.from_residual.ensures.1 in
    record {
      reads = rw (p.1, p.2) (cases_refuse _ c.cases.cases c.cases.cursor c.case_rule.new.cursor c.in_err-case_rule.field-0.0
          (ap (begins case_rule) (sym c.peek.ensures.kind) ∙ (sym c.begins_case.ensures.begins ∙ c.cases-test.true)) c.in_err-case_rule.ensures.reads c.cases.invariant);
    }
