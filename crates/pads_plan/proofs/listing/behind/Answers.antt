use Rattle.std.proofs.Common.{◌∙◌, ◌-◌, List, ℕ, sym, ap}
use Rattle.std.specs.Option.{option_copied}
use Rattle.pads_calc.specs.declared.term.Term.{Term}
use Rattle.pads_plan.specs.Expansion.{Listed, caller}
use Rattle.pads_plan.specs.Pending.{callee_of, parts_at}
use Rattle.pads_plan.proofs.Calls.{nowhere_listed, call_listed_below}
use Rattle.pads_plan.proofs.Rolls.{call_listed}
use Rattle.pads_plan.proofs.listing.behind.Goals as goal

pub returns-in-None-clause-same : goal.returns-in-None-clause-same
returns-in-None-clause-same c =
    let decls = c.args.terms.now.decls.now in
    let names = c.args.terms.now.names.now in
    let left = c.calls.left in
    let way = c.calls.way in
    let number = c.in-Call.number in
    c.calls.invariant.0
    ∙ ap (λ (t : Term). parts_at decls names left t way) c.in-Call.is
    ∙ ap (λ (listed : Listed). listed way) (call_listed names (caller names decls left) number c.in-Call.field-1)
    ∙ nowhere_listed names decls left number way
    (ap (callee_of decls left number) (sym c.as_slice.ensures.items) ∙ sym c.callee.ensures.callee ∙ ap option_copied c.in-None.is)

pub calls-preserved : goal.calls-preserved
calls-preserved c =
    let decls = c.args.terms.now.decls.now in
    let names = c.args.terms.now.names.now in
    let left = c.calls.left in
    let way = c.calls.way in
    let number = c.in-Call.number in
    let decl = c.in-Some.decl.now in (
      c.calls.invariant.0
          ∙ ap (λ (t : Term). parts_at decls names left t way) c.in-Call.is
          ∙ ap (λ (listed : Listed). listed way) (call_listed names (caller names decls left) number c.in-Call.field-1)
          ∙ call_listed_below names decls left number way decl
          (ap (callee_of decls left number) (sym c.as_slice.ensures.items) ∙ sym c.callee.ensures.callee ∙ ap option_copied c.in-Some.is)
          ∙ ap (λ (way : List ℕ). parts_at decls names (left - 1) decl.body way) (sym c.in_ok-push.ensures.ok)
          ∙ ap (λ (listed : Listed). listed c.push.new.self) (c.inside-term-in-Call.ensures.same names (caller names decls (left - 1))),
      c.inside-term-in-Call.ensures.stands,
    )
