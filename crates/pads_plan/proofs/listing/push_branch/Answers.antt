use Rattle.std.proofs.Common.{◌∙◌, ◌++◌, ◌∷◌, [], List, sym, ap, reverse}
use Rattle.std.proofs.lemmas.List.{append-nil}
use Rattle.std.proofs.lemmas.Result.{on_ok_weaker}
use Rattle.pads_plan.specs.declared.part.Step.TheVariants as step
use Rattle.pads_plan.specs.Expansion.{Numbered, caller}
use Rattle.pads_plan.specs.Pending.{parts_at, pending}
use Rattle.pads_plan.specs.Ways.{from, named_below}
use Rattle.pads_plan.proofs.Pushes.{nothing_below, branch_below}
use Rattle.pads_plan.proofs.listing.push_branch.Goals as goal

pub returns-then-is_unit : goal.returns-then-is_unit
returns-then-is_unit c =
    let decls = c.args.terms.now.decls.now in
    let names = c.args.terms.now.names.now in
    let above = c.args.above.now in
    let old = pending decls names c.args.stack.now.items in
    let none = nothing_below names above.way.now above.step above.place.now above.number (caller names decls above.left) c.args.number c.args.arm.now
    (sym c.is_unit.ensures.unit ∙ c.if-is_unit.true) in
    record { pushed = sym (append-nil old) ∙ ap (λ (items : List Numbered). old ++ reverse items) (sym none) }

pub returns : goal.returns
returns c =
    let decls = c.args.terms.now.decls.now in
    let names = c.args.terms.now.names.now in
    let above = c.args.above.now in
    let old = pending decls names c.args.stack.now.items in
    let one = branch_below names above.way.now above.step above.place.now above.number (caller names decls above.left) c.args.number c.args.arm.now
    (sym c.is_unit.ensures.unit ∙ c.if-is_unit.false) in
    record {
      pushed = on_ok_weaker c.push_kid.result (λ e. e
          ∙ ap (λ place. old ++ parts_at decls names above.left c.args.arm.now.term above.way.now (from above.number (step.Branch c.args.number) place) ∷ []) (c.in_ok-place.ensures.place ∙ ap (named_below above.step above.place.now) c.name_at.ensures.name)
          ∙ ap (λ (items : List Numbered). old ++ reverse items) (sym one)) c.push_kid.ensures.pushed;
    }
