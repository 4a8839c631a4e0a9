use Rattle.std.proofs.Common.{◌≡◌, ◌∙◌, ap, sym, subst, arith, ⊎_elim, ℕ, ◌+◌, reverse, IfSome, Option, None, Some, slice_get}
use Rattle.pads_expr.specs.Value.{Pairs}
use Rattle.pads_expr.specs.declared.expr.Expr.{Expr}
use Rattle.pads_image.specs.declared.op.Op.TheVariants as op
use Rattle.pads_image.specs.States.{seen}
use Rattle.pads_machine.specs.declared.constraint.Constraint.{Constraint}
use Rattle.pads_machine.specs.declared.known.Call.{Call}
use Rattle.pads_machine.specs.Known.{IsCall, IsRest}
use Rattle.pads_machine.specs.Shown.{shown}
use Rattle.pads_machine.proofs.state.State.branch_call.Goals as goal

pub returns-then-behind-end : goal.returns-then-behind-end
returns-then-behind-end c =
    let m = c.args.self.now in
    let code = c.args.program.now.code.now in
    let ends : c.args.end ≡ m.address + 1 = omega (arith, c.if-behind-end.true) in
    let bare : c.in-Some.call.constraint ≡ None = subst (λ (found : Option Call). IfSome found (λ call. call.constraint ≡ None)) c.in-Some.is c.in_ok-call.ensures.bare in
    record {
      branch = record {
        call_is = subst (λ (found : Option Call). IfSome found (λ call. IsCall code m.address call m)) c.in-Some.is c.in_ok-call.ensures.call;
        rest = subst (λ (constraint : Option Constraint). IsRest code (m.address + 1) c.args.end constraint m) (sym bare) ends;
      };
    }

pub returns : goal.returns
returns c =
    let m = c.args.self.now in
    let code = c.args.program.now.code.now in
    let constraint = c.in_ok-constraint.constraint in
    let is_call = subst (λ (found : Option Call). IfSome found (λ call. IsCall code m.address call m)) c.in-Some.is c.in_ok-call.ensures.call in
    let sees : reverse constraint.seen ≡ seen (shown m) = ap (λ (seen : Pairs). reverse seen) c.in_ok-constraint.ensures.seen ∙ c.seen.ensures.seen in
    record {
      branch = record {
        call_is = record { args = is_call.args; there = is_call.there; worth = is_call.worth; depth = is_call.depth; place = is_call.place; sane = is_call.sane };
        rest = ⊎_elim
            (λ (same : c.args.end ≡ m.address + 1). absurd (omega (arith, same, c.if-behind-end.false)))
            (λ (h : (binder : ℕ) × (condition : Expr) × (slice_get code (m.address + 1) ≡ Some (op.Guard binder condition)) × (c.args.end ≡ m.address + 1 + 1)).
            (h.0, h.1, h.2, c.in_ok-constraint.ensures.address, sees, h.3))
            c.requires.end.guarded;
      };
    }
