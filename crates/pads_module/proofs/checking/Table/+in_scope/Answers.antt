use Rattle.std.proofs.Common.{◌≡◌, ◌∙◌, sym, ap, ◌+◌, Bool, true, ◌&&◌, List, ℕ, map, take, drop, arith}
use Rattle.std.proofs.lemmas.Grind.{common_steps}
use Rattle.pads_module.specs.Bound.{bound_names, parts_names}
use Rattle.pads_module.specs.Scopes.{arities_of, parts_in, binding_of, bind_name, in_scope}
use Rattle.pads_module.proofs.ScopeRolls.{scope-Parts, names-more}
use Rattle.pads_module.proofs.TermRolls.{parts_in-next}
use Rattle.pads_module.proofs.checking.Table.+in_scope.Goals as goal

pub parts-loop-number-preserved : goal.parts-loop-number-preserved
parts-loop-number-preserved t c =
    let names = c.args.self.now.names in
    let arities = arities_of c.args.self.now.decls.now in
    let parts = c.args.parts.now in
    let n = c.loop-number.number in
    let part = c.index-parts-number.result in
    let outer = bound_names c.args.scope.now in
    let scope = parts_names (take n parts) outer in
    let rest = map (binding_of names arities) (drop (n + 1) parts) in
    let yes : c.term.result ≡ true = grind (arith, common_steps, c.if-not-term.false) in
    let here : in_scope names arities part.term scope ≡ true = sym (rw scope-Parts at c.term.ensures.in_scope) ∙ yes in
    c.loop-number.invariant
    ∙ parts_in-next names arities parts n part scope c.loop-number-test.true c.index-parts-number.is
    ∙ ap (λ (b : Bool). b && parts_in rest (bind_name part.name scope)) here
    ∙ ap (λ (s : List ℕ). parts_in rest s) (sym (names-more parts n part outer c.loop-number-test.true c.index-parts-number.is))
