use Rattle.std.proofs.Common.{◌≡◌, true, take, drop, map}
use Rattle.std.specs.List.{list_all}
use Rattle.pads_module.specs.Bound.{bound_names, parts_names}
use Rattle.pads_module.specs.Scopes.{arities_of, parts_in, binding_of, arm_in, case_in}
use Rattle.pads_module.proofs.checking.Table.+in_scope.Given as goal

abbrev pub invariant-parts-loop-number : goal.invariant-parts-loop-number
invariant-parts-loop-number l =
    let b = binding_of l.self.names (arities_of l.self.decls.now) in
    parts_in (map b l.parts) (bound_names l.scope) ≡ parts_in (map b (drop l.number l.parts)) (parts_names (take l.number l.parts) (bound_names l.scope))

abbrev pub invariant-arms-loop-arm : goal.invariant-arms-loop-arm
invariant-arms-loop-arm l = list_all (λ arm. arm_in l.self.names (arities_of l.self.decls.now) arm (bound_names l.scope)) (take l.arm-index l.arms) ≡ true

abbrev pub invariant-cases-loop-case : goal.invariant-cases-loop-case
invariant-cases-loop-case l = list_all (λ case. case_in l.self.names (arities_of l.self.decls.now) case (bound_names l.scope)) (take l.case-index l.cases) ≡ true
