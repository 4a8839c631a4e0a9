use Rattle.std.proofs.Common.{◌≡◌, ◌∙◌, ap, sym, subst, arith, ℕ, List, [], length, reverse}
use Rattle.std.proofs.lemmas.List.{length-reverse}
use Rattle.pads_calc.specs.Arguments.{bound_to}
use Rattle.pads_calc.specs.Leaves.{unit_of}
use Rattle.pads_expr.specs.Value.{Pairs}
use Rattle.pads_image.specs.States as states
use Rattle.pads_machine.specs.declared.node.Node.{Node}
use Rattle.pads_machine.specs.Held.{AreSound}
use Rattle.pads_machine.specs.Shown.{Homes, homeless, shows}
use Rattle.pads_machine.proofs.Bound.{bound-count, homeless-count}
use Rattle.pads_machine.proofs.state.State.start_call.Goals as goal

pub bind-requires-clause-bindings_room : goal.bind-requires-clause-bindings_room
bind-requires-clause-bindings_room c =
    let m = c.start.new.self in
    omega (arith, c.requires.room, c.start.ensures.roomy.bindings, ap length c.start.ensures.empty.0, m.bindings.ok.0, ap length c.as_slice.ensures.items)

pub bind-requires-clause-homes_room : goal.bind-requires-clause-homes_room
bind-requires-clause-homes_room c =
    let m = c.start.new.self in
    omega (arith, c.requires.room, c.start.ensures.roomy.homes, ap length c.start.ensures.empty.1, m.homes.ok.0, ap length c.as_slice.ensures.items)

pub returns-clause-start : goal.returns-clause-start
returns-clause-start c =
    let m = c.start.new.self in
    let entry = c.args.entry.now in
    let args = c.args.args in
    let empty = c.start.ensures.empty in
    let bs = reverse c.bind.new.bindings.items in
    let hs = reverse c.bind.new.homes.items in
    let bs_are : bs ≡ bound_to entry.params args [] =
    c.bind.ensures.bindings ∙ ap (λ (params : List ℕ). bound_to params args (reverse m.bindings.items)) c.as_slice.ensures.items
    ∙ ap (λ (bs : Pairs). bound_to entry.params args (reverse bs)) empty.0 in
    ap (λ (nodes : List Node). shows (reverse m.marks.items) m.address m.last m.depth bs hs (reverse nodes) (reverse m.callers.items)) empty.2
    ∙ ap (λ (s : states.State). record s { bindings = bs; nodes = [] }) c.start.ensures.start
    ∙ ap (λ (bs : Pairs). record { at_ = entry.first; last = unit_of c.args.origin c.args.place; depth = c.args.depth; bindings = bs; nodes = []; marks = []; callers = [] }) bs_are

pub returns-clause-held : goal.returns-clause-held
returns-clause-held c =
    let m = c.start.new.self in
    let entry = c.args.entry.now in
    let args = c.args.args in
    let empty = c.start.ensures.empty in
    let bs = reverse c.bind.new.bindings.items in
    let hs = reverse c.bind.new.homes.items in
    let bs_are : bs ≡ bound_to entry.params args [] =
    c.bind.ensures.bindings ∙ ap (λ (params : List ℕ). bound_to params args (reverse m.bindings.items)) c.as_slice.ensures.items
    ∙ ap (λ (bs : Pairs). bound_to entry.params args (reverse bs)) empty.0 in
    let hs_are : hs ≡ homeless entry.params args [] =
    c.bind.ensures.homes ∙ ap (λ (params : List ℕ). homeless params args (reverse m.homes.items)) c.as_slice.ensures.items
    ∙ ap (λ (hs : Homes). homeless entry.params args (reverse hs)) empty.1 in
    record {
      each_home = omega (
        arith,
        bound-count entry.params args [],
        homeless-count entry.params args [],
        ap length bs_are,
        ap length hs_are,
        length-reverse c.bind.new.bindings.items,
        length-reverse c.bind.new.homes.items,
      );
      sound = subst (λ (nodes : List Node). AreSound (reverse nodes) hs) (sym empty.2) tt;
      deep = c.start.ensures.held.deep;
    }
