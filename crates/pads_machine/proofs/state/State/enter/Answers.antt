use Rattle.std.proofs.Common.{◌≡◌, ◌∙◌, ap, refl, arith, ℕ, ◌+◌, ◌-◌, List, length, reverse}
use Rattle.std.proofs.lemmas.List.{length-reverse, length_push}
use Rattle.pads_calc.specs.Arguments.{bound_to}
use Rattle.pads_machine.specs.declared.node.Caller.{Caller}
use Rattle.pads_machine.specs.Shown.{homeless}
use Rattle.pads_machine.proofs.Bound.{bound-count}
use Rattle.pads_machine.proofs.Homes.{reverse-push}
use Rattle.pads_machine.proofs.Shows.{enter-each, enter-held, enter-shows}
use Rattle.pads_machine.proofs.state.State.enter.Goals as goal

pub bind-requires-clause-bindings_room : goal.bind-requires-clause-bindings_room
bind-requires-clause-bindings_room c =
    let m = c.args.self.now in
    omega (
      arith,
      c.requires.within,
      c.requires.roomy.bindings,
      bound-count c.args.entry.now.params c.args.args (reverse m.bindings.items),
      length-reverse m.bindings.items,
      m.bindings.ok.0,
      ap length c.as_slice.ensures.items,
    )

pub bind-requires-clause-homes_room : goal.bind-requires-clause-homes_room
bind-requires-clause-homes_room c =
    let m = c.args.self.now in
    omega (
      arith,
      c.requires.within,
      c.requires.roomy.homes,
      bound-count c.args.entry.now.params c.args.args (reverse m.bindings.items),
      length-reverse m.bindings.items,
      c.requires.held.each_home,
      m.homes.ok.0,
      ap length c.as_slice.ensures.items,
    )

pub returns-clause-enter : goal.returns-clause-enter
returns-clause-enter c =
    let m = c.args.self.now in
    let entry = c.args.entry.now in
    let args = c.args.args in
    let bs = reverse m.bindings.items in
    let hs = reverse m.homes.items in
    let ns = reverse m.nodes.items in
    let cs = reverse m.callers.items in
    let bs' = reverse c.bind.new.bindings.items in
    let hs' = reverse c.bind.new.homes.items in
    let cs' = reverse c.push_reserved.new.self.items in
    let k : Caller = record { back = m.address + 1; base = c.len.result; number = c.args.number; place = m.last.place } in
    let each : length hs ≡ length bs = omega (arith, length-reverse m.homes.items, length-reverse m.bindings.items, c.requires.held.each_home) in
    let base : c.len.result ≡ length bs = omega (arith, c.len.ensures, length-reverse m.bindings.items, m.bindings.ok.0) in
    let bs_are : bs' ≡ bound_to entry.params args bs = c.bind.ensures.bindings ∙ ap (λ (params : List ℕ). bound_to params args bs) c.as_slice.ensures.items in
    let hs_are : hs' ≡ homeless entry.params args hs = c.bind.ensures.homes ∙ ap (λ (params : List ℕ). homeless params args hs) c.as_slice.ensures.items in
    enter-shows (reverse m.marks.items) entry args m.address m.depth (m.depth - 1) m.last bs hs ns cs bs' hs' bs_are hs_are c.requires.held.sound each k cs'
    (ap reverse c.push_reserved.ensures.items ∙ reverse-push m.callers.items k) refl base

pub returns-clause-held : goal.returns-clause-held
returns-clause-held c =
    let m = c.args.self.now in
    let entry = c.args.entry.now in
    let args = c.args.args in
    let bs = reverse m.bindings.items in
    let hs = reverse m.homes.items in
    let ns = reverse m.nodes.items in
    let cs = reverse m.callers.items in
    let bs' = reverse c.bind.new.bindings.items in
    let hs' = reverse c.bind.new.homes.items in
    let k : Caller = record { back = m.address + 1; base = c.len.result; number = c.args.number; place = m.last.place } in
    let each : length hs ≡ length bs = omega (arith, length-reverse m.homes.items, length-reverse m.bindings.items, c.requires.held.each_home) in
    let bs_are : bs' ≡ bound_to entry.params args bs = c.bind.ensures.bindings ∙ ap (λ (params : List ℕ). bound_to params args bs) c.as_slice.ensures.items in
    let hs_are : hs' ≡ homeless entry.params args hs = c.bind.ensures.homes ∙ ap (λ (params : List ℕ). homeless params args hs) c.as_slice.ensures.items in
    let each' : length hs' ≡ length bs' = enter-each (reverse m.marks.items) entry args m.address m.depth (m.depth - 1) m.last bs hs ns cs bs' hs' bs_are hs_are c.requires.held.sound each in
    record {
      each_home = omega (arith, each', length-reverse c.bind.new.homes.items, length-reverse c.bind.new.bindings.items);
      sound = enter-held (reverse m.marks.items) entry args m.address m.depth (m.depth - 1) m.last bs hs ns cs bs' hs' bs_are hs_are c.requires.held.sound each;
      deep = omega (arith, c.requires.held.deep, c.requires.depth, ap length c.push_reserved.ensures.items, length_push m.callers.items k);
    }
