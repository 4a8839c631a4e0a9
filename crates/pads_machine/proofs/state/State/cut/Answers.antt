use Rattle.std.proofs.Common.{◌≡◌, ◌∙◌, sym, ap, subst, refl, arith, ◌-◌, ◌≤◌, List, ◌∷◌, [], length, drop, reverse}
use Rattle.std.proofs.lemmas.List.{length-reverse, nil_from_length}
use Rattle.pads_expr.proofs.Reversed.{reverse-take}
use Rattle.pads_image.specs.States.{floor_of}
use Rattle.pads_machine.specs.declared.node.Node.{Node}
use Rattle.pads_machine.specs.Held.{AreSound}
use Rattle.pads_machine.specs.Shown.{below, nodes_shown, shows}
use Rattle.pads_machine.proofs.Homes.{reverse-push}
use Rattle.pads_machine.proofs.Shows.{cut-each, cut-held, cut-none-shows, cut-shows}
use Rattle.pads_machine.proofs.state.State.cut.Goals as goal

pub returns-in-None-clause-cut : goal.returns-in-None-clause-cut
returns-in-None-clause-cut c =
    let m = c.args.self.now in
    let base = c.args.base in
    let bs = reverse m.bindings.items in
    let hs = reverse m.homes.items in
    let cs = reverse m.callers.items in
    let bs' = reverse c.truncate.new.self.items in
    let hs' = reverse c.truncate-in-None.new.self.items in
    let old : m.nodes.items ≡ [] = nil_from_length m.nodes.items (omega (arith, c.in-None.ensures.cases.0, m.nodes.ok.0)) in
    let now : c.pop.new.self.items ≡ [] = nil_from_length c.pop.new.self.items (omega (arith, c.in-None.ensures.cases.1, c.pop.new.self.ok.0)) in
    let bs_are : bs' ≡ below base bs =
    ap reverse c.truncate.ensures.items ∙ reverse-take base m.bindings.items ∙ ap (λ n. drop (n - base) bs) (sym (length-reverse m.bindings.items)) in
    let hs_are : hs' ≡ below base hs =
    ap reverse c.truncate-in-None.ensures.items ∙ reverse-take base m.homes.items ∙ ap (λ n. drop (n - base) hs) (sym (length-reverse m.homes.items)) in
    ap (λ (ns : List Node). shows (reverse m.marks.items) m.address m.last m.depth bs' hs' (reverse ns) cs) now
    ∙ cut-none-shows (reverse m.marks.items) m.address m.depth m.last bs hs cs base bs' hs' bs_are hs_are
    ∙ ap (λ (ns : List Node). record (shows (reverse m.marks.items) m.address m.last m.depth bs hs (reverse ns) cs) { bindings = below base bs }) (sym old)

pub returns-in-Some-clause-cut : goal.returns-in-Some-clause-cut
returns-in-Some-clause-cut c =
    let m = c.args.self.now in
    let base = c.args.base in
    let bs = reverse m.bindings.items in
    let hs = reverse m.homes.items in
    let cs = reverse m.callers.items in
    let bs' = reverse c.take_back.new.bindings.items in
    let hs' = reverse c.take_back.new.homes.items in
    let ns' = reverse c.push_reserved.new.self.items in
    let n = c.in-Some.node in
    let k : Node = record n { values = c.take_back.new.values } in
    let rest = reverse c.pop.new.self.items in
    let old : reverse m.nodes.items ≡ n ∷ rest = ap reverse c.in-Some.ensures.items ∙ reverse-push c.pop.new.self.items n in
    let each : length hs ≡ length bs = omega (arith, length-reverse m.homes.items, length-reverse m.bindings.items, c.requires.held.each_home) in
    let less : n.base ≤ base = subst (λ (ns : List Node). floor_of (nodes_shown ns hs bs) ≤ base) old c.requires.base in
    let ns_are : ns' ≡ k ∷ rest = ap reverse c.push_reserved.ensures.items ∙ reverse-push c.pop.new.self.items k in
    cut-shows (reverse m.marks.items) m.address m.depth m.last bs hs cs base bs' hs' c.take_back.ensures.bindings c.take_back.ensures.homes n k rest ns' refl c.take_back.ensures.values less each ns_are refl
    ∙ ap (λ (ns : List Node). record (shows (reverse m.marks.items) m.address m.last m.depth bs hs ns cs) { bindings = below base bs }) (sym old)

pub returns-in-Some-clause-held : goal.returns-in-Some-clause-held
returns-in-Some-clause-held c =
    let m = c.args.self.now in
    let base = c.args.base in
    let bs = reverse m.bindings.items in
    let hs = reverse m.homes.items in
    let cs = reverse m.callers.items in
    let bs' = reverse c.take_back.new.bindings.items in
    let hs' = reverse c.take_back.new.homes.items in
    let ns' = reverse c.push_reserved.new.self.items in
    let n = c.in-Some.node in
    let k : Node = record n { values = c.take_back.new.values } in
    let rest = reverse c.pop.new.self.items in
    let old : reverse m.nodes.items ≡ n ∷ rest = ap reverse c.in-Some.ensures.items ∙ reverse-push c.pop.new.self.items n in
    let sound : AreSound (n ∷ rest) hs = subst (λ (ns : List Node). AreSound ns hs) old c.requires.held.sound in
    let each : length hs ≡ length bs = omega (arith, length-reverse m.homes.items, length-reverse m.bindings.items, c.requires.held.each_home) in
    let less : n.base ≤ base = subst (λ (ns : List Node). floor_of (nodes_shown ns hs bs) ≤ base) old c.requires.base in
    let ns_are : ns' ≡ k ∷ rest = ap reverse c.push_reserved.ensures.items ∙ reverse-push c.pop.new.self.items k in
    let each' : length (below base hs) ≡ length (below base bs) = cut-each base hs bs each in
    record {
      each_home = omega (arith, each', ap length c.take_back.ensures.homes, ap length c.take_back.ensures.bindings, length-reverse c.take_back.new.homes.items, length-reverse c.take_back.new.bindings.items);
      sound = cut-held (reverse m.marks.items) m.address m.depth m.last bs hs cs base bs' hs' c.take_back.ensures.bindings c.take_back.ensures.homes n k rest ns' refl c.take_back.ensures.values less each ns_are sound;
      deep = c.requires.held.deep;
    }

-- no binding is above it
pub returns-then-len-base-clause-cut : goal.returns-then-len-base-clause-cut
returns-then-len-base-clause-cut c =
    let m = c.args.self.now in
    let bs = reverse m.bindings.items in
    let hs = reverse m.homes.items in
    let none : 0 ≡ length bs - c.args.base = omega (arith, length-reverse m.bindings.items, m.bindings.ok.0, c.len.ensures, c.if-len-base.true) in
    ap (λ n. record (shows (reverse m.marks.items) m.address m.last m.depth bs hs (reverse m.nodes.items) (reverse m.callers.items)) { bindings = drop n bs }) none
