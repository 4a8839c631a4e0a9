use Rattle.std.proofs.Common.{◌≡◌, ◌∙◌, sym, ap, subst, arith, ◌+◌, ◌-◌, List, ◌∷◌, length, reverse, take}
use Rattle.std.specs.Prelude.{slice_set}
use Rattle.std.proofs.lemmas.List.{length-reverse}
use Rattle.pads_calc.specs.declared.reading.Reading.{Reading}
use Rattle.pads_image.specs.Steps.{Goes, part_step}
use Rattle.pads_machine.specs.declared.node.Node.{Node}
use Rattle.pads_machine.specs.Held.{AreSound}
use Rattle.pads_machine.specs.Shown.{nodes_shown, shows}
use Rattle.pads_machine.proofs.Homes.{reverse-push}
use Rattle.pads_machine.proofs.Nodes.{last-is, last-set}
use Rattle.pads_machine.proofs.Shows.{part-each, part-held, part-shows}
use Rattle.pads_machine.proofs.state.State.keep.Goals as goal

pub returns-clause-keep : goal.returns-clause-keep
returns-clause-keep c address =
    let m = c.args.self.now in
    let r = m.last in
    let at_ = c.len-latest.result - 1 in
    let n = c.index_mut.result.now in
    let k = c.keep.new.self in
    let does = c.in_ok-keep.ensures in
    let size : length m.nodes.items ≡ at_ + 1 = omega (arith, c.len-latest.ensures, c.requires.some, m.nodes.ok.0) in
    let before = take at_ m.nodes.items in
    let bs = reverse m.bindings.items in
    let hs = reverse m.homes.items in
    let rest = reverse before in
    let cs = reverse m.callers.items in
    let ms = reverse m.marks.items in
    let old : reverse m.nodes.items ≡ n ∷ rest = ap reverse (last-is m.nodes.items at_ n size c.index_mut.ensures.value) ∙ reverse-push before n in
    let sound : AreSound (n ∷ rest) hs = subst (λ (ns : List Node). AreSound ns hs) old c.requires.held.sound in
    let each : length hs ≡ length bs = omega (arith, length-reverse m.homes.items, length-reverse m.bindings.items, c.requires.held.each_home) in
    let ns_are : reverse (slice_set m.nodes.items at_ k) ≡ k ∷ rest = ap reverse (last-set m.nodes.items at_ k size) ∙ reverse-push before k in
    ap (λ (ns : List Node). part_step c.args.origin c.args.name (shows ms address r m.depth bs hs ns cs) (nodes_shown ns hs bs)) old
    ∙ part-shows ms c.args.origin address m.depth r bs hs n rest cs sound each c.args.name k does.filled does.values (reverse c.keep.new.bindings.items) (reverse c.keep.new.homes.items)
    (reverse (slice_set m.nodes.items at_ k)) does.pds does.bindings does.homes ns_are
    ∙ ap (λ (r : Reading). Goes (shows ms (address + 1) r m.depth (reverse c.keep.new.bindings.items) (reverse c.keep.new.homes.items) (reverse (slice_set m.nodes.items at_ k)) cs)) (sym does.last)

pub returns-clause-held : goal.returns-clause-held
returns-clause-held c =
    let m = c.args.self.now in
    let r = m.last in
    let at_ = c.len-latest.result - 1 in
    let n = c.index_mut.result.now in
    let k = c.keep.new.self in
    let does = c.in_ok-keep.ensures in
    let size : length m.nodes.items ≡ at_ + 1 = omega (arith, c.len-latest.ensures, c.requires.some, m.nodes.ok.0) in
    let before = take at_ m.nodes.items in
    let bs = reverse m.bindings.items in
    let hs = reverse m.homes.items in
    let rest = reverse before in
    let cs = reverse m.callers.items in
    let ms = reverse m.marks.items in
    let bs' = reverse c.keep.new.bindings.items in
    let hs' = reverse c.keep.new.homes.items in
    let ns' = reverse (slice_set m.nodes.items at_ k) in
    let old : reverse m.nodes.items ≡ n ∷ rest = ap reverse (last-is m.nodes.items at_ n size c.index_mut.ensures.value) ∙ reverse-push before n in
    let sound : AreSound (n ∷ rest) hs = subst (λ (ns : List Node). AreSound ns hs) old c.requires.held.sound in
    let each : length hs ≡ length bs = omega (arith, length-reverse m.homes.items, length-reverse m.bindings.items, c.requires.held.each_home) in
    let ns_are : ns' ≡ k ∷ rest = ap reverse (last-set m.nodes.items at_ k size) ∙ reverse-push before k in
    let each' : length hs' ≡ length bs' = part-each ms 0 m.address m.depth r bs hs n rest cs sound each c.args.name k does.filled does.values bs' hs' does.bindings does.homes in
    record {
      each_home = omega (arith, each', length-reverse c.keep.new.homes.items, length-reverse c.keep.new.bindings.items);
      sound = part-held ms 0 m.address m.depth r bs hs n rest cs sound each c.args.name k does.filled does.values hs' ns' does.homes ns_are;
      deep = c.requires.held.deep;
    }
