use Rattle.std.proofs.Common.{◌≡◌, ◌∙◌, ap, sym, arith, ◌≤◌, Option, Some, List, ◌∷◌, length, reverse}
use Rattle.std.proofs.lemmas.List.{length-reverse}
use Rattle.std.specs.Option.{option_copied}
use Rattle.std.specs.declared.vec.Vec.{Vec}
use Rattle.std.specs.declared.alloc.Global.{Global}
use Rattle.pads_value.specs.declared.value.Val.{Val}
use Rattle.pads_expr.specs.declared.expr.Expr.{Expr}
use Rattle.pads_expr.specs.Value.{Pairs}
use Rattle.pads_calc.specs.Arrays.{is_last}
use Rattle.pads_image.specs.States.{floor_of, seen}
use Rattle.pads_machine.specs.declared.node.Node.{Node}
use Rattle.pads_machine.specs.Shown.{Homes, above, latest_values, nodes_shown, put_back, shown}
use Rattle.pads_machine.proofs.Homes.{above-all, reverse-push}
use Rattle.pads_machine.proofs.Tops.{seen-beside}
use Rattle.pads_machine.proofs.state.State.is_last.Goals as goal

pub returns-clause-last : goal.returns-clause-last
returns-clause-last c =
    let m = c.args.self.now in
    let n = c.in-Some-pop.node in
    let condition = c.in-Some.condition.now in
    let name = c.args.elements_name in
    let bs = reverse m.bindings.items in
    let hs = reverse m.homes.items in
    let left = reverse c.pop.new.self.items in
    let env = reverse c.seen.result.now in
    let old : reverse m.nodes.items ≡ n ∷ left = ap reverse c.in-Some-pop.ensures.items ∙ reverse-push c.pop.new.self.items n in
    let floor : floor_of (shown m).nodes ≡ n.base = ap (λ (nodes : List Node). floor_of (nodes_shown nodes hs bs)) old in
    let over : length hs ≤ n.base = omega (arith, floor, c.requires.own, length-reverse m.homes.items, c.requires.held.each_home) in
    let elements : c.from_vec-elements.result ≡ n.values.items =
    c.from_vec-elements.ensures.same ∙ ap (λ (values : Vec Val Global). values.items) c.replace-elements.ensures.value in
    let own : latest_values (nodes_shown (n ∷ left) hs bs) ≡ n.values.items = ap (λ (hs : Homes). put_back hs (above n.base bs) n.values.items) (above-all n.base hs over) in
    let values : c.from_vec-elements.result ≡ latest_values (shown m).nodes =
    elements ∙ sym own ∙ ap (λ (nodes : List Node). latest_values (nodes_shown nodes hs bs)) (sym old) in
    let sees : env ≡ seen (shown m) = c.seen.ensures.seen ∙ seen-beside (shown m) (nodes_shown left hs bs) in
    c.is_last_of-truth.ensures.last
    ∙ ap (λ (elements : List Val). is_last (Some condition) name elements env) values
    ∙ ap (λ (env : Pairs). is_last (Some condition) name (latest_values (shown m).nodes) env) sees
    ∙ ap (λ (last : Option Expr). is_last last name (latest_values (shown m).nodes) (seen (shown m))) (sym (ap option_copied c.in-Some.is))
