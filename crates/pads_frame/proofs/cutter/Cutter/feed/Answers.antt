use Rattle.std.proofs.Common.{◌≡◌, ◌+◌, ◌-◌, ◌≤◌, ◌++◌, length, take, sym, ap, subst, ◌∙◌, arith}
use Rattle.std.proofs.lemmas.Bool.{eqb-true, eq-eqb}
use Rattle.std.proofs.lemmas.List.{length-append, length-drop, length-take-le}
use Rattle.pads_frame.specs.Cutters.{held_of, state_of}
use Rattle.pads_frame.specs.Feed.{holding}
use Rattle.pads_frame.specs.State.{State, reach, rest}
use Rattle.pads_frame.proofs.Feeding.{owed_held}
use Rattle.pads_frame.proofs.cutter.Cutter.feed.Goals as goal

pub returns-clause-gives : goal.returns-clause-gives
returns-clause-gives c =
    let old = c.args.self.now in
    let piece = c.args.piece.now in
    let took = c.min-took.result in
    let n = length-drop old.start old.buffer.items in
    let free : old.max + 4100 - (c.len.result - old.start) ≡ old.max + 4100 - length (held_of old) = omega (arith, c.len.ensures, old.buffer.ok.0) in
    let some : took ≤ length piece = omega (arith, c.min-took.ensures, c.min.ensures) in
    let k : length (take took piece) ≡ took = length-take-le took piece some in
    let l = length-append (held_of old) (take took piece) in
    let is : state_of c.hold.new.self ≡ holding (state_of old) (take took piece) = c.hold.ensures.holds in
    let held : length (held_of c.hold.new.self) ≡ length (held_of old) + took = ap (λ (t : State). length t.held) is ∙ l ∙ omega (arith, k) in
    let max : c.hold.new.self.max ≡ old.max = ap (λ (t : State). t.max) is in
    let fits : length (held_of old) ≤ old.max + 4100 = omega (arith, c.requires.kept.room, old.buffer.ok.0) in
    record {
      took = omega (arith, c.min-took.ensures, c.min.ensures, c.len.ensures, old.buffer.ok.0);
      full = (
        λ e. let same : took ≡ old.max + 4100 - (c.len.result - old.start) = eqb-true _ _ e in omega arith,
        λ e. eq-eqb took (old.max + 4100 - (c.len.result - old.start)) (omega arith),
      );
      state = is;
      reach = ap (λ (t : State). reach t) is ∙ omega (arith, l, k);
      owed = λ ended more. subst (λ (t : State). rest ended t more ≡ rest ended (state_of old) (take took piece ++ more)) (sym is) (owed_held (state_of old) (take took piece) c.requires.kept.may_pass ended more);
    }
