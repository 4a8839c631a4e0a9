use Rattle.std.proofs.Common.{◌∙◌, sym, ap, refl, [], map, ◌∷◌, ◌++◌}
use Rattle.std.specs.Str.{bytes_eq}
use Rattle.pads_sums.specs.Samples.{text}
use Rattle.pads_sums.specs.Adding.{is_among}
use Rattle.pads_sums.specs.Seen.{text_pair}
use Rattle.pads_sums.proofs.Entries.{insert_new}
use Rattle.pads_sums.proofs.tracked.take_text.Goals as goal

pub returns-then-not-free-clause-pairs : goal.returns-then-not-free-clause-pairs
returns-then-not-free-clause-pairs c =
    let none = rw c.as_slice.ensures.value at c.if-text_again.ensures.found in
    rw (sym none, c.if-not-free.true) c.if-text_again.ensures.same

pub returns-clause-pairs : goal.returns-clause-pairs
returns-clause-pairs c =
    let none = rw c.as_slice.ensures.value at c.if-text_again.ensures.found in
    let none_now = ap (is_among (text c.args.points.items)) c.if-text_again.ensures.same ∙ sym none in
    rw (sym none, c.if-not-free.false)
    (ap (map text_pair) c.in_ok-insert.ensures.entries
    ∙ insert_new (λ k. text k.items) (λ x y. bytes_eq x.items y.items) c.args.points (λ k. refl) c.args.more c.text_again.new.texts.entries none_now
    ∙ ap (λ pairs. pairs ++ (text c.args.points.items, c.args.more) ∷ []) c.if-text_again.ensures.same)
