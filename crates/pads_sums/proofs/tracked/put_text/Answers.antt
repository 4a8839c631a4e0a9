use Rattle.std.proofs.Common.{◌∙◌, sym, ap, refl, [], map, ◌∷◌, ◌++◌}
use Rattle.std.proofs.lemmas.Result.{err_from_is_err_and}
use Rattle.std.specs.Str.{bytes_eq}
use Rattle.pads_sums.specs.Samples.{text}
use Rattle.pads_sums.specs.Adding.{is_among}
use Rattle.pads_sums.specs.Seen.{text_pair}
use Rattle.pads_sums.proofs.Entries.{insert_new}
use Rattle.pads_sums.proofs.tracked.put_text.Goals as goal

pub returns-then-not-free-clause-pairs : goal.returns-then-not-free-clause-pairs
returns-then-not-free-clause-pairs c =
    rw (sym c.if-text_again.ensures.found, c.if-not-free.true) c.if-text_again.ensures.same

pub returns-in_err-key-clause-err : goal.returns-in_err-key-clause-err
returns-in_err-key-clause-err c =
    let p = err_from_is_err_and c.from_residual.result c.from_residual.ensures.1 in
    rw p.1 c.if-text_again.ensures.same

pub returns-in_err-insert-clause-err : goal.returns-in_err-insert-clause-err
returns-in_err-insert-clause-err c =
    let p = err_from_is_err_and c.from_residual-in_err-insert.result c.from_residual-in_err-insert.ensures.1 in
    rw p.1 (ap (map text_pair) c.in_err-insert.ensures.err ∙ c.if-text_again.ensures.same)

pub returns-clause-pairs : goal.returns-clause-pairs
returns-clause-pairs c =
    let none_now = ap (is_among (text c.args.points.now)) c.if-text_again.ensures.same ∙ sym c.if-text_again.ensures.found in
    rw (sym c.if-text_again.ensures.found, c.if-not-free.false)
    (ap (map text_pair) c.in_ok-insert.ensures.entries
    ∙ insert_new (λ k. text k.items) (λ x y. bytes_eq x.items y.items) c.in_ok-key.key (λ k. refl) c.args.more c.text_again.new.texts.entries
    (ap (λ points. is_among (text points) (map text_pair c.text_again.new.texts.entries)) c.in_ok-key.ensures.items ∙ none_now)
    ∙ (λ i. c.if-text_again.ensures.same i ++ (text (c.in_ok-key.ensures.items i), c.args.more) ∷ []))
