use Rattle.std.proofs.Common.{◌∙◌, sym, ap, refl, [], map, ◌∷◌, ◌++◌}
use Rattle.std.proofs.lemmas.Int.{to_z-of_z}
use Rattle.std.proofs.lemmas.Result.{err_from_is_err_and}
use Rattle.std.specs.Int.{w128}
use Rattle.pads_sums.specs.Samples.{num}
use Rattle.pads_sums.specs.Adding.{is_among}
use Rattle.pads_sums.specs.Seen.{number_pair}
use Rattle.std.specs.Ordering.{int_eq}
use Rattle.pads_sums.proofs.Entries.{insert_new}
use Rattle.pads_sums.proofs.tracked.put_number.Goals as goal

pub returns-then-not-free-clause-pairs : goal.returns-then-not-free-clause-pairs
returns-then-not-free-clause-pairs c =
    let none = rw (to_z-of_z w128 c.args.number c.ranges.number) at c.if-number_again.ensures.found in
    rw (sym none, c.if-not-free.true) c.if-number_again.ensures.same

pub returns-in_err-insert-clause-err : goal.returns-in_err-insert-clause-err
returns-in_err-insert-clause-err c =
    let p = err_from_is_err_and c.from_residual.result c.from_residual.ensures.1 in
    rw p.1 (ap (map number_pair) c.in_err-insert.ensures.err ∙ c.if-number_again.ensures.same)

pub returns-clause-pairs : goal.returns-clause-pairs
returns-clause-pairs c =
    let none = rw (to_z-of_z w128 c.args.number c.ranges.number) at c.if-number_again.ensures.found in
    let none_now = ap (is_among (num c.args.number)) c.if-number_again.ensures.same ∙ sym none in
    let entries = rw (to_z-of_z w128 c.args.number c.ranges.number) at c.in_ok-insert.ensures.entries in
    rw (sym none, c.if-not-free.false)
    (ap (map number_pair) entries
    ∙ insert_new num int_eq c.args.number (λ k. refl) c.args.more c.number_again.new.numbers.entries none_now
    ∙ ap (λ pairs. pairs ++ (num c.args.number, c.args.more) ∷ []) c.if-number_again.ensures.same)
