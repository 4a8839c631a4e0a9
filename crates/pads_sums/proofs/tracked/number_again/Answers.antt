use Rattle.std.proofs.Common.{◌∙◌, sym, ap, refl, map}
use Rattle.std.proofs.lemmas.Int.{to_z-of_z}
use Rattle.std.specs.Int.{w128}
use Rattle.std.specs.Ordering.{int_eq}
use Rattle.indexmap.specs.IndexMap.{set_value_at}
use Rattle.pads_sums.specs.Samples.{num}
use Rattle.pads_sums.specs.Seen.{number_pair}
use Rattle.pads_sums.proofs.Entries.{among_lookup, again_none, again_at}
use Rattle.pads_sums.proofs.tracked.number_again.Goals as goal

pub returns-in-None-clause-found : goal.returns-in-None-clause-found
returns-in-None-clause-found c =
    rw (to_z-of_z w128 c.args.number c.ranges.number) at c.in-None.ensures.found
    ∙ sym (among_lookup num (num c.args.number) (int_eq c.args.number) (λ k. refl) c.args.numbers.now.entries)

pub returns-in-None-clause-pairs : goal.returns-in-None-clause-pairs
returns-in-None-clause-pairs c =
    let found = rw (to_z-of_z w128 c.args.number c.ranges.number) at c.in-None.ensures.found in
    let none = among_lookup num (num c.args.number) (int_eq c.args.number) (λ k. refl) c.args.numbers.now.entries ∙ sym found in
    sym (again_none num (num c.args.number) (int_eq c.args.number) (λ k. refl) c.args.more c.args.numbers.now.entries none)

pub returns-in-Some-clause-found : goal.returns-in-Some-clause-found
returns-in-Some-clause-found c =
    rw (to_z-of_z w128 c.args.number c.ranges.number) at c.in-Some.ensures.found
    ∙ sym (among_lookup num (num c.args.number) (int_eq c.args.number) (λ k. refl) c.args.numbers.now.entries)

pub returns-in-Some-clause-pairs : goal.returns-in-Some-clause-pairs
returns-in-Some-clause-pairs c =
    let index = rw (to_z-of_z w128 c.args.number c.ranges.number) at c.in-Some.ensures.index in
    ap (λ n. map number_pair (set_value_at c.args.numbers.now.entries c.in-Some.at n)) c.saturating_add.ensures
    ∙ again_at num (num c.args.number) (int_eq c.args.number) (λ k. refl) c.args.more c.args.numbers.now.entries c.in-Some.at c.index.result.now (sym index) c.index.ensures
