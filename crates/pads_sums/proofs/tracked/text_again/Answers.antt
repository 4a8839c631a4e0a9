use Rattle.std.proofs.Common.{◌∙◌, sym, ap, refl, map}
use Rattle.std.specs.Str.{bytes_eq}
use Rattle.indexmap.specs.IndexMap.{set_value_at}
use Rattle.pads_sums.specs.Samples.{text}
use Rattle.pads_sums.specs.Seen.{text_pair}
use Rattle.pads_sums.proofs.Entries.{among_lookup, again_none, again_at}
use Rattle.pads_sums.proofs.tracked.text_again.Goals as goal

pub returns-in-None-clause-found : goal.returns-in-None-clause-found
returns-in-None-clause-found c =
    c.in-None.ensures.found
    ∙ sym (among_lookup (λ k. text k.items) (text c.args.points.now) (λ k. bytes_eq c.args.points.now k.items) (λ k. refl) c.args.texts.now.entries)

pub returns-in-None-clause-pairs : goal.returns-in-None-clause-pairs
returns-in-None-clause-pairs c =
    let none = among_lookup (λ k. text k.items) (text c.args.points.now) (λ k. bytes_eq c.args.points.now k.items) (λ k. refl) c.args.texts.now.entries ∙ sym c.in-None.ensures.found in
    sym (again_none (λ k. text k.items) (text c.args.points.now) (λ k. bytes_eq c.args.points.now k.items) (λ k. refl) c.args.more c.args.texts.now.entries none)

pub returns-in-Some-clause-found : goal.returns-in-Some-clause-found
returns-in-Some-clause-found c =
    c.in-Some.ensures.found
    ∙ sym (among_lookup (λ k. text k.items) (text c.args.points.now) (λ k. bytes_eq c.args.points.now k.items) (λ k. refl) c.args.texts.now.entries)

pub returns-in-Some-clause-pairs : goal.returns-in-Some-clause-pairs
returns-in-Some-clause-pairs c =
    ap (λ n. map text_pair (set_value_at c.args.texts.now.entries c.in-Some.at n)) c.saturating_add.ensures
    ∙ again_at (λ k. text k.items) (text c.args.points.now) (λ k. bytes_eq c.args.points.now k.items) (λ k. refl) c.args.more c.args.texts.now.entries c.in-Some.at
    c.index.result.now (sym c.in-Some.ensures.index) c.index.ensures
