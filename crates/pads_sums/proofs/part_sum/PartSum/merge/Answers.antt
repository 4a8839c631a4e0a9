use Rattle.std.proofs.Common.{◌≡◌, ◌∙◌, ap, ℕ, Option}
use Rattle.pads_sums.specs.Adding.{Pairs, risen}
use Rattle.pads_sums.specs.Merging.{Held, joined, merged, with_counts}
use Rattle.pads_sums.specs.declared.part_sum.PartSum.{PartSum}
use Rattle.pads_sums.proofs.part_sum.PartSum.merge.Goals as goal

-- the counts of both, then the values of both
merged-is : (room : Option ℕ) (sum later between : PartSum) (now : Pairs) (left others : ℕ) → between ≡ with_counts later sum
    → (now, left) ≡ joined room (between.tracked, between.others) later.tracked → others ≡ risen later.others left
    → record between { tracked = now; others = others } ≡ merged room sum later
merged-is room sum later between now left others counts values all =
    let both : (now, left) ≡ joined room (sum.tracked, sum.others) later.tracked
    = values ∙ ap (λ (s : PartSum). joined room (s.tracked, s.others) later.tracked) counts in
    let outside : others ≡ risen later.others (joined room (sum.tracked, sum.others) later.tracked).1
    = all ∙ ap (λ (held : Held). risen later.others held.1) both in
    (λ i. record (counts i) { tracked = (both i).0; others = outside i })

pub returns : goal.returns
returns c = record {
  merged =
      merged-is c.args.room c.args.self.now c.args.later c.add_counts.new.self c.merge.new.self c.in_ok-others.others c.saturating_add-self.result
      c.add_counts.ensures.counts c.in_ok-others.ensures.joined c.saturating_add-self.ensures;
}
