use Rattle.std.proofs.Common.{refl}
use Rattle.pads_machine.proofs.TermsThere.{search-there}
use Rattle.pads_machine.proofs.doomed.is_search.Goals as goal

pub returns : goal.returns
returns c = record {
  term = λ is.
      search-there c.args.code.now c.args.address _ (c.if-not-begins_search.ensures.begins refl) c.in-Some.ensures.literal (c.if-not-absorbs.ensures.absorbs refl) (c.searches.ensures.searches is);
}
