use Rattle.pads_resolution.specs.Resolution.{resolved}
use Rattle.law_descriptions.proofs.Formed.{module-formed}
use Rattle.law_descriptions.proofs.PlainTerms.{module-plain}
use Rattle.law_descriptions.proofs.SortedTerms.{module-sorted}
use Rattle.law_descriptions.proofs.Sorted.{well-sorted}
use Rattle.law_descriptions.proofs.accepted.accepted_modules_are_formed.Goals as goal

pub returns : goal.returns
returns c = record {
  formed = λ tree ambient none. module-formed (resolved tree) ambient (well-sorted tree none);
  sorted = λ tree ambient none. module-sorted (resolved tree) ambient (well-sorted tree none);
  plain = λ tree ambient none. module-plain (resolved tree) ambient (well-sorted tree none);
}
