use Rattle.std.proofs.Common.{◌≡◌, ◌∙◌}
use Rattle.std.proofs.lemmas.Result.{IfOk-weaker}
use Rattle.pads_rules.specs.Resolving as resolving
use Rattle.pads_declared.specs.Leads.{sorted_by}
use Rattle.pads_declared.proofs.LeadLemmas.{outlines-from}
use Rattle.pads_declared.proofs.environment.outlines.Goals as goal

pub returns : goal.returns
returns c = record {
  types =
      IfOk-weaker c.sorted.result (λ types. types ≡ sorted_by c.in_ok-bare.bare c.in_ok-far.far c.args.decls.now) (λ types. types ≡ resolving.outlines c.args.decls.now)
      (λ types is.
      is
      ∙ outlines-from c.args.decls.now c.in_ok-bare.bare c.in_ok-near.near c.in_ok-far.far c.len.result c.in_ok-bare.ensures.types c.in_ok-near.ensures.leads c.len.ensures.length
      c.in_ok-far.ensures.leads)
      c.sorted.ensures.types;
}
