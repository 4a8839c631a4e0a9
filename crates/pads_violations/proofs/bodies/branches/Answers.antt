use Rattle.std.proofs.Common.{◌∙◌, sym, refl, Bor}
use Rattle.pads_ast.specs.declared.types.Branch.{Branch}
use Rattle.pads_rules.specs.Pieces.{sight, branch_pieces}
use Rattle.pads_piece_rules.specs.Told.{stands}
use Rattle.pads_violations.proofs.WalkLemmas.{told-none}
use Rattle.pads_violations.proofs.BodyLemmas.{made-step, branches-end}
use Rattle.pads_violations.proofs.bodies.branches.Goals as goal

pub loop-one-init : goal.loop-one-init
loop-one-init c = record { told = sym (told-none (stands c.args.site.now)); names = refl }

pub loop-one-preserved : goal.loop-one-preserved
loop-one-preserved c = record {
  told =
      rw (c.lesser-best.ensures.least, c.loop-one.invariant.told, c.in_ok-branch.ensures.told, c.loop-one.invariant.names)
      (made-step (stands c.args.site.now) (λ (b : Bor Branch). branch_pieces (sight (stands c.args.site.now)) c.args.names.now b.now) c.args.branches.now c.loop-one.one-index c.one-item.result
      c.loop-one-test.true c.one-item.is);
  names = c.in_ok-branch.ensures.restored ∙ c.loop-one.invariant.names;
}

pub returns : goal.returns
returns c = record {
  told =
      c.loop-one.invariant.told
      ∙ branches-end (stands c.args.site.now) (branch_pieces (sight (stands c.args.site.now)) c.args.names.now) c.args.branches.now c.loop-one.one-index c.loop-one-test.false;
}
