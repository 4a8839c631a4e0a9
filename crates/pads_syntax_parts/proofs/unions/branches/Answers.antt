use Rattle.std.proofs.Common.{◌∙◌, sym, ap}
use Rattle.std.proofs.lemmas.Result.{err_from_is_err_and}
use Rattle.pads_grammar.specs.Grammar.{begins}
use Rattle.pads_syntax_parts.specs.Types.{branch}
use Rattle.pads_syntax_parts.proofs.PartLoops.{branches_go, branches_refuse, branches_shorten}
use Rattle.pads_syntax_parts.proofs.unions.branches.Goals as goal

pub branches-smaller : goal.branches-smaller
branches-smaller c = branches_shorten c.branches.cursor c.branch-alloc.new.cursor c.in_ok-branch.field-0 c.in_ok-branch.ensures.reads

pub branches-preserved : goal.branches-preserved
branches-preserved c = rw c.in_ok-push.ensures.ok (branches_go _ c.branches.branches c.branches.cursor c.branch-alloc.new.cursor c.in_ok-branch.field-0
    (ap (begins branch) (sym c.peek.ensures.kind) ∙ (sym c.begins_branch.ensures.begins ∙ c.branches-test.true)) c.in_ok-branch.ensures.reads c.branches.invariant)

pub returns-in_err-branch : goal.returns-in_err-branch
returns-in_err-branch c =
    let p = err_from_is_err_and c.from_residual.result c.from_residual.ensures.1 in
    record {
      reads = rw (p.1, p.2) (branches_refuse _ c.branches.branches c.branches.cursor c.branch-alloc.new.cursor c.in_err-branch.field-0.0
          (ap (begins branch) (sym c.peek.ensures.kind) ∙ (sym c.begins_branch.ensures.begins ∙ c.branches-test.true)) c.in_err-branch.ensures.reads c.branches.invariant);
    }
