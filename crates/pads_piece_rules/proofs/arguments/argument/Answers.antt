use Rattle.std.proofs.Common.{◌∙◌, sym}
use Rattle.pads_declared.specs.Meanings.{meant}
use Rattle.pads_judge.specs.Scopes.{names_in_scope}
use Rattle.pads_piece_rules.specs.Told.{stands}
use Rattle.pads_piece_rules.proofs.PieceLemmas.{told-argument}
use Rattle.pads_piece_rules.proofs.arguments.argument.Goals as goal

pub returns-in-Expr : goal.returns-in-Expr
returns-in-Expr c = record {
  told = rw (c.in-Expr.is) (c.expression.ensures.told ∙ sym (told-argument (stands c.args.site.now) (names_in_scope c.args.scope.now) (meant c.args.meaning) c.args.count c.args.number _));
}
