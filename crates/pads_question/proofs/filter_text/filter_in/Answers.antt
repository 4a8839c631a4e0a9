use Rattle.pads_ast.specs.declared.decl.ExprAst.{ExprAst}
use Rattle.pads_expr.specs.declared.expr.Expr.{Expr}
use Rattle.pads_module.specs.Modules.{contents}
use Rattle.pads_question.specs.Questions.{IsFilterRefused}
use Rattle.pads_question.proofs.Moved.{handed_on}
use Rattle.pads_question.proofs.filter_text.filter_in.Goals as goal

pub returns-in-Err-clause-refused : goal.returns-in-Err-clause-refused
returns-in-Err-clause-refused c =
    let tree = c.args.tree.now in
    let m = contents c.args.module.now in
    let parsed = c.args.parsed.now in
    handed_on ExprAst Expr c.in-Err.refusal (IsFilterRefused tree m parsed c.args.text.now) (c.in-Err.ensures.refused tree m parsed)

pub returns-in-Err-Fault-clause-refused : goal.returns-in-Err-Fault-clause-refused
returns-in-Err-Fault-clause-refused c = (c.in-Ok.e, c.in-Ok.ensures.tree, rw c.in-Err-Fault.field-0-is at c.in-Err-Fault.ensures.fault)
