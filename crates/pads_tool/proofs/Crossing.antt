-- Commands cross threads, and so does a machine. The search for that goes no further than an instruction, which has many
-- variants; so it is put together from the fields of an instruction.
use denote.Param.Send.{IsSend, IsSync, enum_sync, recorded_sync, sendable}
use Rattle.std.proofs.Crossing.{crosses}
use denote.Builtin.{u8, u16}
use denote.Enum.Declared.{shape}
use denote.Struct.Field.{u16-field, u32-field}
use Rattle.std.proofs.option.Option.TheSendSync as option
use Rattle.std.specs.contracts.option.Option as Option
use Rattle.pads_expr.specs.contracts.expr.Expr as Expr
use Rattle.pads_image.proofs.op.Target.TheSendSync as target
use Rattle.pads_image.specs.contracts.op.Op as Op
use Rattle.pads_image.specs.contracts.op.Target as Target
use Rattle.pads_value.specs.contracts.items.Items as Items
use Rattle.pads_accum.proofs.summary.Summary.TheSendSync as summary
use Rattle.pads_machine.specs.contracts.machine.Machine as Machine
use Rattle.pads_calc.proofs.decl.Shape.TheSendSync as shape
use Rattle.pads_calc.proofs.term.ComputedForm.TheSendSync as form
use Rattle.pads_calc.proofs.term.Key.TheSendSync as key
use Rattle.pads_calc.proofs.term.Term.TheLaws.TheKnot as ring
use Rattle.pads_calc.specs.contracts.decl.Decl as Decl
use Rattle.pads_dispatch.proofs.base.Arg.TheSendSync as argument
use Rattle.pads_dispatch.proofs.base.Base.TheSendSync as base
use Rattle.pads_erase.proofs.skeleton.Skeleton.TheLaws.TheKnot as skeleton
use Rattle.pads_expr.proofs.expr.Expr.TheLaws.TheKnot as expr
use Rattle.pads_json.proofs.orders.LineKeys.TheSendSync as keys
use Rattle.pads_module.specs.contracts.module.Module as Description
use Rattle.pads_value.proofs.cause.Cause.TheSendSync as cause
use Rattle.pads_value.proofs.items.Items.TheSendSync as items
use Rattle.pads_value.proofs.name_table.NameTable.TheSendSync as names
use Rattle.pads_value.proofs.descriptor.Pd.TheLaws.TheKnot as pd
use Rattle.pads_value.proofs.value.Val.TheLaws.TheKnot as val
use Rattle.pads_tool.specs.contracts.parse.Lines as Lines
use Rattle.pads_tool.specs.contracts.print.Prints as Prints
use Rattle.pads_tool.specs.contracts.query.Answers as Answers
use Rattle.pads_tool.specs.contracts.selftest.Tests as Tests
use Rattle.pads_tool.specs.contracts.summary.Sums as Sums

pub machine_send : IsSend Machine.the_row
machine_send = search (items.the_send, argument.the_send, cause.the_field_send, option.the_field_send, val.crosses, pd.crosses, crosses, sendable) depth 60 fits 20000

decl_sync : IsSync Decl.the_row
decl_sync = search (items.the_sync, base.the_sync, key.the_sync, form.the_sync, crosses, expr.crosses, ring.crosses, sendable) depth 60 fits 20000

module_sync : IsSync Description.the_row
module_sync = search (decl_sync, names.the_sync, shape.the_sync, items.the_sync, crosses, skeleton.crosses, sendable) depth 60 fits 20000

expr_sync : IsSync Expr.the_row
expr_sync = search (crosses, expr.crosses, sendable) depth 60 fits 20000

variants_sync : IsSync (Op.the_field).row
variants_sync =
    let number : IsSync (u16-field).row = search sendable in
    let address : IsSync (u32-field).row = search sendable in
    let bytes : IsSync (Items.the_row u8) = items.the_sync u8 (search sendable) in
    let arguments : IsSync (Items.the_row Expr.the_row) = items.the_sync Expr.the_row expr_sync in
    let targets : IsSync (Items.the_row Target.the_row) = items.the_sync Target.the_row target.the_sync in
    let name : IsSync (Option.the_field u16).row = option.the_field_sync u16 (search sendable) in
    let condition : IsSync (Option.the_field Expr.the_row).row = option.the_field_sync Expr.the_row expr_sync in
    let expr : IsSync (Expr.the_field).row = search (crosses, expr.crosses, sendable) depth 60 fits 20000 in
    enum_sync (shape Op.the_type) (search (number, address, bytes, arguments, targets, name, condition, expr, base.the_field_sync, form.the_field_sync))

op_sync : IsSync Op.the_row
op_sync = recorded_sync (Op.the_field).row _ _ (Op.the_type).to_one variants_sync

pub lines_sync : IsSync Lines.the_row
lines_sync = search (keys.the_sync, op_sync, decl_sync, names.the_sync, shape.the_sync, items.the_sync, crosses, skeleton.crosses, sendable) depth 60 fits 20000

pub prints_sync : IsSync Prints.the_row
prints_sync = search (op_sync, decl_sync, names.the_sync, shape.the_sync, items.the_sync, crosses, skeleton.crosses, sendable) depth 60 fits 20000

pub tests_sync : IsSync Tests.the_row
tests_sync = search (op_sync, decl_sync, names.the_sync, shape.the_sync, items.the_sync, crosses, skeleton.crosses, sendable) depth 60 fits 20000

pub answers_sync : IsSync Answers.the_row
answers_sync = search (keys.the_sync, op_sync, decl_sync, names.the_sync, shape.the_sync, items.the_sync, crosses, skeleton.crosses, expr.crosses, sendable) depth 60 fits 20000

pub sums_sync : IsSync Sums.the_row
sums_sync = search (op_sync, decl_sync, names.the_sync, shape.the_sync, items.the_sync, crosses, skeleton.crosses, summary.the_sync, sendable) depth 60 fits 20000
