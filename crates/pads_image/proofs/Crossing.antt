-- Images cross threads. The search for that doesn't end by itself: an instruction has many variants, and holds
-- expressions, which hold themselves. So it is put together from the fields of an instruction.
use denote.Builtin.{u8, u16}
use denote.Enum.Declared.{shape}
use denote.Param.Send.{IsSend, IsSync, enum_send, enum_sync, recorded_send, recorded_sync, sendable}
use denote.Struct.Field.{u16-field, u32-field}
use Rattle.std.proofs.Crossing.{crosses}
use Rattle.std.proofs.option.Option.TheSendSync as option
use Rattle.std.specs.contracts.option.Option as Option
use Rattle.pads_calc.proofs.term.ComputedForm.TheSendSync as form
use Rattle.pads_dispatch.proofs.base.Base.TheSendSync as base
use Rattle.pads_erase.proofs.skeleton.Skeleton.TheLaws.TheKnot as skeleton
use Rattle.pads_expr.proofs.expr.Expr.TheLaws.TheKnot as ring
use Rattle.pads_expr.specs.contracts.expr.Expr as Expr
use Rattle.pads_image.proofs.op.Target.TheSendSync as target
use Rattle.pads_image.specs.contracts.image.Image as Image
use Rattle.pads_image.specs.contracts.op.Op as Op
use Rattle.pads_image.specs.contracts.op.Target as Target
use Rattle.pads_value.proofs.items.Items.TheSendSync as items
use Rattle.pads_value.specs.contracts.items.Items as Items

expr_send : IsSend Expr.the_row
expr_send = search (crosses, ring.crosses, sendable) depth 60 fits 20000

expr_sync : IsSync Expr.the_row
expr_sync = search (crosses, ring.crosses, sendable) depth 60 fits 20000

variants_send : IsSend (Op.the_field).row
variants_send =
    let number : IsSend (u16-field).row = search sendable in
    let address : IsSend (u32-field).row = search sendable in
    let bytes : IsSend (Items.the_row u8) = items.the_send u8 (search sendable) in
    let arguments : IsSend (Items.the_row Expr.the_row) = items.the_send Expr.the_row expr_send in
    let targets : IsSend (Items.the_row Target.the_row) = items.the_send Target.the_row target.the_send in
    let name : IsSend (Option.the_field u16).row = option.the_field_send u16 (search sendable) in
    let condition : IsSend (Option.the_field Expr.the_row).row = option.the_field_send Expr.the_row expr_send in
    let expr : IsSend (Expr.the_field).row = search (crosses, ring.crosses, sendable) depth 60 fits 20000 in
    enum_send (shape Op.the_type) (search (number, address, bytes, arguments, targets, name, condition, expr, base.the_field_send, form.the_field_send))

variants_sync : IsSync (Op.the_field).row
variants_sync =
    let number : IsSync (u16-field).row = search sendable in
    let address : IsSync (u32-field).row = search sendable in
    let bytes : IsSync (Items.the_row u8) = items.the_sync u8 (search sendable) in
    let arguments : IsSync (Items.the_row Expr.the_row) = items.the_sync Expr.the_row expr_sync in
    let targets : IsSync (Items.the_row Target.the_row) = items.the_sync Target.the_row target.the_sync in
    let name : IsSync (Option.the_field u16).row = option.the_field_sync u16 (search sendable) in
    let condition : IsSync (Option.the_field Expr.the_row).row = option.the_field_sync Expr.the_row expr_sync in
    let expr : IsSync (Expr.the_field).row = search (crosses, ring.crosses, sendable) depth 60 fits 20000 in
    enum_sync (shape Op.the_type) (search (number, address, bytes, arguments, targets, name, condition, expr, base.the_field_sync, form.the_field_sync))

op_send : IsSend Op.the_row
op_send = recorded_send (Op.the_field).row _ _ (Op.the_type).to_one variants_send

op_sync : IsSync Op.the_row
op_sync = recorded_sync (Op.the_field).row _ _ (Op.the_type).to_one variants_sync

pub image_send : IsSend Image.the_row
image_send = search (op_send, items.the_send, crosses, skeleton.crosses, sendable) depth 60 fits 20000

pub image_sync : IsSync Image.the_row
image_sync = search (op_sync, items.the_sync, crosses, skeleton.crosses, sendable) depth 60 fits 20000
