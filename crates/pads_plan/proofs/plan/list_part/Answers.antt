use Rattle.std.proofs.Common.{ap, length, reverse, arith}
use Rattle.std.specs.Option.{option_copied}
use Rattle.pads_plan.specs.Expansion.{Numbered}
use Rattle.pads_plan.specs.Pending.{parts_at, pending}
use Rattle.pads_plan.specs.Ways.{Origin, from}
use Rattle.pads_plan.proofs.Whole.{no_room_found, found_listed, one_more}
use Rattle.pads_plan.proofs.plan.list_part.Goals as goal

pub returns-then-len-room : goal.returns-then-len-room
returns-then-len-room c =
    let decls = c.args.terms.now.decls.now in
    let names = c.args.terms.now.names.now in
    let item = c.args.item in
    let origin = from item.up item.step item.place in
    let parts = c.args.parts.now in
    record {
      listed = no_room_found decls names c.behind.new.left (option_copied c.in_ok-found.found) c.behind.new.way origin parts
          (parts_at decls names item.left item.term.now item.way origin) (reverse (pending decls names c.args.stack.now.items)) c.args.room
          c.in_ok-found.ensures.plain (ap (λ (at : Origin → Numbered). at origin (length parts)) c.in_ok-found.ensures.same)
          (omega (arith, c.if-len-room.true, c.len.ensures.length));
    }

pub returns : goal.returns
returns c =
    let decls = c.args.terms.now.decls.now in
    let names = c.args.terms.now.names.now in
    let item = c.args.item in
    let origin = from item.up item.step item.place in
    let parts = c.args.parts.now in
    let count = one_more parts _ c.push-2.new.self c.in_ok-push-2.ensures.ok in
    record {
      listed = (
        found_listed decls names c.behind.new.left (option_copied c.in_ok-found.found) c.in-Some.term.now c.behind.new.way _ origin _ parts c.push-2.new.self
            (parts_at decls names item.left item.term.now item.way origin) (pending decls names c.args.stack.now.items) (pending decls names c.push_kids.new.stack.items)
            c.in_ok-form.form c.len-2.result (ap option_copied c.in-Some.is) c.in_ok-found.ensures.plain
            (ap (λ (at : Origin → Numbered). at origin (length parts)) c.in_ok-found.ensures.same)
            c.in_ok-form.ensures.form c.as_slice-2.ensures.items c.as_slice.ensures.items c.len-2.ensures.length
            c.in_ok-push-2.ensures.ok c.in_ok-push_kids.ensures.pushed,
        count,
        omega (arith, count, c.if-len-room.false, c.len.ensures.length),
      );
    }
