use Rattle.std.proofs.Common.{arith}
use Rattle.pads_drive.proofs.Outputs.{front-rows, rows_of-none}
use Rattle.pads_drive.proofs.Sharing.{gives-more, refuses-frames}
use Rattle.pads_drive.proofs.given.give_piece.Goals as goal

pub frames-init : goal.frames-init
frames-init g c =
    let work = g.C.Command.work c.args.command.now in
    record {
      suits_still = c.in-Ok.ensures.suits;
      counted = omega arith;
      given = record { written = rw (rows_of-none work c.args.first_no) c.new-output.ensures; shared = rw (rows_of-none work c.args.first_no) c.in-Ok-none.ensures.none };
    }

pub returns-in-Err : goal.returns-in-Err
returns-in-Err g c =
    let so_far = c.frames.invariant in
    let laws = g.met.C.Command g.world.𝓛 g.world.𝓜 g.world.𝓡 ((λ s x. x), (λ x. x), (λ x. x), λ x. x) in
    record {
      given = refuses-frames (g.C.Command.work c.args.command.now) (g.C.Command.share_of c.args.command.now) (laws.stays_over c.args.command.now) c.args.first_no c.frames.number c.frames.kept-index c.args.frames.now c.kept-item.result
          c.frames-test.true c.kept-item.is so_far.counted c.in-Err.refusal (c.in-Err.ensures.share _ so_far.given.shared);
    }

pub frames-preserved : goal.frames-preserved
frames-preserved g c =
    let work = g.C.Command.work c.args.command.now in
    let so_far = c.frames.invariant in
    let more = gives-more work (g.C.Command.share_of c.args.command.now) _ _ _ _ _ _ so_far.given c.in_default-give_record.ensures.output (c.in_default-give_record.ensures.share _ so_far.given.shared) in
    record {
      suits_still = c.in_default-give_record.ensures.suits;
      counted = omega (arith, so_far.counted);
      given = rw (front-rows work c.args.first_no c.frames.number c.frames.kept-index c.args.frames.now c.kept-item.result c.frames-test.true c.kept-item.is so_far.counted) more;
    }
