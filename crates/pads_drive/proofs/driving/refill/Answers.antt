use Rattle.std.proofs.Common.{◌≡◌, ◌<◌, ◌≤◌, [], length, take, drop, refl, length-drop, length-take, arith}
use Rattle.pads_drive.proofs.Refilling.{refills-none, refills, refills-end}
use Rattle.pads_drive.proofs.driving.refill.Goals as goal

pub returns-in-Err-clause-gives : goal.returns-in-Err-clause-gives
returns-in-Err-clause-gives g c =
    let past = c.in-Err.ensures.too_long.0 refl in
    let bound : length (take c.in-Ok.count c.read.new.into) ≤ 4096 = omega (arith, c.requires.bound, c.in-Ok.ensures.within.0, c.read.auto.into, length-take c.in-Ok.count c.read.new.into) in (
      [],
      take c.in-Ok.count c.read.new.into,
      refills-none _ _ _ _ _ c.in-Err.ensures.gives c.feed.ensures.input c.in-Ok.ensures.bytes.0 past.1 bound,
      past.0,
      omega (arith, refills-none _ _ _ _ _ c.in-Err.ensures.gives c.feed.ensures.input c.in-Ok.ensures.bytes.0 past.1 bound, past.1),
    )

pub returns-in-Ok-feed-clause-gives : goal.returns-in-Ok-feed-clause-gives
returns-in-Ok-feed-clause-gives g c =
    let piece = take c.in-Ok.count c.read.new.into in
    let fed = c.in-Ok-feed.fed in
    let count : c.in-Ok.count ≡ length piece = c.in-Ok.ensures.within.1 in
    let bound : length piece ≤ 4096 = omega (arith, c.requires.bound, c.in-Ok.ensures.within.0, c.read.auto.into) in
    let less : fed.took < length piece = omega (arith, c.if-fed-count.true) in (
      take fed.took piece,
      drop fed.took piece,
      refills _ _ _ _ piece fed c.in-Ok-feed.ensures.gives c.feed.ensures.input c.in-Ok.ensures.bytes.0 c.requires.free bound c.requires.within,
      rw length-drop (omega arith),
      refills-end _ _ piece fed c.in-Ok-feed.ensures.gives c.requires.free bound c.requires.within less,
    )
