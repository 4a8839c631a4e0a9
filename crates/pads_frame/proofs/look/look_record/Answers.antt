use Rattle.std.proofs.Common.{◌+◌, ◌<◌, ◌≤◌, length, arith}
use Rattle.pads_frame.specs.Extents.{word_length}
use Rattle.pads_frame.proofs.ExtentLemmas.{word_parts}
use Rattle.pads_frame.proofs.Looking.{record_found, broken_found, record_wanted, record_lost}
use Rattle.pads_frame.proofs.look.look_record.Goals as goal

pub returns-then-size-len : goal.returns-then-size-len
returns-then-size-len c =
    let here : word_length c.args.held.now ≤ c.args.passed + length c.args.held.now = omega arith in
    rw (c.mark_within.ensures, c.requires.size) (record_found c.args.max c.args.passed c.args.held.now c.args.ended c.requires.word here)

pub returns-then-ended : goal.returns-then-ended
returns-then-ended c =
    let some : 0 < c.args.passed + length c.args.held.now = omega (arith, word_parts c.args.held.now c.requires.word) in
    let beyond : c.args.passed + length c.args.held.now < word_length c.args.held.now = omega arith in
    rw (c.if-ended.true, c.broken.ensures) (broken_found c.args.max c.args.passed c.args.held.now (record_wanted c.args.passed c.args.held.now c.requires.word beyond) some)

pub returns-then-size-max : goal.returns-then-size-max
returns-then-size-max c =
    let beyond : c.args.passed + length c.args.held.now < word_length c.args.held.now = omega arith in
    let long : c.args.max + 4 < word_length c.args.held.now = omega arith in
    rw c.if-ended.false (record_lost c.args.max c.args.passed c.args.held.now c.requires.word beyond long)
