use Rattle.std.proofs.Common.{◌+◌, ◌<◌, length, arith}
use Rattle.pads_frame.proofs.Looking.{broken_found, no_word}
use Rattle.pads_frame.proofs.look.look_wordless.Goals as goal

pub returns-then-ended : goal.returns-then-ended
returns-then-ended c =
    let some : 0 < c.args.passed + length c.args.held.now = omega arith in
    let none = no_word c.args.max c.args.passed c.args.held.now c.requires.may_pass c.requires.word in
    rw (c.if-ended.true, c.broken.ensures) (broken_found c.args.max c.args.passed c.args.held.now none some)
