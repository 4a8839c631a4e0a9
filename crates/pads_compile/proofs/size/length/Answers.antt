use Rattle.std.proofs.Common.{arith}
use Rattle.pads_image.specs.Code.{length_of}
use Rattle.pads_compile.proofs.Sums.{decls-end}
use Rattle.pads_compile.proofs.size.length.Goals as goal

pub returns : goal.returns
returns c =
    record { length = decls-end c.args.decls.now (length_of c.args.decls.now) c.loop-decl.decl-index c.loop-decl.sum (omega arith) c.loop-decl.invariant.0 c.loop-decl.invariant.1 }
