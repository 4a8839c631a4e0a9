use Rattle.std.proofs.Common.{rules, arith}
use Rattle.pads_code.specs.declared.Coding.TheVariants.{Ebcdic}
use Rattle.pads_code.specs.CodePage.{point, byte_of}
use Rattle.pads_code.proofs.CodePageLemmas.{byte_of-table, point-byte_of}
use Rattle.pads_code.proofs.encode.Goals as goal

pub returns-in-Ascii-clause-code_page : goal.returns-in-Ascii-clause-code_page
unfolding byte_of
returns-in-Ascii-clause-code_page c = search rules

pub returns-in-Ascii-clause-undone : goal.returns-in-Ascii-clause-undone
unfolding point
returns-in-Ascii-clause-undone c = search rules

pub returns-in-Ebcdic-clause-code_page : goal.returns-in-Ebcdic-clause-code_page
returns-in-Ebcdic-clause-code_page c = rw c.in-Ebcdic.is (byte_of-table c.args.point (omega arith))

pub returns-in-Ebcdic-clause-undone : goal.returns-in-Ebcdic-clause-undone
returns-in-Ebcdic-clause-undone c =
    rw (c.in-Ebcdic.is, byte_of-table c.args.point (omega arith)) (point-byte_of Ebcdic c.args.point)
