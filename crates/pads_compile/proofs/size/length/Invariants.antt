use Rattle.std.proofs.Common.{◌≡◌, ◌+◌, ◌≤◌, drop}
use Rattle.pads_image.specs.Code.{length_of}
use Rattle.pads_value.specs.Header.{capped}
use Rattle.pads_compile.proofs.size.length.Given as goal

abbrev pub invariant-loop-decl : goal.invariant-loop-decl
invariant-loop-decl l =
    (capped (length_of l.decls) ≡ capped (l.sum + length_of (drop l.decl-index l.decls)))
    × (l.sum ≤ 18446744073709551615)
