use Rattle.std.proofs.Common.{◌≡◌, ◌+◌, ◌++◌, length, drop}
use Rattle.pads_image.specs.Code.{code_from, code_of, entries_from, entries_of, length_of}
use Rattle.pads_compile.proofs.emit.emit_decls.Given as goal

abbrev pub invariant-loop-decl : goal.invariant-loop-decl
invariant-loop-decl l =
    (code_of l.decls ≡ l.ops ++ code_from (drop l.decl-index l.decls) (length l.ops))
    × (entries_of l.decls ≡ l.entries ++ entries_from (drop l.decl-index l.decls) (length l.ops))
    × (length l.ops + length_of (drop l.decl-index l.decls) ≡ length_of l.decls)
