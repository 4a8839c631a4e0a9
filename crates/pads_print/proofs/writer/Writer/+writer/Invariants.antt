use Rattle.std.proofs.Common.{◌≡◌, ◌+◌, ◌*◌, true, drop, reverse}
use denote.Param.Weighed.{most}
use Rattle.pads_calc.specs.declared.term.Arm.{size-Arm}
use Rattle.pads_calc.specs.declared.term.Case.{size-Case}
use Rattle.pads_calc.specs.declared.term.Part.{size-Part}
use Rattle.pads_calc.specs.declared.term.Seq.{size-Seq}
use Rattle.pads_calc.specs.declared.term.Term.{size-Term}
use Rattle.pads_steps.proofs.Weights.{weight}
use Rattle.pads_print.specs.Writes.{behind}
use Rattle.pads_print.proofs.Writing.{parts_spell, elements_spell}
use Rattle.pads_print.proofs.writer.Writer.+writer.Given as goal

abbrev pub decreases-write : goal.decreases-write
decreases-write l = l.depth * weight l.self.now.decls.now + 4 * size-Term l.term.now

abbrev pub decreases-write_struct : goal.decreases-write_struct
decreases-write_struct l = l.depth * weight l.self.now.decls.now + (4 * most size-Part l.parts.now + 1)

abbrev pub decreases-write_alt : goal.decreases-write_alt
decreases-write_alt l = l.depth * weight l.self.now.decls.now + (4 * most size-Arm l.arms.now + 1)

abbrev pub decreases-write_switch : goal.decreases-write_switch
decreases-write_switch l = l.depth * weight l.self.now.decls.now + (4 * most size-Case l.cases.now + 1)

abbrev pub decreases-write_seq : goal.decreases-write_seq
decreases-write_seq l = l.depth * weight l.self.now.decls.now + (4 * size-Seq l.seq.now + 2)

abbrev pub decreases-write_between : goal.decreases-write_between
decreases-write_between l = l.depth * weight l.self.now.decls.now + (4 * size-Seq l.seq.now + 1)

abbrev pub decreases-write_call : goal.decreases-write_call
decreases-write_call l = l.depth * weight l.self.now.decls.now

abbrev pub invariant-write_struct-loop-at : goal.invariant-write_struct-loop-at
invariant-write_struct-loop-at l =
    behind l.initial.out (parts_spell l.self.decls.now l.depth l.parts (reverse l.env) l.values)
    ≡ behind l.out (parts_spell l.self.decls.now l.depth (drop l.at l.parts) (reverse l.scope.items) (drop l.at l.values))

abbrev pub invariant-write_seq-loop-element : goal.invariant-write_seq-loop-element
invariant-write_seq-loop-element l =
    behind l.initial.out (elements_spell l.self.decls.now l.depth l.seq true (reverse l.env) l.element-items)
    ≡ behind l.out (elements_spell l.self.decls.now l.depth l.seq l.is_first (reverse l.env) (drop l.element-index l.element-items))
