use Rattle.pads_steps.specs.Records.{subject_of}
use Rattle.pads_idle.specs.Idle.{Idles}
use Rattle.pads_idle.proofs.links.idles.Given as goal

abbrev pub invariant-links : goal.invariant-links
invariant-links l =
    Idles l.program.code.now l.program.entries.now (subject_of l.program.record) l.place l.link.wanted l.left l.link.number
    → Idles l.program.code.now l.program.entries.now (subject_of l.program.record) l.place l.fn.link.wanted l.depth l.fn.link.number

abbrev pub decreases-links : goal.decreases-links
decreases-links l = l.left
