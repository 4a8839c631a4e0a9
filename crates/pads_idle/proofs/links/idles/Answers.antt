use Rattle.pads_steps.specs.Records.{subject_of}
use Rattle.pads_idle.proofs.Idling.{link-idles}
use Rattle.pads_idle.proofs.links.idles.Goals as goal

pub links-preserved : goal.links-preserved
links-preserved c = λ idles.
    let program = c.args.program.now in
    c.links.invariant
    (link-idles program.code.now program.entries.now (subject_of program.record) c.args.place c.links.link.wanted c.links.left c.links.link.number c.in-Some.inner.wanted
    c.in-Some.inner.number c.links-test.true c.in-Some.ensures.links idles)
