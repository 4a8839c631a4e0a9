use Rattle.pads_question.proofs.asking.question.Goals as goal

pub returns-in-Some-clause-refused : goal.returns-in-Some-clause-refused
returns-in-Some-clause-refused c = λ tree accepted.
    rw c.in-Some.is (c.filtered.ensures.refused c.args.path.now tree c.in-Ok.ensures.leads accepted)
