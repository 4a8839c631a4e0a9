use Rattle.std.proofs.Common.{sym, ap, ◌∙◌, Some}
use Rattle.pads_image.specs.declared.op.Op.{Op}
use Rattle.pads_machine.proofs.TermsThere.{base-there, call-there, compute-there}
use Rattle.pads_machine.proofs.doomed.is_one.Goals as goal

pub returns-in-Some-Call : goal.returns-in-Some-Call
returns-in-Some-Call c = record {
  term = λ is. call-there c.args.code.now c.args.address _ _ (sym c.in-Some-Call.ensures.op ∙ ap (λ (o : Op). Some o) c.in-Some-Call.field-0-is);
}

pub returns-in-Some-Base : goal.returns-in-Some-Base
returns-in-Some-Base c = record {
  term = λ is. base-there c.args.code.now c.args.address _ _ (sym c.in-Some-Base.ensures.op ∙ ap (λ (o : Op). Some o) c.in-Some-Base.field-0-is);
}

pub returns-in-Some-Compute : goal.returns-in-Some-Compute
returns-in-Some-Compute c = record {
  term = λ is. compute-there c.args.code.now c.args.address _ _ (sym c.in-Some-Compute.ensures.op ∙ ap (λ (o : Op). Some o) c.in-Some-Compute.field-0-is);
}
