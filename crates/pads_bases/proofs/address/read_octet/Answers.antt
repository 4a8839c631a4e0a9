use Rattle.std.proofs.Common.{arith, sym, ◌∙◌}
use Rattle.pads_bases.proofs.AddressLemmas.{FindsRun, octet_missing, octet_too_long, octet_too_large, octet_there}
use Rattle.pads_bases.proofs.address.read_octet.Goals as goal

pub returns-then-is_empty-clause-octet : goal.returns-then-is_empty-clause-octet
returns-then-is_empty-clause-octet c =
    let found : FindsRun c.args.coding c.args.bytes.now c.split_at.result.0.now c.split_at.result.1.now c.digit_run.result =
    record { run = c.digit_run.ensures.run; within = c.digit_run.ensures.within; front = c.split_at.ensures.front; back = c.split_at.ensures.back } in
    octet_missing _ _ _ _ _ found (sym c.is_empty.ensures ∙ c.if-is_empty.true)

pub returns-then-digits-gt3-clause-octet : goal.returns-then-digits-gt3-clause-octet
returns-then-digits-gt3-clause-octet c =
    let found : FindsRun c.args.coding c.args.bytes.now c.split_at.result.0.now c.split_at.result.1.now c.digit_run.result =
    record { run = c.digit_run.ensures.run; within = c.digit_run.ensures.within; front = c.split_at.ensures.front; back = c.split_at.ensures.back } in
    octet_too_long _ _ _ _ _ found (omega arith)

pub returns-then-number-gt255-clause-octet : goal.returns-then-number-gt255-clause-octet
returns-then-number-gt255-clause-octet c =
    let found : FindsRun c.args.coding c.args.bytes.now c.split_at.result.0.now c.split_at.result.1.now c.digit_run.result =
    record { run = c.digit_run.ensures.run; within = c.digit_run.ensures.within; front = c.split_at.ensures.front; back = c.split_at.ensures.back } in
    octet_too_large _ _ _ _ _ found (omega arith)

pub returns-clause-octet : goal.returns-clause-octet
returns-clause-octet c =
    let found : FindsRun c.args.coding c.args.bytes.now c.split_at.result.0.now c.split_at.result.1.now c.digit_run.result =
    record { run = c.digit_run.ensures.run; within = c.digit_run.ensures.within; front = c.split_at.ensures.front; back = c.split_at.ensures.back } in
    rw c.number_of-number.ensures.number (octet_there _ _ _ _ _ found (sym c.is_empty.ensures ∙ c.if-is_empty.false) (omega arith) (omega arith))
