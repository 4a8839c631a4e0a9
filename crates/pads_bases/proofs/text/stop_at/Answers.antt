use Rattle.pads_bases.proofs.StringLemmas.{search_found, search_missing}
use Rattle.pads_bases.proofs.text.stop_at.Goals as goal

pub returns-in-Some-clause-stop : goal.returns-in-Some-clause-stop
returns-in-Some-clause-stop c =
    let found = c.in-Some.ensures in
    search_found c.args.coding c.args.stop c.args.bytes.now _ _ c.encode.ensures.code_page found.0.high found.1 found.0.before

pub returns-in-None-clause-stop : goal.returns-in-None-clause-stop
returns-in-None-clause-stop c =
    search_missing c.args.coding c.args.stop c.args.bytes.now _ c.encode.ensures.code_page c.in-None.ensures
