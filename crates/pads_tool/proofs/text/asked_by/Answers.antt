use Rattle.pads_module.specs.Modules.{contents}
use Rattle.pads_tool.proofs.Queries.{no-image-stop, not-asked-stop}
use Rattle.pads_tool.proofs.text.asked_by.Goals as goal

pub returns-in-Err-clause-stops : goal.returns-in-Err-clause-stops
returns-in-Err-clause-stops c = λ tree accepted. not-asked-stop tree (contents c.args.made) c.args.asks.now c.in-Err.ending (c.in-Err.ensures.stops tree accepted)

pub returns-in-Err-bounded-clause-stops : goal.returns-in-Err-bounded-clause-stops
returns-in-Err-bounded-clause-stops c = λ tree accepted.
    no-image-stop tree (contents c.args.made) c.args.asks.now c.in-Ok.asked (c.in-Ok.ensures.asked tree accepted) c.in-Err-bounded.ending c.in-Err-bounded.ensures.stops
