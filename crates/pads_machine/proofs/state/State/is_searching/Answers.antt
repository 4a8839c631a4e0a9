use Rattle.std.proofs.Common.{◌∙◌, sym}
use Rattle.pads_machine.proofs.Tops.{searching-there}
use Rattle.pads_machine.proofs.state.State.is_searching.Goals as goal

pub returns : goal.returns
returns c = record { searching = λ some. searching-there c.args.self.now c.mark.result c.mark.ensures.mark (sym c.is_some.ensures ∙ some) }
