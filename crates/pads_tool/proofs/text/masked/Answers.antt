use Rattle.std.proofs.Common.{◌∙◌, sym, ap}
use Rattle.pads_mask.proofs.Whole.{whole}
use Rattle.pads_mask.specs.Masks.{fault_of, masked}
use Rattle.pads_erase.specs.declared.mask.Mask.{Mask}
use Rattle.pads_module.specs.Modules.{contents}
use Rattle.pads_tool.proofs.text.masked.Goals as goal

-- where everything is checked and kept
pub returns-then-is_whole-clause-masked : goal.returns-then-is_whole-clause-masked
returns-then-is_whole-clause-masked c =
    let same = c.is_whole.ensures.whole c.if-is_whole.true in
    let m = contents c.args.whole in
    (ap (λ (mask : Mask). fault_of m mask) same, sym (ap (λ (mask : Mask). masked m mask) same ∙ whole m))
