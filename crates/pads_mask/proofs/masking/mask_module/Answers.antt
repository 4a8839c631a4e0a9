use Rattle.std.proofs.Common.{◌≡◌, ◌∙◌, sym, Bool, true, false, ◌&&◌}
use Rattle.std.proofs.lemmas.Bool.{and_from}
use Rattle.pads_module.specs.Counts.{module_counts}
use Rattle.pads_module.specs.Modules.{contents, is_formed}
use Rattle.pads_module.specs.Scopes.{module_in_scope}
use Rattle.pads_mask.specs.Masks.{masked}
use Rattle.pads_mask.proofs.Formed.{stays-formed}
use Rattle.pads_mask.proofs.masking.mask_module.Goals as goal

pub unreachable-requires : goal.unreachable-requires
unreachable-requires c =
    let m = c.args.whole in
    let formed : is_formed (contents m) ≡ true = and_from (module_counts m.decls) (module_in_scope m.decls m.names m.shape) m.counted m.in_scope in
    let refused = rw c.in-Err-Fault.field-0-is at c.in-Err-Fault.ensures.ill_formed in
    let unformed : is_formed (masked (contents m) c.args.mask.now) ≡ false = rw (c.in_ok-decls.ensures.decls, c.into_vec.ensures.same) at refused in
    let both : true ≡ false = sym (stays-formed (contents m) c.args.mask.now formed) ∙ unformed in
    absurd cc
