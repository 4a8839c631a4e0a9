use Rattle.std.proofs.Common.{◌≡◌, ◌∙◌, ap, arith, ◌≤◌}
use Rattle.pads_image.specs.Code.{code_of, entries_of, length_of}
use Rattle.pads_image.specs.Validity.{longest}
use Rattle.pads_compile.proofs.Stands.{module-stands, valid}
use Rattle.pads_compile.proofs.compiling.compile.Goals as goal

pub new-requires : goal.new-requires
new-requires c =
    let rules = c.args.rules.now in
    let slice = c.as_slice.ensures.items in
    let less : length_of rules.decls ≤ longest = omega (arith, c.if-length-gt-LONGEST.false, c.image_length-length.ensures.length) in
    record {
      valid = valid rules.decls rules.names rules.shape c.in_ok-ops.field-0.ops c.in_ok-ops.field-0.entries rules.counted rules.in_scope less
          (c.in_ok-ops.ensures.code.code_is ∙ ap code_of slice) (c.in_ok-ops.ensures.code.entries_are ∙ ap entries_of slice);
      scan = rules.bounded;
    }

pub returns-clause-stands : goal.returns-clause-stands
returns-clause-stands c =
    let rules = c.args.rules.now in
    let slice = c.as_slice.ensures.items in
    let image = c.in_ok-new.field-0 in
    module-stands rules.decls rules.names rules.shape image rules.in_scope (c.in_ok-new.ensures.code ∙ c.in_ok-ops.ensures.code.code_is ∙ ap code_of slice)
    (c.in_ok-new.ensures.entries ∙ c.in_ok-ops.ensures.code.entries_are ∙ ap entries_of slice) c.in_ok-new.ensures.shape
