-- The literal that code begins with, behind structs and searches that begin.
use Rattle.std.specs.Prelude.{ℕ, List, [], ◌∷◌, Option, Some, None}
use Rattle.pads_image.specs.declared.op.Op.{Op}
use Rattle.pads_image.specs.declared.op.Op.TheVariants as op

abbrev pub begins_with : List Op → Option (List ℕ)
begins_with [] = None
begins_with (op.Open ∷ code) = begins_with code
begins_with (op.ScanFrom ∷ code) = begins_with code
begins_with (op.Lit literal ∷ code) = Some literal
begins_with (_ ∷ code) = None
