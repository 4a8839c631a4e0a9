-- What an image reads.
use Rattle.std.specs.Prelude.{◌≡◌}
use Rattle.pads_image.specs.Answers.{StandsFor}
use Rattle.pads_image.specs.declared.image.Image.{Image}
use Rattle.pads_module.specs.Modules.{Contents}

-- the image stands for the declarations, and its shape and bound on searches are theirs: records read by
-- it as they read by them
pub record Reads (image : Image) (m : Contents) : Type 0 where
  pub stands : StandsFor image.code image.entries image.shape image.need m.decls
  pub shape : image.shape ≡ m.shape
  pub scan : image.scan ≡ m.scan
