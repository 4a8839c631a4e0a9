use Rattle.law_images.proofs.ToldDecls.{decls-of}
use Rattle.law_images.proofs.laws.valid_image_is_that_of_declarations.Goals as goal

pub returns : goal.returns
returns c = record { declared = λ code entries shape valid. decls-of code entries shape valid }
