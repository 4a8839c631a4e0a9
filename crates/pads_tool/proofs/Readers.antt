-- The image of a reader stands for its module.
use Rattle.std.proofs.Common.{◌≡◌, ◌∙◌, ap, subst, ℕ, List, IfOk, IfErr, Result, Ok, Err}
use Rattle.pads_calc.specs.Rows.{row_of}
use Rattle.pads_calc.specs.declared.decl.Decl.{Decl}
use Rattle.pads_calc.specs.declared.decl.Shape.{Shape}
use Rattle.pads_compile.proofs.Stands.{module-stands}
use Rattle.pads_image.specs.Answers.{StandsFor}
use Rattle.pads_module.specs.Modules.{Contents, contents}
use Rattle.pads_value.specs.Cuts.{Cut}
use Rattle.pads_value.specs.declared.memory.Memory.{Memory}
use Rattle.pads_value.specs.declared.row.Row.{Row}
use Rattle.pads_tool.proofs.Stops.{stops-for}
use Rattle.pads_tool.specs.Describing.{row_in}
use Rattle.pads_tool.specs.Images.{HasNoImage, IsImageFault}
use Rattle.pads_tool.specs.Masking.{bounded}
use Rattle.pads_tool.specs.Texts.{StopsFor}
use Rattle.pads_tool.specs.declared.ending.Ending.{Ending}
use Rattle.pads_tool.specs.declared.reader.Reader.{Reader}
use Rattle.pads_tool.specs.declared.reason.Reason.{Reason}
use Rattle.pads_tool.specs.declared.reason.Reason.TheVariants as reason

module _ (r : Reader) where
  pub image-stands : StandsFor r.image.code r.image.entries r.image.shape r.image.need r.module.decls
  image-stands = module-stands r.module.decls r.module.names r.module.shape r.image r.module.in_scope r.code r.entries r.shape

  -- The row that the machine answers by its image is that of its module.
  pub row-by : (number : ℕ) (cut : Cut) (answer : Result Row Memory)
      → IfOk answer (λ row. (decls : List Decl) → StandsFor r.image.code r.image.entries r.image.shape r.image.need decls → row ≡ row_of decls r.image.shape r.image.scan number cut)
      → IfOk answer (λ row. row ≡ row_in (contents r.module) number cut)
  row-by number cut (Ok row) is = is r.module.decls image-stands ∙ ap (λ (shape : Shape). row_of r.module.decls shape r.image.scan number cut) r.shape
      ∙ ap (λ scan. row_of r.module.decls r.module.shape scan number cut) r.scan
  row-by number cut (Err e) is = tt

-- What reads by a module with a bound on its searches, or that the module has no image.
module _ (scan : ℕ) (m made : Contents) (is : made ≡ bounded scan m) where
  image-why : (why : Reason) → IsImageFault made why → IsImageFault m why
  image-why reason.ImageTooLarge h = subst HasNoImage is h
  image-why (reason.Description verdict) h = absurd h
  image-why (reason.MaskItem item) h = absurd h
  image-why (reason.Question fault) h = absurd h
  image-why reason.SummaryTooLarge h = absurd h

  pub bounded-stops : (r : Result Reader Ending) → IfErr r (StopsFor (IsImageFault made)) → IfErr r (StopsFor (IsImageFault m))
  bounded-stops = stops-for (IsImageFault made) (IsImageFault m) image-why

  pub bounded-made : (r : Result Reader Ending) → IfOk r (λ reader. contents reader.module ≡ made) → IfOk r (λ reader. contents reader.module ≡ bounded scan m)
  bounded-made (Ok reader) same = same ∙ is
  bounded-made (Err e) same = tt
