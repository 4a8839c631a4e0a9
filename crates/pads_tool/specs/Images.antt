-- The image by which a command reads records. A module that has more instructions than an image may have has none, and its
-- order is refused.
use Rattle.std.specs.Prelude.{◌≡◌, ℕ, ◌<◌, ◌≤◌, List, Option, Some}
use Rattle.pads_code.specs.declared.Coding.{Coding}
use Rattle.pads_describe.specs.Describing.{Describes}
use Rattle.pads_image.specs.Code.{length_of}
use Rattle.pads_image.specs.Validity.{longest}
use Rattle.pads_module.specs.Modules.{Contents}
use Rattle.pads_tool.specs.Texts.{IsDescribedIn, IsRefusedIn}
use Rattle.pads_tool.specs.declared.reason.Reason.{Reason}
use Rattle.pads_tool.specs.declared.reason.Reason.TheVariants as reason

-- The instructions of a module are few enough for an image, or too many.
abbrev pub HasImage : Contents → Type 0
HasImage m = length_of m.decls ≤ longest

abbrev pub HasNoImage : Contents → Type 0
HasNoImage m = longest < length_of m.decls

-- A module has no image for this reason.
abbrev pub IsImageFault : Contents → Reason → Type 0
IsImageFault m reason.ImageTooLarge = HasNoImage m
IsImageFault m (reason.Description verdict) = ⊥
IsImageFault m (reason.MaskItem item) = ⊥
IsImageFault m (reason.Question fault) = ⊥
IsImageFault m reason.SummaryTooLarge = ⊥

-- The description in a file describes this module, which has an image.
abbrev pub IsReadIn : Option (List ℕ) → Coding → Contents → Type 0
IsReadIn content coding made = IsDescribedIn content coding made × HasImage made

-- An order without a mask is refused for this reason: its description isn't accepted, or else its module has no image.
abbrev pub IsUnreadFor : Option (List ℕ) → Coding → Reason → Type 0
IsUnreadFor content coding (reason.Description verdict) = IsRefusedIn content verdict
IsUnreadFor content coding reason.ImageTooLarge = (made : Contents) × IsDescribedIn content coding made × HasNoImage made
IsUnreadFor content coding (reason.MaskItem item) = ⊥
IsUnreadFor content coding (reason.Question fault) = ⊥
IsUnreadFor content coding reason.SummaryTooLarge = ⊥

-- The description in a file is accepted, and its module has an image.
pub record CanBeRead (content : Option (List ℕ)) (coding : Coding) : Type 0 where
  pub text : List ℕ
  pub made : Contents
  pub content_is : content ≡ Some text
  pub describes : Describes text coding made
  pub small : HasImage made
