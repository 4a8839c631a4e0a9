-- The module that a command reads records by: that of the description in a file, or the same under the mask of the order.
use Rattle.std.specs.Prelude.{◌≡◌, ℕ, List, Option, Some, None}
use Rattle.pads_code.specs.declared.Coding.{Coding}
use Rattle.pads_describe.specs.Describing.{Describes}
use Rattle.pads_mask.specs.Masks.{fault_of, masked}
use Rattle.pads_erase.specs.declared.mask.Mask.{Mask}
use Rattle.pads_module.specs.Modules.{Contents}
use Rattle.pads_tool.specs.Images.{CanBeRead, HasImage, HasNoImage, IsReadIn, IsUnreadFor}
use Rattle.pads_tool.specs.Texts.{IsDescribedIn, IsRefusedIn}
use Rattle.pads_tool.specs.declared.reason.Reason.{Reason}
use Rattle.pads_tool.specs.declared.reason.Reason.TheVariants as reason

-- It is that of the description under the mask, of which each item names a declaration.
abbrev pub IsMaskedIn : Option (List ℕ) → Coding → Mask → Contents → Type 0
IsMaskedIn content coding mask made = (whole : Contents) × IsDescribedIn content coding whole × (fault_of whole mask ≡ None) × (made ≡ masked whole mask)

-- The least item of the mask that names no declaration, counted from 1.
abbrev pub IsUnmaskedIn : Option (List ℕ) → Coding → Mask → ℕ → Type 0
IsUnmaskedIn content coding mask item = (whole : Contents) × IsDescribedIn content coding whole × (fault_of whole mask ≡ Some item)

-- It is that, and has an image; or it has none.
abbrev pub IsReadUnder : Option (List ℕ) → Coding → Mask → Contents → Type 0
IsReadUnder content coding mask made = IsMaskedIn content coding mask made × HasImage made

abbrev pub IsUnreadUnder : Option (List ℕ) → Coding → Mask → Type 0
IsUnreadUnder content coding mask = (made : Contents) × IsMaskedIn content coding mask made × HasNoImage made

-- A module isn't masked for this reason.
abbrev pub IsMaskFault : Contents → Mask → Reason → Type 0
IsMaskFault whole mask (reason.MaskItem item) = fault_of whole mask ≡ Some item
IsMaskFault whole mask (reason.Description verdict) = ⊥
IsMaskFault whole mask (reason.Question fault) = ⊥
IsMaskFault whole mask reason.ImageTooLarge = ⊥
IsMaskFault whole mask reason.SummaryTooLarge = ⊥

-- An order with a mask is refused for this reason: its description isn't accepted, or else the mask doesn't suit it, or else its
-- module has no image.
abbrev pub IsRefusedUnder : Option (List ℕ) → Coding → Mask → Reason → Type 0
IsRefusedUnder content coding mask (reason.Description verdict) = IsRefusedIn content verdict
IsRefusedUnder content coding mask (reason.MaskItem item) = IsUnmaskedIn content coding mask item
IsRefusedUnder content coding mask (reason.Question fault) = ⊥
IsRefusedUnder content coding mask reason.ImageTooLarge = IsUnreadUnder content coding mask
IsRefusedUnder content coding mask reason.SummaryTooLarge = ⊥

-- The description in a file is accepted, each item of the mask names a declaration of it, and its module has an image.
pub record CanBeMasked (content : Option (List ℕ)) (coding : Coding) (mask : Mask) : Type 0 where
  pub text : List ℕ
  pub whole : Contents
  pub content_is : content ≡ Some text
  pub describes : Describes text coding whole
  pub suits : fault_of whole mask ≡ None
  pub small : HasImage (masked whole mask)

-- Records are read by such a module with the order's bound on searches.
abbrev pub bounded : ℕ → Contents → Contents
bounded scan m = record m { scan = scan }

abbrev pub IsBounded : ℕ → (Contents → Type 0) → Contents → Type 0
IsBounded scan Is made = (whole : Contents) × Is whole × (made ≡ bounded scan whole)

-- How a command comes by its module, by the content of the description's file: which it is, for which reason there is
-- none, and that there is one.
pub record Preparation : Type 1 where
  pub is_made : Option (List ℕ) → Contents → Type 0
  pub refused_for : Option (List ℕ) → Reason → Type 0
  pub can_make : Option (List ℕ) → Type 0

-- The description's own.
abbrev pub describing : Coding → ℕ → Preparation
describing coding scan = record {
  is_made = λ content made. IsBounded scan (λ whole. IsReadIn content coding whole) made;
  refused_for = λ content why. IsUnreadFor content coding why;
  can_make = λ content. CanBeRead content coding;
}

-- The same under a mask.
abbrev pub masking : Coding → Mask → ℕ → Preparation
masking coding mask scan = record {
  is_made = λ content made. IsBounded scan (λ whole. IsReadUnder content coding mask whole) made;
  refused_for = λ content why. IsRefusedUnder content coding mask why;
  can_make = λ content. CanBeMasked content coding mask;
}
