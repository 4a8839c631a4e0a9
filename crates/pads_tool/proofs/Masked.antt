-- Where a mask suits the description in a file, and the module under it has an image, no order is refused for it.
use Rattle.std.proofs.Common.{◌≡◌, ◌∙◌, sym, ap, subst, ℕ, List, Option, Some, None, Result, Ok, Err, IfOk, IfErr, arith}
use Rattle.pads_code.specs.declared.Coding.{Coding}
use Rattle.pads_describe.proofs.AnswerLaws.{not_refused, one_description}
use Rattle.pads_describe.specs.Describing.{Describes}
use Rattle.pads_describe.specs.Verdicts.{IsRefused}
use Rattle.pads_mask.specs.Masks.{fault_of, masked}
use Rattle.pads_erase.specs.declared.mask.Mask.{Mask}
use Rattle.pads_module.specs.Modules.{Contents, contents}
use Rattle.pads_module.specs.declared.module.Module.{Module}
use Rattle.pads_tool.proofs.Promises.{Excludes, known-at}
use Rattle.pads_tool.proofs.Stops.{stop-before, stops-behind}
use Rattle.pads_tool.specs.Images.{HasImage, IsImageFault}
use Rattle.pads_tool.specs.Masking.{CanBeMasked, IsBounded, IsMaskFault, IsMaskedIn, IsReadUnder, IsRefusedUnder, IsUnmaskedIn, IsUnreadUnder, bounded, masking}
use Rattle.pads_tool.specs.Texts.{IsDescribedIn, IsRefusedFor, IsRefusedIn, StopsBefore, StopsFor}
use Rattle.pads_tool.specs.declared.ending.Ending.{Ending}
use Rattle.pads_tool.specs.declared.reader.Reader.{Reader}
use Rattle.pads_tool.specs.declared.reason.Reason.{Reason}
use Rattle.pads_tool.specs.declared.reason.Reason.TheVariants as reason

module _ (content : Option (List ℕ)) (coding : Coding) (mask : Mask) (can : CanBeMasked content coding mask) where
  -- A text has one module,
  one-whole : (whole : Contents) → IsDescribedIn content coding whole → can.whole ≡ whole
  one-whole whole here = one_description can.text coding can.whole whole can.describes (known-at (λ text. Describes text coding whole) content can.text can.content_is here)

  -- and one under a mask.
  pub one-masked : (made : Contents) → IsMaskedIn content coding mask made → masked can.whole mask ≡ made
  one-masked made here = ap (λ (whole : Contents). masked whole mask) (one-whole here.0 here.1) ∙ sym here.3

  pub masked-verdict : (v : _) → IsRefusedIn content v → ⊥
  masked-verdict v refused = not_refused can.text coding can.whole v can.describes (known-at (λ text. IsRefused text v) content can.text can.content_is refused)

  pub masked-item : (item : ℕ) → IsUnmaskedIn content coding mask item → ⊥
  masked-item item refused =
      let suits = subst (λ (whole : Contents). fault_of whole mask ≡ None) (one-whole refused.0 refused.1) can.suits in
      let wrong : Some item ≡ None = sym refused.2 ∙ suits in cc

  pub masked-image : IsUnreadUnder content coding mask → ⊥
  masked-image refused =
      let small = subst HasImage (one-masked refused.0 refused.1) can.small in
      omega (arith, small, refused.2)

pub masking-excludes : (coding : Coding) (mask : Mask) (scan : ℕ) → Excludes (masking coding mask scan)
masking-excludes coding mask scan content (reason.Description v) can refused = masked-verdict content coding mask can v refused
masking-excludes coding mask scan content (reason.MaskItem item) can refused = masked-item content coding mask can item refused
masking-excludes coding mask scan content (reason.Question fault) can refused = absurd refused
masking-excludes coding mask scan content reason.ImageTooLarge can refused = masked-image content coding mask can refused
masking-excludes coding mask scan content reason.SummaryTooLarge can refused = absurd refused

-- A module under a mask, or why there is none, from that of the description in a file.
module _ (content : Option (List ℕ)) (coding : Coding) (mask : Mask) where
  module _ (whole : Contents) (here : IsDescribedIn content coding whole) where
    masked-why : (why : Reason) → IsMaskFault whole mask why → IsRefusedUnder content coding mask why
    masked-why (reason.MaskItem item) h = (whole, here, h)
    masked-why (reason.Description verdict) h = absurd h
    masked-why (reason.Question fault) h = absurd h
    masked-why reason.ImageTooLarge h = absurd h
    masked-why reason.SummaryTooLarge h = absurd h

    pub masked-gives : (r : Result Module Ending) → IfOk r (λ made. (fault_of whole mask ≡ None) × (contents made ≡ masked whole mask)) → IfOk r (λ made. IsMaskedIn content coding mask (contents made))
    masked-gives (Ok made) h = (whole, here, h.0, h.1)
    masked-gives (Err e) h = tt

    pub masked-stops : (before now : ℕ) (r : Result Module Ending) → IfErr r (StopsFor (IsMaskFault whole mask)) → IfErr r (StopsBefore (IsRefusedUnder content coding mask) before now)
    masked-stops = stops-behind (IsMaskFault whole mask) (IsRefusedUnder content coding mask) masked-why

  -- Where there is no module of the description, there is none under the mask.
  unmasked-why : (why : Reason) → IsRefusedFor content why → IsRefusedUnder content coding mask why
  unmasked-why (reason.Description verdict) h = h
  unmasked-why (reason.MaskItem item) h = absurd h
  unmasked-why (reason.Question fault) h = absurd h
  unmasked-why reason.ImageTooLarge h = absurd h
  unmasked-why reason.SummaryTooLarge h = absurd h

  pub unmasked-stop : (before now : ℕ) (e : Ending) → StopsBefore (IsRefusedFor content) before now e → StopsBefore (IsRefusedUnder content coding mask) before now e
  unmasked-stop = stop-before (IsRefusedFor content) (IsRefusedUnder content coding mask) unmasked-why

  -- What reads by the module under the mask, or that it has no image.
  module _ (made : Contents) (here : IsMaskedIn content coding mask made) where
    image-why : (why : Reason) → IsImageFault made why → IsRefusedUnder content coding mask why
    image-why reason.ImageTooLarge h = (made, here, h)
    image-why (reason.Description verdict) h = absurd h
    image-why (reason.MaskItem item) h = absurd h
    image-why (reason.Question fault) h = absurd h
    image-why reason.SummaryTooLarge h = absurd h

    pub unread-stops : (before now : ℕ) (r : Result Reader Ending) → IfErr r (StopsFor (IsImageFault made)) → IfErr r (StopsBefore (IsRefusedUnder content coding mask) before now)
    unread-stops = stops-behind (IsImageFault made) (IsRefusedUnder content coding mask) image-why

    pub read-gives : (scan : ℕ) (r : Result Reader Ending) → IfOk r (λ reader. contents reader.module ≡ bounded scan made) → IfOk r (λ reader. HasImage (contents reader.module))
        → IfOk r (λ reader. IsBounded scan (λ whole. IsReadUnder content coding mask whole) (contents reader.module))
    read-gives scan (Ok reader) same small = (made, (here, subst HasImage same small), same)
    read-gives scan (Err e) same small = tt
