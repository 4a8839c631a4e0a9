-- From the text in a description's file to its module, and to the image of that.
use Rattle.std.proofs.Common.{◌≡◌, sym, subst, ℕ, List, Option, Some, Result, Ok, Err, IfOk, IfErr}
use Rattle.pads_code.specs.declared.Coding.{Coding}
use Rattle.pads_describe.specs.Describing.{Describes}
use Rattle.pads_describe.specs.Verdicts.{IsRefused}
use Rattle.pads_module.specs.Modules.{Contents, contents}
use Rattle.pads_module.specs.declared.module.Module.{Module}
use Rattle.pads_tool.proofs.Stops.{stop-before, stop-for, stops-behind, stops-for}
use Rattle.pads_tool.proofs.Texts.{of-text}
use Rattle.pads_tool.specs.Images.{HasImage, IsImageFault, IsReadIn, IsUnreadFor}
use Rattle.pads_tool.specs.Masking.{IsBounded, bounded}
use Rattle.pads_tool.specs.Texts.{IsDescribedIn, IsRefusedFor, IsTextIn, StopsBefore, StopsFor}
use Rattle.pads_tool.specs.declared.ending.Ending.{Ending}
use Rattle.pads_tool.specs.declared.reader.Reader.{Reader}
use Rattle.pads_tool.specs.declared.reason.Reason.{Reason}
use Rattle.pads_tool.specs.declared.reason.Reason.TheVariants as reason

module _ (content : Option (List ℕ)) (coding : Coding) (text : List ℕ) (is : IsTextIn content text) where
  pub described-gives : (r : Result Module Ending) → IfOk r (λ made. Describes text coding (contents made)) → IfOk r (λ made. IsDescribedIn content coding (contents made))
  described-gives (Ok made) h = of-text (λ text. Describes text coding (contents made)) content text is h
  described-gives (Err e) h = tt

  described-why : (why : Reason) → IsRefusedFor (Some text) why → IsRefusedFor content why
  described-why (reason.Description verdict) h = of-text (λ text. IsRefused text verdict) content text is h
  described-why (reason.MaskItem item) h = absurd h
  described-why (reason.Question fault) h = absurd h
  described-why reason.ImageTooLarge h = absurd h
  described-why reason.SummaryTooLarge h = absurd h

  pub described-stops : (before now : ℕ) (r : Result Module Ending) → IfErr r (StopsFor (IsRefusedFor (Some text))) → IfErr r (StopsBefore (IsRefusedFor content) before now)
  described-stops = stops-behind (IsRefusedFor (Some text)) (IsRefusedFor content) described-why

module _ (content : Option (List ℕ)) (coding : Coding) where
  -- Where the description isn't accepted, nothing is read by it,
  undescribed-why : (why : Reason) → IsRefusedFor content why → IsUnreadFor content coding why
  undescribed-why (reason.Description verdict) h = h
  undescribed-why (reason.MaskItem item) h = absurd h
  undescribed-why (reason.Question fault) h = absurd h
  undescribed-why reason.ImageTooLarge h = absurd h
  undescribed-why reason.SummaryTooLarge h = absurd h

  pub undescribed-stop : (before now : ℕ) (e : Ending) → StopsBefore (IsRefusedFor content) before now e → StopsBefore (IsUnreadFor content coding) before now e
  undescribed-stop = stop-before (IsRefusedFor content) (IsUnreadFor content coding) undescribed-why

  pub undescribed-for : (e : Ending) → StopsFor (IsRefusedFor content) e → StopsFor (IsUnreadFor content coding) e
  undescribed-for = stop-for (IsRefusedFor content) (IsUnreadFor content coding) undescribed-why

  -- and not either where its module has no image.
  module _ (made : Contents) (here : IsDescribedIn content coding made) where
    image-why : (why : Reason) → IsImageFault made why → IsUnreadFor content coding why
    image-why reason.ImageTooLarge h = (made, here, h)
    image-why (reason.Description verdict) h = absurd h
    image-why (reason.MaskItem item) h = absurd h
    image-why (reason.Question fault) h = absurd h
    image-why reason.SummaryTooLarge h = absurd h

    pub image-stops-before : (before now : ℕ) (r : Result Reader Ending) → IfErr r (StopsFor (IsImageFault made)) → IfErr r (StopsBefore (IsUnreadFor content coding) before now)
    image-stops-before = stops-behind (IsImageFault made) (IsUnreadFor content coding) image-why

    pub image-stops : (r : Result Reader Ending) → IfErr r (StopsFor (IsImageFault made)) → IfErr r (StopsFor (IsUnreadFor content coding))
    image-stops = stops-for (IsImageFault made) (IsUnreadFor content coding) image-why

    -- What reads by it.
    read-here : (by : Contents) → by ≡ made → HasImage by → IsReadIn content coding by
    read-here by same small = (subst (IsDescribedIn content coding) (sym same) here, small)

    pub read-gives : (r : Result Reader Ending) → IfOk r (λ reader. contents reader.module ≡ made) → IfOk r (λ reader. HasImage (contents reader.module)) → IfOk r (λ reader. IsReadIn content coding (contents reader.module))
    read-gives (Ok reader) same small = read-here (contents reader.module) same small
    read-gives (Err e) same small = tt

    -- What reads by it with a bound on searches.
    pub bounded-gives : (scan : ℕ) (r : Result Reader Ending) → IfOk r (λ reader. contents reader.module ≡ bounded scan made) → IfOk r (λ reader. HasImage (contents reader.module))
        → IfOk r (λ reader. IsBounded scan (λ whole. IsReadIn content coding whole) (contents reader.module))
    bounded-gives scan (Ok reader) same small = (made, (here, subst HasImage same small), same)
    bounded-gives scan (Err e) same small = tt

-- What holds of a module, holds of the reader's, which is equal to it.
pub by-reader : (P : Contents → Type 0) (made : Contents) → P made → (r : Result Reader Ending) → IfOk r (λ reader. contents reader.module ≡ made) → IfOk r (λ reader. P (contents reader.module))
by-reader P made h (Ok reader) same = subst P (sym same) h
by-reader P made h (Err e) same = tt
