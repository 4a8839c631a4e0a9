-- How the promise of a query is kept.
use Rattle.std.proofs.Common.{◌≡◌, inl, inr, refl, subst, ℕ, List, Option, None, IfOk, IfErr, Result, Ok, Err}
use Rattle.pads_ast.specs.declared.decl.Ast.{Ast}
use Rattle.pads_code.specs.declared.Coding.{Coding}
use Rattle.pads_describe.proofs.AnswerLaws.{one_tree}
use Rattle.pads_describe.specs.Describing.{Describes}
use Rattle.pads_describe.specs.Trees.{IsAccepted}
use Rattle.pads_mask.specs.Masks.{fault_of, masked}
use Rattle.pads_erase.specs.declared.mask.Mask.{Mask}
use Rattle.pads_module.specs.Modules.{Contents, contents}
use Rattle.pads_orders.specs.declared.order.Question.{Question}
use Rattle.pads_orders.specs.declared.order.Settings.{Settings}
use Rattle.pads_question.proofs.OneAnswer.{asked_or_refused}
use Rattle.pads_question.specs.Questions.{IsAsked, IsNotAsked}
use Rattle.pads_question.specs.declared.asked.Asked.{Asked}
use Rattle.pads_question.specs.declared.fault.QuestionFault.{QuestionFault}
use Rattle.pads_tool.proofs.Masked.{masked-image, masked-item, masked-verdict, one-masked}
use Rattle.pads_tool.proofs.Promises.{known-at}
use Rattle.pads_tool.proofs.Stops.{stop-before, stop-behind, stop-for, stops-behind}
use Rattle.pads_tool.specs.Images.{HasImage, IsImageFault}
use Rattle.pads_tool.specs.Masking.{IsBounded, IsMaskFault, IsMaskedIn, bounded}
use Rattle.pads_tool.specs.Promises.{Counts, Keeps, Seen, answering, querying}
use Rattle.pads_tool.specs.Querying.{CanBeAsked, IsAskedIn, IsNotAskedIn, IsQuestionFault, IsUnaskedFor, IsUnaskedOf}
use Rattle.pads_tool.proofs.Texts.{of-text}
use Rattle.pads_tool.specs.Texts.{IsDescribedIn, IsRefusedFor, IsTextIn, StopsBefore, StopsFor}
use Rattle.pads_tool.specs.declared.ending.Ending.{Ending}
use Rattle.pads_tool.specs.declared.ending.Ending.TheVariants as ending
use Rattle.pads_tool.specs.declared.query.Answers.{Answers}
use Rattle.pads_tool.specs.declared.reason.Reason.{Reason}
use Rattle.pads_tool.specs.declared.reason.Reason.TheVariants as reason

-- What can be asked is refused for no reason.
module _ (content : Option (List ℕ)) (coding : Coding) (mask : Mask) (asks : Question) (can : CanBeAsked content coding mask asks) where
  asked-not-refused : (fault : QuestionFault) → IsNotAskedIn content coding mask asks fault → ⊥
  asked-not-refused fault refused =
      let there = known-at (λ text. (tree : Ast) × IsAccepted text tree × IsNotAsked tree refused.0 asks.path asks.filter fault) content can.can_make.text can.can_make.content_is refused.2 in
      let same_tree : can.tree ≡ there.0 = one_tree can.can_make.text can.tree there.0 can.accepted.has_tree there.1.has_tree in
      let same_module : masked can.can_make.whole mask ≡ refused.0 = one-masked content coding mask can.can_make refused.0 refused.1 in
      let asked = subst (λ (tree : Ast). IsAsked tree refused.0 asks.path asks.filter can.asked) same_tree
      (subst (λ (m : Contents). IsAsked can.tree m asks.path asks.filter can.asked) same_module can.is) in
      asked_or_refused there.0 refused.0 asks.path asks.filter can.asked fault asked there.2

  pub unasked-never : (why : Reason) → IsUnaskedFor content coding mask asks why → ⊥
  unasked-never (reason.Description verdict) refused = masked-verdict content coding mask can.can_make verdict refused
  unasked-never (reason.MaskItem item) refused = masked-item content coding mask can.can_make item refused
  unasked-never (reason.Question fault) refused = asked-not-refused fault refused
  unasked-never reason.ImageTooLarge refused = masked-image content coding mask can.can_make (refused.1, refused.2.0, refused.3)
  unasked-never reason.SummaryTooLarge refused = absurd refused

module _ (asks : Question) (settings : Settings) (mask : Mask) (s : Seen) (n : Counts) where
  -- The run ends before what is asked is there.
  pub query-stopped : (e : Ending) → s.out' ≡ s.out → s.notes' ≡ s.notes → s.left' ≡ s.left
      → StopsBefore (IsUnaskedFor (s.content asks.description) settings.coding mask asks) n.files n.files' e → Keeps (querying asks settings mask) s n e
  query-stopped (ending.Refused why) out notes left h = (h, out, λ can. unasked-never (s.content asks.description) settings.coding mask asks can.0 why h)
  query-stopped ending.FileFault out notes left h = (refl, h, out)
  query-stopped ending.Memory out notes left h = inl (out, notes, left)
  query-stopped ending.Done out notes left h = absurd h
  query-stopped ending.Dirty out notes left h = absurd h
  query-stopped ending.Usage out notes left h = absurd h
  query-stopped ending.ReadFault out notes left h = absurd h
  query-stopped ending.WriteFault out notes left h = absurd h
  query-stopped ending.TooLong out notes left h = absurd h
  query-stopped ending.Limit out notes left h = absurd h

  -- What is kept of a reading by what is asked, is kept of the query.
  pub query-read : (asked : Asked) (e : Ending) → Keeps (answering asks settings mask asked) s n e → Keeps (querying asks settings mask) s n e
  query-read asked ending.Done h = ((asked, h.0), tt)
  query-read asked ending.Dirty h = ((asked, h.0), tt)
  query-read asked ending.ReadFault h = (h.0, (asked, h.1))
  query-read asked ending.WriteFault h = (h.0, (asked, h.1), (asked, h.2))
  query-read asked ending.TooLong h = ((asked, h.0), h.1)
  query-read asked ending.Memory (inl h) = inl h
  query-read asked ending.Memory (inr h) = inr (asked, h)
  query-read asked (ending.Refused why) h = (h.0, h.1, h.2)
  query-read asked ending.FileFault h = h
  query-read asked ending.Limit h = absurd h.0
  query-read asked ending.Usage h = absurd h

-- What is asked by the description in a file, or why nothing is.
module _ (content : Option (List ℕ)) (coding : Coding) (mask : Mask) (asks : Question) where
  -- There is no description,
  undescribed-why : (why : Reason) → IsRefusedFor content why → IsUnaskedFor content coding mask asks why
  undescribed-why (reason.Description verdict) h = h
  undescribed-why (reason.MaskItem item) h = absurd h
  undescribed-why (reason.Question fault) h = absurd h
  undescribed-why reason.ImageTooLarge h = absurd h
  undescribed-why reason.SummaryTooLarge h = absurd h

  pub undescribed-stop : (before now : ℕ) (e : Ending) → StopsBefore (IsRefusedFor content) before now e → StopsBefore (IsUnaskedFor content coding mask asks) before now e
  undescribed-stop = stop-before (IsRefusedFor content) (IsUnaskedFor content coding mask asks) undescribed-why

  -- or the mask doesn't suit it,
  module _ (whole : Contents) (here : IsDescribedIn content coding whole) where
    unmasked-why : (why : Reason) → IsMaskFault whole mask why → IsUnaskedFor content coding mask asks why
    unmasked-why (reason.MaskItem item) h = (whole, here, h)
    unmasked-why (reason.Description verdict) h = absurd h
    unmasked-why (reason.Question fault) h = absurd h
    unmasked-why reason.ImageTooLarge h = absurd h
    unmasked-why reason.SummaryTooLarge h = absurd h

    pub unmasked-stop : (before now : ℕ) (e : Ending) → StopsFor (IsMaskFault whole mask) e → StopsBefore (IsUnaskedFor content coding mask asks) before now e
    unmasked-stop = stop-behind (IsMaskFault whole mask) (IsUnaskedFor content coding mask asks) unmasked-why

  -- or the question doesn't, or else its module has no image.
  module _ (text : List ℕ) (is : IsTextIn content text) (whole : Contents) (d : Describes text coding whole) (none : fault_of whole mask ≡ None) (made : Contents) (same : made ≡ masked whole mask) where
    here : IsMaskedIn content coding mask made
    here = (whole, of-text (λ text. Describes text coding whole) content text is d, none, same)

    asked-of : (asked : Asked) → IsAsked d.tree made asks.path asks.filter asked → IsAskedIn content coding mask asks asked made
    asked-of asked h = (here, of-text (λ text. (tree : Ast) × IsAccepted text tree × IsAsked tree made asks.path asks.filter asked) content text is (d.tree, d.accepted, h))

    asked-why : (why : Reason) → IsUnaskedOf d.tree made asks why → IsUnaskedFor content coding mask asks why
    asked-why (reason.Question fault) h =
        (made, here, of-text (λ text. (tree : Ast) × IsAccepted text tree × IsNotAsked tree made asks.path asks.filter fault) content text is (d.tree, d.accepted, h))
    asked-why reason.ImageTooLarge h = (h.0, made, asked-of h.0 h.1, h.2)
    asked-why (reason.Description verdict) h = absurd h
    asked-why (reason.MaskItem item) h = absurd h
    asked-why reason.SummaryTooLarge h = absurd h

    pub asked-stops : (before now : ℕ) (r : Result Answers Ending) → IfErr r (StopsFor (IsUnaskedOf d.tree made asks)) → IfErr r (StopsBefore (IsUnaskedFor content coding mask asks) before now)
    asked-stops = stops-behind (IsUnaskedOf d.tree made asks) (IsUnaskedFor content coding mask asks) asked-why

    pub asked-gives : (scan : ℕ) (r : Result Answers Ending) → IfOk r (λ answers. contents answers.reader.module ≡ bounded scan made) → IfOk r (λ answers. HasImage (contents answers.reader.module))
        → IfOk r (λ answers. IsAsked d.tree made asks.path asks.filter answers.asked)
        → IfOk r (λ answers. IsBounded scan (λ whole. IsAskedIn content coding mask asks answers.asked whole × HasImage whole) (contents answers.reader.module))
    asked-gives scan (Ok answers) by small h = (made, (asked-of answers.asked h, subst HasImage by small), by)
    asked-gives scan (Err e) by small h = tt

-- What is asked of a module, of which there may be no image.
module _ (tree : Ast) (made : Contents) (asks : Question) where
  not-asked-why : (why : Reason) → IsQuestionFault tree made asks why → IsUnaskedOf tree made asks why
  not-asked-why (reason.Question fault) h = h
  not-asked-why (reason.Description verdict) h = absurd h
  not-asked-why (reason.MaskItem item) h = absurd h
  not-asked-why reason.ImageTooLarge h = absurd h
  not-asked-why reason.SummaryTooLarge h = absurd h

  pub not-asked-stop : (e : Ending) → StopsFor (IsQuestionFault tree made asks) e → StopsFor (IsUnaskedOf tree made asks) e
  not-asked-stop = stop-for (IsQuestionFault tree made asks) (IsUnaskedOf tree made asks) not-asked-why

  no-image-why : (asked : Asked) → IsAsked tree made asks.path asks.filter asked → (why : Reason) → IsImageFault made why → IsUnaskedOf tree made asks why
  no-image-why asked h reason.ImageTooLarge large = (asked, h, large)
  no-image-why asked h (reason.Description verdict) large = absurd large
  no-image-why asked h (reason.MaskItem item) large = absurd large
  no-image-why asked h (reason.Question fault) large = absurd large
  no-image-why asked h reason.SummaryTooLarge large = absurd large

  pub no-image-stop : (asked : Asked) → IsAsked tree made asks.path asks.filter asked → (e : Ending) → StopsFor (IsImageFault made) e → StopsFor (IsUnaskedOf tree made asks) e
  no-image-stop asked h = stop-for (IsImageFault made) (IsUnaskedOf tree made asks) (no-image-why asked h)
