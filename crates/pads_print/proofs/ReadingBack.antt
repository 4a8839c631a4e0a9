-- The tests of reading back and of ambiguity hold exactly of what they are tests of.
use Rattle.std.proofs.Common.{◌≡◌, ◌∙◌, sym, ap, refl, ℕ, ◌&&◌, not, if◌then◌else◌, Bool, true, false, List, [], ◌∷◌, map, Option, Some, None}
use Rattle.std.specs.Prelude.{Decides, bytes_eq}
use Rattle.std.specs.Cmp.{first_so, second_so}
use Rattle.std.specs.Cmp.Derive.{both_true}
use Rattle.std.proofs.lemmas.Slice.Eq.{bytes_eq-Decides}
use Rattle.pads_value.specs.Cuts.{Cut}
use Rattle.pads_value.specs.Header.{is_clean}
use Rattle.pads_value.specs.declared.frame.Mark.{Mark}
use Rattle.pads_value.specs.declared.frame.Mark.TheVariants as mark
use Rattle.pads_value.specs.declared.value.Val.{Val}
use Rattle.pads_frame.specs.declared.discipline.Discipline.{Discipline}
use Rattle.pads_frame.specs.Cutting.{records}
use Rattle.pads_frame.specs.Framed.{framed}
use Rattle.pads_frame.specs.OnlyFrame.{only}
use Rattle.pads_module.specs.Modules.{Contents}
use Rattle.pads_print.specs.Printing.{IsAmbiguous, ambiguous, canonical, framed_if, printed, read_otherwise}
use Rattle.pads_print.specs.ReadBack.{IsInput, ReadsBack, frames_in, frames_of, is_back, is_of, is_plain, reads_back, row_in}
use Rattle.pads_print.specs.Same.{same, holds_of}
use Rattle.pads_print.proofs.SameValues.{same-decides}

plain-is : (found : Mark) → is_plain found ≡ true → found ≡ mark.Plain
plain-is mark.Plain is = refl
plain-is mark.Short is = absurd cc
plain-is mark.Long is = absurd cc
plain-is mark.Broken is = absurd cc

one-frame : (frames : List Cut) (frame : Cut) → only frames ≡ Some frame → frames ≡ frame ∷ []
one-frame [] frame is = absurd cc
one-frame (first ∷ []) frame is = let same : first ≡ frame = cc in ap (λ frame. frame ∷ []) same
one-frame (first ∷ other ∷ others) frame is = absurd cc

module _ (m : Contents) (d : Discipline) (max number : ℕ) (bytes : List ℕ) (v : Val) where
  back-at : (input : Option (List ℕ)) (frame : Cut) → framed d bytes ≡ input → only (frames_in d max input) ≡ Some frame → is_back m number bytes v frame ≡ true → ReadsBack m d max number bytes v
  back-at None frame framed one is = absurd cc
  back-at (Some input) frame framed one is =
      let front = first_so (is_plain frame.mark && bytes_eq frame.bytes bytes) (is_of (row_in m number frame) v) is in
      let read = second_so (is_plain frame.mark && bytes_eq frame.bytes bytes) (is_of (row_in m number frame) v) is in
      record {
        input = input;
        frame = frame;
        framed = framed;
        one = one-frame (records d max input) frame one;
        plain = plain-is frame.mark (first_so (is_plain frame.mark) (bytes_eq frame.bytes bytes) front);
        whole = (bytes_eq-Decides frame.bytes bytes).0 (second_so (is_plain frame.mark) (bytes_eq frame.bytes bytes) front);
        clean = first_so (is_clean (row_in m number frame).pd) (same (row_in m number frame).value v) read;
        value = (same-decides (row_in m number frame).value v).0 (second_so (is_clean (row_in m number frame).pd) (same (row_in m number frame).value v) read);
      }

  back-if : (found : Option Cut) → only (frames_of d max bytes) ≡ found → holds_of (is_back m number bytes v) found ≡ true → ReadsBack m d max number bytes v
  back-if None one is = absurd cc
  back-if (Some frame) one is = back-at (framed d bytes) frame refl one is

  if-back : ReadsBack m d max number bytes v → reads_back m d max number bytes v ≡ true
  unfolding reads_back
  if-back back =
      let one : only (frames_of d max bytes) ≡ Some back.frame = ap (λ input. only (frames_in d max input)) back.framed ∙ ap only back.one in
      let front = both_true (ap is_plain back.plain) ((bytes_eq-Decides back.frame.bytes bytes).1 back.whole) in
      let read = both_true back.clean ((same-decides (row_in m number back.frame).value v).1 back.value) in
      ap (holds_of (is_back m number bytes v)) one ∙ both_true front read

  pub back-decides : Decides (reads_back m d max number bytes v) (ReadsBack m d max number bytes v)
  unfolding reads_back
  back-decides = (λ is. back-if (only (frames_of d max bytes)) refl is, if-back)

module _ (m : Contents) (d : Discipline) (max number : ℕ) (v : Val) where
  abbrev reads : List ℕ → Bool
  reads bytes = reads_back m d max number bytes v

  not-true : (answer : Bool) → not answer ≡ true → answer ≡ true → ⊥
  not-true true is holds = cc
  not-true false is holds = cc

  true-not : (answer : Bool) → (answer ≡ true → ⊥) → not answer ≡ true
  true-not true never = absurd (never refl)
  true-not false never = refl

  ambiguous-if : (bytes : Option (List ℕ)) → canonical m number v ≡ bytes → read_otherwise reads bytes ≡ true → IsAmbiguous m d max number v
  ambiguous-if None there is = absurd cc
  ambiguous-if (Some bytes) there is = record {
    bytes = bytes;
    there = there;
    otherwise = λ back. not-true (reads bytes) is ((back-decides m d max number bytes v).1 back);
  }

  if-ambiguous : IsAmbiguous m d max number v → ambiguous m d max number v ≡ true
  if-ambiguous is = ap (read_otherwise reads) is.there ∙ true-not (reads is.bytes) (λ holds. is.otherwise ((back-decides m d max number is.bytes v).0 holds))

  pub ambiguous-decides : Decides (ambiguous m d max number v) (IsAmbiguous m d max number v)
  ambiguous-decides = (λ is. ambiguous-if (canonical m number v) refl is, if-ambiguous)

  input-of : (bytes input : List ℕ) → ReadsBack m d max number bytes v → framed d bytes ≡ Some input → IsInput m d max number v input
  input-of bytes input back is =
      let same : back.input ≡ input = let e : Some back.input ≡ Some input = sym back.framed ∙ is in cc in
      record {
        frame = back.frame;
        one = ap (records d max) (sym same) ∙ back.one;
        plain = back.plain;
        clean = back.clean;
        value = back.value;
      }

  input-if : (bytes input : List ℕ) (answer : Bool) → reads bytes ≡ answer → (if answer then framed d bytes else None) ≡ Some input → IsInput m d max number v input
  input-if bytes input true reads_so is = input-of bytes input ((back-decides m d max number bytes v).0 reads_so) is
  input-if bytes input false reads_so is = absurd cc

  input-there : (bytes : Option (List ℕ)) (input : List ℕ) → framed_if reads d bytes ≡ Some input → IsInput m d max number v input
  input-there None input is = absurd cc
  input-there (Some bytes) input is = input-if bytes input (reads bytes) refl is

  pub printed-input : (input : List ℕ) → printed m d max number v ≡ Some input → IsInput m d max number v input
  printed-input input is = input-there (canonical m number v) input is
