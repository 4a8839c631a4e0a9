-- An array reads by given worths as in the calculus, where its size and the condition of its last element are
-- worth the same, and its terms read the same at each place.
use Rattle.std.proofs.Common.{◌≡◌, ◌∙◌, ap, refl, ℕ, zero, suc, not, ◌&&◌, Bool, if◌then◌else◌, List, [], ◌∷◌, ◌++◌, length, Option, None, Some, option_map}
use Rattle.pads_value.specs.declared.value.Val.{Val}
use Rattle.pads_value.specs.declared.value.Val.TheVariants as val
use Rattle.pads_expr.specs.declared.expr.Expr.{Expr}
use Rattle.pads_calc.specs.declared.decl.Decl.{Decl}
use Rattle.pads_calc.specs.declared.reading.Reading.{Reading}
use Rattle.pads_calc.specs.declared.term.Seq.{Seq}
use Rattle.pads_calc.specs.declared.term.Term.{Term}
use Rattle.pads_calc.specs.declared.turn.Ending.{Ending}
use Rattle.pads_calc.specs.declared.turn.Ending.TheVariants as ending
use Rattle.pads_calc.specs.declared.turn.Turn.{Turn}
use Rattle.pads_calc.specs.declared.turn.Turn.TheVariants as turn
use Rattle.pads_calc.specs.Arguments.{arg_told, is_true_told}
use Rattle.pads_calc.specs.Arrays.{SeqReader, Elements, size_of_arg, size_at, is_full, is_empty, is_last, is_stopped, ending_by, ending_at, element_at, turn_of, turn_at, turn_from, unless_ended, and_then, elements, array_of, turns_from, sized, seq_of}
use Rattle.pads_calc.specs.Calculus.{caller, meaning, option_reader, seq_reader}
use Rattle.pads_calc.specs.Leaves.{at_end}
use Rattle.pads_calc.specs.Readings.{Subject, is_ok}
use Rattle.pads_calc.proofs.KeptTurns.{kept-at}
use Rattle.law_calculus.specs.ByWorths.{Worths, size_by, is_last_by, ending_at_by, elements_by, sized_by, seq_by, caller_by, meaning_by}
use Rattle.law_calculus.specs.Evaluated.{Moment, AreElements}
use Rattle.law_calculus.specs.Agreement.{own_worths}
use Rattle.law_calculus.proofs.ByWorthsRolls.{option_reader_by, seq_reader_by}

-- what follows on a turn, where it is kept
same-rest : (e : Ending) (t : Turn) (f g : Reading → Elements) → ((r : Reading) → t ≡ turn.Kept r → f r ≡ g r) → unless_ended e (and_then t f) ≡ unless_ended e (and_then t g)
same-rest (ending.Ends own) t f g same = refl
same-rest ending.GoesOn (turn.Undone cause) f g same = refl
same-rest ending.GoesOn (turn.Kept r) f g same = ap (λ later. and_then (turn.Kept r) (λ r. later)) (same r refl)

module _ (worths : Worths) (subject : Subject) (decls : List Decl) (now : Moment) where
  -- the term reads the same at each place
  abbrev pub SameReads : Term → Type 0
  SameReads t = (j : ℕ) → meaning_by worths subject decls now.depth t now.env j ≡ meaning subject decls now.depth t now.env j

  abbrev pub SameIfThere : Option Term → Type 0
  SameIfThere o = (t : Term) → o ≡ Some t → SameReads t

  -- the size is worth the same
  abbrev pub SameSize : Option Expr → Type 0
  SameSize o = (e : Expr) → o ≡ Some e → worths e now.env ≡ own_worths e now.env

  -- the condition of the last element is, behind elements that were read
  abbrev pub SameLast : Seq → Type 0
  SameLast s = (e : Expr) (before : List Val) → s.last ≡ Some e → AreElements subject decls s.elem now before
      → worths e ((s.elts, val.Array before) ∷ now.env) ≡ own_worths e ((s.elts, val.Array before) ∷ now.env)

  one-more : (elem : Term) (before : List Val) (value : Val) (j : ℕ) → value ≡ (meaning subject decls now.depth elem now.env j).value → AreElements subject decls elem now before
      → AreElements subject decls elem now (before ++ value ∷ [])
  one-more elem [] value j is are = ((j, is), tt)
  one-more elem (first ∷ before) value j is are = (are.0, one-more elem before value j is are.1)

  size-agrees : (size : Option Expr) → SameSize size → size_by worths size now.env ≡ size_at size now.env
  size-agrees None same = refl
  size-agrees (Some e) same = ap (λ told. option_map Some (size_of_arg (arg_told told))) (same e refl)

  stopped-agrees : (o : Option Term) → SameIfThere o → (j : ℕ)
      → is_stopped (option_reader_by worths subject (caller_by worths subject decls now.depth) o) now.env j ≡ is_stopped (option_reader subject (caller subject decls now.depth) o) now.env j
  stopped-agrees None same j = refl
  stopped-agrees (Some t) same j = ap is_ok (same t refl j)

  begin-agrees : (o : Option Term) → SameIfThere o → (is_first : Bool) (j : ℕ)
      → element_at (option_reader_by worths subject (caller_by worths subject decls now.depth) o) is_first now.env j
      ≡ element_at (option_reader subject (caller subject decls now.depth) o) is_first now.env j
  begin-agrees None same is_first j = refl
  begin-agrees (Some t) same is_first j =
      ap (λ (r : Reading). if is_first then Some j else if is_ok r then Some r.place else None) (same t refl j)

  module _ (s : Seq) (elem : SameReads s.elem) (sep : SameIfThere s.sep) (stop : SameIfThere s.stop) (last : SameLast s) where
    abbrev one : SeqReader
    one = seq_reader_by worths subject (caller_by worths subject decls now.depth) s

    abbrev other : SeqReader
    other = seq_reader subject (caller subject decls now.depth) s

    begun-agrees : (is_first : Bool) (j : ℕ) (begin : Option ℕ) → turn_at one.elem is_first now.env j begin ≡ turn_at other.elem is_first now.env j begin
    begun-agrees is_first j None = refl
    begun-agrees is_first j (Some begin) = ap (λ (r : Reading). turn_of is_first j begin r) (elem begin)

    turn-agrees : (is_first : Bool) (j : ℕ) → turn_from one is_first now.env j ≡ turn_from other is_first now.env j
    unfolding turn_from
    turn-agrees is_first j =
        ap (λ begin. turn_at one.elem is_first now.env j begin) (begin-agrees s.sep sep is_first j)
        ∙ begun-agrees is_first j (element_at other.sep is_first now.env j)

    last-agrees : (o : Option Expr) → s.last ≡ o → (before : List Val) → AreElements subject decls s.elem now before
        → is_last_by worths o s.elts before now.env ≡ is_last o s.elts before now.env
    last-agrees None is before are = refl
    last-agrees (Some e) is before are = ap (λ told. not (is_empty before) && is_true_told told) (last e before is are)

    ending-agrees : (size : Option ℕ) (before : List Val) (j : ℕ) → AreElements subject decls s.elem now before
        → ending_at_by worths subject.bytes one size before now.env j ≡ ending_at subject.bytes other size before now.env j
    unfolding ending_at ending_at_by
    ending-agrees size before j are =
        ap (λ last. ending_by (is_full size (length before)) last (is_stopped one.stop now.env j) (at_end subject.bytes j) size) (last-agrees s.last refl before are)
        ∙ ap (λ stopped. ending_by (is_full size (length before)) (is_last s.last s.elts before now.env) stopped (at_end subject.bytes j) size) (stopped-agrees s.stop stop j)

    elements-agree : (size : Option ℕ) (turns : ℕ) (before : List Val) (j : ℕ) → AreElements subject decls s.elem now before
        → elements_by worths subject.bytes one size now.env turns before j ≡ elements subject.bytes other size now.env turns before j
    unfolding elements elements_by
    elements-agree size zero before j are = refl
    elements-agree size (suc turns) before j are =
        let later = λ (r : Reading). elements_by worths subject.bytes one size now.env turns (before ++ r.value ∷ []) r.place in
        ap (λ e. unless_ended e (and_then (turn_from one (is_empty before) now.env j) later)) (ending-agrees size before j are)
        ∙ ap (λ t. unless_ended (ending_at subject.bytes other size before now.env j) (and_then t later)) (turn-agrees (is_empty before) j)
        ∙ same-rest (ending_at subject.bytes other size before now.env j) (turn_from other (is_empty before) now.env j) later
        (λ r. elements subject.bytes other size now.env turns (before ++ r.value ∷ []) r.place)
        (λ r kept. (let found = kept-at other now.env (is_empty before) j r kept in
        elements-agree size turns (before ++ r.value ∷ []) r.place (one-more s.elem before r.value found.begin (ap (λ (r : Reading). r.value) found.is) are)))

    sized-agrees : (size : Option (Option ℕ)) (i : ℕ) → sized_by worths subject one size now.env i ≡ sized subject other size now.env i
    sized-agrees None i = refl
    sized-agrees (Some size) i = ap (λ e. array_of subject.origin e i) (elements-agree size (turns_from subject.bytes i) [] i tt)

    pub seq-agrees : SameSize s.size → (i : ℕ) → seq_by worths subject one now.env i ≡ seq_of subject other now.env i
    seq-agrees size i = ap (λ size. sized_by worths subject one size now.env i) (size-agrees s.size size) ∙ sized-agrees (size_at s.size now.env) i
