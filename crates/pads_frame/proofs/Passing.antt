-- What is true once bytes of a lost frame were passed over, and while more bytes are wanted.
use Rattle.std.proofs.Common.{◌≡◌, ℕ, zero, suc, ◌+◌, ◌-◌, ◌<◌, ◌≤◌, Bool, true, false, List, [], ◌++◌, length, take, sym, refl, ap, subst, ◌∙◌, arith}
use Rattle.std.proofs.lemmas.Bool.{ltb-false, le-ltb, false_from_ne_true}
use Rattle.std.proofs.lemmas.List.{append-nil, length-take-le, take_at, take_all, take-take, nil_from_length}
use Rattle.pads_frame.specs.declared.cutter.Cutter.{Cutter}
use Rattle.pads_frame.specs.declared.discipline.Discipline.{Discipline}
use Rattle.pads_frame.specs.declared.discipline.Discipline.TheVariants.{Term, Fixed, Rdw, Whole}
use Rattle.pads_frame.specs.Cutters.{IsCutter, held_of, state_of}
use Rattle.pads_frame.specs.Extents.{run, has_record, extent}
use Rattle.pads_frame.specs.Looks.{HasSearched, IsLost, Loses}
use Rattle.pads_frame.specs.Next.{Waits}
use Rattle.pads_frame.specs.Fits.{FitsLimit}
use Rattle.pads_frame.specs.State.{State, MayPass, closes, closes_in, rest, text, text_of, word_size}
use Rattle.pads_frame.proofs.CuttingLemmas.{cuts_nil, cuts_open}
use Rattle.pads_frame.proofs.ExtentLemmas.{rdw_closed, record_parts, same_word}
use Rattle.pads_frame.proofs.Owing.{passed_owed}
use Rattle.pads_frame.proofs.Runs.{run_le}
use Rattle.pads_frame.proofs.Taking.{has_block, lost_already}
use Rattle.pads_frame.proofs.TextLemmas.{length_text, run_text, word_text}

-- the first four bytes of the text are the held ones
front_text : (p : ℕ) (held : List ℕ) → 4 ≤ length held → take 4 (text Rdw p held) ≡ take 4 held
front_text p held l = take_at (take 4 held) _ 4 (length-take-le 4 held l)

-- no byte closes a lost frame
pub lost_open : (d : Discipline) (max : ℕ) (xs : List ℕ) → IsLost d max xs → (extent d max xs).closed ≡ false
lost_open (Term t) max xs h = le-ltb (run t xs) (length xs) (omega (arith, h.0))
lost_open (Fixed n) max xs h = absurd h
lost_open Rdw max xs h =
    rdw_closed max xs ∙ false_from_ne_true (has_record xs) (λ r. let parts = record_parts xs r in omega (arith, parts.1, (h.1 parts.0).1))
lost_open Whole max xs h = refl

-- the word is held
pub word_held : (d : Discipline) (max p : ℕ) (held : List ℕ) → MayPass d max p held → IsLost d max (text d p held) → word_size d ≤ length held
word_held (Term t) max p held m h = omega arith
word_held (Fixed n) max p held m h = omega arith
word_held Rdw max zero held m h = omega (arith, h.0, length_text Rdw zero held)
word_held Rdw max (suc p) held m h = (m (omega arith)).0
word_held Whole max p held m h = omega arith

lost_rdw : (max p q : ℕ) (held : List ℕ) → 4 ≤ length held → q ≡ p + (length held - 4) → IsLost Rdw max (text Rdw p held)
    → IsLost Rdw max (text Rdw q (take 4 held)) × (take 4 (text Rdw p held) ≡ take 4 (text Rdw q (take 4 held)))
lost_rdw max p q held l e h =
    let k : length (take 4 held) ≡ 4 = length-take-le 4 held l in
    let np = length_text Rdw p held in
    let nq = length_text Rdw q (take 4 held) in
    let front : take 4 (text Rdw p held) ≡ take 4 (text Rdw q (take 4 held)) = front_text p held l ∙ sym (front_text q (take 4 held) (omega arith) ∙ take-take 4 4 held (omega arith)) in
    let w = same_word (text Rdw q (take 4 held)) (text Rdw p held) (omega arith) (omega arith) (sym front) in
    ((omega arith, λ g. let parts = h.1 (sym w.1 ∙ g) in (omega (arith, parts.0, w.0), omega (arith, parts.1, w.0))), front)

-- What is passed over stays lost, and the word stays in front.
pub lost_kept : (d : Discipline) (max p : ℕ) (held : List ℕ) → MayPass d max p held → IsLost d max (text d p held)
    → let q = p + (length held - word_size d) in let kept = take (word_size d) held in
    IsLost d max (text d q kept) × (take (word_size d) (text d p held) ≡ take (word_size d) (text d q kept)) × MayPass d max q kept
lost_kept (Term t) max p held m h =
    let n = length_text (Term t) p held in
    let r = run_text t (p + (length held - 0)) [] in
    let k = length_text (Term t) (p + (length held - 0)) [] in
    ((omega (arith, r, k), omega (arith, h.1, k)), refl, λ pos. omega (arith, h.1))
lost_kept (Fixed n) max p held m h = absurd h
lost_kept Rdw max p held m h =
    let l = word_held Rdw max p held m h in
    let q = p + (length held - 4) in
    let r = lost_rdw max p q held l refl h in
    let k : length (take 4 held) ≡ 4 = length-take-le 4 held l in
    let w = word_text q (take 4 held) (omega arith) in
    let nq = length_text Rdw q (take 4 held) in
    (r.0, r.1, λ pos. (omega arith, λ g. let parts = r.0.1 (w.1 ∙ g) in (omega (arith, parts.0, w.0), omega (arith, parts.1, w.0, nq))))
lost_kept Whole max p held m h =
    let n = length_text Whole p held in
    let k = length_text Whole (p + (length held - 0)) [] in
    (omega (arith, h, k), refl, λ pos. omega (arith, h))

lost_some : (d : Discipline) (max : ℕ) (xs : List ℕ) → IsLost d max xs → 0 < length xs
lost_some (Term t) max xs h = omega (arith, h.1)
lost_some (Fixed n) max xs h = absurd h
lost_some Rdw max xs h = omega (arith, h.0)
lost_some Whole max xs h = omega arith

word_size_le : (d : Discipline) → word_size d ≤ 4
word_size_le (Term t) = omega arith
word_size_le (Fixed n) = omega arith
word_size_le Rdw = omega arith
word_size_le Whole = omega arith

-- Where no frame closes, none is owed for what came.
done_by : (s : State) (ended : Bool) → closes_in s.discipline s.max (text_of s) ended ≡ false → rest ended s [] ≡ []
done_by s true c =
    let l = ltb-false 0 (length (text_of s)) c in
    let e : text_of s ≡ [] = nil_from_length (text_of s) (omega arith) in
    rw (e, cuts_nil s.discipline s.max true s.first 0) refl
done_by s false c =
    let e : text_of s ++ [] ≡ text_of s = append-nil (text_of s) in
    rw e (cuts_open s.discipline s.max false s.first (text_of s) (rw c refl))

pub none_owed : (s : State) → closes s ≡ false → rest s.ended s [] ≡ []
none_owed s c = done_by s s.ended c

-- the state once the held bytes were passed over
abbrev pub passed_over : State → State
passed_over s = record s { passed = s.passed + (length s.held - word_size s.discipline); held = take (word_size s.discipline) s.held }

pub waits_over : (s : State) → FitsLimit s.discipline s.max → MayPass s.discipline s.max s.passed s.held → Loses s.discipline s.max s.passed s.held s.ended → Waits s (passed_over s)
waits_over s fits m loses =
    let h = loses.lost in
    let l = word_held s.discipline s.max s.passed s.held m h in
    let kept = lost_kept s.discipline s.max s.passed s.held m h in
    let k : length (take (word_size s.discipline) s.held) ≡ word_size s.discipline = length-take-le (word_size s.discipline) s.held l in
    let n = length_text s.discipline s.passed s.held in
    let none : closes s ≡ false = rw loses.goes_on (lost_open s.discipline s.max (text_of s) h) in
    let owed = λ (ended : Bool) (more : List ℕ).
    passed_owed s.discipline s.max s.first s.passed (s.passed + (length s.held - word_size s.discipline)) s.held (take (word_size s.discipline) s.held) ended more
    (has_block s.discipline s.max fits) (omega (arith, lost_some s.discipline s.max (text_of s) h)) (omega arith) h kept.0 kept.1 in
    record {
      none = none;
      owed = owed;
      done = owed s.ended [] ∙ none_owed s none;
      first = refl;
      lost = lost_already s.discipline s.max (s.passed + (length s.held - word_size s.discipline)) (take (word_size s.discipline) s.held) kept.2;
      free = omega (arith, word_size_le s.discipline);
      reach = omega arith;
      input = record { discipline = refl; max = refl; ended = refl };
    }

-- where more bytes are wanted, all held ones were searched
pub searched_all : (d : Discipline) (max p : ℕ) (held : List ℕ) (ended : Bool) → closes_in d max (text d p held) ended ≡ false → HasSearched d (length held) held
searched_all (Term t) max p held true c =
    let l = ltb-false 0 (length (text (Term t) p held)) c in
    let n = length_text (Term t) p held in
    let e : held ≡ [] = nil_from_length held (omega arith) in rw e refl
searched_all (Term t) max p held false c =
    let l = ltb-false (run t (text (Term t) p held)) (length (text (Term t) p held)) c in
    let n = length_text (Term t) p held in
    let r = run_text t p held in
    let k = run_le t held in
    ap (run t) (take_all (length held) held (omega arith)) ∙ omega arith
searched_all (Fixed n) max p held ended c = tt
searched_all Rdw max p held ended c = tt
searched_all Whole max p held ended c = tt

-- the cutter once they were
pub waits_passed : (c : Cutter) (n : Cutter) → IsCutter c → Loses c.discipline c.max c.passed (held_of c) c.ended → state_of n ≡ passed_over (state_of c) → Waits (state_of c) (state_of n)
waits_passed c n kept loses e = subst (λ (t : State). Waits (state_of c) t) (sym e) (waits_over (state_of c) kept.fits_limit kept.may_pass loses)

pub may_pass_over : (c : Cutter) → IsCutter c → Loses c.discipline c.max c.passed (held_of c) c.ended
    → (word_size c.discipline ≤ length (held_of c)) × MayPass c.discipline c.max (passed_over (state_of c)).passed (passed_over (state_of c)).held
may_pass_over c kept loses =
    (word_held c.discipline c.max c.passed (held_of c) kept.may_pass loses.lost, (lost_kept c.discipline c.max c.passed (held_of c) kept.may_pass loses.lost).2)
