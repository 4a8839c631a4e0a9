-- What is true of a frame that was found, and of the state behind it.
use Rattle.std.proofs.Common.{◌≡◌, ℕ, zero, suc, ◌+◌, ◌-◌, ◌<◌, ◌≤◌, Bool, true, false, List, ◌++◌, length, take, drop, sym, refl, ap, subst, ◌∙◌, ◌⊎◌, inl, inr, arith}
use Rattle.std.proofs.lemmas.Bool.{cases_Bool, ltb-true}
use Rattle.std.proofs.lemmas.List.{length-append, length-drop, drop-drop, take-append-le}
use Rattle.pads_value.specs.Cuts.{Cut}
use Rattle.pads_value.specs.declared.frame.Mark.{Mark}
use Rattle.pads_value.specs.declared.frame.Mark.TheVariants.{Plain, Short, Long, Broken}
use Rattle.pads_value.specs.Marks.{bytes_of}
use Rattle.pads_frame.specs.declared.cutter.Cutter.{Cutter}
use Rattle.pads_frame.specs.declared.cutter.Place.{Place}
use Rattle.pads_frame.specs.declared.discipline.Discipline.{Discipline}
use Rattle.pads_frame.specs.declared.discipline.Discipline.TheVariants.{Term, Fixed, Rdw, Whole}
use Rattle.pads_frame.specs.declared.discipline.Extent.{Extent}
use Rattle.pads_frame.specs.Cutters.{IsCutter, Takes, cut_of_place, held_of, state_of}
use Rattle.pads_frame.specs.Fits.{HasBlock}
use Rattle.pads_frame.specs.Extents.{run, word_length, has_record, extent}
use Rattle.pads_frame.specs.Looks.{Finds, HasSearched}
use Rattle.pads_frame.specs.Next.{CarriesNone, HandsOut}
use Rattle.pads_frame.specs.Placed.{cut_at, size_of}
use Rattle.pads_frame.specs.Fits.{FitsLimit}
use Rattle.pads_frame.specs.State.{State, MayPass, closes_in, text, text_of}
use Rattle.pads_frame.proofs.ExtentLemmas.{extent_within, extent_takes, closed_nonempty, rdw_record, rdw_broken, record_parts, same_word}
use Rattle.pads_frame.proofs.Owing.{after, bytes_of_le, covers_all, frame_owed, long_mark}
use Rattle.pads_frame.proofs.TextLemmas.{length_text, text_append, text_none, run_text, word_text}

pub has_block : (d : Discipline) (max : ℕ) → FitsLimit d max → HasBlock d
has_block (Term t) max h = tt
has_block (Fixed n) max h = h.0
has_block Rdw max h = tt
has_block Whole max h = tt

pub searched_none : (d : Discipline) (held : List ℕ) → HasSearched d 0 held
searched_none (Term t) held = refl
searched_none (Fixed n) held = tt
searched_none Rdw held = tt
searched_none Whole held = tt

pub passed_none : (d : Discipline) (max : ℕ) (held : List ℕ) → MayPass d max 0 held
passed_none (Term t) max held = λ (h : 0 < 0). absurd (omega arith)
passed_none (Fixed n) max held = refl
passed_none Rdw max held = λ (h : 0 < 0). absurd (omega arith)
passed_none Whole max held = λ (h : 0 < 0). absurd (omega arith)

-- Where bytes were passed over, the frame carries none.
pub carries_none : (d : Discipline) (max p : ℕ) (held : List ℕ) (n : ℕ) → MayPass d max p held → 0 < p
    → (bytes_of (extent d max (text d p held)).mark n ≡ 0) × ((extent d max (text d p held)).lead ≤ length held)
carries_none (Term t) max p held n m pos =
    let k = m pos in
    let e = run_text t p held in
    (rw (long_mark max (run t (text (Term t) p held)) (omega arith)) refl, omega arith)
carries_none (Fixed block) max p held n m pos = absurd (omega (arith, m))
carries_none Rdw max p held n m pos =
    let l = (m pos).0 in
    let w = word_text p held l in
    elim (cases_Bool (has_record (text Rdw p held))) [
      | inl r ↦
          let parts = record_parts (text Rdw p held) r in
          let k = (m pos).1 (sym w.1 ∙ parts.0) in
          rw (rdw_record max (text Rdw p held) r) (rw (long_mark max (word_length (text Rdw p held) - 4) (omega (arith, k.0, w.0))) refl, l)
      | inr r ↦ rw (rdw_broken max (text Rdw p held) r) (refl, omega arith)
    ]
carries_none Whole max p held n m pos =
    let k = m pos in
    let e = length_text Whole p held in
    (rw (long_mark max (length (text Whole p held)) (omega arith)) refl, omega arith)

-- What may be passed over still may once more bytes came.
may_pass_grows : (d : Discipline) (max p : ℕ) (held more : List ℕ) → MayPass d max p held → MayPass d max p (held ++ more)
may_pass_grows (Term t) max p held more m = m
may_pass_grows (Fixed n) max p held more m = m
may_pass_grows Rdw max p held more m =
    λ pos.
    let l = (m pos).0 in
    let n = length-append held more in
    let w = same_word (held ++ more) held (omega arith) l (take-append-le 4 held more l) in
    (omega arith, λ h. let k = (m pos).1 (sym w.1 ∙ h) in (omega (arith, k.0, w.0), omega (arith, k.1, w.0)))
may_pass_grows Whole max p held more m = m

no_bytes_mark : (mark : Mark) → bytes_of mark 1 ≡ 0 → (mark ≡ Long) ⊎ (mark ≡ Broken)
no_bytes_mark Plain h = absurd (omega arith)
no_bytes_mark Short h = absurd (omega arith)
no_bytes_mark Long h = inl refl
no_bytes_mark Broken h = inr refl

-- Bytes are passed over only where their frame is long or broken already.
pub lost_already : (d : Discipline) (max p : ℕ) (held : List ℕ) → MayPass d max p held → 0 < p → CarriesNone d max (text d p held)
lost_already d max p held m pos more =
    let e = text_append d max p held more m in
    let none = (carries_none d max p (held ++ more) 1 (may_pass_grows d max p held more m) pos).0 in
    no_bytes_mark (extent d max (text d p held ++ more)).mark (rw e at none)

pub closes_nonempty : (d : Discipline) (max : ℕ) (xs : List ℕ) (ended : Bool) → HasBlock d → closes_in d max xs ended ≡ true → 0 < length xs
closes_nonempty d max xs true b c = ltb-true 0 (length xs) c
closes_nonempty d max xs false b c = closed_nonempty d max xs b c

pub covers_passed : (d : Discipline) (max p : ℕ) (held : List ℕ) → MayPass d max p held → p ≤ size_of (extent d max (text d p held))
covers_passed (Term t) max p held m = covers_all (Term t) max p held m
covers_passed (Fixed n) max p held m = covers_all (Fixed n) max p held m
covers_passed Rdw max zero held m = omega arith
covers_passed Rdw max (suc p) held m = omega (arith, covers_all Rdw max (suc p) held m (omega arith))
covers_passed Whole max p held m = covers_all Whole max p held m

pub record FoundFacts (d : Discipline) (p : ℕ) (held : List ℕ) (e : Extent) : Type 0 where
  pub extent_fits : e.lead + e.len ≤ p + length held
  pub size_fits : size_of e ≤ p + length held
  pub some : 0 < size_of e
  pub covers : p ≤ size_of e
  pub carried_fits : e.lead + bytes_of e.mark e.len ≤ length held
  pub carried : bytes_of e.mark e.len ≤ e.len
  pub bytes : take (bytes_of e.mark e.len) (drop e.lead (text d p held)) ≡ take (bytes_of e.mark e.len) (drop e.lead held)

carried_facts : (d : Discipline) (max p : ℕ) (held : List ℕ) → MayPass d max p held
    → let e = extent d max (text d p held) in
    (e.lead + bytes_of e.mark e.len ≤ length held) × (take (bytes_of e.mark e.len) (drop e.lead (text d p held)) ≡ take (bytes_of e.mark e.len) (drop e.lead held))
carried_facts d max zero held m =
    let w = extent_within d max (text d zero held) in
    let n = length_text d zero held in
    let k = bytes_of_le (extent d max (text d zero held)).mark (extent d max (text d zero held)).len in
    (omega (arith, w.0), ap (λ (l : List ℕ). take (bytes_of (extent d max (text d zero held)).mark (extent d max (text d zero held)).len) (drop (extent d max (text d zero held)).lead l)) (text_none d held))
carried_facts d max (suc p) held m =
    let k = carries_none d max (suc p) held (extent d max (text d (suc p) held)).len m (omega arith) in
    (omega (arith, k.0, k.1), rw k.0 refl)

pub found_facts : (d : Discipline) (max p : ℕ) (held : List ℕ) (ended : Bool) (e : Extent) → HasBlock d → MayPass d max p held → Finds d max p held ended e → FoundFacts d p held e
found_facts d max p held ended e b m found =
    let w = extent_within d max (text d p held) in
    let n = length_text d p held in
    let c = carried_facts d max p held m in
    let facts : FoundFacts d p held (extent d max (text d p held)) = record {
      extent_fits = omega (arith, w.0);
      size_fits = omega (arith, w.1);
      some = extent_takes d max (text d p held) b (closes_nonempty d max (text d p held) ended b found.closes);
      covers = covers_passed d max p held m;
      carried_fits = c.0;
      carried = bytes_of_le (extent d max (text d p held)).mark (extent d max (text d p held)).len;
      bytes = c.1;
    } in
    subst (λ (e : Extent). FoundFacts d p held e) (sym found.lies) facts

-- the frame is handed out
pub hands_out : (s : State) (e : Extent) → FitsLimit s.discipline s.max → MayPass s.discipline s.max s.passed s.held → length s.held ≤ s.max + 4100
    → Finds s.discipline s.max s.passed s.held s.ended e → HandsOut s (cut_at s.first (text_of s) e) (after s e)
hands_out s e fits m room found =
    let b = has_block s.discipline s.max fits in
    let facts = found_facts s.discipline s.max s.passed s.held s.ended e b m found in
    let n = length-drop (size_of e - s.passed) s.held in
    record {
      closes = found.closes;
      owed = λ ended more may. rw found.lies (frame_owed s b m found.closes ended more may);
      first = omega (arith, ap (λ (x : Extent). x.terminator) found.lies);
      later = omega (arith, facts.some);
      passed = refl;
      held = omega (arith, room);
      reach = omega (arith, facts.size_fits, facts.covers);
      input = record { discipline = refl; max = refl; ended = refl };
    }

-- its place in the buffer
abbrev pub place_of : Cutter → Extent → Place
place_of c e = record {
  first = c.first + e.lead;
  end = c.first + e.lead + e.len;
  from = c.start + e.lead;
  to = c.start + e.lead + bytes_of e.mark e.len;
  mark = e.mark;
}

-- the cutter behind it
abbrev pub behind : Cutter → Extent → Cutter
behind c e = record c {
  first = c.first + e.lead + e.len + e.terminator;
  passed = 0;
  start = c.start + (size_of e - c.passed);
  searched = 0;
}

pub takes : (c : Cutter) (e : Extent) → IsCutter c → Finds c.discipline c.max c.passed (held_of c) c.ended e → Takes c (place_of c e) (behind c e)
takes c e kept found =
    let s = state_of c in
    let held = held_of c in
    let n = length-drop c.start c.buffer.items in
    let k = bytes_of e.mark e.len in
    let facts = found_facts c.discipline c.max c.passed held c.ended e (has_block c.discipline c.max kept.fits_limit) kept.may_pass found in
    let hands = hands_out s e kept.fits_limit kept.may_pass (omega (arith, kept.room, c.buffer.ok.0)) found in
    let count : c.start + e.lead + k - (c.start + e.lead) ≡ k = omega arith in
    let lies : drop (c.start + e.lead) c.buffer.items ≡ drop e.lead held = sym (drop-drop e.lead c.start c.buffer.items) in
    let cut : cut_of_place (place_of c e) c.buffer.items ≡ cut_at c.first (text_of s) e = rw (count, lies, facts.bytes) refl in
    let first : c.first + e.lead + e.len + e.terminator ≡ c.first + size_of e = omega arith in
    let left : drop (c.start + (size_of e - c.passed)) c.buffer.items ≡ drop (size_of e - c.passed) held = sym (drop-drop (size_of e - c.passed) c.start c.buffer.items) in
    let state : state_of (behind c e) ≡ after s e = rw (first, left) refl in
    let span : c.first + e.lead + e.len - (c.first + e.lead) ≡ e.len = omega arith in
    record {
      hands = subst (λ (f : Cut). HandsOut s f (state_of (behind c e))) (sym cut) (subst (λ (t : State). HandsOut s (cut_at c.first (text_of s) e) t) (sym state) hands);
      within = record {
        ordered = omega arith;
        bounded = omega (arith, facts.extent_fits, kept.reach, kept.within, c.buffer.ok.0);
        extent = count ∙ rw span refl;
        from = omega arith;
        to = omega (arith, facts.carried_fits, c.buffer.ok.0, kept.within);
      };
    }

pub keeps : (c : Cutter) (e : Extent) → IsCutter c → Finds c.discipline c.max c.passed (held_of c) c.ended e → IsCutter (behind c e)
keeps c e kept found =
    let facts = found_facts c.discipline c.max c.passed (held_of c) c.ended e (has_block c.discipline c.max kept.fits_limit) kept.may_pass found in
    let n = length-drop c.start c.buffer.items in
    record {
      limit = kept.limit;
      fits_limit = kept.fits_limit;
      within = omega (arith, facts.size_fits, c.buffer.ok.0);
      has_searched = searched_none c.discipline (held_of (behind c e));
      may_pass = passed_none c.discipline c.max (held_of (behind c e));
      room = kept.room;
      capacity = kept.capacity;
      reach = omega (arith, facts.size_fits, facts.covers, kept.reach, kept.within, c.buffer.ok.0);
    }
