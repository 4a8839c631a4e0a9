-- What a framer owes before and after a frame, after bytes were passed over, and after bytes came.
use Rattle.std.proofs.Common.{◌≡◌, ℕ, ◌+◌, ◌-◌, ◌<◌, ◌≤◌, Bool, true, false, ◌||◌, ltb, List, ◌∷◌, ◌++◌, length, take, drop, sym, refl, ap, ◌∙◌, inl, inr, length-drop, arith}
use Rattle.std.proofs.lemmas.Bool.{cases_Bool, or_left, or_right, ltb-true, lt-leb}
use Rattle.std.proofs.lemmas.List.{length-append, append-nil, take-append-le, drop-append-le}
use Rattle.pads_value.specs.declared.frame.Mark.{Mark}
use Rattle.pads_value.specs.declared.frame.Mark.TheVariants.{Plain, Short, Long, Broken}
use Rattle.pads_frame.specs.declared.discipline.Discipline.{Discipline}
use Rattle.pads_frame.specs.declared.discipline.Discipline.TheVariants.{Term, Fixed, Rdw, Whole}
use Rattle.pads_frame.specs.declared.discipline.Extent.{Extent}
use Rattle.pads_value.specs.Cuts.{Cut}
use Rattle.pads_value.specs.Marks.{bytes_of}
use Rattle.pads_frame.specs.Placed.{cut_at, size_of}
use Rattle.pads_frame.specs.Fits.{HasBlock}
use Rattle.pads_frame.specs.Extents.{run, mark_of, word_length, has_record, extent}
use Rattle.pads_frame.specs.Cutting.{cuts}
use Rattle.pads_frame.specs.Looks.{IsLost}
use Rattle.pads_frame.specs.State.{State, word_size, text, text_of, closes, rest, MayCome, MayPass}
use Rattle.pads_frame.proofs.CuttingLemmas.{cuts_step, cuts_open}
use Rattle.pads_frame.proofs.ExtentLemmas.{extent_within, extent_takes, extent_grows, closed_nonempty, rdw_record, rdw_broken, record_parts, word_parts, same_word}
use Rattle.pads_frame.proofs.Runs.{run-append_open}
use Rattle.pads_frame.proofs.TextLemmas.{length_text, text_none, Covers, drop_past, drop_text, run_text, word_text}

pub bytes_of_le : (mark : Mark) (n : ℕ) → bytes_of mark n ≤ n
bytes_of_le Plain n = omega arith
bytes_of_le Short n = omega arith
bytes_of_le Long n = omega arith
bytes_of_le Broken n = omega arith

-- a frame that lies within the bytes is the same where more come
pub cut_grows : (at : ℕ) (xs ys : List ℕ) (e : Extent) → e.lead + e.len ≤ length xs → cut_at at (xs ++ ys) e ≡ cut_at at xs e
cut_grows at xs ys e h =
    let k = bytes_of_le e.mark e.len in
    let d : drop e.lead (xs ++ ys) ≡ drop e.lead xs ++ ys = drop-append-le e.lead xs ys (omega arith) in
    let l : bytes_of e.mark e.len ≤ length (drop e.lead xs) = simp length-drop (omega arith) in
    let t : take (bytes_of e.mark e.len) (drop e.lead xs ++ ys) ≡ take (bytes_of e.mark e.len) (drop e.lead xs) = take-append-le (bytes_of e.mark e.len) (drop e.lead xs) ys l in
    rw (d, t) refl

-- the first frame takes up what was passed over
covers_record : (max p : ℕ) (held : List ℕ) → MayPass Rdw max p held → has_record (text Rdw p held) ≡ true → 0 < p → p + 4 ≤ size_of (extent Rdw max (text Rdw p held))
covers_record max p held m r pos =
    let l = (m pos).0 in
    let w = word_text p held l in
    let parts = record_parts (text Rdw p held) r in
    let q = word_parts (text Rdw p held) parts.0 in
    let k = (m pos).1 (sym w.1 ∙ parts.0) in
    rw (rdw_record max (text Rdw p held) r) (omega (arith, k.1, w.0, q.1))

covers_rdw : (max p : ℕ) (held : List ℕ) → MayPass Rdw max p held → 0 < p → p + 4 ≤ size_of (extent Rdw max (text Rdw p held))
covers_rdw max p held m pos =
    let n = length_text Rdw p held in
    let l = (m pos).0 in
    elim (cases_Bool (has_record (text Rdw p held))) [
      | inl r ↦ covers_record max p held m r pos
      | inr r ↦ rw (rdw_broken max (text Rdw p held) r) (omega arith)
    ]

pub covers_all : (d : Discipline) (max p : ℕ) (held : List ℕ) → MayPass d max p held → Covers d p (size_of (extent d max (text d p held)))
covers_all (Term t) max p held m = rw (run_text t p held) (omega arith)
covers_all (Fixed n) max p held m = omega (arith, m)
covers_all Rdw max p held m = covers_rdw max p held m
covers_all Whole max p held m = omega (arith, length_text Whole p held)

-- the state behind the frame that the text begins with
abbrev pub after : State → Extent → State
after s e = record s { first = s.first + size_of e; passed = 0; held = drop (size_of e - s.passed) s.held }

pub cuts_step_as : (d : Discipline) (max at : ℕ) (ended : Bool) (xs : List ℕ) (e : Extent) → extent d max xs ≡ e → 0 < length xs → 0 < size_of e → (e.closed || ended) ≡ true
    → cuts d max ended at 0 xs ≡ cut_at at xs e ∷ cuts d max ended (at + size_of e) 0 (drop (size_of e) xs)
cuts_step_as d max at ended xs e same l s c =
    let step = cuts_step d max ended at xs l (rw same s) (rw same c) in rw same at step

-- A frame that closes is the first.
pub frame_first : (d : Discipline) (max at : ℕ) (xs left more : List ℕ) (ended : Bool) (e : Extent) → extent d max (xs ++ more) ≡ e → 0 < length xs → 0 < size_of e
    → e.lead + e.len ≤ length xs → size_of e ≤ length xs → drop (size_of e) xs ≡ left → (e.closed || ended) ≡ true
    → cuts d max ended at 0 (xs ++ more) ≡ cut_at at xs e ∷ cuts d max ended (at + size_of e) 0 (left ++ more)
frame_first d max at xs left more ended e same l s within fits behind c =
    let n : length (xs ++ more) ≡ length xs + length more = length-append xs more in
    let step = cuts_step d max ended at (xs ++ more) (omega arith) (rw same s) (rw same c) in
    let g : cut_at at (xs ++ more) e ≡ cut_at at xs e = cut_grows at xs more e within in
    let k : drop (size_of e) (xs ++ more) ≡ left ++ more = drop-append-le (size_of e) xs more fits ∙ ap (λ (l : List ℕ). l ++ more) behind in
    rw same at step ∙ ap (λ (f : Cut). f ∷ cuts d max ended (at + size_of e) 0 (drop (size_of e) (xs ++ more))) g
    ∙ ap (λ (l : List ℕ). cut_at at xs e ∷ cuts d max ended (at + size_of e) 0 l) k

frame_owed_text : (d : Discipline) (max at p : ℕ) (held more : List ℕ) (ended : Bool) → HasBlock d → MayPass d max p held → 0 < length (text d p held)
    → extent d max (text d p held ++ more) ≡ extent d max (text d p held) → ((extent d max (text d p held)).closed || ended) ≡ true
    → cuts d max ended at 0 (text d p held ++ more) ≡ cut_at at (text d p held) (extent d max (text d p held))
    ∷ cuts d max ended (at + size_of (extent d max (text d p held))) 0 (text d 0 (drop (size_of (extent d max (text d p held)) - p) held) ++ more)
frame_owed_text d max at p held more ended b m l same c =
    let w = extent_within d max (text d p held) in
    let t = extent_takes d max (text d p held) b l in
    let f = drop_text d max p (size_of (extent d max (text d p held))) held m (covers_all d max p held m) in
    let k = text_none d (drop (size_of (extent d max (text d p held)) - p) held) in
    frame_first d max at (text d p held) (text d 0 (drop (size_of (extent d max (text d p held)) - p) held)) more ended (extent d max (text d p held)) same l t w.0 w.1 (f ∙ sym k) c

owed_by : (s : State) (closing ended : Bool) (more : List ℕ) → s.ended ≡ closing → HasBlock s.discipline → MayPass s.discipline s.max s.passed s.held → closes s ≡ true → MayCome s ended more
    → rest ended s more ≡ cut_at s.first (text_of s) (extent s.discipline s.max (text_of s)) ∷ rest ended (after s (extent s.discipline s.max (text_of s))) more
owed_by s true ended more is b m c may =
    let l : ltb 0 (length (text_of s)) ≡ true = rw is at c in
    let e = (may is).0 in
    let none = (may is).1 in
    let same : extent s.discipline s.max (text_of s ++ more) ≡ extent s.discipline s.max (text_of s) = rw (none, append-nil) refl in
    frame_owed_text s.discipline s.max s.first s.passed s.held more ended b m (ltb-true 0 (length (text_of s)) l) same (or_right _ _ e)
owed_by s false ended more is b m c may =
    let h : (extent s.discipline s.max (text_of s)).closed ≡ true = rw is at c in
    frame_owed_text s.discipline s.max s.first s.passed s.held more ended b m (closed_nonempty s.discipline s.max (text_of s) b h) (extent_grows s.discipline s.max (text_of s) more h) (or_left _ _ h)

-- A frame that closes is the first that was owed.
pub frame_owed : (s : State) → HasBlock s.discipline → MayPass s.discipline s.max s.passed s.held → closes s ≡ true → (ended : Bool) (more : List ℕ) → MayCome s ended more
    → rest ended s more ≡ cut_at s.first (text_of s) (extent s.discipline s.max (text_of s)) ∷ rest ended (after s (extent s.discipline s.max (text_of s))) more
frame_owed s b m c ended more may = owed_by s s.ended ended more refl b m c may

pub long_mark : (max n : ℕ) → max < n → mark_of max n ≡ Long
long_mark max n h = rw (lt-leb n max h) refl

-- Which bytes stand at the front of such a frame makes no difference, but for their number and a word.
pub record Alike (d : Discipline) (max : ℕ) (xs ys : List ℕ) (n : ℕ) : Type 0 where
  pub same : extent d max xs ≡ extent d max ys
  pub none : bytes_of (extent d max xs).mark (extent d max xs).len ≡ 0
  pub beyond : n ≤ size_of (extent d max xs)

lost_word : (max : ℕ) (a b more : List ℕ) → IsLost Rdw max a → 4 ≤ length b → length a ≡ length b → take 4 a ≡ take 4 b → Alike Rdw max (a ++ more) (b ++ more) (length a)
lost_word max a b more la lb n t =
    let na = length-append a more in
    let nb = length-append b more in
    let l : length (a ++ more) ≡ length (b ++ more) = omega arith in
    let ta = take-append-le 4 a more la.0 in
    let tb = take-append-le 4 b more lb in
    let w = same_word (a ++ more) (b ++ more) (omega arith) (omega arith) (ta ∙ t ∙ sym tb) in
    let wa = same_word (a ++ more) a (omega arith) la.0 ta in
    let same : has_record (a ++ more) ≡ has_record (b ++ more) = rw (w.1, w.0, l) refl in
    elim (cases_Bool (has_record (a ++ more))) [
      | inl r ↦
          let parts = record_parts (a ++ more) r in
          let long = la.1 (sym wa.1 ∙ parts.0) in
          let q = word_parts (a ++ more) parts.0 in
          let rb : has_record (b ++ more) ≡ true = sym same ∙ r in
          record {
            same = rw (rdw_record max (a ++ more) r, rdw_record max (b ++ more) rb, w.0) refl;
            none = rw (rdw_record max (a ++ more) r, long_mark max (word_length (a ++ more) - 4) (omega (arith, wa.0))) refl;
            beyond = rw (rdw_record max (a ++ more) r) (omega (arith, wa.0, long.1, q.1));
          }
      | inr r ↦
          let rb : has_record (b ++ more) ≡ false = sym same ∙ r in
          record {
            same = rw (rdw_broken max (a ++ more) r, rdw_broken max (b ++ more) rb, l) refl;
            none = rw (rdw_broken max (a ++ more) r) refl;
            beyond = rw (rdw_broken max (a ++ more) r) (omega arith);
          }
    ]

pub lost_alike : (d : Discipline) (max : ℕ) (a b more : List ℕ) → IsLost d max a → IsLost d max b → length a ≡ length b → take (word_size d) a ≡ take (word_size d) b → Alike d max (a ++ more) (b ++ more) (length a)
lost_alike (Term t) max a b more la lb n e =
    let ra = run-append_open t a more la.0 in
    let rb = run-append_open t b more lb.0 in
    let na = length-append a more in
    let nb = length-append b more in
    let r : run t (a ++ more) ≡ run t (b ++ more) = omega arith in
    let l : length (a ++ more) ≡ length (b ++ more) = omega arith in
    record { same = rw (r, l) refl; none = rw (long_mark max (run t (a ++ more)) (omega arith)) refl; beyond = omega arith }
lost_alike (Fixed block) max a b more la lb n e = absurd la
lost_alike Rdw max a b more la lb n e = lost_word max a b more la lb.0 n e
lost_alike Whole max a b more la lb n e =
    let na = length-append a more in
    let nb = length-append b more in
    let l : length (a ++ more) ≡ length (b ++ more) = omega arith in
    record { same = rw l refl; none = rw (long_mark max (length (a ++ more)) (omega arith)) refl; beyond = omega arith }

empty_cuts : (d : Discipline) (max at : ℕ) (ended : Bool) (xs ys : List ℕ) (e : Extent) → extent d max xs ≡ e → extent d max ys ≡ e → bytes_of e.mark e.len ≡ 0
    → 0 < length xs → 0 < length ys → 0 < size_of e → drop (size_of e) xs ≡ drop (size_of e) ys → cuts d max ended at 0 xs ≡ cuts d max ended at 0 ys
empty_cuts d max at ended xs ys e ex ey none lx ly s behind =
    elim (cases_Bool (e.closed || ended)) [
      | inl c ↦
          let g : cut_at at xs e ≡ cut_at at ys e = rw none refl in
          cuts_step_as d max at ended xs e ex lx s c ∙ rw (g, behind) (sym (cuts_step_as d max at ended ys e ey ly s c))
      | inr c ↦ cuts_open d max ended at xs (rw ex c) ∙ sym (cuts_open d max ended at ys (rw ey c))
    ]

lost_cuts : (d : Discipline) (max at : ℕ) (ended : Bool) (a b more : List ℕ) → HasBlock d → 0 < length a → length a ≡ length b → Alike d max (a ++ more) (b ++ more) (length a)
    → cuts d max ended at 0 (a ++ more) ≡ cuts d max ended at 0 (b ++ more)
lost_cuts d max at ended a b more blocks l n alike =
    let na = length-append a more in
    let nb = length-append b more in
    let s = extent_takes d max (a ++ more) blocks (omega arith) in
    let da = drop_past a more (size_of (extent d max (a ++ more))) alike.beyond in
    let db = drop_past b more (size_of (extent d max (a ++ more))) (omega (arith, alike.beyond)) in
    empty_cuts d max at ended (a ++ more) (b ++ more) (extent d max (a ++ more)) refl (sym alike.same) alike.none (omega arith) (omega arith) s
    (da ∙ rw n (sym db))

-- What is lost keeps its number of bytes and its word, and nothing else.
pub passed_owed : (d : Discipline) (max at p q : ℕ) (held kept : List ℕ) (ended : Bool) (more : List ℕ) → HasBlock d → 0 < p + length held → p + length held ≡ q + length kept
    → IsLost d max (text d p held) → IsLost d max (text d q kept) → take (word_size d) (text d p held) ≡ take (word_size d) (text d q kept)
    → cuts d max ended at 0 (text d q kept ++ more) ≡ cuts d max ended at 0 (text d p held ++ more)
passed_owed d max at p q held kept ended more b pos n lp lq t =
    let np = length_text d p held in
    let nq = length_text d q kept in
    let e : length (text d p held) ≡ length (text d q kept) = omega arith in
    sym (lost_cuts d max at ended (text d p held) (text d q kept) more b (omega arith) e (lost_alike d max (text d p held) (text d q kept) more lp lq e t))
