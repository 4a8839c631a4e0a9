-- What is true of the first frame's extent, and that it stays when more bytes come.
use Rattle.std.proofs.Common.{◌≡◌, ℕ, ◌+◌, ◌-◌, ◌<◌, ◌≤◌, min, true, false, ◌&&◌, eqb, leb, ltb, List, ◌++◌, length, get_or, take, sym, refl, ap, ◌∙◌, inl, inr, arith}
use Rattle.std.proofs.lemmas.Bool.{cases_Bool, and_parts, leb-true, ltb-true, ltb-false, le-leb, lt-leb, lt-ltb, false≢true}
use Rattle.std.proofs.lemmas.List.{length-append, get_or-take, take-append-le}
use Rattle.pads_value.specs.declared.frame.Mark.TheVariants.{Broken}
use Rattle.pads_frame.specs.declared.discipline.Discipline.{Discipline}
use Rattle.pads_frame.specs.declared.discipline.Discipline.TheVariants.{Term, Fixed, Rdw, Whole}
use Rattle.pads_frame.specs.Placed.{size_of}
use Rattle.pads_frame.specs.Fits.{HasBlock}
use Rattle.pads_frame.specs.Extents.{run, mark_of, word_length, has_word, has_record, extent}
use Rattle.pads_frame.proofs.Runs.{run_le, run-append_closed}

-- two lists with the same first four bytes have the same descriptor word
pub same_word : (a b : List ℕ) → 4 ≤ length a → 4 ≤ length b → take 4 a ≡ take 4 b → (word_length a ≡ word_length b) × (has_word a ≡ has_word b)
same_word a b la lb e =
    let at = λ (i : ℕ) (h : i < 4). sym (get_or-take 4 a i 0 h) ∙ ap (λ (l : List ℕ). get_or l i 0) e ∙ get_or-take 4 b i 0 h in
    let g0 : get_or a 0 0 ≡ get_or b 0 0 = at 0 (omega arith) in
    let g1 : get_or a 1 0 ≡ get_or b 1 0 = at 1 (omega arith) in
    let g2 : get_or a 2 0 ≡ get_or b 2 0 = at 2 (omega arith) in
    let g3 : get_or a 3 0 ≡ get_or b 3 0 = at 3 (omega arith) in
    let fa : leb 4 (length a) ≡ true = le-leb 4 (length a) la in
    let fb : leb 4 (length b) ≡ true = le-leb 4 (length b) lb in
    (rw (g0, g1) refl, rw (fa, fb, g0, g1, g2, g3) refl)

-- what a descriptor word says of the list
pub word_parts : (xs : List ℕ) → has_word xs ≡ true → (4 ≤ length xs) × (4 ≤ word_length xs)
word_parts xs h =
    let p = and_parts ((leb 4 (length xs) && leb 4 (word_length xs)) && eqb (get_or xs 2 0) 0) (eqb (get_or xs 3 0) 0) h in
    let q = and_parts (leb 4 (length xs) && leb 4 (word_length xs)) (eqb (get_or xs 2 0) 0) p.0 in
    let r = and_parts (leb 4 (length xs)) (leb 4 (word_length xs)) q.0 in
    (leb-true 4 (length xs) r.0, leb-true 4 (word_length xs) r.1)

pub record_parts : (xs : List ℕ) → has_record xs ≡ true → (has_word xs ≡ true) × (word_length xs ≤ length xs)
record_parts xs h =
    let p = and_parts (has_word xs) (leb (word_length xs) (length xs)) h in
    (p.0, leb-true (word_length xs) (length xs) p.1)

pub record_from : (xs : List ℕ) → has_word xs ≡ true → word_length xs ≤ length xs → has_record xs ≡ true
record_from xs w l = rw (w, le-leb (word_length xs) (length xs) l) refl

pub no_record : (xs : List ℕ) → length xs < word_length xs → has_record xs ≡ false
no_record xs l =
    let f : leb (word_length xs) (length xs) ≡ false = lt-leb (word_length xs) (length xs) l in
    rw f (elim (has_word xs) as (λ b. (b && false) ≡ false) [ true ↦ refl | false ↦ refl ])

-- the extent of a record behind a descriptor word, and of what is broken
pub rdw_record : (max : ℕ) (xs : List ℕ) → has_record xs ≡ true → extent Rdw max xs ≡ record { lead = 4; len = word_length xs - 4; terminator = 0; mark = mark_of max (word_length xs - 4); closed = true }
rdw_record max xs h = rw h refl

pub rdw_broken : (max : ℕ) (xs : List ℕ) → has_record xs ≡ false → extent Rdw max xs ≡ record { lead = 0; len = length xs; terminator = 0; mark = Broken; closed = false }
rdw_broken max xs h = rw h refl

pub rdw_closed : (max : ℕ) (xs : List ℕ) → (extent Rdw max xs).closed ≡ has_record xs
rdw_closed max xs = elim (cases_Bool (has_record xs)) [ inl h ↦ rw (rdw_record max xs h, h) refl | inr h ↦ rw (rdw_broken max xs h, h) refl ]

-- The extent lies within the list.
pub extent_within : (d : Discipline) (max : ℕ) (xs : List ℕ) → ((extent d max xs).lead + (extent d max xs).len ≤ length xs) × (size_of (extent d max xs) ≤ length xs)
extent_within (Term t) max xs =
    let l = run_le t xs in
    elim (cases_Bool (ltb (run t xs) (length xs))) [
      | inl h ↦ rw h (omega arith, omega (arith, ltb-true (run t xs) (length xs) h))
      | inr h ↦ rw h (omega arith, omega arith)
    ]
extent_within (Fixed n) max xs = (omega arith, omega arith)
extent_within Rdw max xs =
    elim (cases_Bool (has_record xs)) [
      | inl h ↦ let p = record_parts xs h in let q = word_parts xs p.0 in rw (rdw_record max xs h) (omega arith, omega arith)
      | inr h ↦ rw (rdw_broken max xs h) (omega arith, omega arith)
    ]
extent_within Whole max xs = (omega arith, omega arith)

-- It takes up a byte, where there is one.
pub extent_takes : (d : Discipline) (max : ℕ) (xs : List ℕ) → HasBlock d → 0 < length xs → 0 < size_of (extent d max xs)
extent_takes (Term t) max xs b l =
    elim (cases_Bool (ltb (run t xs) (length xs))) [
      | inl h ↦ rw h (omega arith)
      | inr h ↦ rw h (omega (arith, run_le t xs, ltb-false (run t xs) (length xs) h))
    ]
extent_takes (Fixed n) max xs b l = omega arith
extent_takes Rdw max xs b l =
    elim (cases_Bool (has_record xs)) [
      | inl h ↦ let p = record_parts xs h in let q = word_parts xs p.0 in rw (rdw_record max xs h) (omega arith)
      | inr h ↦ rw (rdw_broken max xs h) (omega arith)
    ]
extent_takes Whole max xs b l = omega arith

-- What is closed stays as it is.
pub extent_grows : (d : Discipline) (max : ℕ) (xs ys : List ℕ) → (extent d max xs).closed ≡ true → extent d max (xs ++ ys) ≡ extent d max xs
extent_grows (Term t) max xs ys h =
    let l = ltb-true (run t xs) (length xs) h in
    let e = run-append_closed t xs ys l in
    let n : length (xs ++ ys) ≡ length xs + length ys = length-append xs ys in
    let g : ltb (run t xs) (length (xs ++ ys)) ≡ true = lt-ltb (run t xs) (length (xs ++ ys)) (omega arith) in
    let f : ltb (run t xs) (length xs) ≡ true = h in
    rw (e, g, f) refl
extent_grows (Fixed n) max xs ys h =
    let l = leb-true n (length xs) h in
    let k : length (xs ++ ys) ≡ length xs + length ys = length-append xs ys in
    let g : leb n (length (xs ++ ys)) ≡ true = le-leb n (length (xs ++ ys)) (omega arith) in
    let f : leb n (length xs) ≡ true = h in
    let m : min n (length (xs ++ ys)) ≡ min n (length xs) = omega arith in
    rw (g, f, m) refl
extent_grows Rdw max xs ys h =
    let r : has_record xs ≡ true = sym (rdw_closed max xs) ∙ h in
    let p = record_parts xs r in
    let q = word_parts xs p.0 in
    let k : length (xs ++ ys) ≡ length xs + length ys = length-append xs ys in
    let s = same_word (xs ++ ys) xs (omega arith) q.0 (take-append-le 4 xs ys q.0) in
    let r' = record_from (xs ++ ys) (s.1 ∙ p.0) (omega (arith, s.0)) in
    rdw_record max (xs ++ ys) r' ∙ rw s.0 (sym (rdw_record max xs r))
extent_grows Whole max xs ys h = absurd (false≢true h)

-- Where bytes close it, there are bytes.
pub closed_nonempty : (d : Discipline) (max : ℕ) (xs : List ℕ) → HasBlock d → (extent d max xs).closed ≡ true → 0 < length xs
closed_nonempty (Term t) max xs b h = omega (arith, ltb-true (run t xs) (length xs) h)
closed_nonempty (Fixed n) max xs b h = omega (arith, leb-true n (length xs) h)
closed_nonempty Rdw max xs b h =
    let p = record_parts xs (sym (rdw_closed max xs) ∙ h) in omega (arith, word_parts xs p.0)
closed_nonempty Whole max xs b h = absurd (false≢true h)
