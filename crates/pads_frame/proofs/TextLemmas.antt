-- The text that a state stands for: its length, what more bytes add, and what a frame leaves of it.
use Rattle.std.proofs.Common.{◌≡◌, ℕ, zero, suc, ◌+◌, ◌-◌, ◌<◌, ◌≤◌, true, false, eqb, List, ◌++◌, length, take, drop, replicate, sym, refl, ap, ◌∙◌, inl, inr, arith}
use Rattle.std.proofs.lemmas.Bool.{cases_Bool, eqb-true, ne_eqb}
use Rattle.std.proofs.lemmas.List.{length-append, length-replicate, length-take, length-take-le, length-drop, take-append-drop, take-append-le, drop-append-le, append_assoc, take_at, drop_at, drop-drop}
use Rattle.pads_frame.specs.declared.discipline.Discipline.{Discipline}
use Rattle.pads_frame.specs.declared.discipline.Discipline.TheVariants.{Term, Fixed, Rdw, Whole}
use Rattle.pads_frame.specs.Extents.{run, word_length, has_word}
use Rattle.pads_frame.specs.State.{filler, text, MayPass}
use Rattle.pads_frame.proofs.ExtentLemmas.{same_word}
use Rattle.pads_frame.proofs.Runs.{run-replicate, run-append_open}

-- the filler is no terminator
pub filler_other : (t : ℕ) → eqb (filler (Term t)) t ≡ false
filler_other t =
    elim (cases_Bool (eqb t 0)) [
      | inl h ↦ let e : t ≡ 0 = eqb-true t 0 h in rw (h, e) refl
      | inr h ↦ rw h (ne_eqb 0 t (λ (e : 0 ≡ t). elim (cases_Bool (eqb 0 0)) [ inl g ↦ let k : eqb t 0 ≡ true = (rw (sym e) refl) in cc | inr g ↦ cc ]))
    ]

pub length_text : (d : Discipline) (p : ℕ) (held : List ℕ) → length (text d p held) ≡ p + length held
length_text d p held = simp (length-append, length-replicate, length-take, length-drop) (omega arith)

pub text_none : (d : Discipline) (held : List ℕ) → text d 0 held ≡ held
text_none (Term t) held = refl
text_none (Fixed n) held = refl
text_none Rdw held = take-append-drop 4 held
text_none Whole held = refl

-- what comes stands behind the text
pub text_append : (d : Discipline) (max p : ℕ) (held more : List ℕ) → MayPass d max p held → text d p (held ++ more) ≡ text d p held ++ more
text_append (Term t) max p held more m = sym (append_assoc (replicate p (filler (Term t))) held more)
text_append (Fixed n) max p held more m = sym (append_assoc (replicate p 0) held more)
text_append Rdw max zero held more m = text_none Rdw (held ++ more) ∙ ap (λ (l : List ℕ). l ++ more) (sym (text_none Rdw held))
text_append Rdw max (suc p) held more m =
    let l : 4 ≤ length held = (m (omega arith)).0 in
    rw (take-append-le 4 held more l, drop-append-le 4 held more l) (
    ap (λ (l : List ℕ). take 4 held ++ l) (sym (append_assoc (replicate (suc p) 0) (drop 4 held) more))
    ∙ sym (append_assoc (take 4 held) (replicate (suc p) 0 ++ drop 4 held) more))
text_append Whole max p held more m = sym (append_assoc (replicate p 0) held more)

-- a frame that takes up so many bytes takes up those that were passed over, and the word before them
abbrev pub Covers : Discipline → ℕ → ℕ → Type 0
Covers (Term t) p n = p ≤ n
Covers (Fixed block) p n = p ≤ n
Covers Rdw p n = 0 < p → p + 4 ≤ n
Covers Whole p n = p ≤ n

pub drop_past : (a b : List ℕ) (n : ℕ) → length a ≤ n → drop n (a ++ b) ≡ drop (n - length a) b
drop_past a b n h =
    let e : length a + (n - length a) ≡ n = omega arith in
    ap (λ (k : ℕ). drop k (a ++ b)) (sym e) ∙ sym (drop-drop (n - length a) (length a) (a ++ b)) ∙ ap (λ (l : List ℕ). drop (n - length a) l) (drop_at a b (length a) refl)

drop_fillers : (f p n : ℕ) (held : List ℕ) → p ≤ n → drop n (replicate p f ++ held) ≡ drop (n - p) held
drop_fillers f p n held h =
    let e = length-replicate p f in
    drop_past (replicate p f) held n (omega arith) ∙ rw e refl

pub drop_text : (d : Discipline) (max p n : ℕ) (held : List ℕ) → MayPass d max p held → Covers d p n → drop n (text d p held) ≡ drop (n - p) held
drop_text (Term t) max p n held m c = drop_fillers (filler (Term t)) p n held c
drop_text (Fixed block) max p n held m c = drop_fillers 0 p n held c
drop_text Rdw max zero n held m c =
    let e : n - 0 ≡ n = omega arith in rw e (ap (λ (l : List ℕ). drop n l) (text_none Rdw held))
drop_text Rdw max (suc p) n held m c =
    let l : 4 ≤ length held = (m (omega arith)).0 in
    let k : suc p + 4 ≤ n = c (omega arith) in
    let t : length (take 4 held) ≡ 4 = length-take-le 4 held l in
    let e : 4 + (n - 4 - suc p) ≡ n - suc p = omega arith in
    drop_past (take 4 held) (replicate (suc p) 0 ++ drop 4 held) n (omega arith)
    ∙ rw t (drop_fillers 0 (suc p) (n - 4) (drop 4 held) (omega arith) ∙ drop-drop (n - 4 - suc p) 4 held ∙ ap (λ (k : ℕ). drop k held) e)
drop_text Whole max p n held m c = drop_fillers 0 p n held c

-- the run of the text goes on from the fillers into the held bytes
pub run_text : (t p : ℕ) (held : List ℕ) → run t (text (Term t) p held) ≡ p + run t held
run_text t p held =
    let r = run-replicate t (filler (Term t)) p (filler_other t) in
    let n = length-replicate p (filler (Term t)) in
    run-append_open t (replicate p (filler (Term t))) held (r ∙ sym n) ∙ rw n refl

-- the word of the text is that of the held bytes
pub word_text : (p : ℕ) (held : List ℕ) → 4 ≤ length held → (word_length (text Rdw p held) ≡ word_length held) × (has_word (text Rdw p held) ≡ has_word held)
word_text p held l =
    let n = length_text Rdw p held in
    let t : length (take 4 held) ≡ 4 = length-take-le 4 held l in
    same_word (text Rdw p held) held (omega arith) l (take_at (take 4 held) (replicate p 0 ++ drop 4 held) 4 t)
