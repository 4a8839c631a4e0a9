-- What the code finds in the bytes is the reading of their points.
use Rattle.std.proofs.Common.{◌≡◌, ℕ, ◌<◌, ◌≤◌, Bool, true, false, ℤ, pos, negsuc, int_lt, nat_eq, nat_lt, List, [], ◌∷◌, length, take, get_or, Some, None, refl, sym, ap, ◌∙◌, subst, Result, arith, length-take-le}
use Rattle.std.specs.Result.{IfOk}
use Rattle.std.specs.List.{position_or_len}
use Rattle.std.proofs.lemmas.Bool.{ne_eqb, eqb-true, eqb-false, eq-eqb, false_from_ne_true}
use Rattle.std.proofs.lemmas.Int.{ints}
use Rattle.std.proofs.lemmas.List.{get_or-map}
use Rattle.std.proofs.lemmas.List.Sums.{position_or_len_is}
use Rattle.pads_value.specs.declared.reading.Read.TheVariants.{Good, Hard}
use Rattle.pads_value.specs.declared.cause.Cause.TheVariants as cause
use Rattle.pads_code.specs.declared.Coding.{Coding}
use Rattle.pads_code.specs.CodePage.{point, byte_of, points_of}
use Rattle.pads_code.proofs.CodePageLemmas.{point-byte_of, byte_of-point}
use Rattle.pads_code.proofs.TextLemmas.{length-points, points-take}
use Rattle.pads_bases.specs.Strings.{until_reading, fixed_reading, char_reading}

pub if_ok_same : {T E : Type 0} (r : Result T E) (a b : T) → a ≡ b → IfOk r (λ x. x ≡ a) → IfOk r (λ x. x ≡ b)
if_ok_same {T} r a b e h = subst (λ (y : T). IfOk r (λ x. x ≡ y)) e h

point_at : (coding : Coding) (stop : ℕ) (bytes : List ℕ) (k : ℕ) (b : Bool) → k < length bytes → nat_eq (get_or bytes k 0) (byte_of coding stop) ≡ b → nat_eq (get_or (points_of coding bytes) k 0) stop ≡ b
point_at coding stop bytes k true lt h =
    rw (get_or-map (point coding) bytes k 0 0 lt, eqb-true _ _ h) (eq-eqb _ _ (point-byte_of coding stop))
point_at coding stop bytes k false lt h =
    rw (get_or-map (point coding) bytes k 0 0 lt)
    (ne_eqb (point coding (get_or bytes k 0)) stop (λ e. eqb-false _ _ h (sym (byte_of-point coding (get_or bytes k 0)) ∙ ap (byte_of coding) e)))

pub stop_found : (coding : Coding) (stop : ℕ) (bytes : List ℕ) (k : ℕ) → k < length bytes → nat_eq (get_or bytes k 0) (byte_of coding stop) ≡ true
    → ((j : ℕ) → j < k → nat_eq (get_or bytes j 0) (byte_of coding stop) ≡ false) → k ≡ position_or_len (λ p. nat_eq p stop) (points_of coding bytes)
stop_found coding stop bytes k lt here before =
    sym (position_or_len_is (λ p. nat_eq p stop) (points_of coding bytes) k 0 (omega (arith, length-points coding bytes))
    (λ j h. point_at coding stop bytes j false (omega arith) (before j h))
    (λ h. point_at coding stop bytes k true lt here))

pub stop_missing : (coding : Coding) (stop : ℕ) (bytes : List ℕ) → ((j : ℕ) → j < length bytes → nat_eq (get_or bytes j 0) (byte_of coding stop) ≡ false)
    → length bytes ≡ position_or_len (λ p. nat_eq p stop) (points_of coding bytes)
stop_missing coding stop bytes nowhere =
    sym (position_or_len_is (λ p. nat_eq p stop) (points_of coding bytes) (length bytes) 0 (omega (arith, length-points coding bytes))
    (λ j h. point_at coding stop bytes j false h (nowhere j h))
    (λ h. absurd (omega (arith, length-points coding bytes))))

pub text_until : (coding : Coding) (stop : ℕ) (bytes text : List ℕ) (n : ℕ) → n ≡ position_or_len (λ p. nat_eq p stop) (points_of coding bytes) → n ≤ length bytes → text ≡ take n bytes
    → Good (length text) (points_of coding text) ≡ until_reading coding (Some stop) bytes
unfolding until_reading
text_until coding stop bytes text n at le front =
    let size : length (take n (points_of coding bytes)) ≡ n = length-take-le n (points_of coding bytes) (omega (arith, length-points coding bytes)) in
    rw (front, length-take-le n bytes le, ← at, size, ← points-take coding n bytes) refl

pub text_to_end : (coding : Coding) (bytes : List ℕ) → Good (length bytes) (points_of coding bytes) ≡ until_reading coding None bytes
unfolding until_reading
text_to_end coding bytes = refl

pub fixed_without_width : (coding : Coding) (width : ℤ) (bytes : List ℕ) → int_lt width (pos 0) ≡ true → Hard cause.BadParam ≡ fixed_reading coding width bytes
unfolding fixed_reading
fixed_without_width coding (negsuc w) bytes low = refl
fixed_without_width coding (pos w) bytes low = absurd (grind (arith, ints))

pub fixed_short : (coding : Coding) (width : ℤ) (bytes : List ℕ) → int_lt width (pos 0) ≡ false → int_lt (pos (length bytes)) width ≡ true → Hard cause.Width ≡ fixed_reading coding width bytes
unfolding fixed_reading
fixed_short coding (negsuc w) bytes wide short = absurd (grind (arith, ints))
fixed_short coding (pos w) bytes wide short = rw short refl

pub fixed_whole : (coding : Coding) (width : ℤ) (bytes text : List ℕ) (w : ℕ) → int_lt (pos (length bytes)) width ≡ false → width ≡ pos w → w ≤ length bytes → text ≡ take w bytes
    → Good (length text) (points_of coding text) ≡ fixed_reading coding width bytes
unfolding fixed_reading
fixed_whole coding width bytes text w whole is le front =
    let enough : nat_lt (length bytes) w ≡ false = rw is at whole in
    rw (is, enough, front, length-take-le w bytes le) refl

pub char_missing : (coding : Coding) (bytes : List ℕ) → nat_eq (length bytes) 0 ≡ true → Hard cause.Width ≡ char_reading coding bytes
unfolding char_reading
char_missing coding [] none = refl
char_missing coding (b ∷ bs) none = absurd (grind (arith, eqb-true _ _ none))

pub char_there : (coding : Coding) (bytes text : List ℕ) → nat_eq (length bytes) 0 ≡ false → text ≡ take 1 bytes → Good (length text) (points_of coding text) ≡ char_reading coding bytes
unfolding char_reading
char_there coding [] text some front = cc
char_there coding (b ∷ bs) text some front = rw front refl

-- the same of what a search for the stop character's byte answers
pub search_found : (coding : Coding) (stop : ℕ) (bytes : List ℕ) (e k : ℕ) → e ≡ byte_of coding stop → k < length bytes → nat_eq (get_or bytes k 0) e ≡ true
    → ((j : ℕ) → 0 ≤ j → j < k → nat_eq (get_or bytes j 0) e ≡ true → ⊥) → k ≡ position_or_len (λ p. nat_eq p stop) (points_of coding bytes)
search_found coding stop bytes e k is lt here before =
    stop_found coding stop bytes k lt (rw is at here) (λ j h. rw (← is) (false_from_ne_true _ (before j (omega arith) h)))

pub search_missing : (coding : Coding) (stop : ℕ) (bytes : List ℕ) (e : ℕ) → e ≡ byte_of coding stop → ((j : ℕ) → 0 ≤ j → j < length bytes → nat_eq (get_or bytes j 0) e ≡ true → ⊥)
    → length bytes ≡ position_or_len (λ p. nat_eq p stop) (points_of coding bytes)
search_missing coding stop bytes e is nowhere =
    stop_missing coding stop bytes (λ j h. rw (← is) (false_from_ne_true _ (nowhere j (omega arith) h)))
