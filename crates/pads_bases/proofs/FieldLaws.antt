-- Texts of a fixed width, characters and class texts read what they spell.
use Rattle.std.proofs.Common.{◌≡◌, ℕ, ◌≤◌, ◌&&◌, true, false, not, cond, ℤ, pos, negsuc, nat_eq, nat_lt, nat_le, List, [], ◌∷◌, length, take, Some, refl, sym, ap, ◌∙◌, arith, length-take-le}
use Rattle.std.specs.Option.{IsSomeAnd}
use Rattle.std.specs.List.{take_while, list_all}
use Rattle.std.proofs.Math.Seq.{take-length}
use Rattle.std.proofs.lemmas.Bool.{eq-eqb, eqb-true, ltb-false, le-ltb, le-leb, and_parts, not-false, not-true}
use Rattle.pads_value.specs.declared.reading.Read.TheVariants.{Good, Hard}
use Rattle.pads_value.specs.declared.cause.Cause.TheVariants as cause
use Rattle.pads_code.specs.declared.Coding.{Coding}
use Rattle.pads_code.specs.CodePage.{point, points_of, bytes_of}
use Rattle.pads_code.proofs.TextLemmas.{length-points, length-bytes, points-bytes}
use Rattle.pads_code.proofs.NumeralLemmas.{run_passes, whole_run, spelled_if}
use Rattle.pads_bases.specs.Strings.{fixed_reading, char_reading, fixed_spelling, char_spelling, SpellsFixed, SpellsChar, widest}
use Rattle.pads_bases.specs.Classes.{is_class, has_point, is_class_text, class_reading, class_spelling, SpellsClass}
use Rattle.pads_bases.proofs.StringLaws.{good_parts, not_hard, TakesRun, takes_run}

-- of a fixed width

record FixedRead (coding : Coding) (width : ℤ) (bytes : List ℕ) (n : ℕ) (v : List ℕ) : Type 0 where
  is : width ≡ pos n
  there : n ≤ length bytes
  text : v ≡ points_of coding (take n bytes)

fixed_read : (coding : Coding) (width : ℤ) (bytes : List ℕ) (n : ℕ) (v : List ℕ) → fixed_reading coding width bytes ≡ Good n v → FixedRead coding width bytes n v
unfolding fixed_reading
fixed_read coding (negsuc w) bytes n v e = cc
fixed_read coding (pos w) bytes n v e =
    let long = not_hard (nat_lt (length bytes) w) cause.Width (Good w (points_of coding (take w bytes))) n v e in
    let good = good_parts w n (points_of coding (take w bytes)) v long.1 in
    record {
      is = ap pos (sym good.0);
      there = omega (arith, good.0, ltb-false _ _ long.0);
      text = good.1 ∙ ap (λ (k : ℕ). points_of coding (take k bytes)) (sym good.0);
    }

pub fixed_within : (coding : Coding) (width : ℤ) (bytes : List ℕ) (n : ℕ) (v : List ℕ) → fixed_reading coding width bytes ≡ Good n v → n ≤ length bytes
fixed_within coding width bytes n v e = (fixed_read coding width bytes n v e).there

pub fixed_spelled : (coding : Coding) (width : ℤ) (bytes : List ℕ) (n : ℕ) (v : List ℕ) → fixed_reading coding width bytes ≡ Good n v → SpellsFixed coding width v (take n bytes)
fixed_spelled coding width bytes n v e =
    let f = fixed_read coding width bytes n v e in
    record { same = sym f.text; fills = f.is ∙ ap pos (sym (length-take-le n bytes f.there)) }

fixed_fits : (coding : Coding) (width : ℤ) (n : ℕ) (v : List ℕ) → width ≡ pos n → n ≡ length v → n ≤ widest → IsSomeAnd (fixed_spelling coding width v) (λ s. length s ≤ n)
unfolding fixed_spelling
fixed_fits coding width n v is size narrow = rw (is, eq-eqb n (length v) size, le-leb n widest narrow) (omega (arith, length-bytes coding v, size))

pub fixed_canonical : (coding : Coding) (width : ℤ) (bytes : List ℕ) (n : ℕ) (v : List ℕ) → fixed_reading coding width bytes ≡ Good n v → n ≤ widest → IsSomeAnd (fixed_spelling coding width v) (λ s. length s ≤ n)
fixed_canonical coding width bytes n v e narrow =
    let f = fixed_read coding width bytes n v e in
    let size : n ≡ length v = sym (ap length f.text ∙ length-points coding (take n bytes) ∙ length-take-le n bytes f.there) in
    fixed_fits coding width n v f.is size narrow

pub fixed_reads_back : (coding : Coding) (width : ℤ) (v bytes : List ℕ) → SpellsFixed coding width v bytes → fixed_reading coding width bytes ≡ Good (length bytes) v
unfolding fixed_reading
fixed_reads_back coding width v bytes spells =
    rw (spells.fills, le-ltb (length bytes) (length bytes) (omega arith), take-length bytes, spells.same) refl

pub fixed_canonical_reads_back : (coding : Coding) (width : ℤ) (v s : List ℕ) → fixed_spelling coding width v ≡ Some s → fixed_reading coding width s ≡ Good (length s) v
unfolding fixed_spelling
fixed_canonical_reads_back coding (negsuc w) v s e = cc
fixed_canonical_reads_back coding (pos w) v s e =
    let parts = spelled_if (nat_eq w (length v) && nat_le w widest) (bytes_of coding v) s e in
    let size : w ≡ length v = eqb-true _ _ (and_parts _ _ parts.0).0 in
    fixed_reads_back coding (pos w) v s (record {
      same = rw parts.1 (points-bytes coding v);
      fills = ap pos (size ∙ sym (length-bytes coding v) ∙ ap length (sym parts.1));
    })

-- single characters

pub char_within : (coding : Coding) (bytes : List ℕ) (n : ℕ) (v : List ℕ) → char_reading coding bytes ≡ Good n v → n ≤ length bytes
unfolding char_reading
char_within coding [] n v e = cc
char_within coding (b ∷ bs) n v e = omega (arith, (good_parts 1 n (point coding b ∷ []) v e).0)

pub char_spelled : (coding : Coding) (bytes : List ℕ) (n : ℕ) (v : List ℕ) → char_reading coding bytes ≡ Good n v → SpellsChar coding v (take n bytes)
unfolding char_reading
char_spelled coding [] n v e = cc
char_spelled coding (b ∷ bs) n v e =
    let good = good_parts 1 n (point coding b ∷ []) v e in
    record { same = rw (good.0, good.1) refl; one = rw good.1 refl }

pub char_canonical : (coding : Coding) (bytes : List ℕ) (n : ℕ) (v : List ℕ) → char_reading coding bytes ≡ Good n v → IsSomeAnd (char_spelling coding v) (λ s. length s ≤ n)
unfolding char_reading char_spelling
char_canonical coding [] n v e = cc
char_canonical coding (b ∷ bs) n v e =
    let good = good_parts 1 n (point coding b ∷ []) v e in
    rw (good.1, good.0) (omega arith)

pub char_reads_back : (coding : Coding) (v bytes : List ℕ) → SpellsChar coding v bytes → char_reading coding bytes ≡ Good (length bytes) v
unfolding char_reading
char_reads_back coding v [] spells = absurd (omega (arith, ap length spells.same, spells.one))
char_reads_back coding v (b ∷ []) spells = rw (← spells.same) refl
char_reads_back coding v (b ∷ c ∷ bs) spells = absurd (omega (arith, ap length spells.same, spells.one, length-points coding bs))

pub char_canonical_reads_back : (coding : Coding) (v s : List ℕ) → char_spelling coding v ≡ Some s → char_reading coding s ≡ Good (length s) v
unfolding char_spelling
char_canonical_reads_back coding v s e =
    let parts = spelled_if (nat_eq (length v) 1) (bytes_of coding v) s e in
    char_reads_back coding v s (record { same = rw parts.1 (points-bytes coding v); one = eqb-true _ _ parts.0 })

-- class texts

record ClassRead (coding : Coding) (class bytes : List ℕ) (n : ℕ) (v : List ℕ) : Type 0 where
  run : TakesRun coding (has_point class) bytes n v
  size : n ≡ length v
  of_class : is_class_text class v ≡ true

class_read : (coding : Coding) (class bytes : List ℕ) (n : ℕ) (v : List ℕ) → class_reading coding class bytes ≡ Good n v → ClassRead coding class bytes n v
unfolding class_reading
class_read coding class bytes n v e =
    let text = take_while (has_point class) (points_of coding bytes) in
    let formed = not_hard (not (is_class class)) cause.BadParam (cond (nat_eq (length text) 0) (Hard cause.Invalid) (Good (length text) text)) n v e in
    let some = not_hard (nat_eq (length text) 0) cause.Invalid (Good (length text) text) n v formed.1 in
    let good = good_parts (length text) n text v some.1 in
    let class_is : is_class class ≡ true = not-false (is_class class) formed.0 in
    record {
      run = takes_run coding (has_point class) bytes n v good.0 good.1;
      size = good.0 ∙ ap length (sym good.1);
      of_class = rw (good.1, class_is, some.0) (run_passes (has_point class) (points_of coding bytes));
    }

pub class_within : (coding : Coding) (class bytes : List ℕ) (n : ℕ) (v : List ℕ) → class_reading coding class bytes ≡ Good n v → n ≤ length bytes
class_within coding class bytes n v e = (class_read coding class bytes n v e).run.within

pub class_spelled : (coding : Coding) (class bytes : List ℕ) (n : ℕ) (v : List ℕ) → class_reading coding class bytes ≡ Good n v → SpellsClass coding class v (take n bytes)
class_spelled coding class bytes n v e =
    let c = class_read coding class bytes n v e in
    record { same = c.run.same; of_class = c.of_class }

class_fits : (coding : Coding) (class : List ℕ) (n : ℕ) (v : List ℕ) → n ≡ length v → is_class_text class v ≡ true → IsSomeAnd (class_spelling coding class v) (λ s. length s ≤ n)
unfolding class_spelling
class_fits coding class n v size of_class = rw of_class (omega (arith, length-bytes coding v, size))

pub class_canonical : (coding : Coding) (class bytes : List ℕ) (n : ℕ) (v : List ℕ) → class_reading coding class bytes ≡ Good n v → IsSomeAnd (class_spelling coding class v) (λ s. length s ≤ n)
class_canonical coding class bytes n v e =
    let c = class_read coding class bytes n v e in
    class_fits coding class n v c.size c.of_class

pub class_reads_back : (coding : Coding) (class v bytes : List ℕ) → SpellsClass coding class v bytes → class_reading coding class bytes ≡ Good (length bytes) v
unfolding class_reading
class_reads_back coding class v bytes spells =
    let formed = and_parts (is_class class) (not (nat_eq (length v) 0) && list_all (has_point class) v) spells.of_class in
    let parts = and_parts (not (nat_eq (length v) 0)) (list_all (has_point class) v) formed.1 in
    let some : nat_eq (length v) 0 ≡ false = not-true (nat_eq (length v) 0) parts.0 in
    let size : length v ≡ length bytes = ap length (sym spells.same) ∙ length-points coding bytes in
    rw (spells.same, whole_run (has_point class) v parts.1, formed.0, some, size) refl

pub class_canonical_reads_back : (coding : Coding) (class v s : List ℕ) → class_spelling coding class v ≡ Some s → class_reading coding class s ≡ Good (length s) v
unfolding class_spelling
class_canonical_reads_back coding class v s e =
    let parts = spelled_if (is_class_text class v) (bytes_of coding v) s e in
    class_reads_back coding class v s (record { same = rw parts.1 (points-bytes coding v); of_class = parts.0 })
