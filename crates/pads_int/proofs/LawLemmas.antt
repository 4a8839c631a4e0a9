-- Integers read what they spell: what is read is spelled so and has a canonical spelling that is no longer,
-- and a canonical spelling reads back whole.
use Rattle.std.proofs.Common.{◌≡◌, ℕ, ◌≤◌, ◌&&◌, true, false, ℤ, pos, negsuc, List, length, take, map, Some, refl, sym, ap, ◌∙◌, arith, cond, zero, suc, not, length-take-le, length-append, replicate, ◌<◌, nat_eq, nat_le, nat_lt}
use Rattle.std.specs.Option.{IsSomeAnd}
use Rattle.std.specs.Int.RustNames.{unsigned_abs}
use Rattle.std.specs.Fmt.{signed_decimal}
use Rattle.std.proofs.lemmas.List.{length-map}
use Rattle.std.proofs.Math.Seq.{take-length}
use Rattle.std.proofs.lemmas.Bool.{ne_eqb, eqb-false, ltb-false, le-ltb, le-leb, leb-true, and_parts, not-true}
use Rattle.pads_value.specs.declared.cause.Cause.TheVariants as cause
use Rattle.pads_value.specs.declared.reading.Read.TheVariants.{Good, Hard}
use Rattle.pads_code.specs.declared.Coding.{Coding}
use Rattle.pads_code.specs.CodePage.{byte_of, points_of}
use Rattle.pads_code.proofs.TextLemmas.{points-bytes, length-points, points-take}
use Rattle.pads_code.proofs.NumeralLemmas.{spelled_if}
use Rattle.pads_int.specs.declared.kind.Kind.{Kind}
use Rattle.pads_int.specs.Kinds.{in_range}
use Rattle.pads_int.specs.Readings.{blank, field_reading, int_reading, int_fw_reading}
use Rattle.pads_int.specs.Spellings.{int_spelling, int_fw_spelling, signed_padded, is_field_width, widest}
use Rattle.pads_int.specs.Texts.{SpellsInt, SpellsIntFw}
use Rattle.pads_int.proofs.TextLemmas.{good_not_hard, read_is_text, text_is_read, field_is_read, read_is_field}
use Rattle.pads_int.proofs.CanonicalLemmas.{plain_text, padded_text, length-padded, none_is_shorter}

-- integers as long as their digits go

pub int_within : (kind : Kind) (coding : Coding) (bytes : List ℕ) (n : ℕ) (v : ℤ) → int_reading kind coding bytes ≡ Good n v → n ≤ length bytes
unfolding int_reading
int_within kind coding bytes n v e = omega (arith, (read_is_text kind (points_of coding bytes) n v e).within, length-points coding bytes)

pub int_spelled : (kind : Kind) (coding : Coding) (bytes : List ℕ) (n : ℕ) (v : ℤ) → int_reading kind coding bytes ≡ Good n v → SpellsInt kind coding v (take n bytes)
unfolding int_reading
int_spelled kind coding bytes n v e = rw (points-take coding n bytes) at (read_is_text kind (points_of coding bytes) n v e).text

spelled_length : (kind : Kind) (coding : Coding) (v : ℤ) → in_range kind v ≡ true → (n : ℕ) → length (signed_decimal v) ≤ n → IsSomeAnd (int_spelling kind coding v) (λ s. length s ≤ n)
unfolding int_spelling
spelled_length kind coding v within n le = rw within (omega (arith, length-map (signed_decimal v) (byte_of coding)))

pub int_canonical : (kind : Kind) (coding : Coding) (bytes : List ℕ) (n : ℕ) (v : ℤ) → int_reading kind coding bytes ≡ Good n v → IsSomeAnd (int_spelling kind coding v) (λ s. length s ≤ n)
unfolding int_reading
int_canonical kind coding bytes n v e =
    let read = read_is_text kind (points_of coding bytes) n v e in
    spelled_length kind coding v read.text.ranged n (omega (arith, none_is_shorter kind v (take n (points_of coding bytes)) read.text, length-take-le n (points_of coding bytes) read.within))

pub int_spells : (kind : Kind) (coding : Coding) (v : ℤ) (s : List ℕ) → int_spelling kind coding v ≡ Some s → SpellsInt kind coding v s
unfolding int_spelling
int_spells kind coding v s e =
    let parts = spelled_if (in_range kind v) (map (byte_of coding) (signed_decimal v)) s e in
    rw (parts.1, points-bytes coding (signed_decimal v)) (plain_text kind v parts.0)

pub int_reads_back : (kind : Kind) (coding : Coding) (v : ℤ) (bytes : List ℕ) → SpellsInt kind coding v bytes → int_reading kind coding bytes ≡ Good (length bytes) v
unfolding int_reading
int_reads_back kind coding v bytes spells = text_is_read kind v (points_of coding bytes) spells ∙ ap (λ n. Good n v) (length-points coding bytes)

-- integers in a field

-- what a good reading of a field says of its width
record FieldRead (kind : Kind) (coding : Coding) (width : ℤ) (bytes : List ℕ) (n : ℕ) (v : ℤ) : Type 0 where
  size : ℕ
  is : width ≡ pos size
  some : 0 < size
  there : size ≤ length bytes
  reads : field_reading kind (points_of coding (take size bytes)) ≡ Good n v

field_read : (kind : Kind) (coding : Coding) (width : ℤ) (bytes : List ℕ) (n : ℕ) (v : ℤ) → int_fw_reading kind coding width bytes ≡ Good n v → FieldRead kind coding width bytes n v
unfolding int_fw_reading
field_read kind coding (negsuc w) bytes n v e = cc
field_read kind coding (pos w) bytes n v e =
    let field = field_reading kind (points_of coding (take w bytes)) in
    let wide = good_not_hard (nat_eq w 0) cause.BadParam (cond (nat_lt (length bytes) w) (Hard cause.Width) field) n v e in
    let long = good_not_hard (nat_lt (length bytes) w) cause.Width field n v wide.1 in
    record { size = w; is = refl; some = grind (arith, eqb-false _ _ wide.0); there = ltb-false _ _ long.0; reads = long.1 }

field_size : (coding : Coding) (size : ℕ) (bytes : List ℕ) → size ≤ length bytes → length (points_of coding (take size bytes)) ≡ size
field_size coding size bytes le = length-points coding (take size bytes) ∙ length-take-le size bytes le

pub int_fw_within : (kind : Kind) (coding : Coding) (width : ℤ) (bytes : List ℕ) (n : ℕ) (v : ℤ) → int_fw_reading kind coding width bytes ≡ Good n v → (width ≡ pos n) × (n ≤ length bytes)
int_fw_within kind coding width bytes n v e =
    let f = field_read kind coding width bytes n v e in
    let whole = read_is_field kind (points_of coding (take f.size bytes)) n v f.reads in
    let same : n ≡ f.size = whole.0 ∙ field_size coding f.size bytes f.there in
    (f.is ∙ ap pos (sym same), omega (arith, f.there))

pub int_fw_spelled : (kind : Kind) (coding : Coding) (width : ℤ) (bytes : List ℕ) (n : ℕ) (v : ℤ) → int_fw_reading kind coding width bytes ≡ Good n v → SpellsIntFw kind coding width v (take n bytes)
int_fw_spelled kind coding width bytes n v e =
    let f = field_read kind coding width bytes n v e in
    let whole = read_is_field kind (points_of coding (take f.size bytes)) n v f.reads in
    let same : n ≡ f.size = whole.0 ∙ field_size coding f.size bytes f.there in
    rw same record {
      fills = f.is ∙ ap pos (sym (length-take-le f.size bytes f.there));
      blanks = whole.1.blanks;
      text = whole.1.text;
      parts = whole.1.parts;
      integer = whole.1.integer;
    }

fitting : (kind : Kind) (coding : Coding) (width : ℤ) (size n : ℕ) (v : ℤ) → width ≡ pos size → 0 < size → size ≤ widest → size ≤ n → in_range kind v ≡ true → length (signed_decimal v) ≤ size
    → IsSomeAnd (int_fw_spelling kind coding width v) (λ s. length s ≤ n)
unfolding int_fw_spelling
fitting kind coding width size n v is some narrow below within fits =
    let low : nat_lt size 1 ≡ false = le-ltb size 1 (omega arith) in
    let high : nat_lt widest size ≡ false = le-ltb widest size narrow in
    let room : nat_le (length (signed_decimal v)) size ≡ true = le-leb (length (signed_decimal v)) size fits in
    rw (is, low, high, within, room) (omega (arith, length-map (signed_padded size v) (byte_of coding), length-padded size v fits))

pub int_fw_canonical : (kind : Kind) (coding : Coding) (width : ℤ) (bytes : List ℕ) (n : ℕ) (v : ℤ) → int_fw_reading kind coding width bytes ≡ Good n v → n ≤ widest
    → IsSomeAnd (int_fw_spelling kind coding width v) (λ s. length s ≤ n)
int_fw_canonical kind coding width bytes n v e narrow =
    let f = field_read kind coding width bytes n v e in
    let whole = read_is_field kind (points_of coding (take f.size bytes)) n v f.reads in
    let same : n ≡ f.size = whole.0 ∙ field_size coding f.size bytes f.there in
    let t = whole.1 in
    let fits : length (signed_decimal v) ≤ f.size =
    omega (arith, none_is_shorter kind v t.text t.integer, ap length t.parts, length-append (replicate t.blanks blank) t.text, field_size coding f.size bytes f.there) in
    fitting kind coding width f.size n v f.is f.some (omega arith) (omega arith) t.integer.ranged fits

-- a field that is spelled has a size, from 1
pub field_width : (width : ℤ) → is_field_width width ≡ true → (width ≡ pos (unsigned_abs width)) × (0 < unsigned_abs width)
field_width (negsuc w) h = cc
field_width (pos w) h = (refl, ltb-false w 1 (not-true (nat_lt w 1) (and_parts _ _ h).0))

pub int_fw_spells : (kind : Kind) (coding : Coding) (width v : ℤ) (s : List ℕ) → int_fw_spelling kind coding width v ≡ Some s → SpellsIntFw kind coding width v s
unfolding int_fw_spelling
int_fw_spells kind coding width v s e =
    let size = unsigned_abs width in
    let room = nat_le (length (signed_decimal v)) size in
    let parts = spelled_if (is_field_width width && (in_range kind v && room)) (map (byte_of coding) (signed_padded size v)) s e in
    let field = and_parts (is_field_width width) (in_range kind v && room) parts.0 in
    let fits = and_parts (in_range kind v) room field.1 in
    let long = length-padded size v (leb-true _ _ fits.1) in
    record {
      fills = (field_width width field.0).0 ∙ ap pos (sym (ap length parts.1 ∙ length-map (signed_padded size v) (byte_of coding) ∙ long));
      blanks = 0;
      text = signed_padded size v;
      parts = rw parts.1 (points-bytes coding (signed_padded size v));
      integer = padded_text kind size v fits.0;
    }

-- a field that spells an integer has a digit
some_digit : (n : ℕ) → not (nat_eq n 0) ≡ true → 0 < n
some_digit zero h = absurd cc
some_digit (suc n) h = omega arith

has_digits : (kind : Kind) (coding : Coding) (width v : ℤ) (bytes : List ℕ) → SpellsIntFw kind coding width v bytes → 0 < length bytes
has_digits kind coding width v bytes spells =
    let text = spells.integer in
    let some : 0 < length text.digits = some_digit (length text.digits) (and_parts _ _ text.numeral).0 in
    omega (arith, some, length-points coding bytes, ap length spells.parts, length-append (replicate spells.blanks blank) spells.text, ap length text.parts, length-append text.sign text.digits)

pub int_fw_reads_back : (kind : Kind) (coding : Coding) (width v : ℤ) (bytes : List ℕ) → SpellsIntFw kind coding width v bytes → int_fw_reading kind coding width bytes ≡ Good (length bytes) v
unfolding int_fw_reading
int_fw_reads_back kind coding width v bytes f =
    let some = has_digits kind coding width v bytes f in
    let field : field_reading kind (points_of coding bytes) ≡ Good (length bytes) v =
    field_is_read kind v (points_of coding bytes) (record { blanks = f.blanks; text = f.text; parts = f.parts; integer = f.integer }) ∙ ap (λ n. Good n v) (length-points coding bytes) in
    let wide : nat_eq (length bytes) 0 ≡ false = ne_eqb (length bytes) 0 (λ none. omega arith) in
    let long : nat_lt (length bytes) (length bytes) ≡ false = le-ltb (length bytes) (length bytes) (omega arith) in
    rw (f.fills, wide, long, take-length bytes) field

-- the canonical spelling reads back whole
pub int_canonical_reads_back : (kind : Kind) (coding : Coding) (v : ℤ) (s : List ℕ) → int_spelling kind coding v ≡ Some s → int_reading kind coding s ≡ Good (length s) v
int_canonical_reads_back kind coding v s e = int_reads_back kind coding v s (int_spells kind coding v s e)

pub int_fw_canonical_reads_back : (kind : Kind) (coding : Coding) (width v : ℤ) (s : List ℕ) → int_fw_spelling kind coding width v ≡ Some s → int_fw_reading kind coding width s ≡ Good (length s) v
int_fw_canonical_reads_back kind coding width v s e = int_fw_reads_back kind coding width v s (int_fw_spells kind coding width v s e)
