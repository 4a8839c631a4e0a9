-- Base types read what they spell: each of their forms by its own law.
use Rattle.std.proofs.Common.{nat_lt, ◌≡◌, ℕ, ℤ, pos, negsuc, ◌≤ℤ◌, ◌≤◌, List, length, take, Option, Some, None, refl, sym, ap, arith}
use Rattle.std.specs.Option.{IsSomeAnd, option_and_then}
use Rattle.std.proofs.lemmas.Int.{ints}
use Rattle.pads_value.specs.declared.value.Val.{Val}
use Rattle.pads_value.specs.declared.value.Val.TheVariants as val
use Rattle.pads_value.specs.declared.reading.Read.TheVariants.{Good}
use Rattle.pads_value.specs.declared.cause.Cause.TheVariants as cause
use Rattle.pads_code.specs.declared.Coding.{Coding}
use Rattle.pads_code.specs.CodePage.{points_of}
use Rattle.pads_int.specs.Readings.{int_reading, int_fw_reading}
use Rattle.pads_int.specs.Spellings.{int_spelling, int_fw_spelling}
use Rattle.pads_int.specs.Texts.{SpellsInt, SpellsIntFw}
use Rattle.pads_int.proofs.LawLemmas.{int_spelled, int_canonical, int_reads_back, int_canonical_reads_back, int_fw_within, int_fw_spelled, int_fw_canonical, int_fw_reads_back, int_fw_canonical_reads_back}
use Rattle.pads_bases.specs.Addresses.{ip_reading, ip_spelling, SpellsIp}
use Rattle.pads_bases.specs.Binaries.{bin_reading, bin_spelling, SpellsBin}
use Rattle.pads_bases.specs.Classes.{class_reading, class_spelling, SpellsClass}
use Rattle.pads_bases.specs.Enums.{enum_reading, enum_spelling, SpellsEnum}
use Rattle.pads_bases.specs.Strings.{until_reading, fixed_reading, char_reading, until_spelling, fixed_spelling, char_spelling, SpellsUntil, SpellsFixed, SpellsChar, widest}
use Rattle.pads_bases.proofs.AddressLaws.{ip_canonical, ip_canonical_reads_back, ip_reads_back, ip_spelled}
use Rattle.pads_bases.proofs.BinaryLaws.{bin_canonical, bin_canonical_reads_back, bin_reads_back, bin_spelled}
use Rattle.pads_bases.proofs.ChoiceLaws.{enum_canonical, enum_canonical_reads_back, enum_reads_back, enum_spelled}
use Rattle.pads_bases.proofs.FieldLaws.{char_canonical, char_canonical_reads_back, char_reads_back, char_spelled, class_canonical, class_canonical_reads_back, class_reads_back, class_spelled, fixed_canonical, fixed_canonical_reads_back, fixed_reads_back, fixed_spelled}
use Rattle.pads_bases.proofs.StringLaws.{not_hard, good_parts, until_canonical, until_canonical_reads_back, until_reads_back, until_spelled}
use Rattle.pads_decimal.specs.Packed.{packed_reading, packed_spelling, SpellsPacked}
use Rattle.pads_decimal.specs.Zoned.{zoned_reading, zoned_spelling, SpellsZoned}
use Rattle.pads_decimal.proofs.PackedLaws.{packed_spelled, packed_canonical, packed_reads_back, packed_canonical_reads_back}
use Rattle.pads_decimal.proofs.ZonedLaws.{zoned_spelled, zoned_canonical, zoned_reads_back, zoned_canonical_reads_back}
use Rattle.pads_dispatch.specs.declared.base.Arg.{Arg}
use Rattle.pads_dispatch.specs.declared.base.Base.{Base}
use Rattle.pads_dispatch.specs.Applied.{Applied, applied, integer, field, binary, until, fixed, class, char, address, labelled, packed, zoned}
use Rattle.pads_dispatch.specs.Conditions.{Holds, IsNarrow, HasNoStopOf, LabelsDiffer}
use Rattle.pads_dispatch.specs.Kinds.{range_of}
use Rattle.pads_dispatch.specs.Readings.{reading_of, reading_or_bad_param, base_reading}
use Rattle.pads_dispatch.specs.Spellings.{number_of, text_of, label_of, spelling_of, base_spelling}
use Rattle.pads_dispatch.specs.Texts.{SpellsApplied, SpellsBase}
use Rattle.pads_dispatch.proofs.Lifts.{lift_spelled, lift_reads_back, lift_canonical, lift_canonical_reads_back}
use Rattle.pads_dispatch.proofs.Takes.{base-takes}
use Rattle.pads_dispatch.proofs.Values.{number_of-Num, text_of-Text, label_of-Enum, is-Num, is-Text, is-Enum}

fixed_width : (coding : Coding) (width : ℤ) (bytes : List ℕ) (n : ℕ) (v : List ℕ) → fixed_reading coding width bytes ≡ Good n v → width ≡ pos n
unfolding fixed_reading
fixed_width coding (negsuc w) bytes n v e = absurd cc
fixed_width coding (pos w) bytes n v e =
    let long = not_hard (nat_lt (length bytes) w) cause.Width (Good w (points_of coding (take w bytes))) n v e in
    ap pos (sym (good_parts w n (points_of coding (take w bytes)) v long.1).0)

pub spelled : (whole : Applied) (bytes : List ℕ) (n : ℕ) (v : Val) → reading_of whole bytes ≡ Good n v → SpellsApplied whole v (take n bytes)
spelled (integer kind coding) bytes n v e = lift_spelled val.Num (SpellsInt kind coding) (int_reading kind coding bytes) n v (take n bytes) (int_spelled kind coding bytes n) e
spelled (field kind coding width) bytes n v e = lift_spelled val.Num (SpellsIntFw kind coding width) (int_fw_reading kind coding width bytes) n v (take n bytes) (int_fw_spelled kind coding width bytes n) e
spelled (binary kind order size) bytes n v e = lift_spelled val.Num (SpellsBin (range_of kind) order size) (bin_reading (range_of kind) order size bytes) n v (take n bytes) (bin_spelled (range_of kind) order size bytes n) e
spelled (until coding stop) bytes n v e = lift_spelled val.Text (SpellsUntil coding stop) (until_reading coding stop bytes) n v (take n bytes) (until_spelled coding stop bytes n) e
spelled (fixed coding width) bytes n v e = lift_spelled val.Text (SpellsFixed coding width) (fixed_reading coding width bytes) n v (take n bytes) (fixed_spelled coding width bytes n) e
spelled (class coding chars) bytes n v e = lift_spelled val.Text (SpellsClass coding chars) (class_reading coding chars bytes) n v (take n bytes) (class_spelled coding chars bytes n) e
spelled (char coding) bytes n v e = lift_spelled val.Text (SpellsChar coding) (char_reading coding bytes) n v (take n bytes) (char_spelled coding bytes n) e
spelled (address coding) bytes n v e = lift_spelled val.Num (SpellsIp coding) (ip_reading coding bytes) n v (take n bytes) (ip_spelled coding bytes n) e
spelled (labelled coding labels) bytes n v e = lift_spelled val.Enum (SpellsEnum coding labels) (enum_reading coding labels bytes) n v (take n bytes) (enum_spelled coding labels bytes n) e
spelled (packed signed digits) bytes n v e = lift_spelled val.Num (SpellsPacked digits signed) (packed_reading digits signed bytes) n v (take n bytes) (packed_spelled digits signed bytes n) e
spelled (zoned signed digits) bytes n v e = lift_spelled val.Num (SpellsZoned digits signed) (zoned_reading digits signed bytes) n v (take n bytes) (zoned_spelled digits signed bytes n) e

-- what is read of a field is as wide as it
narrow : (n w : ℕ) (width : ℤ) → width ≡ pos n → width ≤ℤ pos w → n ≤ w
narrow n w width is le = let bound : pos n ≤ℤ pos w = rw is at le in grind (arith, ints)

pub canonical : (whole : Applied) (bytes : List ℕ) (n : ℕ) (v : Val) → IsNarrow whole → reading_of whole bytes ≡ Good n v → IsSomeAnd (spelling_of whole v) (λ s. length s ≤ n)
canonical (integer kind coding) bytes n v _ e = lift_canonical val.Num number_of (int_spelling kind coding) number_of-Num (int_reading kind coding bytes) n v (int_canonical kind coding bytes n) e
canonical (field kind coding width) bytes n v thin e = lift_canonical val.Num number_of (int_fw_spelling kind coding width) number_of-Num (int_fw_reading kind coding width bytes) n v (λ x reads. int_fw_canonical kind coding width bytes n x reads (narrow n widest width (int_fw_within kind coding width bytes n x reads).0 thin)) e
canonical (binary kind order size) bytes n v _ e = lift_canonical val.Num number_of (bin_spelling (range_of kind) order size) number_of-Num (bin_reading (range_of kind) order size bytes) n v (bin_canonical (range_of kind) order size bytes n) e
canonical (until coding stop) bytes n v _ e = lift_canonical val.Text text_of (until_spelling coding) text_of-Text (until_reading coding stop bytes) n v (until_canonical coding stop bytes n) e
canonical (fixed coding width) bytes n v thin e = lift_canonical val.Text text_of (fixed_spelling coding width) text_of-Text (fixed_reading coding width bytes) n v (λ x reads. fixed_canonical coding width bytes n x reads (narrow n widest width (fixed_width coding width bytes n x reads) thin)) e
canonical (class coding chars) bytes n v _ e = lift_canonical val.Text text_of (class_spelling coding chars) text_of-Text (class_reading coding chars bytes) n v (class_canonical coding chars bytes n) e
canonical (char coding) bytes n v _ e = lift_canonical val.Text text_of (char_spelling coding) text_of-Text (char_reading coding bytes) n v (char_canonical coding bytes n) e
canonical (address coding) bytes n v _ e = lift_canonical val.Num number_of (ip_spelling coding) number_of-Num (ip_reading coding bytes) n v (ip_canonical coding bytes n) e
canonical (labelled coding labels) bytes n v _ e = lift_canonical val.Enum label_of (enum_spelling coding labels) label_of-Enum (enum_reading coding labels bytes) n v (enum_canonical coding labels bytes n) e
canonical (packed signed digits) bytes n v _ e = lift_canonical val.Num number_of (packed_spelling digits signed) number_of-Num (packed_reading digits signed bytes) n v (packed_canonical digits signed bytes n) e
canonical (zoned signed digits) bytes n v _ e = lift_canonical val.Num number_of (zoned_spelling digits signed) number_of-Num (zoned_reading digits signed bytes) n v (zoned_canonical digits signed bytes n) e

pub reads_back : (whole : Applied) (v : Val) (bytes : List ℕ) → LabelsDiffer whole → SpellsApplied whole v bytes → reading_of whole bytes ≡ Good (length bytes) v
reads_back (integer kind coding) v bytes _ spelled = lift_reads_back val.Num (SpellsInt kind coding) (int_reading kind coding bytes) (length bytes) v bytes (λ x. int_reads_back kind coding x bytes) spelled
reads_back (field kind coding width) v bytes _ spelled = lift_reads_back val.Num (SpellsIntFw kind coding width) (int_fw_reading kind coding width bytes) (length bytes) v bytes (λ x. int_fw_reads_back kind coding width x bytes) spelled
reads_back (binary kind order size) v bytes _ spelled = lift_reads_back val.Num (SpellsBin (range_of kind) order size) (bin_reading (range_of kind) order size bytes) (length bytes) v bytes (λ x. bin_reads_back (range_of kind) order size x bytes) spelled
reads_back (until coding stop) v bytes _ spelled = lift_reads_back val.Text (SpellsUntil coding stop) (until_reading coding stop bytes) (length bytes) v bytes (λ x. until_reads_back coding stop x bytes) spelled
reads_back (fixed coding width) v bytes _ spelled = lift_reads_back val.Text (SpellsFixed coding width) (fixed_reading coding width bytes) (length bytes) v bytes (λ x. fixed_reads_back coding width x bytes) spelled
reads_back (class coding chars) v bytes _ spelled = lift_reads_back val.Text (SpellsClass coding chars) (class_reading coding chars bytes) (length bytes) v bytes (λ x. class_reads_back coding chars x bytes) spelled
reads_back (char coding) v bytes _ spelled = lift_reads_back val.Text (SpellsChar coding) (char_reading coding bytes) (length bytes) v bytes (λ x. char_reads_back coding x bytes) spelled
reads_back (address coding) v bytes _ spelled = lift_reads_back val.Num (SpellsIp coding) (ip_reading coding bytes) (length bytes) v bytes (λ x. ip_reads_back coding x bytes) spelled
reads_back (labelled coding labels) v bytes differ spelled = lift_reads_back val.Enum (SpellsEnum coding labels) (enum_reading coding labels bytes) (length bytes) v bytes (λ x. enum_reads_back coding labels x bytes differ) spelled
reads_back (packed signed digits) v bytes _ spelled = lift_reads_back val.Num (SpellsPacked digits signed) (packed_reading digits signed bytes) (length bytes) v bytes (λ x. packed_reads_back digits signed x bytes) spelled
reads_back (zoned signed digits) v bytes _ spelled = lift_reads_back val.Num (SpellsZoned digits signed) (zoned_reading digits signed bytes) (length bytes) v bytes (λ x. zoned_reads_back digits signed x bytes) spelled

pub canonical_reads_back : (whole : Applied) (v : Val) (s : List ℕ) → LabelsDiffer whole → HasNoStopOf whole v → spelling_of whole v ≡ Some s → reading_of whole s ≡ Good (length s) v
canonical_reads_back (integer kind coding) v s _ _ e = lift_canonical_reads_back val.Num number_of (int_spelling kind coding) is-Num (int_reading kind coding s) (length s) v s (λ x is. int_canonical_reads_back kind coding x s) e
canonical_reads_back (field kind coding width) v s _ _ e = lift_canonical_reads_back val.Num number_of (int_fw_spelling kind coding width) is-Num (int_fw_reading kind coding width s) (length s) v s (λ x is. int_fw_canonical_reads_back kind coding width x s) e
canonical_reads_back (binary kind order size) v s _ _ e = lift_canonical_reads_back val.Num number_of (bin_spelling (range_of kind) order size) is-Num (bin_reading (range_of kind) order size s) (length s) v s (λ x is. bin_canonical_reads_back (range_of kind) order size x s) e
canonical_reads_back (until coding stop) v s _ free e = lift_canonical_reads_back val.Text text_of (until_spelling coding) is-Text (until_reading coding stop s) (length s) v s (λ x is. until_canonical_reads_back coding stop x s (free x is)) e
canonical_reads_back (fixed coding width) v s _ _ e = lift_canonical_reads_back val.Text text_of (fixed_spelling coding width) is-Text (fixed_reading coding width s) (length s) v s (λ x is. fixed_canonical_reads_back coding width x s) e
canonical_reads_back (class coding chars) v s _ _ e = lift_canonical_reads_back val.Text text_of (class_spelling coding chars) is-Text (class_reading coding chars s) (length s) v s (λ x is. class_canonical_reads_back coding chars x s) e
canonical_reads_back (char coding) v s _ _ e = lift_canonical_reads_back val.Text text_of (char_spelling coding) is-Text (char_reading coding s) (length s) v s (λ x is. char_canonical_reads_back coding x s) e
canonical_reads_back (address coding) v s _ _ e = lift_canonical_reads_back val.Num number_of (ip_spelling coding) is-Num (ip_reading coding s) (length s) v s (λ x is. ip_canonical_reads_back coding x s) e
canonical_reads_back (labelled coding labels) v s differ _ e = lift_canonical_reads_back val.Enum label_of (enum_spelling coding labels) is-Enum (enum_reading coding labels s) (length s) v s (λ x is. enum_canonical_reads_back coding labels x s differ) e
canonical_reads_back (packed signed digits) v s _ _ e = lift_canonical_reads_back val.Num number_of (packed_spelling digits signed) is-Num (packed_reading digits signed s) (length s) v s (λ x is. packed_canonical_reads_back digits signed x s) e
canonical_reads_back (zoned signed digits) v s _ _ e = lift_canonical_reads_back val.Num number_of (zoned_spelling digits signed) is-Num (zoned_reading digits signed s) (length s) v s (λ x is. zoned_canonical_reads_back digits signed x s) e

-- the same of a base type with its arguments

record WithArgs (base : Base) (args : List Arg) (bytes : List ℕ) (n : ℕ) (v : Val) : Type 0 where
  whole : Applied
  is : applied base args ≡ Some whole
  reads : reading_of whole bytes ≡ Good n v

with_args : (base : Base) (args : List Arg) (bytes : List ℕ) (n : ℕ) (v : Val) → base_reading base args bytes ≡ Good n v → WithArgs base args bytes n v
unfolding base_reading
with_args base args bytes n v e = by_args (applied base args) refl e
  where
    by_args : (found : Option Applied) → applied base args ≡ found → reading_or_bad_param found bytes ≡ Good n v → WithArgs base args bytes n v
    by_args None is given = absurd cc
    by_args (Some whole) is given = record { whole = whole; is = is; reads = given }

reads_whole : (base : Base) (args : List Arg) (bytes : List ℕ) (n : ℕ) (v : Val) (whole : Applied) → applied base args ≡ Some whole → reading_of whole bytes ≡ Good n v → base_reading base args bytes ≡ Good n v
unfolding base_reading
reads_whole base args bytes n v whole is e = rw is e

pub base_within : (base : Base) (args : List Arg) (bytes : List ℕ) (n : ℕ) (v : Val) → base_reading base args bytes ≡ Good n v → n ≤ length bytes
base_within base args bytes n v e = rw e at (base-takes base args bytes)

pub base_spelled : (base : Base) (args : List Arg) (bytes : List ℕ) (n : ℕ) (v : Val) → base_reading base args bytes ≡ Good n v → SpellsBase base args v (take n bytes)
base_spelled base args bytes n v e =
    let found = with_args base args bytes n v e in
    record { whole = found.whole; is = found.is; spells = spelled found.whole bytes n v found.reads }

pub base_canonical : (base : Base) (args : List Arg) (bytes : List ℕ) (n : ℕ) (v : Val) → Holds base args IsNarrow → base_reading base args bytes ≡ Good n v → IsSomeAnd (base_spelling base args v) (λ s. length s ≤ n)
unfolding base_spelling
base_canonical base args bytes n v thin e =
    let found = with_args base args bytes n v e in
    rw found.is (canonical found.whole bytes n v (thin found.whole found.is) found.reads)

pub base_reads_back : (base : Base) (args : List Arg) (v : Val) (bytes : List ℕ) → Holds base args LabelsDiffer → SpellsBase base args v bytes → base_reading base args bytes ≡ Good (length bytes) v
base_reads_back base args v bytes differ spells =
    reads_whole base args bytes (length bytes) v spells.whole spells.is (reads_back spells.whole v bytes (differ spells.whole spells.is) spells.spells)

pub base_canonical_reads_back : (base : Base) (args : List Arg) (v : Val) (s : List ℕ) → Holds base args LabelsDiffer → Holds base args (λ whole. HasNoStopOf whole v)
    → base_spelling base args v ≡ Some s → base_reading base args s ≡ Good (length s) v
unfolding base_spelling
base_canonical_reads_back base args v s differ free e = by_args (applied base args) refl e
  where
    by_args : (found : Option Applied) → applied base args ≡ found → option_and_then (λ whole. spelling_of whole v) found ≡ Some s → base_reading base args s ≡ Good (length s) v
    by_args None is given = absurd cc
    by_args (Some whole) is given = reads_whole base args s (length s) v whole is (canonical_reads_back whole v s (differ whole is) (free whole is) given)
