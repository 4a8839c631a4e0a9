-- What the code finds in the bytes is the reading of the class.
use Rattle.std.proofs.Common.{◌≡◌, ℕ, true, false, nat_eq, List, length, take, refl}
use Rattle.std.specs.List.{prefix_len}
use Rattle.pads_value.specs.declared.reading.Read.TheVariants.{Good, Hard}
use Rattle.pads_value.specs.declared.cause.Cause.TheVariants as cause
use Rattle.pads_code.specs.declared.Coding.{Coding}
use Rattle.pads_code.specs.CodePage.{points_of}
use Rattle.pads_code.proofs.TextLemmas.{length-points, points-take}
use Rattle.pads_bases.specs.Classes.{is_class, has_point, class_reading}

pub class_malformed : (coding : Coding) (class bytes : List ℕ) → is_class class ≡ false → Hard cause.BadParam ≡ class_reading coding class bytes
unfolding class_reading
class_malformed coding class bytes bad = rw bad refl

pub class_none : (coding : Coding) (class bytes text : List ℕ) (n : ℕ) → is_class class ≡ true → n ≡ prefix_len (has_point class) (points_of coding bytes) → text ≡ take n bytes → nat_eq (length text) 0 ≡ true
    → Hard cause.Invalid ≡ class_reading coding class bytes
unfolding class_reading
class_none coding class bytes text n good run front none =
    let size : nat_eq (length (take n (points_of coding bytes))) 0 ≡ true = rw (points-take coding n bytes, length-points coding (take n bytes), ← front) none in
    rw (good, ← run, size) refl

pub class_some : (coding : Coding) (class bytes text : List ℕ) (n : ℕ) → is_class class ≡ true → n ≡ prefix_len (has_point class) (points_of coding bytes) → text ≡ take n bytes → nat_eq (length text) 0 ≡ false
    → Good (length text) (points_of coding text) ≡ class_reading coding class bytes
unfolding class_reading
class_some coding class bytes text n good run front some =
    let same : take n (points_of coding bytes) ≡ points_of coding text = rw front (points-take coding n bytes) in
    rw (good, ← run, same, length-points coding text, some) refl
