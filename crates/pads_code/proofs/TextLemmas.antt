-- Whole texts: coding and decoding keep the length, undo each other, and go part by part.
use Rattle.std.proofs.Common.{◌≡◌, ℕ, List, [], ◌∷◌, length, take, drop, refl}
use Rattle.std.proofs.lemmas.List.{length-map, take-map, drop-map}
use Rattle.pads_code.specs.declared.Coding.{Coding}
use Rattle.pads_code.specs.CodePage.{point, byte_of, points_of, bytes_of}
use Rattle.pads_code.proofs.CodePageLemmas.{point-byte_of, byte_of-point}

pub points-bytes : (coding : Coding) (points : List ℕ) → points_of coding (bytes_of coding points) ≡ points
points-bytes coding [] = refl
points-bytes coding (p ∷ ps) = rw (point-byte_of coding p, points-bytes coding ps) refl

pub bytes-points : (coding : Coding) (bytes : List ℕ) → bytes_of coding (points_of coding bytes) ≡ bytes
bytes-points coding [] = refl
bytes-points coding (b ∷ bs) = rw (byte_of-point coding b, bytes-points coding bs) refl

pub length-points : (coding : Coding) (bytes : List ℕ) → length (points_of coding bytes) ≡ length bytes
length-points coding bytes = length-map bytes (point coding)

pub length-bytes : (coding : Coding) (points : List ℕ) → length (bytes_of coding points) ≡ length points
length-bytes coding points = length-map points (byte_of coding)

pub points-take : (coding : Coding) (n : ℕ) (bytes : List ℕ) → take n (points_of coding bytes) ≡ points_of coding (take n bytes)
points-take coding n bytes = take-map (point coding) n bytes

pub points-drop : (coding : Coding) (n : ℕ) (bytes : List ℕ) → drop n (points_of coding bytes) ≡ points_of coding (drop n bytes)
points-drop coding n bytes = drop-map (point coding) n bytes
