-- Texts of code points, one after another.
use Rattle.std.proofs.Common.{◌≡◌, ◌∙◌, sym, ap, ℕ, zero, suc, ◌<◌, List, [], ◌∷◌, ◌++◌, length, take, get_or, encode_utf8, encode_utf8_all, arith}
use Rattle.std.proofs.lemmas.List.{append-nil, append_assoc}

one : (points : List ℕ) (i d : ℕ) → i < length points → encode_utf8_all (take (suc i) points) ≡ encode_utf8_all (take i points) ++ encode_utf8 (get_or points i d)
one [] i d h = absurd (omega (arith, h))
one (x ∷ points) zero d h = append-nil (encode_utf8 x)
one (x ∷ points) (suc i) d h =
    ap (λ rest. encode_utf8 x ++ rest) (one points i d (omega (arith, h)))
    ∙ sym (append_assoc (encode_utf8 x) (encode_utf8_all (take i points)) (encode_utf8 (get_or points i d)))

-- one more code point
pub point_next : (points front done : List ℕ) (i next d : ℕ) → next ≡ suc i → i < length points → done ≡ front ++ encode_utf8_all (take i points)
    → done ++ encode_utf8 (get_or points i d) ≡ front ++ encode_utf8_all (take next points)
point_next points front done i next d is_next h so_far =
    rw is_next (ap (λ front. front ++ encode_utf8 (get_or points i d)) so_far
    ∙ append_assoc front (encode_utf8_all (take i points)) (encode_utf8 (get_or points i d))
    ∙ ap (λ rest. front ++ rest) (sym (one points i d h)))
