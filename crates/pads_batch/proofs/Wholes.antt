-- A list that is put together from its parts, one part after another.
use Rattle.std.proofs.Common.{◌≡◌, List, length, [], ◌∷◌, ◌++◌, refl, sym, ap, append_assoc, append-nil, arith}
use Rattle.std.specs.Prelude.{Result, Ok}
use Rattle.pads_batch.specs.Reading.{IsWhole}

module _ {A E : Type 0} where
  none : {parts : List (Result (List A) E)} → parts ≡ [] → IsWhole parts []
  none is = record { pieces = []; made = is; together = refl }

  more : (part : List A) (parts : List (Result (List A) E)) (rest : List A) → IsWhole parts rest → IsWhole (Ok part ∷ parts) (part ++ rest)
  more part parts rest w = record {
    pieces = part ∷ w.pieces;
    made = ap (λ others. Ok part ∷ others) w.made;
    together = ap (λ others. part ++ others) w.together;
  }

  -- what is whole with these parts behind it
  abbrev pub IsFront : List (Result (List A) E) → List (Result (List A) E) → List A → Type 0
  IsFront all parts front = (rest : List A) → IsWhole parts rest → IsWhole all (front ++ rest)

  pub front-none : (all parts : List (Result (List A) E)) (front : List A) → parts ≡ all → front ≡ [] → IsFront all parts front
  front-none all parts front is empty rest whole = rw (sym is, empty) whole

  pub front-more : (all before parts : List (Result (List A) E)) (front next part : List A) → before ≡ Ok part ∷ parts → next ≡ front ++ part → IsFront all before front
      → IsFront all parts next
  front-more all before parts front next part is put is_front rest whole =
      let w = is_front (part ++ rest) (rw is (more part parts rest whole)) in
      rw (put, append_assoc front part rest) w

  pub front-whole : (all parts : List (Result (List A) E)) (front : List A) → length parts ≡ 0 → IsFront all parts front → IsWhole all front
  front-whole all [] front no_more is_front = let w = is_front [] (none refl) in rw (append-nil front) at w
  front-whole all (part ∷ parts) front no_more is_front = absurd (omega arith)
