-- Numbers before texts: a value is looked for among those of its kind.
use Rattle.std.proofs.Common.{◌≡◌, ◌∙◌, sym, ap, refl, ℕ, ℤ, Bool, true, false, ◌||◌, true≢false, List, [], ◌∷◌, ◌++◌, length, map, append_assoc, Option, if◌then◌else◌}
use Rattle.std.specs.List.{filter}
use Rattle.std.specs.declared.alloc.Global.{Global}
use Rattle.std.specs.declared.vec.Vec.{Vec}
use Rattle.std.proofs.Math.Bool.{or-false}
use Rattle.std.proofs.lemmas.List.{append-nil}
use Rattle.std.proofs.lemmas.List.Elements.{filter-append}
use Rattle.std.proofs.lemmas.List.Folds.{list_any-append}
use Rattle.pads_sums.specs.Samples.{Sample, num, text, same}
use Rattle.pads_sums.specs.Adding.{Pairs, is_num, is_text, is_among, again, with_new, has_room, is_counted, counted_by, counted_where}
use Rattle.pads_sums.specs.Seen.{number_pair, text_pair, pairs}

-- numbers are no texts
pub no_number : (n : ℤ) (ts : List (Vec ℕ Global × ℕ)) → is_among (num n) (map text_pair ts) ≡ false
no_number n [] = refl
no_number n (t ∷ ts) = no_number n ts

pub no_text : (points : List ℕ) (ns : List (ℤ × ℕ)) → is_among (text points) (map number_pair ns) ≡ false
no_text points [] = refl
no_text points (n ∷ ns) = no_text points ns

-- of two lists, the one in which the value stands is changed
first-step : (more : ℕ) (sample : Sample) (pair : Sample × ℕ) (xs ys : Pairs) (b : Bool) → same sample pair.0 ≡ b → (b || is_among sample xs) ≡ true
    → (is_among sample xs ≡ true → again more sample (xs ++ ys) ≡ again more sample xs ++ ys)
    → again more sample (pair ∷ xs ++ ys) ≡ again more sample (pair ∷ xs) ++ ys
first-step more sample pair xs ys true is there rest = rw is refl
first-step more sample pair xs ys false is there rest = rw is (ap (λ found. pair ∷ found) (rest there))

again_first : (more : ℕ) (sample : Sample) (xs ys : Pairs) → is_among sample xs ≡ true → again more sample (xs ++ ys) ≡ again more sample xs ++ ys
again_first more sample [] ys there = absurd (true≢false (sym there))
again_first more sample (pair ∷ xs) ys there = first-step more sample pair xs ys (same sample pair.0) refl there (again_first more sample xs ys)

second-step : (more : ℕ) (sample : Sample) (pair : Sample × ℕ) (xs ys : Pairs) (b : Bool) → same sample pair.0 ≡ b → (b || is_among sample xs) ≡ false
    → (is_among sample xs ≡ false → again more sample (xs ++ ys) ≡ xs ++ again more sample ys)
    → again more sample (pair ∷ xs ++ ys) ≡ pair ∷ xs ++ again more sample ys
second-step more sample pair xs ys true is none rest = absurd (true≢false none)
second-step more sample pair xs ys false is none rest = rw is (ap (λ found. pair ∷ found) (rest none))

again_second : (more : ℕ) (sample : Sample) (xs ys : Pairs) → is_among sample xs ≡ false → again more sample (xs ++ ys) ≡ xs ++ again more sample ys
again_second more sample [] ys none = refl
again_second more sample (pair ∷ xs) ys none = second-step more sample pair xs ys (same sample pair.0) refl none (again_second more sample xs ys)

-- all of one kind
numbers-kept : (ns : List (ℤ × ℕ)) → filter (λ pair. is_num pair.0) (map number_pair ns) ≡ map number_pair ns
numbers-kept [] = refl
numbers-kept (n ∷ ns) = ap (λ found. number_pair n ∷ found) (numbers-kept ns)

texts-left : (ts : List (Vec ℕ Global × ℕ)) → filter (λ pair. is_num pair.0) (map text_pair ts) ≡ []
texts-left [] = refl
texts-left (t ∷ ts) = texts-left ts

numbers-left : (ns : List (ℤ × ℕ)) → filter (λ pair. is_text pair.0) (map number_pair ns) ≡ []
numbers-left [] = refl
numbers-left (n ∷ ns) = numbers-left ns

texts-kept : (ts : List (Vec ℕ Global × ℕ)) → filter (λ pair. is_text pair.0) (map text_pair ts) ≡ map text_pair ts
texts-kept [] = refl
texts-kept (t ∷ ts) = ap (λ found. text_pair t ∷ found) (texts-kept ts)

module _ (ns : List (ℤ × ℕ)) (ts : List (Vec ℕ Global × ℕ)) where
  new-number : (more : ℕ) (n : ℤ) → with_new more (num n) (pairs ns ts) ≡ (map number_pair ns ++ (num n, more) ∷ []) ++ map text_pair ts
  new-number more n =
      (λ i. (filter-append (λ pair. is_num pair.0) (map number_pair ns) (map text_pair ts) ∙ (λ j. numbers-kept ns j ++ texts-left ts j) ∙ append-nil (map number_pair ns)) i
      ++ (num n, more) ∷ (filter-append (λ pair. is_text pair.0) (map number_pair ns) (map text_pair ts) ∙ (λ j. numbers-left ns j ++ texts-kept ts j)) i)
      ∙ sym (append_assoc (map number_pair ns) ((num n, more) ∷ []) (map text_pair ts))

  pub number_among : (n : ℤ) → is_among (num n) (pairs ns ts) ≡ is_among (num n) (map number_pair ns)
  number_among n =
      list_any-append (λ pair. same (num n) pair.0) (map number_pair ns) (map text_pair ts)
      ∙ ap (λ b. is_among (num n) (map number_pair ns) || b) (no_number n ts)
      ∙ or-false (is_among (num n) (map number_pair ns))

  pub text_among : (points : List ℕ) → is_among (text points) (pairs ns ts) ≡ is_among (text points) (map text_pair ts)
  text_among points =
      list_any-append (λ pair. same (text points) pair.0) (map number_pair ns) (map text_pair ts)
      ∙ ap (λ b. b || is_among (text points) (map text_pair ts)) (no_text points ns)

  number-cases : (more : ℕ) (n : ℤ) (free among : Bool) → is_among (num n) (map number_pair ns) ≡ among
      → (if among then again more (num n) (pairs ns ts) else if free then with_new more (num n) (pairs ns ts) else pairs ns ts)
      ≡ (if among then again more (num n) (map number_pair ns) else if free then map number_pair ns ++ (num n, more) ∷ [] else map number_pair ns) ++ map text_pair ts
  number-cases more n free true there = again_first more (num n) (map number_pair ns) (map text_pair ts) there
  number-cases more n true false none = new-number more n
  number-cases more n false false none = refl

  -- a number is counted among the numbers
  pub number_counted : (room : Option ℕ) (more : ℕ) (n : ℤ)
      → counted_by room more (num n) (pairs ns ts) ≡ counted_where (has_room room (length (pairs ns ts))) more (num n) (map number_pair ns) ++ map text_pair ts
  number_counted room more n =
      ap (λ b. if b then again more (num n) (pairs ns ts) else if has_room room (length (pairs ns ts)) then with_new more (num n) (pairs ns ts) else pairs ns ts) (number_among n)
      ∙ number-cases more n (has_room room (length (pairs ns ts))) (is_among (num n) (map number_pair ns)) refl

  text-cases : (more : ℕ) (points : List ℕ) (free among : Bool) → is_among (text points) (map text_pair ts) ≡ among
      → (if among then again more (text points) (pairs ns ts) else if free then pairs ns ts ++ (text points, more) ∷ [] else pairs ns ts)
      ≡ map number_pair ns ++ (if among then again more (text points) (map text_pair ts) else if free then map text_pair ts ++ (text points, more) ∷ [] else map text_pair ts)
  text-cases more points free true there = again_second more (text points) (map number_pair ns) (map text_pair ts) (no_text points ns)
  text-cases more points true false none = append_assoc (map number_pair ns) (map text_pair ts) ((text points, more) ∷ [])
  text-cases more points false false none = refl

  -- and a text among the texts
  pub text_counted : (room : Option ℕ) (more : ℕ) (points : List ℕ)
      → counted_by room more (text points) (pairs ns ts) ≡ map number_pair ns ++ counted_where (has_room room (length (pairs ns ts))) more (text points) (map text_pair ts)
  text_counted room more points =
      ap (λ b. if b then again more (text points) (pairs ns ts) else if has_room room (length (pairs ns ts)) then pairs ns ts ++ (text points, more) ∷ [] else pairs ns ts) (text_among points)
      ∙ text-cases more points (has_room room (length (pairs ns ts))) (is_among (text points) (map text_pair ts)) refl

  -- what the code finds and puts, where it knows whether there is room
  module _ (room : Option ℕ) (free : Bool) (is_free : free ≡ has_room room (length (pairs ns ts))) where
    pub number_found : (n : ℤ) → (is_among (num n) (map number_pair ns) || free) ≡ is_counted room (num n) (pairs ns ts)
    number_found n = (λ i. sym (number_among n) i || is_free i)

    pub number_put : (more : ℕ) (n : ℤ) (now : Pairs) → now ≡ counted_where free more (num n) (map number_pair ns) → now ++ map text_pair ts ≡ counted_by room more (num n) (pairs ns ts)
    number_put more n now put = ap (λ xs. xs ++ map text_pair ts) (put ∙ ap (λ b. counted_where b more (num n) (map number_pair ns)) is_free) ∙ sym (number_counted room more n)

    pub text_found : (points : List ℕ) → (is_among (text points) (map text_pair ts) || free) ≡ is_counted room (text points) (pairs ns ts)
    text_found points = (λ i. sym (text_among points) i || is_free i)

    pub text_put : (more : ℕ) (points : List ℕ) (now : Pairs) → now ≡ counted_where free more (text points) (map text_pair ts) → map number_pair ns ++ now ≡ counted_by room more (text points) (pairs ns ts)
    text_put more points now put = ap (λ xs. map number_pair ns ++ xs) (put ∙ ap (λ b. counted_where b more (text points) (map text_pair ts)) is_free) ∙ sym (text_counted room more points)
