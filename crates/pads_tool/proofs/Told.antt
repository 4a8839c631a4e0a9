-- How much of a file has been read.
use Rattle.std.proofs.Common.{◌≡◌, ℕ, ◌+◌, ◌≤◌, List, [], ◌++◌, Option, None, Some, IfSome, length, take, drop, refl, sym, ap, subst, ◌∙◌, length-append, length-take, arith}
use Rattle.std.proofs.Math.Seq.{take-add}
use Rattle.std.proofs.lemmas.List.{take_all}

-- the text is the front of the bytes
pub record IsFront (text bytes : List ℕ) : Type 0 where
  pub front : text ≡ take (length text) bytes

pub IsFront-none : (bytes : List ℕ) → IsFront [] bytes
IsFront-none bytes = record { front = refl }

-- one piece more, of n bytes
pub IsFront-more : (text bytes piece : List ℕ) (n : ℕ) → IsFront text bytes → n ≤ length piece
    → take n piece ≡ take n (drop (length text) bytes) → IsFront (text ++ take n piece) bytes
IsFront-more text bytes piece n p fits e =
    let count : length (text ++ take n piece) ≡ length text + n = simp (length-append, length-take) (omega arith) in
    record { front = rw (count, take-add) (rw (← p.front, e) refl) }

-- nothing is left
pub IsFront-all : (text bytes : List ℕ) → IsFront text bytes → length bytes ≤ length text → text ≡ bytes
IsFront-all text bytes p end = p.front ∙ take_all (length text) bytes end

pub IsFront-length : (text bytes : List ℕ) → IsFront text bytes → length text ≤ length bytes
IsFront-length text bytes p = omega (arith, ap length p.front, length-take (length text) bytes)

-- the same of content that may be known, read at an offset
pub told-more : (content now : Option (List ℕ)) (text piece grown : List ℕ) (n at : ℕ) → now ≡ content → at ≡ length text → IfSome content (IsFront text) → n ≤ length piece
    → IfSome now (λ bytes. take n piece ≡ take n (drop at bytes)) → grown ≡ text ++ take n piece → IfSome content (IsFront grown)
told-more None now text piece grown n at same here p fits given e = tt
told-more (Some bytes) now text piece grown n at same here p fits given e =
    let given' = rw (same, here) at given in
    subst (λ g. IsFront g bytes) (sym e) (IsFront-more text bytes piece n p fits given')

-- nothing was read yet
pub told-none : (content : Option (List ℕ)) (text : List ℕ) → text ≡ [] → IfSome content (IsFront text)
told-none None text none = tt
told-none (Some bytes) text none = subst (λ t. IsFront t bytes) (sym none) (IsFront-none bytes)
