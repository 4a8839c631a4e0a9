-- A list in pieces that follow one another, and what a function gives of each.
use Rattle.std.specs.Prelude.{◌≡◌, ℕ, ◌+◌, ◌<◌, ◌≤◌, List, [], ◌∷◌, ◌++◌, length, All, flat_map}
use denote.Ref.{Bor}
use denote.Param.Members.{Shared}

-- these pieces, at most so many and none of them empty, are the list when they are put together in their order
pub record AreWhole {A : Type 0} (most : ℕ) (items : List A) (pieces : List (List A)) : Type 0 where
  pub together : flat_map (λ piece. piece) pieces ≡ items
  pub some : All (λ piece. 0 < length piece) pieces
  pub few : length pieces ≤ most

module _ {F A R : Type 0} (calls : Shared F (ℕ × (Bor (List A) × Unit {0})) R) (f : F) where
  -- f may be called with each piece of a list that isn't empty, and the number of items before it
  abbrev pub TakesPieces : List A → Type 0
  TakesPieces items =
      (before after : List A) (piece : Bor (List A)) → before ++ piece.now ++ after ≡ items → 0 < length piece.now
      → calls.pre f (length before, (piece, tt))

  -- what a call of f may give with a piece before which stand so many items
  pub record Gives (place : ℕ) (items : List A) (r : R) : Type 0 where
    pub piece : Bor (List A)
    pub piece_is : piece.now ≡ items
    pub call : calls.post f (place, (piece, tt)) r

  -- each result is of its piece, and the pieces follow one another
  abbrev pub GivesEach : ℕ → List (List A) → List R → Type 0
  GivesEach place [] [] = Unit {0}
  GivesEach place (piece ∷ pieces) (r ∷ results) = Gives place piece r × GivesEach (place + length piece) pieces results
  GivesEach place _ _ = ⊥

  -- the results of some pieces that are the list, in their order
  pub record GivesPieces (most : ℕ) (items : List A) (results : List R) : Type 0 where
    pub pieces : List (List A)
    pub whole : AreWhole most items pieces
    pub each : GivesEach 0 pieces results
