-- The rows of records that follow one another: one for each frame, by the numbers of the records.
use Rattle.std.specs.Prelude.{◌≡◌, ℕ, ◌+◌, List, [], ◌∷◌, Result, Ok, flat_map, map}
use Rattle.pads_value.specs.Cuts.{Cut}
use Rattle.pads_value.specs.declared.row.Row.{Row}
use Rattle.pads_calc.specs.declared.decl.Decl.{Decl}
use Rattle.pads_calc.specs.declared.decl.Shape.{Shape}
use Rattle.pads_calc.specs.Rows.{row_of}
use Rattle.pads_image.specs.declared.image.Image.{Image}
use Rattle.pads_image.specs.Answers.{Answers, StandsFor}

-- each row is of its frame and of its record's number, the first of which is this one
abbrev pub AreRows : (ℕ → Cut → Row → Type 0) → ℕ → List Cut → List Row → Type 0
AreRows IsRow number [] [] = Unit {0}
AreRows IsRow number (cut ∷ cuts) (row ∷ rows) = IsRow number cut row × AreRows IsRow (number + 1) cuts rows
AreRows IsRow number _ _ = ⊥

-- the calculus' rows under a bound on searches, the first of which has this number
abbrev pub rows_of : List Decl → Shape → ℕ → ℕ → List Cut → List Row
rows_of decls shape scan number [] = []
rows_of decls shape scan number (cut ∷ cuts) = row_of decls shape scan number cut ∷ rows_of decls shape scan (number + 1) cuts

-- this row is the image's answer for a record
abbrev pub IsAnswer : Image → ℕ → Cut → Row → Type 0
IsAnswer image number cut row = Answers image.code image.entries image.shape image.scan image.need number cut row

-- an image stands for declarations: it answers the calculus' row for each record
abbrev pub StandsForThem : Image → List Decl → Type 0
StandsForThem image decls = StandsFor image.code image.entries image.shape image.need decls

-- a row that is read: the image's answer, and the calculus' row by all declarations that the image stands for
pub record IsRead (image : Image) (number : ℕ) (cut : Cut) (row : Row) : Type 0 where
  pub answer : IsAnswer image number cut row
  pub row_is : (decls : List Decl) → StandsForThem image decls → row ≡ row_of decls image.shape image.scan number cut

-- each of these parts was made, and together they are the list
pub record IsWhole {A E : Type 0} (parts : List (Result (List A) E)) (whole : List A) : Type 0 where
  pub pieces : List (List A)
  pub made : parts ≡ map Ok pieces
  pub together : whole ≡ flat_map (λ piece. piece) pieces
