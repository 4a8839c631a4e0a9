-- What workers have of rows: one has the output of the rows of its piece and its share, which is added to the tally.
use Rattle.std.specs.Prelude.{◌≡◌, false, List, [], ◌∷◌, ◌++◌, Result, Ok, Err}
use Rattle.pads_value.specs.declared.memory.Refusal.{Refusal}
use Rattle.pads_drive.specs.declared.given.Given.{Given}
use Rattle.pads_drive.specs.declared.limit.Limit.{Limit}
use Rattle.pads_drive.specs.Counting.{Refuses}
use Rattle.pads_drive.specs.Outputs.{Work, output_of}

module _ {Row Tally Share : Type 0} (work : Work Row Tally) (share_of : List Row → Share) where
  -- This is the share of these rows, and they alone can be counted.
  pub record IsShare (rows : List Row) (share : Share) : Type 0 where
    pub is : share ≡ share_of rows
    pub within : work.is_over rows ≡ false

  -- It is the share of these rows, or it is refused: a limit is met where they alone can't be counted.
  abbrev pub Shares : {T : Type 0} → List Row → Share → Result T (Refusal Limit) → Type 0
  Shares rows share (Ok done) = IsShare rows share
  Shares rows share (Err refused) = Refuses work [] rows refused

  -- what a worker gives of the rows of its piece
  abbrev pub IsGiven : List Row → Result (Given Share) (Refusal Limit) → Type 0
  IsGiven rows (Ok given) = (given.output ≡ output_of work rows) × IsShare rows given.share
  IsGiven rows (Err refused) = Refuses work [] rows refused

  -- what workers give of these rows, each of a piece, in their order
  abbrev pub AreGiven : List Row → List (Result (Given Share) (Refusal Limit)) → Type 0
  AreGiven rows [] = rows ≡ []
  AreGiven rows (part ∷ parts) =
      (front : List Row) × (more : List Row) × (rows ≡ front ++ more) × IsGiven front part × AreGiven more parts
