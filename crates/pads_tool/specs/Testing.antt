-- What the command `selftest` does: it reads records that are made for it by their description, prints each clean one that
-- isn't ambiguous without writing its bytes, and tells in one line what it counted.
use Rattle.std.specs.Prelude.{ℕ, ◌+◌, ◌^◌, nat_lt, Bool, List, [], ◌++◌, length, codes, count_by, decimal, sum_by}
use Rattle.std.specs.List.{list_all}
use Rattle.pads_module.specs.Modules.{Contents}
use Rattle.pads_describe.specs.Describing.{Describes}
use Rattle.pads_drive.specs.Outputs.{Work, rows_of}
use Rattle.pads_orders.specs.declared.order.Settings.{Settings}
use Rattle.pads_selftest.specs.Description.{description}
use Rattle.pads_selftest.specs.Records.{made}
use Rattle.pads_value.specs.declared.row.Row.{Row}
use Rattle.pads_tool.specs.Describing.{Description, described, frames_of, is_clean, row_in}
use Rattle.pads_tool.specs.Endings.{line}
use Rattle.pads_tool.specs.Images.{HasImage}
use Rattle.pads_tool.specs.Printing.{prints}
use Rattle.pads_tool.specs.declared.test_tally.TestTally.{TestTally}

module _ (d : Description) where
  -- how many bytes `print` writes on `out` for rows
  abbrev pub printed_bytes : List Row → ℕ
  printed_bytes rows = sum_by (λ row. length ((prints d).out row)) rows

  -- the number of rows, of those that are clean, and of the bytes that are printed
  abbrev pub tallied : List Row → TestTally
  tallied rows = record { records = length rows; clean = count_by is_clean rows; printed = printed_bytes rows }

  -- What it makes of records: nothing is written for any. Up to 2^62 records and printed bytes can be counted.
  abbrev pub tests : Work Row TestTally
  tests = record {
    row = row_in d.made;
    out = λ row. [];
    notes = λ row. [];
    tally = tallied;
    is_over = λ rows. nat_lt (2 ^ 62) (length rows + printed_bytes rows);
  }

  -- the rows of so many records
  abbrev pub rows_tested : ℕ → List Row
  rows_tested records = rows_of tests 0 (frames_of d (made records))

  abbrev pub all_clean : ℕ → Bool
  all_clean records = list_all is_clean (rows_tested records)

-- the line that tells a tally, and how many bytes were read
abbrev pub tally_line : TestTally → ℕ → List ℕ
tally_line tally bytes =
    line (codes "selftest: records " ++ decimal tally.records ++ codes " clean " ++ decimal tally.clean
    ++ codes " bytes " ++ decimal bytes ++ codes " printed " ++ decimal tally.printed)

-- the line for so many records
abbrev pub selftest_line : Description → ℕ → List ℕ
selftest_line d records = tally_line (tallied d (rows_tested d records)) (length (made records))

-- The description of the records describes something that has an image, and this holds by it.
abbrev pub TestsBy : Settings → (Description → Type 0) → Type 0
TestsBy settings Holds = (contents : Contents) × Describes description settings.coding contents × HasImage contents × Holds (described contents settings.cutting)
