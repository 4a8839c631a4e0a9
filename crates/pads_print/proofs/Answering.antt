-- What is answered of a value, by what its framed bytes are as an input.
use Rattle.std.proofs.Common.{◌≡◌, ◌∙◌, sym, ap, ℕ, not, Bool, true, false, List, [], map, Option, Some, None, if◌then◌else◌}
use Rattle.pads_value.specs.declared.row.Row.{Row}
use Rattle.pads_value.specs.declared.value.Val.{Val}
use Rattle.pads_frame.specs.declared.discipline.Discipline.{Discipline}
use Rattle.pads_frame.specs.Cutting.{records}
use Rattle.pads_frame.specs.Framed.{framed}
use Rattle.pads_frame.specs.OnlyFrame.{only}
use Rattle.pads_module.specs.Modules.{Contents}
use Rattle.pads_print.specs.Printing.{IsReadOtherwise, canonical, framed_if, printed, read_otherwise}
use Rattle.pads_print.specs.ReadBack.{frames_in, is_back, reads_back, row_in}
use Rattle.pads_print.specs.Same.{holds_of}

module _ (m : Contents) (d : Discipline) (max number : ℕ) (v : Val) (bytes : List ℕ) (there : canonical m number v ≡ Some bytes) where
  abbrev reads : List ℕ → Bool
  reads bytes = reads_back m d max number bytes v

  abbrev read_in : Option (List ℕ) → Bool
  read_in input = holds_of (is_back m number bytes v) (only (frames_in d max input))

  reads-in : (input : Option (List ℕ)) → framed d bytes ≡ input → reads bytes ≡ read_in input
  unfolding reads_back
  reads-in input is = ap read_in is

  -- they can't be framed
  pub answer-unframed : framed d bytes ≡ None → IsReadOtherwise m d max number v bytes []
  answer-unframed is = record {
    otherwise = ap (read_otherwise reads) there ∙ ap not (reads-in None is);
    there = there;
    read_as = sym (ap (λ input. map (row_in m number) (frames_in d max input)) is);
  }

  -- they read back
  pub answer-framed : (input : List ℕ) → framed d bytes ≡ Some input → read_in (Some input) ≡ true → printed m d max number v ≡ Some input
  answer-framed input is holds =
      ap (framed_if reads d) there ∙ ap (λ (answer : Bool). if answer then framed d bytes else None) (reads-in (Some input) is ∙ holds) ∙ is

  -- they read otherwise
  pub answer-otherwise : (input : List ℕ) (rows : List Row) → framed d bytes ≡ Some input → read_in (Some input) ≡ false → rows ≡ map (row_in m number) (records d max input)
      → IsReadOtherwise m d max number v bytes rows
  answer-otherwise input rows is fails are = record {
    otherwise = ap (read_otherwise reads) there ∙ ap not (reads-in (Some input) is ∙ fails);
    there = there;
    read_as = are ∙ sym (ap (λ input. map (row_in m number) (frames_in d max input)) is);
  }
