-- What is counted of the records of a self-test.
use Rattle.std.proofs.Common.{◌≡◌, ◌∙◌, ◌+◌, ◌*◌, ◌^◌, ◌<◌, ◌≤◌, inl, inr, refl, sym, ap, subst, ℕ, suc, nat_eq, nat_le, Bool, true, false, if◌then◌else◌, List, [], ◌∷◌, length, length-append, count_by, sum_by, Option, None, Some, arith}
use Rattle.std.specs.List.{AllByRecursion, list_all}
use Rattle.std.proofs.lemmas.Bool.{cases_Bool, cases_eq, eq-eqb, ne_eqb, ltb-true}
use Rattle.std.proofs.lemmas.List.Sums.{count_by-le-length, sum_by-cons}
use Rattle.std.proofs.Math.Nat.{mul-le-mul_left, mul-le-mul_right}
use Rattle.std.specs.Io.KnownBytes.{Consumes}
use Rattle.pads_drive.specs.Outputs.{Work, rows_of}
use Rattle.pads_frame.proofs.Tiling.{tiles}
use Rattle.pads_frame.specs.Cutting.{records}
use Rattle.pads_frame.specs.Fits.{FitsLimit}
use Rattle.pads_frame.specs.Framed.{framed, most_behind_word, word}
use Rattle.pads_frame.specs.Laws.{Tiles}
use Rattle.pads_frame.specs.declared.discipline.Discipline.{Discipline}
use Rattle.pads_frame.specs.declared.discipline.Discipline.TheVariants.{Term, Fixed, Rdw, Whole}
use Rattle.pads_print.proofs.ReadingBack.{back-decides}
use Rattle.pads_print.specs.Printing.{canonical}
use Rattle.pads_print.specs.ReadBack.{reads_back}
use Rattle.pads_selftest.specs.Records.{made}
use Rattle.pads_value.specs.Cuts.{Cut}
use Rattle.pads_value.specs.declared.row.Row.{Row}
use Rattle.pads_value.specs.declared.value.Val.{Val}
use Rattle.pads_tool.proofs.Texts.{within}
use Rattle.pads_tool.proofs.Kept.{IsShort, all-short, has-block, told-where}
use Rattle.pads_tool.specs.Describing.{Description, frames_of, is_clean}
use Rattle.pads_tool.specs.Printing.{bytes_in, prints}
use Rattle.pads_tool.specs.Testing.{printed_bytes, rows_tested, tests}

abbrev one_if : Bool → ℕ
one_if clean = if clean then 1 else 0

-- All are clean where as many are clean as there are.
shifted : (a b : ℕ) → nat_eq (1 + a) (1 + b) ≡ nat_eq a b
shifted a b = elim (cases_eq a b) [
  | inl same ↦ eq-eqb (1 + a) (1 + b) (omega arith) ∙ sym (eq-eqb a b same)
  | inr other ↦ ne_eqb (1 + a) (1 + b) (λ same. other (omega arith)) ∙ sym (ne_eqb a b other)
]

pub counted-clean : (rows : List Row) → nat_eq (count_by is_clean rows) (length rows) ≡ list_all is_clean rows
counted-clean [] = refl
counted-clean (row ∷ rows) = by-test (counted-clean rows) (is_clean row) refl
  where
    head : count_by is_clean (row ∷ rows) ≡ one_if (is_clean row) + count_by is_clean rows
    head = sum_by-cons (λ r. one_if (is_clean r)) row rows

    longer : length (row ∷ rows) ≡ 1 + length rows
    longer = omega arith

    by-test : nat_eq (count_by is_clean rows) (length rows) ≡ list_all is_clean rows → (b : Bool) → is_clean row ≡ b → nat_eq (count_by is_clean (row ∷ rows)) (length (row ∷ rows)) ≡ list_all is_clean (row ∷ rows)
    by-test so_far true e =
        let more : count_by is_clean (row ∷ rows) ≡ 1 + count_by is_clean rows = head ∙ ap (λ b. one_if b + count_by is_clean rows) e in
        rw (more, longer, shifted, e) so_far
    by-test so_far false e =
        let same : count_by is_clean (row ∷ rows) ≡ 0 + count_by is_clean rows = head ∙ ap (λ b. one_if b + count_by is_clean rows) e in
        ne_eqb (count_by is_clean (row ∷ rows)) (length (row ∷ rows)) (λ both. absurd (omega (arith, same, both, count_by-le-length is_clean rows))) ∙ rw e refl

-- There are no more frames than bytes.
tiled-few : (d : Discipline) (max : ℕ) (bytes : List ℕ) (from : ℕ) (frames : List Cut) → Tiles d max bytes from frames → from + length frames ≤ length bytes
tiled-few d max bytes from [] h = omega (arith, h)
tiled-few d max bytes from (frame ∷ frames) h = let rest = tiled-few d max bytes h.0 frames h.2 in omega (arith, rest, h.1.some)

few-frames : (d : Description) → FitsLimit d.cutting.discipline d.cutting.max → (input : List ℕ) → length (frames_of d input) ≤ length input
few-frames d fits input =
    omega (
      arith,
      tiled-few d.cutting.discipline d.cutting.max input 0 (frames_of d input)
          (tiles d.cutting.discipline d.cutting.max input (has-block d.cutting.discipline d.cutting.max fits)),
    )

rows-count : {Tally : Type 0} (work : Work Row Tally) (number : ℕ) (cuts : List Cut) → length (rows_of work number cuts) ≡ length cuts
unfolding rows_of
rows-count work number [] = refl
rows-count work number (cut ∷ cuts) = ap suc (rows-count work (number + 1) cuts)

-- What is at most so much at each row, is at most as many times that at all of them.
rows-sum : (f : Row → ℕ) (most : ℕ) → ((row : Row) → f row ≤ most) → (rows : List Row) → sum_by f rows ≤ length rows * most
rows-sum f most few [] = omega arith
rows-sum f most few (row ∷ rows) =
    let here = few row in
    let rest = rows-sum f most few rows in
    let both = sum_by-cons f row rows in
    omega (arith, here, rest, both)

-- Framed bytes are little longer.
framed-few : (d : Discipline) (bytes : List ℕ) → length (bytes_in (framed d bytes)) ≤ length bytes + 4
framed-few (Term terminator) bytes = omega (arith, length-append bytes (terminator ∷ []))
framed-few (Fixed block) bytes = omega arith
framed-few Rdw bytes = elim (cases_Bool (nat_le (length bytes) most_behind_word)) [
  | inl small ↦ rw small (omega (arith, length-append (word (length bytes)) bytes))
  | inr long ↦ rw long (omega arith)
]
framed-few Whole bytes = omega arith

-- Bytes that read back are those of a frame, and so no more than a record may have.
back-few : (d : Description) → FitsLimit d.cutting.discipline d.cutting.max → (number : ℕ) (bytes : List ℕ) (v : Val)
    → reads_back d.made d.cutting.discipline d.cutting.max number bytes v ≡ true → length bytes ≤ d.cutting.max
back-few d fits number bytes v reads =
    let back = (back-decides d.made d.cutting.discipline d.cutting.max number bytes v).0 reads in
    let cuts = records d.cutting.discipline d.cutting.max back.input in
    let short = all-short d.cutting.discipline d.cutting.max back.input 0 cuts fits
    (tiles d.cutting.discipline d.cutting.max back.input (has-block d.cutting.discipline d.cutting.max fits)) in
    let first : length back.frame.bytes ≤ d.cutting.max = (subst (λ frames. AllByRecursion (IsShort d.cutting.max) frames) back.one short).0 in
    subst (λ (b : List ℕ). length b ≤ d.cutting.max) back.whole first

-- So what is printed of a record has few bytes.
printed-few : (d : Description) → FitsLimit d.cutting.discipline d.cutting.max → (row : Row) → length ((prints d).out row) ≤ d.cutting.max + 4
printed-few d fits row = elim (cases_Bool (is_clean row)) [ inl clean ↦ of-clean clean | inr other ↦ rw other (omega arith) ]
  where
    of-bytes : (bytes : List ℕ) → is_clean row ≡ true → canonical d.made row.number row.value ≡ Some bytes → length ((prints d).out row) ≤ d.cutting.max + 4
    of-bytes bytes clean there = elim (cases_Bool (reads_back d.made d.cutting.discipline d.cutting.max row.number bytes row.value)) [
      | inl reads ↦ rw (told-where d row bytes true clean there reads)
          (omega (arith, framed-few d.cutting.discipline bytes, back-few d fits row.number bytes row.value reads))
      | inr otherwise ↦ rw (told-where d row bytes false clean there otherwise) (omega arith)
    ]

    of-clean : is_clean row ≡ true → length ((prints d).out row) ≤ d.cutting.max + 4
    of-clean clean = elim (canonical d.made row.number row.value) as (λ o. canonical d.made row.number row.value ≡ o → length ((prints d).out row) ≤ d.cutting.max + 4) [
      | None ↦ λ none. rw (clean, none) (omega arith)
      | Some bytes ↦ λ there. of-bytes bytes clean there
    ] refl

-- So few records as are made can be counted.
pub never-over : (d : Description) (records : ℕ) → d.cutting.max ≤ 16777216 → FitsLimit d.cutting.discipline d.cutting.max → length (made records) ≤ 2 ^ 27
    → (tests d).is_over (rows_tested d records) ≡ true → ⊥
never-over d records limit fits few over =
    let rows = rows_tested d records in
    let printed = rows-sum (λ row. length ((prints d).out row)) (d.cutting.max + 4) (printed-few d fits) rows in
    let count = rows-count (tests d) 0 (frames_of d (made records)) in
    let frames = few-frames d fits (made records) in
    let above = ltb-true (2 ^ 62) (length rows + printed_bytes d rows) over in
    let least : length rows ≤ 2 ^ 27 = omega (arith, count, frames, few) in
    let wide : d.cutting.max + 4 ≤ 16777220 = omega (arith, limit) in
    let most = mul-le-mul_right (d.cutting.max + 4) least in
    let all = mul-le-mul_left (2 ^ 27) wide in
    omega (arith, above, printed, least, most, all)

-- The records aren't long.
pub never-long : (records : ℕ) (left' : Option (List ℕ)) (bytes : List ℕ) → length (made records) ≤ 2 ^ 27 → Consumes (Some (made records)) left' bytes → 2 ^ 62 < length bytes → ⊥
never-long records left' bytes few read long = omega (arith, few, long, within (made records) left' bytes read)
