-- What an image's valid code gives: labels that 16 bits count, fewer than 2^32 instructions, and for each record an answer.
use Rattle.std.proofs.Common.{◌≡◌, ◌∙◌, sym, ap, subst, arith, ℕ, ◌<◌, ◌^◌, Bool, true, ◌&&◌, nat_le, List, length}
use Rattle.std.specs.List.{list_all}
use Rattle.std.proofs.lemmas.Bool.{and_parts, leb-true}
use Rattle.pads_value.specs.Cuts.{Cut}
use Rattle.pads_value.specs.declared.row.Row.{Row}
use Rattle.pads_calc.specs.declared.decl.Decl.{Decl}
use Rattle.pads_calc.specs.declared.decl.Shape.{Shape}
use Rattle.pads_calc.specs.declared.reading.Reading.{Reading}
use Rattle.pads_calc.specs.Rows.{kept_by, row_by, row_of, subject_of_cut, type_of}
use Rattle.pads_module.specs.Counts.{few}
use Rattle.pads_module.specs.Scopes.{shape_there}
use Rattle.pads_image.specs.declared.entry.Entry.{Entry}
use Rattle.pads_image.specs.declared.image.Image.{Image}
use Rattle.pads_image.specs.declared.op.Op.{Op}
use Rattle.pads_image.specs.Answers.{Answers, HaltsWith, StandsFor, start}
use Rattle.pads_image.specs.Reads.{bodies_of}
use Rattle.pads_image.specs.Skeletons.{kept_in}
use Rattle.pads_image.specs.Validity.{is_valid, arities_of, begin_at, keep_of, longest, params_of, variables_stand}
use Rattle.pads_image.specs.Variables.{later_params, next_params}
use Rattle.pads_machine.specs.Known.{AreCounted}
use Rattle.pads_machine.specs.Ran.{Halting, labels_stand}
use Rattle.law_images.proofs.Answering.{answers}
use Rattle.pads_machine.proofs.Labels.{labels-code}

-- the parts of the test that code is an image
module _ (code : List Op) (entries : List Entry) (shape : Shape) (valid : is_valid code entries shape ≡ true) where
  abbrev fits : Bool
  fits = nat_le (length code) longest

  abbrev begun : Bool
  begun = begin_at (bodies_of code) entries

  abbrev keeping : Bool
  keeping = keep_of (bodies_of code) entries

  abbrev bound : Bool
  bound = variables_stand code entries

  abbrev counted : Bool
  counted = list_all (λ (entry : Entry). few entry.params) entries

  before-count : (fits && begun && keeping && bound) ≡ true
  before-count = (and_parts (fits && begun && keeping && bound) counted (and_parts (fits && begun && keeping && bound && counted) (shape_there (length entries) shape) valid).0).0

  pub labels-there : list_all labels_stand code ≡ true
  labels-there =
      labels-code (arities_of entries) (later_params (params_of entries)) (next_params (params_of entries)) code
      (and_parts (fits && begun && keeping) bound before-count).1

  pub are-counted : AreCounted code entries
  are-counted =
      let all = and_parts (fits && begun && keeping && bound) counted (and_parts (fits && begun && keeping && bound && counted) (shape_there (length entries) shape) valid).0 in
      ((and_parts fits begun (and_parts (fits && begun) keeping (and_parts (fits && begun && keeping) bound all.0).0).0).0, all.1)

  pub code-short : length code < 2 ^ 32
  code-short =
      let first = (and_parts fits begun (and_parts (fits && begun) keeping (and_parts (fits && begun && keeping) bound before-count).0).0).0 in
      omega (arith, leb-true (length code) longest first)

module _ (image : Image) (number : ℕ) (cut : Cut) where
  abbrev answer : (row : Row) × Answers image.code image.entries image.shape image.scan image.need number cut row
  answer =
      subst (λ need. (row : Row) × Answers image.code image.entries image.shape image.scan need number cut row) (sym image.needed)
      (answers image.code image.entries image.shape image.valid image.scan number cut)

  abbrev With : Reading → Type 0
  With r = HaltsWith image.code image.entries (subject_of_cut image.scan cut) image.need (start image.entries (subject_of_cut image.scan cut) (type_of image.shape number)) r

  -- what the record's type reads as, and after how many steps
  abbrev pub found : Reading
  found = answer.1.0

  abbrev pub halts : With found
  halts = answer.1.1

  abbrev pub steps : ℕ
  steps = halts.reached.steps

  pub halting : Halting image.code image.entries (subject_of_cut image.scan cut) image.need steps (start image.entries (subject_of_cut image.scan cut) (type_of image.shape number))
  halting = (found, halts, omega arith)

  -- the row of what the run halts with is the image's answer
  module _ (body left : Reading) (row : Row) (is_body : (r : Reading) → With r → body ≡ r) (left_is : left ≡ kept_by (kept_in image.entries) (type_of image.shape number) body)
      (row_is : row ≡ row_by cut.mark number cut left) where
    row-by : (r : Reading) → With r → row ≡ row_by cut.mark number cut (kept_by (kept_in image.entries) (type_of image.shape number) r)
    row-by r h =
        row_is ∙ ap (λ left. row_by cut.mark number cut left) (left_is ∙ ap (λ body. kept_by (kept_in image.entries) (type_of image.shape number) body) (is_body r h))

    pub answers-so : Answers image.code image.entries image.shape image.scan image.need number cut row
    answers-so = (found, halts, row-by found halts)

    -- and the calculus' row of the declarations that it stands for
    pub row-so : (decls : List Decl) → StandsFor image.code image.entries image.shape image.need decls → row ≡ row_of decls image.shape image.scan number cut
    row-so decls stands = let answer = stands image.scan number cut in row-by answer.0 answer.1 ∙ sym answer.2

  -- a record without its bytes has one row, whatever its type would read as
  module _ (row : Row) (any : (body : Reading) → row ≡ row_by cut.mark number cut body) where
    pub answers-unread : Answers image.code image.entries image.shape image.scan image.need number cut row
    answers-unread = (found, halts, any _)

    pub row-unread : (decls : List Decl) → StandsFor image.code image.entries image.shape image.need decls → row ≡ row_of decls image.shape image.scan number cut
    row-unread decls stands = let answer = stands image.scan number cut in any _ ∙ sym answer.2
