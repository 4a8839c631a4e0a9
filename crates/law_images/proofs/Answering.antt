-- Every valid image answers for each record, since its code is that of declarations.
use Rattle.std.proofs.Common.{◌≡◌, sym, subst, ℕ, List, true}
use Rattle.pads_value.specs.Cuts.{Cut}
use Rattle.pads_value.specs.declared.row.Row.{Row}
use Rattle.pads_calc.specs.declared.decl.Decl.{Decl}
use Rattle.pads_calc.specs.declared.decl.Shape.{Shape}
use Rattle.pads_calc.specs.Rows.{row_of}
use Rattle.pads_image.specs.declared.entry.Entry.{Entry}
use Rattle.pads_image.specs.declared.op.Op.{Op}
use Rattle.pads_image.specs.Answers.{Answers, StandsFor}
use Rattle.pads_image.specs.Code.{IsCodeOf, code_of, entries_of}
use Rattle.pads_image.specs.Heights.{stack_need}
use Rattle.pads_image.specs.Validity.{is_valid}
use Rattle.law_images.proofs.Halting.{stands-for}
use Rattle.law_images.proofs.ToldDecls.{decls-of}

-- the same of the code and the entries that are those of declarations
by-code : (decls : List Decl) (code : List Op) (entries : List Entry) (shape : Shape) → IsCodeOf decls code entries
    → StandsFor (code_of decls) (entries_of decls) shape (stack_need (code_of decls) (entries_of decls) shape) decls → StandsFor code entries shape (stack_need code entries shape) decls
by-code decls code entries shape is h =
    subst (λ code. StandsFor code entries shape (stack_need code entries shape) decls) (sym is.code_is)
    (subst (λ entries. StandsFor (code_of decls) entries shape (stack_need (code_of decls) entries shape) decls) (sym is.entries_are) h)

pub answers : (code : List Op) (entries : List Entry) (shape : Shape) → is_valid code entries shape ≡ true → (scan number : ℕ) (cut : Cut)
    → (row : Row) × Answers code entries shape scan (stack_need code entries shape) number cut row
answers code entries shape valid scan number cut =
    let found = decls-of code entries shape valid in
    (row_of found.0 shape scan number cut, by-code found.0 code entries shape found.1 (stands-for found.0 shape found.2) scan number cut)
