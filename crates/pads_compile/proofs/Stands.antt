-- The image of a module is valid, and stands for it.
use Rattle.std.proofs.Common.{◌≡◌, sym, subst, ℕ, ◌≤◌, true, List, length}
use Rattle.std.specs.List.{list_all}
use Rattle.std.proofs.lemmas.Bool.{and_parts}
use Rattle.pads_calc.specs.declared.decl.Decl.{Decl}
use Rattle.pads_calc.specs.declared.decl.Shape.{Shape}
use Rattle.pads_image.specs.declared.entry.Entry.{Entry}
use Rattle.pads_image.specs.declared.image.Image.{Image}
use Rattle.pads_image.specs.declared.op.Op.{Op}
use Rattle.pads_image.specs.Answers.{StandsFor}
use Rattle.pads_image.specs.Code.{code_of, entries_of, length_of}
use Rattle.pads_image.specs.Heights.{stack_need}
use Rattle.pads_image.specs.Validity.{is_valid, longest}
use Rattle.law_images.proofs.Halting.{stands-for}
use Rattle.law_images.proofs.ValidCode.{valid-code}
use Rattle.pads_module.specs.Counts.{module_counts}
use Rattle.pads_module.specs.Scopes.{arities_of, decl_in_scope, module_in_scope, shape_there}

pub stands : (decls : List Decl) (image : Image) → image.code ≡ code_of decls → image.entries ≡ entries_of decls → shape_there (length decls) image.shape ≡ true → StandsFor image.code image.entries image.shape image.need decls
stands decls image code entries shaped =
    let shape = image.shape in
    let by_code : StandsFor image.code (entries_of decls) shape (stack_need image.code (entries_of decls) shape) decls =
    subst (λ (code : List Op). StandsFor code (entries_of decls) shape (stack_need code (entries_of decls) shape) decls) (sym code) (stands-for decls shape shaped) in
    let by_entries : StandsFor image.code image.entries shape (stack_need image.code image.entries shape) decls =
    subst (λ (entries : List Entry). StandsFor image.code entries shape (stack_need image.code entries shape) decls) (sym entries) by_code in
    subst (λ (need : ℕ). StandsFor image.code image.entries shape need decls) (sym image.needed) by_entries

-- The same by what a module keeps of itself.
pub module-stands : (decls : List Decl) (names : List (List ℕ)) (shape : Shape) (image : Image) → module_in_scope decls names shape ≡ true
    → image.code ≡ code_of decls → image.entries ≡ entries_of decls → image.shape ≡ shape → StandsFor image.code image.entries image.shape image.need decls
module-stands decls names shape image scoped code entries same =
    let there = (and_parts (list_all (decl_in_scope (length names) (arities_of decls)) decls) (shape_there (length decls) shape) scoped).1 in
    stands decls image code entries (subst (λ (shape : Shape). shape_there (length decls) shape ≡ true) (sym same) there)

pub valid : (decls : List Decl) (names : List (List ℕ)) (shape : Shape) (ops : List Op) (entries : List Entry) → module_counts decls ≡ true
    → module_in_scope decls names shape ≡ true → length_of decls ≤ longest → ops ≡ code_of decls → entries ≡ entries_of decls
    → is_valid ops entries shape ≡ true
valid decls names shape ops entries counted scoped less code told =
    let by_code : is_valid ops (entries_of decls) shape ≡ true =
    subst (λ (ops : List Op). is_valid ops (entries_of decls) shape ≡ true) (sym code) (valid-code decls names shape counted scoped less) in
    subst (λ (entries : List Entry). is_valid ops entries shape ≡ true) (sym told) by_code
