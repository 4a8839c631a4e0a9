-- Parts, branches and labels by their numbers.
use Rattle.std.proofs.Common.{◌≡◌, ◌∙◌, refl, ℕ, List, Option, Some, None, position, slice_get}
use Rattle.pads_ast.specs.declared.decl.Decl.{Decl}
use Rattle.pads_ast.specs.declared.decl.DeclBody.{DeclBody}
use Rattle.pads_ast.specs.declared.decl.DeclBody.TheVariants as body
use Rattle.pads_rules.specs.declared.declared.Content.{Content}
use Rattle.pads_rules.specs.declared.declared.Content.TheVariants as content
use Rattle.pads_declared.specs.declared.first_numbers.FirstNumbers.{FirstNumbers}
use Rattle.pads_declared.specs.Numbered.{number_in, choice_position, IsNumbered}
use Rattle.pads_declared.proofs.NumberLemmas.{pairs-none, pairs-at}
use Rattle.pads_resolution.specs.Numbers.{number_of, has_name, field_in, field_number, part_number, branch_number, label_number, choice_in}
use Rattle.pads_resolve_expr.specs.Parts.{parts_in, part_position, AreNumbered}

abbrev pub Keeps : Decl → FirstNumbers → Type 0
Keeps decl first = IsNumbered has_name (parts_in decl.body) first

none-here : (decls : List Decl) (number : ℕ) (name : List ℕ) (found : Option Decl) → slice_get decls number ≡ found → None ≡ found → None ≡ part_position decls number name
none-here decls number name None at none = rw at refl
none-here decls number name (Some d) at none = cc

pub no-part : (decls : List Decl) (numbers : List FirstNumbers) (number : ℕ) (name : List ℕ) → AreNumbered decls numbers → None ≡ slice_get numbers number → None ≡ part_position decls number name
no-part decls numbers number name pairs none = none-here decls number name (slice_get decls number) refl (pairs-none Keeps decls numbers number pairs none)

part-at : (decls : List Decl) (number : ℕ) (name : List ℕ) (d : Decl) → Some d ≡ slice_get decls number → position (has_name name) (parts_in d.body) ≡ part_position decls number name
part-at decls number name d at = rw (← at) refl

pub part-there : (decls : List Decl) (numbers : List FirstNumbers) (number : ℕ) (name : List ℕ) (first : FirstNumbers) → AreNumbered decls numbers → Some first ≡ slice_get numbers number
    → number_in first name ≡ part_position decls number name
part-there decls numbers number name first pairs there =
    let found = pairs-at Keeps decls numbers number first pairs there in
    found.2 name ∙ part-at decls number name found.0 found.1

field-in : (b : DeclBody) (name : List ℕ) → number_of (position (has_name name) (parts_in b)) ≡ field_in b name
unfolding part_number
field-in (body.Struct d) name = refl
field-in (body.Union d) name = refl
field-in (body.Array d) name = refl
field-in (body.Enum d) name = refl
field-in (body.Typedef d) name = refl
field-in (body.Opt d) name = refl

field-by : (decls : List Decl) (number : ℕ) (name : List ℕ) (found : Option Decl) → slice_get decls number ≡ found → number_of (part_position decls number name) ≡ field_number decls number name
unfolding field_number
field-by decls number name None at = rw at refl
field-by decls number name (Some d) at = rw at (field-in d.body name)

pub field-number : (decls : List Decl) (number : ℕ) (name : List ℕ) → number_of (part_position decls number name) ≡ field_number decls number name
field-number decls number name = field-by decls number name (slice_get decls number) refl

pub choice-number : (c : Content) (name : List ℕ) → number_of (choice_position c name) ≡ choice_in c name
unfolding branch_number label_number
choice-number (content.Branches branches) name = refl
choice-number (content.Labels labels) name = refl
choice-number (content.Fields fields) name = refl
choice-number (content.Element sort) name = refl
choice-number content.Inner name = refl
