-- The samples of a form are all of one kind, and its numbers are in range.
use Rattle.std.proofs.Common.{◌≡◌, refl, ℕ, ℤ, pos, Bool, true, false, not, ◌&&◌, List, length, Option, Some, None, slice_get, option_and_then, if◌then◌else◌}
use Rattle.std.specs.Option.{option_map}
use Rattle.pads_value.specs.declared.value.Val.{Val, Val-F, out-Val}
use Rattle.pads_code.specs.declared.Coding.TheVariants.{Ascii}
use Rattle.pads_bases.specs.Addresses.{ip_spelling}
use Rattle.pads_forms.specs.Shapes.{num_in, text_in, label_in, branch_in, array_in}
use Rattle.pads_sums.specs.Nodes.{Node, in_range, number_sample, sample_in, sample_of}
use Rattle.pads_sums.specs.Samples.{Sample, num, text}
use Rattle.pads_sums.specs.declared.form.PartForm.{PartForm}
use Rattle.pads_sums.specs.declared.form.PartForm.TheVariants as form

-- whether the samples of a form are numbers
abbrev pub is_numeric : PartForm → Bool
is_numeric form.Record = false
is_numeric form.Bare = false
is_numeric form.Number = true
is_numeric form.Text = false
is_numeric form.Address = false
is_numeric (form.Label names) = false
is_numeric form.Fields = false
is_numeric (form.Branch names) = false
is_numeric form.Elements = true

-- a sample that a form of this kind may give
abbrev pub suits : Bool → Sample → Bool
suits numeric (num number) = numeric && in_range number
suits numeric (text points) = not numeric

abbrev pub suits_if : Bool → Option Sample → Bool
suits_if numeric None = true
suits_if numeric (Some sample) = suits numeric sample

number-suits : (n : ℤ) (b : Bool) → in_range n ≡ b → suits_if true (if b then Some (num n) else None) ≡ true
number-suits n true range = range
number-suits n false range = refl

maybe-number : {A : Type 0} (f : A → ℤ) (o : Option A) → suits_if true (option_and_then (λ a. number_sample (f a)) o) ≡ true
maybe-number f None = refl
maybe-number f (Some a) = number-suits (f a) (in_range (f a)) refl

maybe-text : (o : Option (List ℕ)) → suits_if false (option_map text o) ≡ true
maybe-text None = refl
maybe-text (Some points) = refl

maybe-texts : {A : Type 0} (f : A → Option (List ℕ)) (o : Option A) → suits_if false (option_and_then (λ a. option_map text (f a)) o) ≡ true
maybe-texts f None = refl
maybe-texts f (Some a) = maybe-text (f a)

given-suits : {A : Type 0} (form : PartForm) (v : Val-F A) → suits_if (is_numeric form) (sample_in form v) ≡ true
given-suits form.Record v = refl
given-suits form.Bare v = refl
given-suits form.Number v = maybe-number (λ n. n) (num_in v)
given-suits form.Text v = maybe-text (text_in v)
given-suits form.Address v = maybe-texts (ip_spelling Ascii) (num_in v)
given-suits (form.Label names) v = maybe-texts (slice_get names) (label_in v)
given-suits form.Fields v = refl
given-suits (form.Branch names) v = maybe-texts (λ branch. slice_get names branch.0) (branch_in v)
given-suits form.Elements v = maybe-number (λ elements. pos (length elements)) (array_in v)

value-suits : (form : PartForm) (value : Option Val) → suits_if (is_numeric form) (option_and_then (λ v. sample_in form (out-Val v)) value) ≡ true
value-suits form None = refl
value-suits form (Some v) = given-suits form (out-Val v)

node-step : (form : PartForm) (node : Node) (b : Bool)
    → suits_if (is_numeric form) (if b then option_and_then (λ v. sample_in form (out-Val v)) node.value else None) ≡ true
node-step form node true = value-suits form node.value
node-step form node false = refl

-- each sample of a part
pub node_suits : (form : PartForm) (node : Node) → suits_if (is_numeric form) (sample_of form node) ≡ true
node_suits form node = node-step form node node.clean
