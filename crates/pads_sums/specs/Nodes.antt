-- What a node gives as a sample: nothing unless it is clean; then, by the form of its part, its number,
-- its text, its address as four decimals, the name of its label or branch, or its length. A value of
-- another form gives none, nor does a number that is below -2^63 or above 2^64 - 1.
use Rattle.std.specs.Prelude.{ℕ, ℤ, pos, negsuc, ◌^◌, nat_lt, Bool, List, length, Option, Some, None, option_map, option_and_then, slice_get, if◌then◌else◌}
use Rattle.pads_value.specs.declared.value.Val.{Val, Val-F, out-Val}
use Rattle.pads_code.specs.declared.Coding.TheVariants.{Ascii}
use Rattle.pads_bases.specs.Addresses.{ip_spelling}
use Rattle.pads_forms.specs.Shapes.{num_in, text_in, label_in, branch_in, array_in}
use Rattle.pads_sums.specs.declared.form.PartForm.{PartForm}
use Rattle.pads_sums.specs.declared.form.PartForm.TheVariants as form
use Rattle.pads_sums.specs.Samples.{Sample, num, text}

-- a node's value, where that is known, and whether the node is clean
pub record Node : Type 0 where
  pub value : Option Val
  pub clean : Bool

abbrev pub in_range : ℤ → Bool
in_range (pos n) = nat_lt n (2 ^ 64)
in_range (negsuc n) = nat_lt n (2 ^ 63)

abbrev pub number_sample : ℤ → Option Sample
number_sample number = if in_range number then Some (num number) else None

abbrev pub address_sample : ℤ → Option Sample
address_sample number = option_map text (ip_spelling Ascii number)

abbrev pub name_sample : List (List ℕ) → ℕ → Option Sample
name_sample names number = option_map text (slice_get names number)

abbrev pub sample_in : {A : Type 0} → PartForm → Val-F A → Option Sample
sample_in form.Record v = None
sample_in form.Bare v = None
sample_in form.Number v = option_and_then number_sample (num_in v)
sample_in form.Text v = option_map text (text_in v)
sample_in form.Address v = option_and_then address_sample (num_in v)
sample_in (form.Label names) v = option_and_then (name_sample names) (label_in v)
sample_in form.Fields v = None
sample_in (form.Branch names) v = option_and_then (λ branch. name_sample names branch.0) (branch_in v)
sample_in form.Elements v = option_and_then (λ elements. number_sample (pos (length elements))) (array_in v)

abbrev pub sample_of : PartForm → Node → Option Sample
sample_of form node = if node.clean then option_and_then (λ v. sample_in form (out-Val v)) node.value else None
