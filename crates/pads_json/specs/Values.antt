-- Values as JSON, by their terms: nothing and what is missing are null, numbers are numbers, texts are
-- texts of their code points, a struct is an object of its named parts, of which the last counts where
-- some share a name, a union is an object of one key, the branch's name, and an array is an array. A
-- value of another form than its term's is null.
use Rattle.std.specs.Prelude.{ℕ, ℤ, List, [], ◌∷◌, map, length, false, nat_eq, Option, Some, None, if◌then◌else◌, encode_utf8_all, slice_get}
use Rattle.serde_json.specs.Data.{Data, null, string, array, object, Members, no_members, put}
use Rattle.serde_json.specs.View.{items_of}
use Rattle.pads_code.specs.declared.Coding.TheVariants.{Ascii}
use Rattle.pads_bases.specs.Addresses.{ip_spelling}
use Rattle.pads_bases.specs.declared.enums.Label.{Label}
use Rattle.pads_dispatch.specs.declared.base.Base.{Base}
use Rattle.pads_dispatch.specs.declared.base.Base.TheVariants as base
use Rattle.pads_value.specs.declared.value.Val.{Val, Val-F, fold-Val, map-Val, out-Val}
use Rattle.pads_calc.specs.declared.decl.Decl.{Decl}
use Rattle.pads_calc.specs.declared.term.Arm.{Arm}
use Rattle.pads_calc.specs.declared.term.Case.{Case}
use Rattle.pads_calc.specs.declared.term.Part.{Part}
use Rattle.pads_calc.specs.declared.term.ComputedForm.{ComputedForm}
use Rattle.pads_calc.specs.declared.term.ComputedForm.TheVariants as result2
use Rattle.pads_calc.specs.declared.term.Seq.{Seq}
use Rattle.pads_calc.specs.declared.term.Term.{Term, Term-F, out-Term}
use Rattle.pads_forms.specs.Forms.{Form, form_at}
use Rattle.pads_json.specs.Numbers.{integer}
use Rattle.pads_forms.specs.Shapes.{num_in, text_in, label_in, tuple_in, branch_in, array_in}
use Rattle.pads_forms.specs.Terms.{name_at, arm_in}

-- what a value is as JSON under a term in which calls may be nested so deep
abbrev pub Shown : Type 0
Shown = ℕ → Term → Data

abbrev pub number_shown : Option ℤ → Data
number_shown None = null
number_shown (Some number) = integer number

abbrev pub text_shown : Option (List ℕ) → Data
text_shown None = null
text_shown (Some text) = string (encode_utf8_all text)

-- an address is the text of its four decimals; a number that is no address is none
abbrev pub address_shown : Option ℤ → Data
address_shown None = null
address_shown (Some number) = text_shown (ip_spelling Ascii number)

-- a label is the text of its name
abbrev pub label_shown : Option Label → Data
label_shown None = null
label_shown (Some label) = string (encode_utf8_all label.name)

abbrev pub labelled : List Label → Option ℕ → Data
labelled labels None = null
labelled labels (Some number) = label_shown (slice_get labels number)

-- the value of a base type
abbrev pub base_shown : {A : Type 0} → Base → Val-F A → Data
base_shown (base.Int kind coding) v = number_shown (num_in v)
base_shown (base.IntFw kind coding) v = number_shown (num_in v)
base_shown (base.Bin kind order) v = number_shown (num_in v)
base_shown (base.Until coding) v = text_shown (text_in v)
base_shown (base.UntilEor coding) v = text_shown (text_in v)
base_shown (base.Fixed coding) v = text_shown (text_in v)
base_shown (base.Class coding) v = text_shown (text_in v)
base_shown (base.Char coding) v = text_shown (text_in v)
base_shown (base.Ip coding) v = address_shown (num_in v)
base_shown (base.Enum coding labels) v = labelled labels (label_in v)
base_shown (base.Packed signed) v = number_shown (num_in v)
base_shown (base.Zoned signed) v = number_shown (num_in v)

-- the value of a computed field
abbrev pub computed_shown : {A : Type 0} → ComputedForm → Val-F A → Data
computed_shown (result2.Range least greatest) v = number_shown (num_in v)
computed_shown result2.Text v = text_shown (text_in v)

-- members with that of a named part put in
module _ (names : List (List ℕ)) where
  abbrev pub put_named : Option ℕ → Data → Members → Members
  put_named None shown members = members
  put_named (Some name) shown members = put (encode_utf8_all (name_at names name)) shown members

  abbrev pub named_shown : ℕ → Data → Data
  named_shown name shown = object (put_named (Some name) shown no_members)

module _ (decls : List Decl) (names : List (List ℕ)) where
  -- members with those of the named parts put in, one after another
  abbrev pub parts_put : ℕ → List Part → List Shown → Members → Members
  parts_put depth [] values members = members
  parts_put depth (part ∷ parts) [] members = members
  parts_put depth (part ∷ parts) (value ∷ values) members =
      parts_put depth parts values (put_named names part.name (value depth part.term) members)

  -- a struct has one value for each of its parts
  abbrev pub struct_shown : ℕ → List Part → Option (List Shown) → Data
  struct_shown depth parts None = null
  struct_shown depth parts (Some values) =
      if nat_eq (length values) (length parts) then object (parts_put depth parts values no_members) else null

  abbrev pub arm_shown : ℕ → Option Arm → Shown → Data
  arm_shown depth None value = null
  arm_shown depth (Some arm) value = named_shown names arm.name (value depth arm.term)

  abbrev pub branch_shown : ℕ → Term-F Term Arm Case Part Seq → Option (ℕ × Shown) → Data
  branch_shown depth t None = null
  branch_shown depth t (Some branch) = arm_shown depth (arm_in t branch.0) branch.1

  abbrev pub array_shown : ℕ → Term → Option (List Shown) → Data
  array_shown depth elem None = null
  array_shown depth elem (Some values) = array (items_of (map (λ value. value depth elem) values))

  -- by the term's form
  abbrev pub in_term : ℕ → Term-F Term Arm Case Part Seq → Val-F Shown → Data
  in_term depth Term-F.Unit v = null
  in_term depth (Term-F.Base base args) v = base_shown base v
  in_term depth (Term-F.Lit literal) v = null
  in_term depth Term-F.Eor v = null
  in_term depth (Term-F.Struct parts) v = struct_shown depth parts (tuple_in v)
  in_term depth (Term-F.Alt arms) v = branch_shown depth (Term-F.Alt arms) (branch_in v)
  in_term depth (Term-F.Switch e cases) v = branch_shown depth (Term-F.Switch e cases) (branch_in v)
  in_term depth (Term-F.Guard inner binder condition) v = null
  in_term depth (Term-F.Seq s) v = array_shown depth s.elem (array_in v)
  in_term depth (Term-F.Call number args) v = null
  in_term depth (Term-F.Compute e form) v = computed_shown form v
  in_term depth (Term-F.Absorb inner) v = null
  in_term depth (Term-F.Scan inner) v = null

  abbrev pub in_form : Option Form → Val-F Shown → Data
  in_form None v = null
  in_form (Some form) v = in_term form.depth (out-Term form.term) v

  abbrev pub value_step : Val-F Shown → Shown
  value_step v depth t = in_form (form_at decls false depth t) v

  -- a value as JSON
  unfoldable pub shown : Val → Shown
  shown = fold-Val Shown value_step

  -- the same of values that aren't opened yet, for private clauses
  abbrev pub layer : Val → Val-F Shown
  layer v = map-Val Val Shown shown (out-Val v)

  abbrev pub struct_told : ℕ → List Part → Val → Data
  struct_told depth parts v = struct_shown depth parts (tuple_in (layer v))

  abbrev pub parts_told : ℕ → List Part → List Val → Data
  parts_told depth parts values = object (parts_put depth parts (map shown values) no_members)

  abbrev pub branch_told : ℕ → Term-F Term Arm Case Part Seq → Val → Data
  branch_told depth t v = branch_shown depth t (branch_in (layer v))

  abbrev pub array_told : ℕ → Term → Val → Data
  array_told depth elem v = array_shown depth elem (array_in (layer v))

  abbrev pub elements_told : ℕ → Term → List Val → Data
  elements_told depth elem values = array_shown depth elem (Some (map shown values))

  abbrev pub term_told : ℕ → Term-F Term Arm Case Part Seq → Val → Data
  term_told depth t v = in_term depth t (layer v)

abbrev pub number_told : Val → Data
number_told v = number_shown (num_in (out-Val v))

abbrev pub text_told : Val → Data
text_told v = text_shown (text_in (out-Val v))

abbrev pub base_told : Base → Val → Data
base_told base v = base_shown base (out-Val v)

abbrev pub computed_told : ComputedForm → Val → Data
computed_told form v = computed_shown form (out-Val v)

abbrev pub address_told : Val → Data
address_told v = address_shown (num_in (out-Val v))

abbrev pub label_told : List Label → Val → Data
label_told labels v = labelled labels (label_in (out-Val v))
