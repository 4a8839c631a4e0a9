-- The sort of a term's value: what may be asked of the value in an expression. Constraints and searches
-- leave it as it is, and a call has that of the declaration's body. What a struct, a union or an array
-- holds is told by the terms in it, whose sorts are looked up where they are asked for.
use Rattle.std.specs.Prelude.{◌≡◌, ℕ, zero, suc, Bool, true, false, List, map, length, Option, Some, None, slice_get, unwrap_or, ⊤}
use Rattle.pads_dispatch.specs.declared.base.Base.{Base}
use Rattle.pads_dispatch.specs.declared.base.Base.TheVariants as base
use Rattle.pads_calc.specs.declared.decl.Decl.{Decl}
use Rattle.pads_calc.specs.declared.term.Arm.{Arm, Arm-F}
use Rattle.pads_calc.specs.declared.term.Case.{Case, Case-F}
use Rattle.pads_calc.specs.declared.term.Part.{Part, Part-F}
use Rattle.pads_calc.specs.declared.term.ComputedForm.{ComputedForm}
use Rattle.pads_calc.specs.declared.term.ComputedForm.TheVariants as form
use Rattle.pads_calc.specs.declared.term.Seq.{Seq, Seq-F}
use Rattle.pads_calc.specs.declared.term.Term.{Term, Term-F, fold-Term, para-Term}

pub data Sort : Type 0 where
  Number : Sort
  Text : Sort
  Truth : Sort
  -- nothing, a literal, the record's end, or what isn't kept
  Nothing : Sort
  -- an enum of so many labels
  Labels : ℕ → Sort
  -- a struct of these parts
  Struct : List Part → Sort
  -- a union of these branches
  Choice : List Term → Sort
  -- an array of such elements
  Array : Term → Sort

abbrev pub is_number : Sort → Bool
is_number Number = true
is_number _ = false

abbrev pub is_text : Sort → Bool
is_text Text = true
is_text _ = false

abbrev pub is_truth : Sort → Bool
is_truth Truth = true
is_truth _ = false

abbrev pub base_sort : Base → Sort
base_sort (base.Int kind coding) = Number
base_sort (base.IntFw kind coding) = Number
base_sort (base.Bin kind order) = Number
base_sort (base.Until coding) = Text
base_sort (base.UntilEor coding) = Text
base_sort (base.Fixed coding) = Text
base_sort (base.Class coding) = Text
base_sort (base.Char coding) = Text
base_sort (base.Ip coding) = Number
base_sort (base.Enum coding labels) = Labels (length labels)
base_sort (base.Packed signed) = Number
base_sort (base.Zoned signed) = Number

abbrev pub result_sort : ComputedForm → Sort
result_sort (form.Range least greatest) = Number
result_sort form.Text = Text

-- the sort of a declaration's values; a number that none has stands for nothing
abbrev pub sort_at : List Sort → ℕ → Sort
sort_at declared number = unwrap_or (slice_get declared number) Nothing

-- one equation for each form, where the declarations' values have these sorts
abbrev pub sort_step : List Sort → Term-F (Term × Sort) (Arm × ⊤) (Case × ⊤) (Part × ⊤) (Seq × ⊤) → Sort
sort_step declared Term-F.Unit = Nothing
sort_step declared (Term-F.Base base args) = base_sort base
sort_step declared (Term-F.Lit literal) = Nothing
sort_step declared Term-F.Eor = Nothing
sort_step declared (Term-F.Struct parts) = Struct (map (λ part. part.0) parts)
sort_step declared (Term-F.Alt arms) = Choice (map (λ arm. arm.0.term) arms)
sort_step declared (Term-F.Switch e cases) = Choice (map (λ case. case.0.arm.term) cases)
sort_step declared (Term-F.Guard inner binder condition) = inner.1
sort_step declared (Term-F.Seq s) = Array s.0.elem
sort_step declared (Term-F.Call number args) = sort_at declared number
sort_step declared (Term-F.Compute e form) = result_sort form
sort_step declared (Term-F.Absorb inner) = Nothing
sort_step declared (Term-F.Scan inner) = inner.1

abbrev pub no_arm : Arm-F (Term × Sort) (Arm × ⊤) (Case × ⊤) (Part × ⊤) (Seq × ⊤) → ⊤
no_arm arm = tt

abbrev pub no_case : Case-F (Term × Sort) (Arm × ⊤) (Case × ⊤) (Part × ⊤) (Seq × ⊤) → ⊤
no_case case = tt

abbrev pub no_part : Part-F (Term × Sort) (Arm × ⊤) (Case × ⊤) (Part × ⊤) (Seq × ⊤) → ⊤
no_part part = tt

abbrev pub no_seq : Seq-F (Term × Sort) (Arm × ⊤) (Case × ⊤) (Part × ⊤) (Seq × ⊤) → ⊤
no_seq s = tt

unfoldable pub sort_of : List Sort → Term → Sort
sort_of declared = para-Term Sort ⊤ ⊤ ⊤ ⊤ (sort_step declared) no_arm no_case no_part no_seq

-- these are the sorts of the declarations' values: each has that of its declaration's body
abbrev pub AreSorts : List Sort → List Decl → Type 0
AreSorts declared decls = declared ≡ map (λ decl. sort_of declared decl.body) decls

-- the declaration whose sort a term has, if it isn't told by the term: the one that is called behind
-- constraints and searches
abbrev pub leads_step : Term-F (Option ℕ) ⊤ ⊤ ⊤ ⊤ → Option ℕ
leads_step Term-F.Unit = None
leads_step (Term-F.Base base args) = None
leads_step (Term-F.Lit literal) = None
leads_step Term-F.Eor = None
leads_step (Term-F.Struct parts) = None
leads_step (Term-F.Alt arms) = None
leads_step (Term-F.Switch e cases) = None
leads_step (Term-F.Guard inner binder condition) = inner
leads_step (Term-F.Seq s) = None
leads_step (Term-F.Call number args) = Some number
leads_step (Term-F.Compute e form) = None
leads_step (Term-F.Absorb inner) = None
leads_step (Term-F.Scan inner) = inner

abbrev pub of_arm : Arm-F (Option ℕ) ⊤ ⊤ ⊤ ⊤ → ⊤
of_arm arm = tt

abbrev pub of_case : Case-F (Option ℕ) ⊤ ⊤ ⊤ ⊤ → ⊤
of_case case = tt

abbrev pub of_part : Part-F (Option ℕ) ⊤ ⊤ ⊤ ⊤ → ⊤
of_part part = tt

abbrev pub of_seq : Seq-F (Option ℕ) ⊤ ⊤ ⊤ ⊤ → ⊤
of_seq s = tt

unfoldable pub leads_to : Term → Option ℕ
leads_to = fold-Term (Option ℕ) ⊤ ⊤ ⊤ ⊤ leads_step of_arm of_case of_part of_seq

module _ (decls : List Decl) where
  abbrev pub ends_behind : (Term → Bool) → Option Decl → Bool
  ends_behind within None = true
  ends_behind within (Some decl) = within decl.body

  abbrev pub ends_through : (Term → Bool) → Option ℕ → Bool
  ends_through within None = true
  ends_through within (Some number) = ends_behind within (slice_get decls number)

  -- a term's sort is told behind at most so many calls
  unfoldable pub ends : ℕ → Term → Bool
  ends zero t = ends_through (λ body. false) (leads_to t)
  ends (suc depth) t = ends_through (ends depth) (leads_to t)
