-- Plain modules: nothing but a literal or the record's end is absorbed, each separator is absorbed, and no two
-- labels of an enum have one spelling. Calls may name any declaration, their own too.
use Rattle.std.specs.Prelude.{◌≡◌, ℕ, List, Option, Some, None, slice_get, ⊤}
use Rattle.pads_bases.specs.Enums.{SpellingsDiffer}
use Rattle.pads_dispatch.specs.declared.base.Base.{Base}
use Rattle.pads_dispatch.specs.declared.base.Base.TheVariants as base
use Rattle.pads_calc.specs.declared.decl.Decl.{Decl}
use Rattle.pads_calc.specs.declared.term.Arm.{Arm}
use Rattle.pads_calc.specs.declared.term.Case.{Case}
use Rattle.pads_calc.specs.declared.term.Part.{Part}
use Rattle.pads_calc.specs.declared.term.Seq.{Seq}
use Rattle.pads_calc.specs.declared.term.Term.{Term, Term-F, out-Term}
use Rattle.law_calculus.specs.Terms.{terms_in}

abbrev pub HasPlainLabels : Base → Type 0
HasPlainLabels (base.Int kind coding) = ⊤
HasPlainLabels (base.IntFw kind coding) = ⊤
HasPlainLabels (base.Bin kind order) = ⊤
HasPlainLabels (base.Until coding) = ⊤
HasPlainLabels (base.UntilEor coding) = ⊤
HasPlainLabels (base.Fixed coding) = ⊤
HasPlainLabels (base.Class coding) = ⊤
HasPlainLabels (base.Char coding) = ⊤
HasPlainLabels (base.Ip coding) = ⊤
HasPlainLabels (base.Enum coding labels) = SpellingsDiffer labels
HasPlainLabels (base.Packed signed) = ⊤
HasPlainLabels (base.Zoned signed) = ⊤

-- a literal, or the end of the record
abbrev pub IsMark : Term-F Term Arm Case Part Seq → Type 0
IsMark (Term-F.Lit literal) = ⊤
IsMark Term-F.Eor = ⊤
IsMark _ = ⊥

abbrev pub IsAbsorb : Term-F Term Arm Case Part Seq → Type 0
IsAbsorb (Term-F.Absorb inner) = ⊤
IsAbsorb _ = ⊥

abbrev pub IsSeparator : Option Term → Type 0
IsSeparator None = ⊤
IsSeparator (Some t) = IsAbsorb (out-Term t)

-- a term itself
abbrev pub IsPlainHere : Term-F Term Arm Case Part Seq → Type 0
IsPlainHere Term-F.Unit = ⊤
IsPlainHere (Term-F.Base base args) = HasPlainLabels base
IsPlainHere (Term-F.Lit literal) = ⊤
IsPlainHere Term-F.Eor = ⊤
IsPlainHere (Term-F.Struct parts) = ⊤
IsPlainHere (Term-F.Alt arms) = ⊤
IsPlainHere (Term-F.Switch e cases) = ⊤
IsPlainHere (Term-F.Guard inner binder condition) = ⊤
IsPlainHere (Term-F.Seq s) = IsSeparator s.sep
IsPlainHere (Term-F.Call number args) = ⊤
IsPlainHere (Term-F.Compute e form) = ⊤
IsPlainHere (Term-F.Absorb inner) = IsMark (out-Term inner)
IsPlainHere (Term-F.Scan inner) = ⊤

-- and each term in it
pub data IsPlain : Term → Type 0 where
  plain : {t : Term} → IsPlainHere (out-Term t) → ((n : ℕ) (inner : Term) → slice_get (terms_in (out-Term t)) n ≡ Some inner → IsPlain inner)
      → IsPlain t

abbrev pub Plain : List Decl → Type 0
Plain decls = (number : ℕ) (decl : Decl) → slice_get decls number ≡ Some decl → IsPlain decl.body
