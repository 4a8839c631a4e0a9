-- A module that is sorted and plain. Its second declaration has a number `x`, a comma, and a number above
-- `x`, which is a call of the first with `x`; the first's parameter is `low`.
use Rattle.std.proofs.Common.{subst, get_or, ◌&&◌, ◌≡◌, ◌∙◌, sym, ap, refl, ℕ, zero, suc, true, List, [], ◌∷◌, Option, None, Some, slice_get}
use Rattle.pads_code.specs.declared.Coding.TheVariants as coding
use Rattle.pads_int.specs.declared.kind.Kind.TheVariants.{I8}
use Rattle.pads_expr.specs.declared.expr.BinOp.TheVariants.{Lt}
use Rattle.pads_expr.specs.declared.expr.Expr.{Expr, Expr-F, roll-Expr, fold-roll-Expr, map-Expr}
use Rattle.pads_dispatch.specs.declared.base.Base.{Base}
use Rattle.pads_dispatch.specs.declared.base.Base.TheVariants as base
use Rattle.pads_calc.specs.declared.decl.Decl.{Decl}
use Rattle.pads_calc.specs.declared.term.Part.{Part}
use Rattle.pads_calc.specs.declared.term.Term.{Term, Term-F, roll-Term, out-roll-Term}
use Rattle.law_calculus.specs.Expressions.{SortScope, sort_named, sort_in, expr_step}
use Rattle.law_calculus.specs.Plain.{Plain, IsPlain, IsMark}
use Rattle.law_calculus.specs.Sorted.{Sorts, Sorted, IsSorted, IsSortedDecl, are_parameters, has}
use Rattle.law_calculus.specs.Sorts.{Sort, Number, Truth, Struct, is_number, is_truth, sort_of}
use Rattle.law_calculus.proofs.SortedForms.{sort-roll}
use Rattle.law_calculus.proofs.Made.{sorted-made, plain-made}

pub sort_in-roll : (declared : List Sort) (layer : Expr-F Expr) (scope : SortScope)
    → sort_in declared (roll-Expr layer) scope ≡ expr_step declared (map-Expr Expr (SortScope → Option Sort) (sort_in declared) layer) scope
unfolding sort_in
sort_in-roll declared layer scope = ap (λ (f : SortScope → Option Sort). f scope) (fold-roll-Expr (SortScope → Option Sort) (expr_step declared) layer)

abbrev pub low : ℕ
low = 0

abbrev pub named_x : ℕ
named_x = 1

abbrev pub above : ℕ
above = 2

abbrev pub integer : Base
integer = base.Int I8 coding.Ascii

abbrev pub variable : ℕ → Expr
variable name = roll-Expr (Expr-F.Var name)

abbrev pub number : Term
number = roll-Term (Term-F.Base integer [])

-- `low < value`
abbrev pub is_above : Expr
is_above = roll-Expr (Expr-F.Bin Lt (variable low) (variable above))

abbrev pub above_low : Term
above_low = roll-Term (Term-F.Guard number above is_above)

abbrev pub comma : Term
comma = roll-Term (Term-F.Lit (44 ∷ []))

abbrev pub absorbed : Term
absorbed = roll-Term (Term-F.Absorb comma)

abbrev pub searched : Term
searched = roll-Term (Term-F.Scan absorbed)

abbrev pub called : Term
called = roll-Term (Term-F.Call 0 (variable named_x ∷ []))

abbrev pub parts : List Part
parts =
    record { name = Some named_x; term = number } ∷ record { name = None; term = searched } ∷ record { name = Some above; term = called } ∷ []

abbrev pub pair : Term
pair = roll-Term (Term-F.Struct parts)

abbrev pub decls : List Decl
decls =
    record { name = 3; params = low ∷ []; body = above_low; set = true } ∷ record { name = 4; params = []; body = pair; set = true } ∷ []

abbrev pub sorts : Sorts
sorts = record { declared = Number ∷ Struct parts ∷ []; params = (Number ∷ []) ∷ [] ∷ [] }

abbrev pub declared : List Sort
declared = sorts.declared

sort-number : sort_of declared number ≡ Number
sort-number = sort-roll declared (Term-F.Base integer [])

sort-above_low : sort_of declared above_low ≡ Number
sort-above_low = sort-roll declared (Term-F.Guard number above is_above) ∙ sort-number

sort-pair : sort_of declared pair ≡ Struct parts
sort-pair = sort-roll declared (Term-F.Struct parts)

number-sorted : (scope : SortScope) → IsSorted sorts scope number
number-sorted scope = sorted-made sorts scope (Term-F.Base integer []) refl tt

-- `low` is a number, and so is the value
abbrev below : SortScope
below = (low, Number) ∷ []

condition-truth : sort_in declared is_above ((above, Number) ∷ below) ≡ Some Truth
condition-truth = simp (sort_in-roll) refl

above-sorted : IsSorted sorts below above_low
above-sorted =
    sorted-made sorts below (Term-F.Guard number above is_above)
    (ap (λ sort. has is_truth (sort_in declared is_above ((above, sort) ∷ below))) sort-number ∙ ap (has is_truth) condition-truth)
    (number-sorted below, tt)

mark-sorted : (scope : SortScope) → IsSorted sorts scope searched
mark-sorted scope =
    sorted-made sorts scope (Term-F.Scan absorbed) refl
    (sorted-made sorts scope (Term-F.Absorb comma) refl (sorted-made sorts scope (Term-F.Lit (44 ∷ [])) refl tt, tt), tt)

-- `x` is a number, as the call asks
call-sorted : (scope : SortScope) → sort_named scope named_x ≡ Some Number → IsSorted sorts scope called
call-sorted scope h =
    sorted-made sorts scope (Term-F.Call 0 (variable named_x ∷ []))
    (ap (λ sort. has is_number sort && true) (sort_in-roll declared (Expr-F.Var named_x) scope ∙ h)) tt

pair-sorted : IsSorted sorts [] pair
pair-sorted =
    sorted-made sorts [] (Term-F.Struct parts) refl
    (number-sorted [], (mark-sorted _, (call-sorted _ (ap (λ sort. Some sort) sort-number), tt)))

abbrev IsFine : ℕ → Decl → Type 0
IsFine number decl = (params : List Sort) × (slice_get sorts.params number ≡ Some params) × (are_parameters decl.params params ≡ true) × IsSortedDecl sorts decl params

bodies : (number : ℕ) (decl : Decl) → slice_get decls number ≡ Some decl → IsFine number decl
bodies zero decl there = let same : get_or decls 0 decl ≡ decl = cc in subst (IsFine 0) same (Number ∷ [], refl, refl, above-sorted)
bodies (suc zero) decl there = let same : get_or decls 1 decl ≡ decl = cc in subst (IsFine 1) same ([], refl, refl, pair-sorted)
bodies (suc (suc number)) decl there = cc

pub pair-is_sorted : Sorted decls
pair-is_sorted = (sorts, record { declared = rw (sort-above_low, sort-pair) refl; bodies = bodies })

number-plain : IsPlain number
number-plain = plain-made (Term-F.Base integer []) tt tt

above-plain : IsPlain above_low
above-plain = plain-made (Term-F.Guard number above is_above) tt (number-plain, tt)

mark-plain : IsPlain searched
mark-plain =
    plain-made (Term-F.Scan absorbed) tt
    (plain-made (Term-F.Absorb comma) (subst IsMark (sym (out-roll-Term (Term-F.Lit (44 ∷ [])))) tt) (plain-made (Term-F.Lit (44 ∷ [])) tt tt, tt), tt)

pair-plain : IsPlain pair
pair-plain = plain-made (Term-F.Struct parts) tt (number-plain, (mark-plain, (plain-made (Term-F.Call 0 (variable named_x ∷ [])) tt tt, tt)))

pub pair-is_plain : Plain decls
pair-is_plain zero decl there = let same : above_low ≡ decl.body = cc in subst IsPlain same above-plain
pair-is_plain (suc zero) decl there = let same : pair ≡ decl.body = cc in subst IsPlain same pair-plain
pair-is_plain (suc (suc number)) decl there = cc

-- a declaration that calls itself is plain too
pub calls_itself : (number : ℕ) → IsPlain (roll-Term (Term-F.Call number []))
calls_itself number = plain-made (Term-F.Call number []) tt tt
