-- What isn't plain, what isn't sorted, and what is evaluated there.
use Rattle.std.proofs.Common.{◌≡◌, ◌∙◌, sym, ap, refl, subst, arith, ℕ, pos, true, false, ◌&&◌, List, [], ◌∷◌, Option, None, Some}
use Rattle.pads_code.specs.declared.Coding.TheVariants as coding
use Rattle.pads_bases.specs.declared.enums.Label.{Label}
use Rattle.pads_value.specs.declared.value.Val.TheVariants as val
use Rattle.pads_expr.specs.declared.expr.BinOp.TheVariants.{Eq, Add}
use Rattle.pads_expr.specs.declared.expr.Expr.{Expr, Expr-F, roll-Expr}
use Rattle.pads_dispatch.specs.declared.base.Base.TheVariants as base
use Rattle.pads_calc.specs.declared.decl.Decl.{Decl}
use Rattle.pads_calc.specs.declared.term.Case.{Case}
use Rattle.pads_calc.specs.declared.term.Key.TheVariants as key
use Rattle.pads_calc.specs.declared.term.ComputedForm.TheVariants as form
use Rattle.pads_calc.specs.declared.term.Seq.{Seq}
use Rattle.pads_calc.specs.declared.term.Term.{Term-F, roll-Term, out-roll-Term}
use Rattle.law_calculus.specs.Evaluated.{Asks, Evaluates, asks, moment}
use Rattle.law_calculus.specs.Expressions.{SortScope, sort_in}
use Rattle.law_calculus.specs.IllSorted.{truths_in_order}
use Rattle.law_calculus.specs.Plain.{IsPlain, IsMark, IsAbsorb}
use Rattle.law_calculus.specs.Sorted.{IsSorted, has, chooses, calls, computes}
use Rattle.law_calculus.specs.Sorts.{Number, Text, Labels, is_number, is_truth}
use Rattle.law_calculus.specs.Values.{has_sort}
use Rattle.law_calculus.proofs.Accepted.{sort_in-roll, number, comma, above, declared, sorts}
use Rattle.law_calculus.proofs.Made.{plain-here, sorted-fits}
use Rattle.law_calculus.proofs.Values.{has-Enum}
use Rattle.pads_calc.specs.Readings.{Subject}

-- not plain: a number that is absorbed
pub absorbs_number : IsPlain (roll-Term (Term-F.Absorb number)) → ⊥
absorbs_number h = subst IsMark (out-roll-Term _) (plain-here _ (Term-F.Absorb number) (out-roll-Term _) h)

-- numbers with a comma between them that isn't absorbed, as many as are asked for
abbrev listed : Option Expr → Seq
listed size = record { elem = number; sep = Some comma; size = size; last = None; stop = None; elts = above }

pub separates_by_literal : IsPlain (roll-Term (Term-F.Seq (listed None))) → ⊥
separates_by_literal h = subst IsAbsorb (out-roll-Term _) (plain-here _ (Term-F.Seq (listed None)) (out-roll-Term _) h)

-- two labels with one spelling
abbrev label : Label
label = record { name = 97 ∷ []; spelling = 97 ∷ [] }

pub same_spelling : IsPlain (roll-Term (Term-F.Base (base.Enum coding.Ascii (label ∷ label ∷ [])) [])) → ⊥
same_spelling h =
    let same : 0 ≡ 1 = plain-here _ (Term-F.Base (base.Enum coding.Ascii (label ∷ label ∷ [])) []) (out-roll-Term _) h 0 1 label label refl refl refl in
    omega (arith, same)

-- not sorted, in any scope: expressions
abbrev one : Expr
one = roll-Expr (Expr-F.Num (pos 1))

abbrev letter : Expr
letter = roll-Expr (Expr-F.Text (97 ∷ []))

pub one-number : (scope : SortScope) → sort_in declared one scope ≡ Some Number
one-number scope = sort_in-roll declared (Expr-F.Num (pos 1)) scope

pub letter-text : (scope : SortScope) → sort_in declared letter scope ≡ Some Text
letter-text scope = sort_in-roll declared (Expr-F.Text (97 ∷ [])) scope

pub no_order : (scope : SortScope) → sort_in declared truths_in_order scope ≡ None
no_order scope = simp (sort_in-roll) refl

pub number_and_text : (scope : SortScope) → sort_in declared (roll-Expr (Expr-F.Bin Eq one letter)) scope ≡ None
number_and_text scope = simp (sort_in-roll) refl

pub sum_of_texts : (scope : SortScope) → sort_in declared (roll-Expr (Expr-F.Bin Add letter letter)) scope ≡ None
sum_of_texts scope = simp (sort_in-roll) refl

pub part_of_number : (n : ℕ) (scope : SortScope) → sort_in declared (roll-Expr (Expr-F.Part one n)) scope ≡ None
part_of_number n scope = simp (sort_in-roll) refl

pub nothing_bound : (name : ℕ) → sort_in declared (roll-Expr (Expr-F.Var name)) [] ≡ None
nothing_bound name = sort_in-roll declared (Expr-F.Var name) []

-- and terms: a constraint that is a number
pub number_as_constraint : (scope : SortScope) → IsSorted sorts scope (roll-Term (Term-F.Guard number above one)) → ⊥
number_as_constraint scope h =
    let fit = sorted-fits sorts scope _ (Term-F.Guard number above one) (out-roll-Term _) h in
    let given = one-number ((above, _) ∷ scope) in
    let bad : has is_truth (Some Number) ≡ true = ap (has is_truth) (sym given) ∙ fit in
    cc

-- a size that is a text
pub text_as_size : (scope : SortScope) → IsSorted sorts scope (roll-Term (Term-F.Seq (listed (Some letter)))) → ⊥
text_as_size scope h =
    let fit = sorted-fits sorts scope _ (Term-F.Seq (listed (Some letter))) (out-roll-Term _) h in
    let bad : (has is_number (Some Text) && true) ≡ true = ap (λ sort. has is_number sort && true) (sym (letter-text scope)) ∙ fit in
    cc

-- a text where the parameter is a number, and no argument where there is a parameter
pub text_as_argument : (scope : SortScope) → IsSorted sorts scope (roll-Term (Term-F.Call 0 (letter ∷ []))) → ⊥
text_as_argument scope h =
    let fit = sorted-fits sorts scope _ (Term-F.Call 0 (letter ∷ [])) (out-roll-Term _) h in
    let bad : calls (Some (Number ∷ [])) (Some Text ∷ []) ≡ true = ap (λ sort. calls (Some (Number ∷ [])) (sort ∷ [])) (sym (letter-text scope)) ∙ fit in
    cc

pub no_argument : (scope : SortScope) → IsSorted sorts scope (roll-Term (Term-F.Call 0 [])) → ⊥
no_argument scope h = let bad : calls (Some (Number ∷ [])) [] ≡ true = sorted-fits sorts scope _ (Term-F.Call 0 []) (out-roll-Term _) h in cc

-- an argument of a base type that takes none
pub argument_that_none_takes : (scope : SortScope) → IsSorted sorts scope (roll-Term (Term-F.Base (base.UntilEor coding.Ascii) (one ∷ []))) → ⊥
argument_that_none_takes scope h = let bad : false ≡ true = sorted-fits sorts scope _ (Term-F.Base (base.UntilEor coding.Ascii) (one ∷ [])) (out-roll-Term _) h in cc

-- a number that is computed as a text
pub number_as_text : (scope : SortScope) → IsSorted sorts scope (roll-Term (Term-F.Compute one form.Text)) → ⊥
number_as_text scope h =
    let bad : computes form.Text (Some Number) ≡ true = ap (computes form.Text) (sym (one-number scope)) ∙ sorted-fits sorts scope _ (Term-F.Compute one form.Text) (out-roll-Term _) h in
    cc

-- a text as the key of a number
abbrev keyed : List Case
keyed = record { key = Some (key.Text (97 ∷ [])); arm = record { name = above; term = number } } ∷ []

pub text_as_key : (scope : SortScope) → IsSorted sorts scope (roll-Term (Term-F.Switch one keyed)) → ⊥
text_as_key scope h =
    let fit = sorted-fits sorts scope _ (Term-F.Switch one keyed) (out-roll-Term _) h in
    let bad : chooses (Some Number) (Some (key.Text (97 ∷ [])) ∷ []) ≡ true = ap (λ sort. chooses sort (Some (key.Text (97 ∷ [])) ∷ [])) (sym (one-number scope)) ∙ fit in
    cc

-- a label beyond the last
pub label_beyond : has_sort declared (val.Enum 2) (Labels 2) ≡ false
label_beyond = has-Enum declared 2 2

-- Where a module isn't sorted, the calculus evaluates what is ill-sorted.
pub ill-evaluated : (subject : Subject) (decls : List Decl) (depth i : ℕ) → Evaluates subject decls (moment depth (roll-Term (Term-F.Compute truths_in_order form.Text)) [] i) truths_in_order []
ill-evaluated subject decls depth i =
    asks (subst (λ layer. Asks subject decls layer (moment depth (roll-Term (Term-F.Compute truths_in_order form.Text)) [] i) truths_in_order []) (sym (out-roll-Term (Term-F.Compute truths_in_order form.Text)))
    ((0, refl), refl))
