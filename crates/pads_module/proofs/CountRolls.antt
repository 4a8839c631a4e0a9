-- What the counts of a term say of the terms in it.
use Rattle.std.proofs.Common.{◌≡◌, ◌∙◌, sym, ap, refl, ℕ, zero, suc, List, [], ◌∷◌, map, length, slice_get, Bool, true, ◌&&◌, nat_le, Option, None, Some}
use Rattle.std.specs.List.{list_all}
use Rattle.std.proofs.lemmas.List.{length-map}
use Rattle.std.proofs.lemmas.List.Folds.{list_all-map}
use Rattle.std.proofs.lemmas.Bool.{and_parts}
use Rattle.pads_expr.specs.declared.expr.Expr.{Expr}
use Rattle.pads_dispatch.specs.declared.base.Base.{Base}
use Rattle.pads_dispatch.specs.Labels.{labels_fit}
use Rattle.pads_calc.specs.declared.decl.Decl.{Decl}
use Rattle.pads_calc.specs.declared.term.ComputedForm.{ComputedForm}
use Rattle.pads_calc.specs.declared.term.Arm.{Arm, fold-Arm, fold_out-Arm}
use Rattle.pads_calc.specs.declared.term.Case.{Case, fold-Case, fold_out-Case}
use Rattle.pads_calc.specs.declared.term.Part.{Part, fold-Part, fold_out-Part}
use Rattle.pads_calc.specs.declared.term.Seq.{Seq, fold-Seq, fold_out-Seq}
use Rattle.pads_calc.specs.declared.term.Term.{Term, Term-F, fold-Term, fold-roll-Term, roll-Term, map-Term}
use Rattle.pads_calc.specs.declared.term.Term.TheShapes.{former-Seq-sep}
use Rattle.pads_calc.specs.declared.term.Term.TheVariants as term
use Rattle.pads_module.specs.Counts.{counts_fit, option_counts, decl_counts, module_counts, few, most, fits, all_fit, if_there, term_counts, arm_counts, case_counts, part_counts, seq_counts}

abbrev of_arm : Arm → Bool
of_arm = fold-Arm Bool Bool Bool Bool Bool term_counts arm_counts case_counts part_counts seq_counts

abbrev of_case : Case → Bool
of_case = fold-Case Bool Bool Bool Bool Bool term_counts arm_counts case_counts part_counts seq_counts

abbrev of_part : Part → Bool
of_part = fold-Part Bool Bool Bool Bool Bool term_counts arm_counts case_counts part_counts seq_counts

abbrev of_seq : Seq → Bool
of_seq = fold-Seq Bool Bool Bool Bool Bool term_counts arm_counts case_counts part_counts seq_counts

of_part-is : (part : Part) → of_part part ≡ counts_fit part.term
unfolding counts_fit
of_part-is part = fold_out-Part Bool Bool Bool Bool Bool term_counts arm_counts case_counts part_counts seq_counts part

of_arm-is : (arm : Arm) → of_arm arm ≡ counts_fit arm.term
unfolding counts_fit
of_arm-is arm = fold_out-Arm Bool Bool Bool Bool Bool term_counts arm_counts case_counts part_counts seq_counts arm

of_case-is : (case : Case) → of_case case ≡ counts_fit case.arm.term
of_case-is case = fold_out-Case Bool Bool Bool Bool Bool term_counts arm_counts case_counts part_counts seq_counts case ∙ of_arm-is case.arm

sep-counts : (o : Option Term) → if_there ((former-Seq-sep).map Term Bool counts_fit o) ≡ option_counts o
sep-counts None = refl
sep-counts (Some t) = refl

of_seq-is : (s : Seq) → of_seq s ≡ (counts_fit s.elem && option_counts s.sep && option_counts s.stop)
unfolding counts_fit
of_seq-is s =
    fold_out-Seq Bool Bool Bool Bool Bool term_counts arm_counts case_counts part_counts seq_counts s
    ∙ ap (λ sep. counts_fit s.elem && sep && if_there ((former-Seq-sep).map Term Bool counts_fit s.stop)) (sep-counts s.sep)
    ∙ ap (λ stop. counts_fit s.elem && option_counts s.sep && stop) (sep-counts s.stop)

counts-roll : (layer : Term-F Term Arm Case Part Seq) → counts_fit (roll-Term layer) ≡ term_counts (map-Term Term Arm Case Part Seq Bool Bool Bool Bool Bool counts_fit of_arm of_case of_part of_seq layer)
unfolding counts_fit
counts-roll layer = fold-roll-Term Bool Bool Bool Bool Bool term_counts arm_counts case_counts part_counts seq_counts layer

-- a list whose items are judged one by one
judged : {A : Type 0} (f g : A → Bool) → ((x : A) → f x ≡ g x) → (xs : List A) → (few (map f xs) && all_fit (map f xs)) ≡ (few xs && list_all g xs)
judged f g same xs =
    ap (λ n. nat_le n most && all_fit (map f xs)) (length-map xs f)
    ∙ ap (λ b. few xs && b) (list_all-map fits f xs ∙ ap (λ h. list_all h xs) (λ i x. same x i))

pub counts-Struct : (parts : List Part) → counts_fit (term.Struct parts) ≡ (few parts && list_all (λ part. counts_fit part.term) parts)
counts-Struct parts = ap counts_fit (sym (term.rolls-Struct parts)) ∙ counts-roll (Term-F.Struct parts) ∙ judged of_part (λ part. counts_fit part.term) of_part-is parts

pub counts-Alt : (arms : List Arm) → counts_fit (term.Alt arms) ≡ (few arms && list_all (λ arm. counts_fit arm.term) arms)
counts-Alt arms = ap counts_fit (sym (term.rolls-Alt arms)) ∙ counts-roll (Term-F.Alt arms) ∙ judged of_arm (λ arm. counts_fit arm.term) of_arm-is arms

pub counts-Switch : (e : Expr) (cases : List Case) → counts_fit (term.Switch e cases) ≡ (few cases && list_all (λ case. counts_fit case.arm.term) cases)
counts-Switch e cases = ap counts_fit (sym (term.rolls-Switch e cases)) ∙ counts-roll (Term-F.Switch e cases) ∙ judged of_case (λ case. counts_fit case.arm.term) of_case-is cases

pub counts-Guard : (inner : Term) (binder : ℕ) (condition : Expr) → counts_fit (term.Guard inner binder condition) ≡ counts_fit inner
counts-Guard inner binder condition = ap counts_fit (sym (term.rolls-Guard inner binder condition)) ∙ counts-roll (Term-F.Guard inner binder condition)

pub counts-Absorb : (inner : Term) → counts_fit (term.Absorb inner) ≡ counts_fit inner
counts-Absorb inner = ap counts_fit (sym (term.rolls-Absorb inner)) ∙ counts-roll (Term-F.Absorb inner)

pub counts-Scan : (inner : Term) → counts_fit (term.Scan inner) ≡ counts_fit inner
counts-Scan inner = ap counts_fit (sym (term.rolls-Scan inner)) ∙ counts-roll (Term-F.Scan inner)

pub counts-Seq : (s : Seq) → counts_fit (term.Seq s) ≡ (counts_fit s.elem && option_counts s.sep && option_counts s.stop)
counts-Seq s = ap counts_fit (sym (term.rolls-Seq s)) ∙ counts-roll (Term-F.Seq s) ∙ of_seq-is s

-- a term that fits has parts that fit
pub few-parts : (parts : List Part) → counts_fit (term.Struct parts) ≡ true → few parts ≡ true
few-parts parts h = (and_parts _ _ (sym (counts-Struct parts) ∙ h)).0

pub fit-parts : (parts : List Part) → counts_fit (term.Struct parts) ≡ true → list_all (λ part. counts_fit part.term) parts ≡ true
fit-parts parts h = (and_parts (few parts) _ (sym (counts-Struct parts) ∙ h)).1

pub few-arms : (arms : List Arm) → counts_fit (term.Alt arms) ≡ true → few arms ≡ true
few-arms arms h = (and_parts _ _ (sym (counts-Alt arms) ∙ h)).0

pub fit-arms : (arms : List Arm) → counts_fit (term.Alt arms) ≡ true → list_all (λ arm. counts_fit arm.term) arms ≡ true
fit-arms arms h = (and_parts (few arms) _ (sym (counts-Alt arms) ∙ h)).1

pub few-cases : (e : Expr) (cases : List Case) → counts_fit (term.Switch e cases) ≡ true → few cases ≡ true
few-cases e cases h = (and_parts _ _ (sym (counts-Switch e cases) ∙ h)).0

pub fit-cases : (e : Expr) (cases : List Case) → counts_fit (term.Switch e cases) ≡ true → list_all (λ case. counts_fit case.arm.term) cases ≡ true
fit-cases e cases h = (and_parts (few cases) _ (sym (counts-Switch e cases) ∙ h)).1

pub fit-elem : (s : Seq) → counts_fit (term.Seq s) ≡ true → counts_fit s.elem ≡ true
fit-elem s h = (and_parts (counts_fit s.elem) (option_counts s.sep) (and_parts (counts_fit s.elem && option_counts s.sep) (option_counts s.stop) (sym (counts-Seq s) ∙ h)).0).0

pub fit-sep : (s : Seq) → counts_fit (term.Seq s) ≡ true → option_counts s.sep ≡ true
fit-sep s h = (and_parts (counts_fit s.elem) (option_counts s.sep) (and_parts (counts_fit s.elem && option_counts s.sep) (option_counts s.stop) (sym (counts-Seq s) ∙ h)).0).1

pub fit-stop : (s : Seq) → counts_fit (term.Seq s) ≡ true → option_counts s.stop ≡ true
fit-stop s h = (and_parts (counts_fit s.elem && option_counts s.sep) (option_counts s.stop) (sym (counts-Seq s) ∙ h)).1

-- what holds of all items holds of the one that is found
pub all-there : {A : Type 0} (f : A → Bool) (xs : List A) (n : ℕ) (x : A) → list_all f xs ≡ true → slice_get xs n ≡ Some x → f x ≡ true
all-there f [] n x all there = cc
all-there f (y ∷ xs) zero x all there = let e : x ≡ y = cc in ap f e ∙ (and_parts (f y) (list_all f xs) all).0
all-there f (y ∷ xs) (suc n) x all there = all-there f xs n x (and_parts (f y) (list_all f xs) all).1 there

pub fit-body : (decls : List Decl) (n : ℕ) (decl : Decl) → module_counts decls ≡ true → slice_get decls n ≡ Some decl → counts_fit decl.body ≡ true
fit-body decls n decl fits there =
    (and_parts (few decl.params) (counts_fit decl.body) (all-there decl_counts decls n decl (and_parts (few decls) (list_all decl_counts decls) fits).1 there)).1

pub counts-Unit : counts_fit term.Unit ≡ true
counts-Unit = ap counts_fit (sym term.rolls-Unit) ∙ counts-roll Term-F.Unit

pub counts-Base : (base : Base) (args : List Expr) → counts_fit (term.Base base args) ≡ labels_fit base
counts-Base base args = ap counts_fit (sym (term.rolls-Base base args)) ∙ counts-roll (Term-F.Base base args)

pub counts-Lit : (literal : List ℕ) → counts_fit (term.Lit literal) ≡ true
counts-Lit literal = ap counts_fit (sym (term.rolls-Lit literal)) ∙ counts-roll (Term-F.Lit literal)

pub counts-Eor : counts_fit term.Eor ≡ true
counts-Eor = ap counts_fit (sym term.rolls-Eor) ∙ counts-roll Term-F.Eor

pub counts-Call : (number : ℕ) (args : List Expr) → counts_fit (term.Call number args) ≡ true
counts-Call number args = ap counts_fit (sym (term.rolls-Call number args)) ∙ counts-roll (Term-F.Call number args)

pub counts-Compute : (e : Expr) (form : ComputedForm) → counts_fit (term.Compute e form) ≡ true
counts-Compute e form = ap counts_fit (sym (term.rolls-Compute e form)) ∙ counts-roll (Term-F.Compute e form)

-- every form's counts
pub ruleset count_rules = (
  counts-Unit,
  counts-Base,
  counts-Lit,
  counts-Eor,
  counts-Struct,
  counts-Alt,
  counts-Switch,
  counts-Guard,
  counts-Seq,
  counts-Call,
  counts-Compute,
  counts-Absorb,
  counts-Scan,
)
