-- The values of a module's declarations have sorts, whatever the declarations call. A sort is told by a term
-- itself, or it is that of the declaration that the term leads to. So each declaration is an equation, and the
-- equations are solved one by one, the last first, each put into those before it; a declaration that leads to
-- itself alone takes any sort.
use Rattle.std.proofs.Common.{◌≡◌, ◌≢◌, ◌∙◌, sym, ap, refl, subst, arith, ℕ, zero, suc, ◌+◌, ◌<◌, ◌≤◌, Bool, true, false, nat_eq, if◌then◌else◌, List, [], ◌∷◌, map, length, Option, None, Some, slice_get, unwrap_or, option_map}
use Rattle.pads_calc.specs.declared.decl.Decl.{Decl}
use Rattle.pads_calc.specs.declared.term.Arm.{Arm}
use Rattle.pads_calc.specs.declared.term.Case.{Case}
use Rattle.pads_calc.specs.declared.term.Part.{Part}
use Rattle.pads_calc.specs.declared.term.Seq.{Seq}
use Rattle.pads_calc.specs.declared.term.Term.{Term, Term-F, fold-roll-Term, roll-Term}
use Rattle.pads_calc.specs.declared.term.Term.TheVariants as term
use Rattle.pads_calc.proofs.Choices.{slice_get-map}
use Rattle.pads_calc.proofs.Induction.{EachForm, each-term}
use Rattle.std.specs.Prelude.{⊤}
use Rattle.std.proofs.lemmas.Bool.{both_ways, eqb-true, eq-eqb, ne_eqb}
use Rattle.law_calculus.specs.Sorts.{Sort, Nothing, sort_at, sort_of, AreSorts, leads_step, of_arm, of_case, of_part, of_seq, leads_to, ends, ends_behind, ends_through}
use Rattle.law_calculus.proofs.SortedTerms.{declared-is}
use Rattle.law_calculus.proofs.SortedForms.{sort-roll}

-- where a term leads to a declaration, it has the sort of that one, and else the same in each module
abbrev Tells : Option ℕ → Term → Type 0
Tells None t = (declared : List Sort) → sort_of declared t ≡ sort_of [] t
Tells (Some number) t = (declared : List Sort) → sort_of declared t ≡ sort_at declared number

abbrev Told : Term → Type 0
Told t = Tells (leads_to t) t

abbrev Layer : Type 0
Layer = Term-F Term Arm Case Part Seq

leads-roll : (layer : Layer) → (left : Option ℕ) → leads_to (roll-Term layer) ≡ left → Tells left (roll-Term layer) → (t : Term) → roll-Term layer ≡ t → Told t
leads-roll layer left is tells t rolls = subst Told rolls (subst (λ left. Tells left (roll-Term layer)) (sym is) tells)

-- a form that tells its sort itself
itself : (layer : Layer) → leads_to (roll-Term layer) ≡ None → ((declared : List Sort) → sort_of declared (roll-Term layer) ≡ sort_of [] (roll-Term layer)) → (t : Term) → roll-Term layer ≡ t → Told t
itself layer is tells t rolls = leads-roll layer None is tells t rolls

-- a form that has the sort of a term in it
through : (layer : Layer) (inner : Term) → leads_to (roll-Term layer) ≡ leads_to inner → ((declared : List Sort) → sort_of declared (roll-Term layer) ≡ sort_of declared inner)
    → Told inner → (t : Term) → roll-Term layer ≡ t → Told t
through layer inner is same told t rolls =
    leads-roll layer (leads_to inner) is (moved (leads_to inner) told) t rolls
  where
    moved : (left : Option ℕ) → Tells left inner → Tells left (roll-Term layer)
    moved None tells = λ declared. same declared ∙ tells declared ∙ sym (same [])
    moved (Some number) tells = λ declared. same declared ∙ tells declared

leads_layer : Layer → Option ℕ
leads_layer Term-F.Unit = None
leads_layer (Term-F.Base base args) = None
leads_layer (Term-F.Lit literal) = None
leads_layer Term-F.Eor = None
leads_layer (Term-F.Struct parts) = None
leads_layer (Term-F.Alt arms) = None
leads_layer (Term-F.Switch e cases) = None
leads_layer (Term-F.Guard inner binder condition) = leads_to inner
leads_layer (Term-F.Seq s) = None
leads_layer (Term-F.Call number args) = Some number
leads_layer (Term-F.Compute e form) = None
leads_layer (Term-F.Absorb inner) = None
leads_layer (Term-F.Scan inner) = leads_to inner

leads-are : (layer : Layer) → leads_to (roll-Term layer) ≡ leads_layer layer
unfolding leads_to leads_layer
leads-are Term-F.Unit = fold-roll-Term (Option ℕ) ⊤ ⊤ ⊤ ⊤ leads_step of_arm of_case of_part of_seq Term-F.Unit
leads-are (Term-F.Base base args) = fold-roll-Term (Option ℕ) ⊤ ⊤ ⊤ ⊤ leads_step of_arm of_case of_part of_seq (Term-F.Base base args)
leads-are (Term-F.Lit literal) = fold-roll-Term (Option ℕ) ⊤ ⊤ ⊤ ⊤ leads_step of_arm of_case of_part of_seq (Term-F.Lit literal)
leads-are Term-F.Eor = fold-roll-Term (Option ℕ) ⊤ ⊤ ⊤ ⊤ leads_step of_arm of_case of_part of_seq Term-F.Eor
leads-are (Term-F.Struct parts) = fold-roll-Term (Option ℕ) ⊤ ⊤ ⊤ ⊤ leads_step of_arm of_case of_part of_seq (Term-F.Struct parts)
leads-are (Term-F.Alt arms) = fold-roll-Term (Option ℕ) ⊤ ⊤ ⊤ ⊤ leads_step of_arm of_case of_part of_seq (Term-F.Alt arms)
leads-are (Term-F.Switch e cases) = fold-roll-Term (Option ℕ) ⊤ ⊤ ⊤ ⊤ leads_step of_arm of_case of_part of_seq (Term-F.Switch e cases)
leads-are (Term-F.Guard inner binder condition) = fold-roll-Term (Option ℕ) ⊤ ⊤ ⊤ ⊤ leads_step of_arm of_case of_part of_seq (Term-F.Guard inner binder condition)
leads-are (Term-F.Seq s) = fold-roll-Term (Option ℕ) ⊤ ⊤ ⊤ ⊤ leads_step of_arm of_case of_part of_seq (Term-F.Seq s)
leads-are (Term-F.Call number args) = fold-roll-Term (Option ℕ) ⊤ ⊤ ⊤ ⊤ leads_step of_arm of_case of_part of_seq (Term-F.Call number args)
leads-are (Term-F.Compute e form) = fold-roll-Term (Option ℕ) ⊤ ⊤ ⊤ ⊤ leads_step of_arm of_case of_part of_seq (Term-F.Compute e form)
leads-are (Term-F.Absorb inner) = fold-roll-Term (Option ℕ) ⊤ ⊤ ⊤ ⊤ leads_step of_arm of_case of_part of_seq (Term-F.Absorb inner)
leads-are (Term-F.Scan inner) = fold-roll-Term (Option ℕ) ⊤ ⊤ ⊤ ⊤ leads_step of_arm of_case of_part of_seq (Term-F.Scan inner)

told-forms : EachForm Told
unfolding leads_layer
told-forms = record {
  of_unit = itself Term-F.Unit (leads-are Term-F.Unit) (λ declared. sort-roll declared Term-F.Unit ∙ sym (sort-roll [] Term-F.Unit)) _ term.rolls-Unit;
  of_base = λ b args. itself (Term-F.Base b args) (leads-are (Term-F.Base b args)) (λ declared. sort-roll declared (Term-F.Base b args) ∙ sym (sort-roll [] (Term-F.Base b args))) _ (term.rolls-Base b args);
  of_lit = λ literal. itself (Term-F.Lit literal) (leads-are (Term-F.Lit literal)) (λ declared. sort-roll declared (Term-F.Lit literal) ∙ sym (sort-roll [] (Term-F.Lit literal))) _ (term.rolls-Lit literal);
  of_eor = itself Term-F.Eor (leads-are Term-F.Eor) (λ declared. sort-roll declared Term-F.Eor ∙ sym (sort-roll [] Term-F.Eor)) _ term.rolls-Eor;
  of_struct = λ parts h. itself (Term-F.Struct parts) (leads-are (Term-F.Struct parts)) (λ declared. sort-roll declared (Term-F.Struct parts) ∙ sym (sort-roll [] (Term-F.Struct parts))) _ (term.rolls-Struct parts);
  of_alt = λ arms h. itself (Term-F.Alt arms) (leads-are (Term-F.Alt arms)) (λ declared. sort-roll declared (Term-F.Alt arms) ∙ sym (sort-roll [] (Term-F.Alt arms))) _ (term.rolls-Alt arms);
  of_switch = λ e cases h. itself (Term-F.Switch e cases) (leads-are (Term-F.Switch e cases)) (λ declared. sort-roll declared (Term-F.Switch e cases) ∙ sym (sort-roll [] (Term-F.Switch e cases))) _ (term.rolls-Switch e cases);
  of_guard = λ inner binder condition h.
      through (Term-F.Guard inner binder condition) inner (leads-are (Term-F.Guard inner binder condition)) (λ declared. sort-roll declared (Term-F.Guard inner binder condition)) h _ (term.rolls-Guard inner binder condition);
  of_seq = λ s h. itself (Term-F.Seq s) (leads-are (Term-F.Seq s)) (λ declared. sort-roll declared (Term-F.Seq s) ∙ sym (sort-roll [] (Term-F.Seq s))) _ (term.rolls-Seq s);
  of_call = λ number args.
      leads-roll (Term-F.Call number args) (Some number) (leads-are (Term-F.Call number args)) (λ declared. sort-roll declared (Term-F.Call number args)) _ (term.rolls-Call number args);
  of_compute = λ e form. itself (Term-F.Compute e form) (leads-are (Term-F.Compute e form)) (λ declared. sort-roll declared (Term-F.Compute e form) ∙ sym (sort-roll [] (Term-F.Compute e form))) _ (term.rolls-Compute e form);
  of_absorb = λ inner h. itself (Term-F.Absorb inner) (leads-are (Term-F.Absorb inner)) (λ declared. sort-roll declared (Term-F.Absorb inner) ∙ sym (sort-roll [] (Term-F.Absorb inner))) _ (term.rolls-Absorb inner);
  of_scan = λ inner h.
      through (Term-F.Scan inner) inner (leads-are (Term-F.Scan inner)) (λ declared. sort-roll declared (Term-F.Scan inner)) h _ (term.rolls-Scan inner);
}

pub told : (t : Term) → Told t
told t = each-term Told told-forms t

-- An equation: a sort, or that of another number.
pub data Lead : Type 0 where
  Itself : Sort → Lead
  As : ℕ → Lead

pub lead_by : Option ℕ → Term → Lead
lead_by None t = Itself (sort_of [] t)
lead_by (Some number) t = As number

abbrev solved : (ℕ → Sort) → Lead → Sort
solved sorts (Itself sort) = sort
solved sorts (As number) = sorts number

-- one equation put into another
abbrev replaced : ℕ → Lead → Lead → Lead
replaced n by (Itself sort) = Itself sort
replaced n by (As number) = if nat_eq number n then by else As number

same-number : (k n : ℕ) → nat_eq k n ≡ true → k ≡ n
same-number k n same = eqb-true k n same

module _ (first : ℕ → Sort) where
  -- what the equation of number n says, but for itself
  abbrev last_lead : ℕ → (ℕ → Lead) → Lead
  last_lead n leads = replaced n (Itself (first n)) (leads n)

  abbrev before : ℕ → (ℕ → Lead) → ℕ → Lead
  before n leads k = replaced n (last_lead n leads) (leads k)

  abbrev with_last : ℕ → Lead → (ℕ → Sort) → ℕ → Sort
  with_last n last sorts k = if nat_eq k n then solved sorts last else sorts k

  pub solution : ℕ → (ℕ → Lead) → ℕ → Sort
  solution zero leads = first
  solution (suc n) leads = with_last n (last_lead n leads) (solution n (before n leads))

  module _ (n : ℕ) (last : Lead) (sorts : ℕ → Sort) where
    abbrev whole : ℕ → Sort
    whole = with_last n last sorts

    at-last : (k : ℕ) → nat_eq k n ≡ true → whole k ≡ solved sorts last
    at-last k same = ap (λ b. if b then solved sorts last else sorts k) same

    at-others : (k : ℕ) → nat_eq k n ≡ false → whole k ≡ sorts k
    at-others k other = ap (λ b. if b then solved sorts last else sorts k) other

    put : (m : ℕ) (is : Bool) → nat_eq m n ≡ is → solved sorts (if is then last else As m) ≡ whole m
    put m true same = sym (at-last m same)
    put m false other = sym (at-others m other)

    put-in : (lead : Lead) → solved sorts (replaced n last lead) ≡ solved whole lead
    put-in (Itself sort) = refl
    put-in (As m) = put m (nat_eq m n) refl

    own-number : (m : ℕ) (is : Bool) → nat_eq m n ≡ is → (sort : Sort) → whole n ≡ solved sorts (if is then Itself sort else As m) → whole n ≡ whole m
    own-number m true same sort h = ap whole (sym (same-number m n same))
    own-number m false other sort h = h ∙ sym (at-others m other)

    own : (sort : Sort) (lead : Lead) → whole n ≡ solved sorts (replaced n (Itself sort) lead) → whole n ≡ solved whole lead
    own sort (Itself other) h = h
    own sort (As m) h = own-number m (nat_eq m n) refl sort h

  equal-self : (n : ℕ) → nat_eq n n ≡ true
  equal-self n = eq-eqb n n refl

  met-at : (n : ℕ) (leads : ℕ → Lead) → ((k : ℕ) → k < n → solution n (before n leads) k ≡ solved (solution n (before n leads)) (before n leads k))
      → (k : ℕ) → k < suc n → (is : Bool) → nat_eq k n ≡ is → solution (suc n) leads k ≡ solved (solution (suc n) leads) (leads k)
  unfolding solution
  met-at n leads earlier k less true same =
      let sorts = solution n (before n leads) in
      let last = last_lead n leads in
      subst (λ k. whole n last sorts k ≡ solved (whole n last sorts) (leads k)) (sym (same-number k n same))
      (own n last sorts (first n) (leads n) (at-last n last sorts n (equal-self n)))
  met-at n leads earlier k less false other =
      let sorts = solution n (before n leads) in
      let last = last_lead n leads in
      let unlike : k ≢ n = λ same. absurd (both_ways (nat_eq k n) other (eq-eqb k n same)) in
      let lower : k < n = omega (arith, less, unlike) in
      at-others n last sorts k other ∙ earlier k lower ∙ put-in n last sorts (leads k)

  -- each equation is met
  met : (n : ℕ) (leads : ℕ → Lead) (k : ℕ) → k < n → solution n leads k ≡ solved (solution n leads) (leads k)
  met zero leads k less = absurd (omega arith)
  met (suc n) leads k less = met-at n leads (met n (before n leads)) k less (nat_eq k n) refl

  -- the numbers from n on keep what they have
  kept : (n : ℕ) (leads : ℕ → Lead) (k : ℕ) → n ≤ k → solution n leads k ≡ first k
  unfolding solution
  kept zero leads k above = refl
  kept (suc n) leads k above =
      let other : nat_eq k n ≡ false = ne_eqb k n (λ same. omega (arith, above, same)) in
      at-others n (last_lead n leads) (solution n (before n leads)) k other ∙ kept n (before n leads) k (omega (arith, above))

  -- What is the same of each first sort and of what its equation makes of them is the same of the solution.
  module _ {A : Type 0} (f : Sort → A) where
    abbrev Fine : ℕ → Lead → Type 0
    Fine k lead = f (solved first lead) ≡ f (first k)

    fine-put : (n k m : ℕ) (by : Lead) → Fine n by → (is : Bool) → nat_eq m n ≡ is → Fine k (As m) → Fine k (if is then by else As m)
    fine-put n k m by fine true same h = fine ∙ ap (λ n. f (first n)) (sym (same-number m n same)) ∙ h
    fine-put n k m by fine false other h = h

    fine-replaced : (n k : ℕ) (by lead : Lead) → Fine n by → Fine k lead → Fine k (replaced n by lead)
    fine-replaced n k by (Itself sort) fine h = h
    fine-replaced n k by (As m) fine h = fine-put n k m by fine (nat_eq m n) refl h

    fine-solved : (sorts : ℕ → Sort) → ((k : ℕ) → f (sorts k) ≡ f (first k)) → (k : ℕ) (lead : Lead) → Fine k lead → f (solved sorts lead) ≡ f (first k)
    fine-solved sorts same k (Itself sort) fine = fine
    fine-solved sorts same k (As m) fine = same m ∙ fine

    fine-last : (n : ℕ) (last : Lead) (sorts : ℕ → Sort) → Fine n last → ((k : ℕ) → f (sorts k) ≡ f (first k)) → (k : ℕ) (is : Bool) → nat_eq k n ≡ is
        → f (if is then solved sorts last else sorts k) ≡ f (first k)
    fine-last n last sorts fine same k true is = fine-solved sorts same n last fine ∙ ap (λ n. f (first n)) (sym (same-number k n is))
    fine-last n last sorts fine same k false is = same k

    like-first : (n : ℕ) (leads : ℕ → Lead) → ((k : ℕ) → k < n → Fine k (leads k)) → (k : ℕ) → f (solution n leads k) ≡ f (first k)
    unfolding solution
    like-first zero leads fine k = refl
    like-first (suc n) leads fine k =
        let last = fine-replaced n n (Itself (first n)) (leads n) refl (fine n (omega arith)) in
        fine-last n (last_lead n leads) (solution n (before n leads)) last
        (like-first n (before n leads) (λ k less. fine-replaced n k (last_lead n leads) (leads k) last (fine k (omega (arith, less))))) k (nat_eq k n) refl

-- The declarations' equations, solved from the first sorts.
pub lead_at : Option Decl → Lead
lead_at None = Itself Nothing
lead_at (Some decl) = lead_by (leads_to decl.body) decl.body

abbrev leads_of : List Decl → ℕ → Lead
leads_of decls k = lead_at (slice_get decls k)

-- the sorts of so many numbers, from this one on
pub sorts_from : (ℕ → Sort) → ℕ → List Decl → List Sort
sorts_from sorts n [] = []
sorts_from sorts n (decl ∷ decls) = sorts n ∷ sorts_from sorts (suc n) decls

from-at : (sorts : ℕ → Sort) (n : ℕ) (decls : List Decl) → ((k : ℕ) → n + length decls ≤ k → sorts k ≡ Nothing) → (k : ℕ) → sort_at (sorts_from sorts n decls) k ≡ sorts (n + k)
unfolding sorts_from
from-at sorts n [] nothing k = sym (nothing (n + k) (omega arith))
from-at sorts n (decl ∷ decls) nothing zero = let same : n ≡ n + 0 = omega arith in ap sorts same
from-at sorts n (decl ∷ decls) nothing (suc k) =
    let same : suc n + k ≡ n + suc k = omega arith in
    from-at sorts (suc n) decls (λ k above. nothing k (omega (arith, above))) k ∙ ap sorts same

from-are : (sorts : ℕ → Sort) (n : ℕ) (decls : List Decl) (g : Decl → Sort) → ((k : ℕ) (decl : Decl) → slice_get decls k ≡ Some decl → sorts (n + k) ≡ g decl) → sorts_from sorts n decls ≡ map g decls
unfolding sorts_from
from-are sorts n [] g each = refl
from-are sorts n (decl ∷ decls) g each =
    let same : n ≡ n + 0 = omega arith in
    ap (λ first. first ∷ sorts_from sorts (suc n) decls) (ap sorts same ∙ each 0 decl refl)
    ∙ ap (λ rest. g decl ∷ rest) (from-are sorts (suc n) decls g (λ k other there. (let moved : suc n + k ≡ n + suc k = omega arith in ap sorts moved ∙ each (suc k) other there)))

lead-solves : (declared : List Sort) (sorts : ℕ → Sort) → ((k : ℕ) → sort_at declared k ≡ sorts k) → (t : Term) (left : Option ℕ) → Tells left t → solved sorts (lead_by left t) ≡ sort_of declared t
unfolding lead_by
lead-solves declared sorts same t None tells = sym (tells declared)
lead-solves declared sorts same t (Some number) tells = sym (tells declared ∙ same number)

there-below : {A : Type 0} (xs : List A) (k : ℕ) (x : A) → slice_get xs k ≡ Some x → k < length xs
there-below [] k x there = cc
there-below (y ∷ ys) zero x there = omega arith
there-below (y ∷ ys) (suc k) x there = let lower = there-below ys k x there in omega (arith, lower)

-- Sorts like first ones, where what the declarations' bodies make of those is like them.
module _ (decls : List Decl) (first : List Sort) (within : length first ≤ length decls) where
  abbrev first_at : ℕ → Sort
  first_at k = sort_at first k

  abbrev sorts : ℕ → Sort
  sorts = solution first_at (length decls) (leads_of decls)

  abbrev pub made : List Sort
  made = sorts_from sorts 0 decls

  beyond : {A : Type 0} (xs : List A) (k : ℕ) → length xs ≤ k → slice_get xs k ≡ None
  beyond [] k above = refl
  beyond (x ∷ xs) zero above = absurd (omega (arith, above))
  beyond (x ∷ xs) (suc k) above = beyond xs k (omega (arith, above))

  first-beyond : (k : ℕ) → length decls ≤ k → first_at k ≡ Nothing
  first-beyond k above = ap (λ found. unwrap_or found Nothing) (beyond first k (omega (arith, above, within)))

  made-at : (k : ℕ) → sort_at made k ≡ sorts k
  made-at k =
      let same : 0 + k ≡ k = omega arith in
      from-at sorts 0 decls (λ k above. (let higher : length decls ≤ k = omega (arith, above) in kept first_at (length decls) (leads_of decls) k higher ∙ first-beyond k higher)) k ∙ ap sorts same

  pub made-are : AreSorts made decls
  unfolding lead_at
  made-are = from-are sorts 0 decls (λ decl. sort_of made decl.body) (λ k decl there.
      let same : 0 + k ≡ k = omega arith in
      ap sorts same ∙ met first_at (length decls) (leads_of decls) k (there-below decls k decl there) ∙ ap (λ found. solved sorts (lead_at found)) there
      ∙ lead-solves made sorts made-at decl.body (leads_to decl.body) (told decl.body))

  module _ {A : Type 0} (f : Sort → A) (fine : (k : ℕ) (decl : Decl) → slice_get decls k ≡ Some decl → f (sort_of first decl.body) ≡ f (sort_at first k)) where
    fine-at : (k : ℕ) (found : Option Decl) → slice_get decls k ≡ found → k < length decls → f (solved first_at (lead_at found)) ≡ f (first_at k)
    unfolding lead_at
    fine-at k None there less = absurd (there-less decls k less there)
      where
        there-less : {B : Type 0} (xs : List B) (k : ℕ) → k < length xs → slice_get xs k ≡ None → ⊥
        there-less [] k less there = omega (arith, less)
        there-less (x ∷ xs) zero less there = cc
        there-less (x ∷ xs) (suc k) less there = there-less xs k (omega (arith, less)) there
    fine-at k (Some decl) there less = ap f (lead-solves first first_at (λ k. refl) decl.body (leads_to decl.body) (told decl.body)) ∙ fine k decl there

    pub made-like : (k : ℕ) → f (sort_at made k) ≡ f (sort_at first k)
    made-like k = ap f (made-at k) ∙ like-first first_at f (length decls) (leads_of decls) (λ k less. fine-at k (slice_get decls k) refl less) k

pub module-sorts : (decls : List Decl) → (declared : List Sort) × AreSorts declared decls
module-sorts decls = (made decls [] (omega arith), made-are decls [] (omega arith))

-- where a term's sort is told behind some number of calls, it is the same with all sorts of the declarations
module _ (decls : List Decl) (one other : List Sort) (are : AreSorts one decls) (too : AreSorts other decls) where
  none-at : (declared : List Sort) → AreSorts declared decls → (number : ℕ) → slice_get decls number ≡ None → sort_at declared number ≡ Nothing
  none-at declared is number none =
      ap (λ sorts. unwrap_or (slice_get sorts number) Nothing) is
      ∙ ap (λ found. unwrap_or found Nothing) (slice_get-map (λ (decl : Decl). sort_of declared decl.body) decls number ∙ ap (option_map (λ (decl : Decl). sort_of declared decl.body)) none)

  behind : (number : ℕ) (found : Option Decl) → slice_get decls number ≡ found → (inner : Term → Bool) → ((t : Term) → inner t ≡ true → sort_of one t ≡ sort_of other t)
      → ends_behind decls inner found ≡ true → sort_at one number ≡ sort_at other number
  behind number None there inner h end = none-at one are number there ∙ sym (none-at other too number there)
  behind number (Some decl) there inner h end =
      declared-is one decls are number decl there ∙ h decl.body end ∙ sym (declared-is other decls too number decl there)

  by-lead : (t : Term) (left : Option ℕ) → Tells left t → (inner : Term → Bool) → ((t : Term) → inner t ≡ true → sort_of one t ≡ sort_of other t)
      → ends_through decls inner left ≡ true → sort_of one t ≡ sort_of other t
  by-lead t None tells inner h end = tells one ∙ sym (tells other)
  by-lead t (Some number) tells inner h end = tells one ∙ behind number (slice_get decls number) refl inner h end ∙ sym (tells other)

  unique : (depth : ℕ) (t : Term) → ends decls depth t ≡ true → sort_of one t ≡ sort_of other t
  unfolding ends
  unique zero t end = by-lead t (leads_to t) (told t) (λ body. false) (λ body is. absurd cc) end
  unique (suc depth) t end = by-lead t (leads_to t) (told t) (ends decls depth) (unique depth) end

pub sorts-unique : (decls : List Decl) (one other : List Sort) (depth : ℕ) (t : Term) → AreSorts one decls → AreSorts other decls → ends decls depth t ≡ true → sort_of one t ≡ sort_of other t
sorts-unique decls one other depth t are too end = unique decls one other are too depth t end
