-- Runs one behind another, and what a state sees.
use Rattle.std.proofs.Common.{◌≡◌, ◌∙◌, sym, ap, refl, subst, arith, ℕ, zero, suc, ◌+◌, ◌-◌, ◌≤◌, List, [], ◌∷◌, ◌++◌, length, length-append, take, drop, Option, Some, None, slice_get}
use Rattle.pads_value.specs.declared.value.Val.{Val}
use Rattle.pads_expr.specs.Value.{Pairs}
use Rattle.pads_dispatch.specs.declared.base.Arg.{Arg}
use Rattle.pads_calc.specs.declared.reading.Reading.{Reading}
use Rattle.pads_calc.specs.Arguments.{bound_to, value_of_arg}
use Rattle.pads_calc.specs.Readings.{Subject}
use Rattle.pads_calc.specs.Structs.{bind}
use Rattle.pads_image.specs.declared.entry.Entry.{Entry}
use Rattle.pads_image.specs.declared.op.Op.{Op}
use Rattle.pads_image.specs.Answers.{Runs, Reaches}
use Rattle.pads_image.specs.States.{State, Node, Mark, entries, seen, base_of}
use Rattle.pads_image.specs.Steps.{Goes, does, does_there, step}

module _ (code : List Op) (of_entries : List Entry) (subject : Subject) (most : ℕ) where
  abbrev pub To : State → State → Type 0
  To = Reaches code of_entries subject most

  pub here : (s : State) → To s s
  here s = record { steps = zero; run = refl }

  pub before : (s t u : State) → entries s ≤ most → step of_entries subject code s ≡ Goes t → To t u → To s u
  before s t u fits goes h = record { steps = suc h.steps; run = (fits, t, goes, h.run) }

  -- one instruction, which stands at the state's address
  pub once : (s t : State) (p : ℕ) (instruction : Op) → s.at_ ≡ p → slice_get code p ≡ Some instruction → entries s ≤ most → does of_entries subject instruction s ≡ Goes t → To s t
  once s t p instruction at_ there fits goes =
      before s t t fits (ap (λ o. does_there of_entries subject o s) (ap (λ p. slice_get code p) at_ ∙ there) ∙ goes) (here t)

  runs-join : (n m : ℕ) (s t u : State) → Runs code of_entries subject most n s t → Runs code of_entries subject most m t u → Runs code of_entries subject most (n + m) s u
  runs-join zero m s t u a b =
      let none : m ≡ zero + m = omega arith in
      subst (λ (k : ℕ). Runs code of_entries subject most k s u) none (subst (λ (x : State). Runs code of_entries subject most m x u) (sym a) b)
  runs-join (suc n) m s t u a b =
      let one : suc (n + m) ≡ suc n + m = omega arith in
      let rest : Runs code of_entries subject most (suc (n + m)) s u = (a.0, a.1, a.2, runs-join n m a.1 t u a.3 b) in
      subst (λ (k : ℕ). Runs code of_entries subject most k s u) one rest

  pub join : (s t u : State) → To s t → To t u → To s u
  join s t u a b = record { steps = a.steps + b.steps; run = runs-join a.steps b.steps s t u a.run b.run }

  pub to-same : (s t u : State) → t ≡ u → To s t → To s u
  to-same s t u same h = subst (λ (x : State). To s x) same h

-- what is seen depends on bindings and calls alone
pub seen-is : (s : State) → seen s ≡ take (length s.bindings - base_of s.callers) s.bindings
unfolding seen
seen-is s = refl

pub seen-behind : (s : State) (p : ℕ) (r : Reading) → seen (record s { at_ = p; last = r }) ≡ seen s
unfolding seen
seen-behind s p r = refl

pub seen-open : (s : State) (p : ℕ) (nodes : List Node) → seen (record s { at_ = p; nodes = nodes }) ≡ seen s
unfolding seen
seen-open s p nodes = refl

pub seen-marked : (s : State) (p : ℕ) (r : Reading) (marks : List Mark) → seen (record s { at_ = p; last = r; marks = marks }) ≡ seen s
unfolding seen
seen-marked s p r marks = refl

pub seen-bind : (s : State) (name : Option ℕ) (value : Val) → base_of s.callers ≤ length s.bindings →
    take (length (bind name value s.bindings) - base_of s.callers) (bind name value s.bindings) ≡ bind name value (seen s)
unfolding seen
seen-bind s None value sane = refl
seen-bind s (Some name) value sane =
    let more : length ((name, value) ∷ s.bindings) - base_of s.callers ≡ suc (length s.bindings - base_of s.callers) = omega (arith, sane) in
    ap (λ n. take n ((name, value) ∷ s.bindings)) more

-- parameters over other bindings
pub bound-over : (names : List ℕ) (args : List Arg) (above below : Pairs) → bound_to names args (above ++ below) ≡ bound_to names args above ++ below
bound-over [] args above below = refl
bound-over (name ∷ names) [] above below = refl
bound-over (name ∷ names) (arg ∷ args) above below = bound-over names args ((name, value_of_arg arg) ∷ above) below

pub take-over : {A : Type 0} (xs ys : List A) → take (length (xs ++ ys) - length ys) (xs ++ ys) ≡ xs
take-over [] ys = let none : length ys - length ys ≡ zero = omega arith in ap (λ n. take n ys) none
take-over (x ∷ xs) ys =
    let more : suc (length (xs ++ ys)) - length ys ≡ suc (length (xs ++ ys) - length ys) = omega (arith, length-append xs ys) in
    ap (λ n. take n (x ∷ (xs ++ ys))) more ∙ ap (λ zs. x ∷ zs) (take-over xs ys)

pub drop-over : {A : Type 0} (xs ys : List A) → drop (length (xs ++ ys) - length ys) (xs ++ ys) ≡ ys
drop-over [] ys = let none : length ys - length ys ≡ zero = omega arith in ap (λ n. drop n ys) none
drop-over (x ∷ xs) ys =
    let more : suc (length (xs ++ ys)) - length ys ≡ suc (length (xs ++ ys) - length ys) = omega (arith, length-append xs ys) in
    ap (λ n. drop n (x ∷ (xs ++ ys))) more ∙ drop-over xs ys

pub bound-length : (names : List ℕ) (args : List Arg) (env : Pairs) → length (bound_to names args env) ≤ length names + length env
bound-length [] args env = omega arith
bound-length (name ∷ names) [] env = omega arith
bound-length (name ∷ names) (arg ∷ args) env = omega (arith, bound-length names args ((name, value_of_arg arg) ∷ env))
