-- A run that halts: what its first step is.
use Rattle.std.proofs.Common.{◌≡◌, ◌∙◌, sym, ap, refl, subst, arith, ℕ, zero, suc, ◌+◌, ◌<◌, ◌≤◌, Bool, true, false, List, [], ◌∷◌, length, ◌⊎◌, inl, inr, ⊎_elim, Some, None, slice_get}
use Rattle.std.proofs.lemmas.Bool.{cases_lt, ne_eqb}
use Rattle.std.specs.Bool.{◌==◌}
use Rattle.pads_calc.specs.declared.reading.Reading.{Reading}
use Rattle.pads_calc.specs.Readings.{Subject}
use Rattle.pads_image.specs.declared.entry.Entry.{Entry}
use Rattle.pads_image.specs.declared.op.Op.{Op}
use Rattle.pads_image.specs.Answers.{Runs, Reaches, HaltsWith}
use Rattle.pads_image.specs.States.{State, entries}
use Rattle.pads_image.specs.Steps.{Step, Goes, Halts, Stuck, does, does_there, step}
use Rattle.pads_machine.specs.Ran.{GoesWithin, Halting}

-- a step more may be asking
abbrev pub may_ask : Bool → ℕ
may_ask true = 1
may_ask false = 0

pub asks-once : (asking : Bool) → may_ask asking ≤ 1
asks-once true = omega arith
asks-once false = omega arith

-- nothing is asked as long as that is so
pub quiet-then : (quiet : ℕ) → 0 < quiet → may_ask (quiet == 0) ≡ 0
quiet-then quiet some = ap (λ (b : Bool). may_ask b) (ne_eqb quiet 0 (λ none. absurd (omega (arith, none, some))))

-- where fewer steps are left, it doesn't matter whether something is asked
pub fewer-asking : (less left : ℕ) (after before : Bool) → less < left → less + less + may_ask after < left + left + may_ask before
fewer-asking less left after before is = omega (arith, is, asks-once after)

module _ (code : List Op) (of_entries : List Entry) (subject : Subject) (most : ℕ) where
  abbrev With : State → Reading → Type 0
  With = HaltsWith code of_entries subject most

  abbrev ahead_of : State → Step
  ahead_of s = step of_entries subject code s

  -- the next state, from which the run halts likewise
  record Ahead (s : State) (r : Reading) : Type 0 where
    there : State
    goes : ahead_of s ≡ Goes there
    fits : entries there ≤ most
    halts : With there r

  pub fits-first : (n : ℕ) (t end : State) → Runs code of_entries subject most n t end → entries end ≤ most → entries t ≤ most
  fits-first zero t end run within = subst (λ (x : State). entries x ≤ most) (sym run) within
  fits-first (suc n) t end run within = run.0

  first-step : (n : ℕ) (s end : State) (r : Reading) → Runs code of_entries subject most n s end → entries end ≤ most → ahead_of end ≡ Halts → end.last ≡ r
      → ((ahead_of s ≡ Halts) × (s.last ≡ r)) ⊎ Ahead s r
  first-step zero s end r run within halts last =
      inl (subst (λ (x : State). ahead_of x ≡ Halts) (sym run) halts, ap (λ (x : State). x.last) run ∙ last)
  first-step (suc n) s end r run within halts last = inr (record {
    there = run.1;
    goes = run.2;
    fits = fits-first n run.1 end run.3 within;
    halts = record { end = end; reached = record { steps = n; run = run.3 }; within = within; halts = halts; last = last };
  })

  ahead : (s : State) (r : Reading) → With s r → ((ahead_of s ≡ Halts) × (s.last ≡ r)) ⊎ Ahead s r
  ahead s r h = first-step h.reached.steps s h.end r h.reached.run h.within h.halts h.last

  pub halted : (s : State) (r : Reading) → ahead_of s ≡ Halts → With s r → s.last ≡ r
  halted s r halts h = ⊎_elim (λ here. here.1) (λ (a : Ahead s r). let no = sym halts ∙ a.goes in cc) (ahead s r h)

  pub moved : (s t : State) (r : Reading) → ahead_of s ≡ Goes t → With s r → With t r
  moved s t r goes h =
      ⊎_elim (λ here. let no = sym here.0 ∙ goes in cc)
      (λ (a : Ahead s r). let both = sym a.goes ∙ goes in let same : a.there ≡ t = cc in subst (λ (t : State). With t r) same a.halts)
      (ahead s r h)

  pub goes-within : (s : State) (r : Reading) → With s r → GoesWithin most (ahead_of s)
  goes-within s r h =
      ⊎_elim (λ here. subst (λ (x : Step). GoesWithin most x) (sym here.0) tt) (λ (a : Ahead s r). subst (λ (x : Step). GoesWithin most x) (sym a.goes) a.fits) (ahead s r h)

  pub at-op : (s : State) (instruction : Op) → slice_get code s.at_ ≡ Some instruction → ahead_of s ≡ does of_entries subject instruction s
  at-op s instruction there = ap (λ o. does_there of_entries subject o s) there

  pub never-past : (s : State) (r : Reading) → slice_get code s.at_ ≡ None → With s r → {A : Type 0} → A
  never-past s r none h = absurd (subst (λ (x : Step). GoesWithin most x) (ap (λ o. does_there of_entries subject o s) none) (goes-within s r h))

  -- so many steps lead to the halt
  pub record HaltsIn (n : ℕ) (s : State) (r : Reading) : Type 0 where
    pub end : State
    pub run : Runs code of_entries subject most n s end
    pub within : entries end ≤ most
    pub halts : ahead_of end ≡ Halts
    pub last : end.last ≡ r

  pub halts-in : (s : State) (r : Reading) → (h : With s r) → HaltsIn h.reached.steps s r
  halts-in s r h = record { end = h.end; run = h.reached.run; within = h.within; halts = h.halts; last = h.last }

  pub halts-with : (n : ℕ) (s : State) (r : Reading) → HaltsIn n s r → With s r
  halts-with n s r h = record { end = h.end; reached = record { steps = n; run = h.run }; within = h.within; halts = h.halts; last = h.last }

  -- one step less behind a step
  pub next-in : (n : ℕ) (s t : State) (r : Reading) → ahead_of s ≡ Goes t → HaltsIn n s r → (k : ℕ) × (n ≡ suc k) × HaltsIn k t r
  next-in zero s t r goes h = let no = sym goes ∙ subst (λ (x : State). ahead_of x ≡ Halts) (sym h.run) h.halts in absurd cc
  next-in (suc n) s t r goes h =
      let both = sym h.run.2 ∙ goes in
      let same : h.run.1 ≡ t = cc in
      (n, refl, record { end = h.end; run = subst (λ (t : State). Runs code of_entries subject most n t h.end) same h.run.3; within = h.within; halts = h.halts; last = h.last })

  -- and behind several
  pub along-in : (j n : ℕ) (s u : State) (r : Reading) → Runs code of_entries subject most j s u → HaltsIn n s r → (k : ℕ) × (k ≤ n) × HaltsIn k u r
  along-in zero n s u r run h = (n, omega arith, subst (λ (s : State). HaltsIn n s r) run h)
  along-in (suc j) n s u r run h =
      let one = next-in n s run.1 r run.2 h in
      let more = along-in j one.0 run.1 u r run.3 one.2 in
      (more.0, omega (arith, more.1, one.1), more.2)

  -- how many steps lead to the halt, where there are so many at most
  abbrev after : Step → (State → ℕ) → ℕ
  after (Goes t) more = suc (more t)
  after Halts more = zero
  after Stuck more = zero

  pub steps_left : ℕ → State → ℕ
  steps_left zero s = zero
  steps_left (suc n) s = after (ahead_of s) (λ t. steps_left n t)

  steps-are : (n most_steps : ℕ) (s : State) (r : Reading) → HaltsIn n s r → n ≤ most_steps → steps_left most_steps s ≡ n
  unfolding steps_left
  steps-are zero zero s r h within = refl
  steps-are zero (suc k) s r h within =
      let here : ahead_of s ≡ Halts = subst (λ (x : State). ahead_of x ≡ Halts) (sym h.run) h.halts in
      ap (λ (x : Step). after x (λ t. steps_left k t)) here
  steps-are (suc n) zero s r h within = absurd (omega arith)
  steps-are (suc n) (suc k) s r h within =
      let rest : HaltsIn n h.run.1 r = record { end = h.end; run = h.run.3; within = h.within; halts = h.halts; last = h.last } in
      ap (λ (x : Step). after x (λ t. steps_left k t)) h.run.2 ∙ ap (λ n. suc n) (steps-are n k h.run.1 r rest (omega arith))

  abbrev pub Counted : ℕ → State → Type 0
  Counted steps s = Halting code of_entries subject most steps s

  -- behind a step, and behind more of them, the run halts likewise, and fewer steps are left
  module _ (steps : ℕ) (s t u : State) (goes : ahead_of s ≡ Goes t) (more : Reaches code of_entries subject most t u) (counted : Counted steps s) where
    left-there : (k : ℕ) × (k < counted.1.reached.steps) × HaltsIn k u counted.0
    left-there =
        let one = next-in counted.1.reached.steps s t counted.0 goes (halts-in s counted.0 counted.1) in
        let there = along-in more.steps one.0 t u counted.0 more.run one.2 in
        (there.0, omega (arith, there.1, one.1), there.2)

    pub counted-there : Counted steps u
    unfolding halts-with
    counted-there = let l = left-there in (counted.0, halts-with l.0 u counted.0 l.2, omega (arith, l.1, counted.2))

    pub fewer-left : steps_left steps u < steps_left steps s
    fewer-left =
        let l = left-there in
        let here = steps-are counted.1.reached.steps steps s counted.0 (halts-in s counted.0 counted.1) counted.2 in
        let there = steps-are l.0 steps u counted.0 l.2 (omega (arith, l.1, counted.2)) in
        omega (arith, here, there, l.1)

    pub moved-there : (r : Reading) → With s r → With u r
    moved-there r h =
        let one = next-in h.reached.steps s t r goes (halts-in s r h) in
        let there = along-in more.steps one.0 t u r more.run one.2 in
        halts-with there.0 u r there.2

  pub no-more : (t : State) → Reaches code of_entries subject most t t
  no-more t = record { steps = 0; run = refl }

  pub fits-here : (steps : ℕ) (s : State) → Counted steps s → entries s ≤ most
  fits-here steps s counted = fits-first counted.1.reached.steps s counted.1.end counted.1.reached.run counted.1.within

get-past : {A : Type 0} (xs : List A) (i : ℕ) → length xs ≤ i → slice_get xs i ≡ None
get-past [] i past = refl
get-past (x ∷ xs) zero past = absurd (omega arith)
get-past (x ∷ xs) (suc i) past = get-past xs i (omega arith)

-- an instruction stands where a run goes on
pub address-there : (code : List Op) (of_entries : List Entry) (subject : Subject) (most steps : ℕ) (s : State) → Halting code of_entries subject most steps s → s.at_ < length code
address-there code of_entries subject most steps s counted =
    ⊎_elim (λ there. there) (λ past. never-past code of_entries subject most s counted.0 (get-past code s.at_ past) counted.1 {A = s.at_ < length code})
    (cases_lt s.at_ (length code))

-- more room is room enough
module _ (code : List Op) (of_entries : List Entry) (subject : Subject) (most more : ℕ) (less : most ≤ more) where
  runs-more : (n : ℕ) (s u : State) → Runs code of_entries subject most n s u → Runs code of_entries subject more n s u
  runs-more zero s u run = run
  runs-more (suc n) s u run = (omega (arith, run.0, less), run.1, run.2, runs-more n run.1 u run.3)

  pub more-room : (s : State) (r : Reading) → HaltsWith code of_entries subject most s r → HaltsWith code of_entries subject more s r
  more-room s r h = record {
    end = h.end;
    reached = record { steps = h.reached.steps; run = runs-more h.reached.steps s h.end h.reached.run };
    within = omega (arith, h.within, less);
    halts = h.halts;
    last = h.last;
  }

pub halts-there : (code code' : List Op) (es es' : List Entry) (subject : Subject) (most more : ℕ) (s s' : State) (r : Reading) → code' ≡ code → es' ≡ es → s' ≡ s → most ≤ more
    → HaltsWith code es subject most s r → HaltsWith code' es' subject more s' r
halts-there code code' es es' subject most more s s' r code_is es_are s_is less h =
    subst (λ (code : List Op). HaltsWith code es' subject more s' r) (sym code_is)
    (subst (λ (es : List Entry). HaltsWith code es subject more s' r) (sym es_are)
    (subst (λ (s : State). HaltsWith code es subject more s r) (sym s_is) (more-room code es subject most more less s r h)))

pub halting-there : (code code' : List Op) (es es' : List Entry) (subject : Subject) (most more steps : ℕ) (s s' : State) → code' ≡ code → es' ≡ es → s' ≡ s → most ≤ more
    → Halting code es subject most steps s → Halting code' es' subject more steps s'
unfolding more-room
halting-there code code' es es' subject most more steps s s' code_is es_are s_is less h =
    subst (λ (code : List Op). Halting code es' subject more steps s') (sym code_is)
    (subst (λ (es : List Entry). Halting code es subject more steps s') (sym es_are)
    (subst (λ (s : State). Halting code es subject more steps s) (sym s_is) (h.0, more-room code es subject most more less s h.0 h.1, h.2)))

pub some-below : {A : Type 0} (xs : List A) (i : ℕ) (x : A) → slice_get xs i ≡ Some x → i < length xs
some-below [] i x there = absurd cc
some-below (y ∷ xs) zero x there = omega arith
some-below (y ∷ xs) (suc i) x there = omega (arith, some-below xs i x there)
