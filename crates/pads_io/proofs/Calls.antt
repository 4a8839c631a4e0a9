-- Calls, one after the other.
use Rattle.std.proofs.Common.{◌≡◌, ◌∙◌, refl, ap, subst, sym, inl, inr, ℕ, Bool, true, Option, is_some}
use Rattle.pads_io.specs.Calls.{Call, CallsOfTwo, Many, Reads, World, Writes, WritesOnBoth, gave_some, goes, never, stays, world}

pub many-trans : {State : Type 0} {Step : State → State → Type 0} {s t u : State} → Many Step s t → Many Step t u → Many Step s u
many-trans p stays = p
many-trans p (goes q step) = goes (many-trans p q) step

pub many-map : {A B : Type 0} {P : A → A → Type 0} {Q : B → B → Type 0} (f : A → B) → ((x y : A) → P x y → Q (f x) (f y)) → {x y : A} → Many P x y → Many Q (f x) (f y)
many-map f each stays = stays
many-map f each (goes p step) = goes (many-map f each p) (each _ _ step)

-- writes of a function that succeeded
pub wrote-all : {K E : Type 0} (writes : K → Option ℕ → K → Type 0) (writes_notes : E → Option ℕ → E → Type 0) {o o' : K} {n n' : E}
    → (well : Bool) × WritesOnBoth writes writes_notes o n o' n' well × (well ≡ true) → WritesOnBoth writes writes_notes o n o' n' true
wrote-all {K} {E} writes writes_notes {o} {o'} {n} {n'} h = subst (WritesOnBoth writes writes_notes o n o' n') h.2 h.1

module _ {S K E : Type 0} (reads : S → Option ℕ → S → Type 0) (writes : K → Option ℕ → K → Type 0) (writes_notes : E → Option ℕ → E → Type 0) where
  -- writes on one sink, where a source and another sink are there
  pub out-writes : (gave : Bool) (s : S) (n : E) {o o' : K} {well : Bool} → Writes writes o o' well
      → Many (Call reads writes writes_notes) (world gave true s o n) (world gave well s o' n)
  out-writes gave s n p = many-map (λ (w : Bool × K). world gave w.0 s w.1 n)
      (λ x y step. inr (inl (step.0, y.1, step.1, step.2, ap (λ well. world gave well s y.1 n) step.3))) p

  pub notes-writes : (gave : Bool) (s : S) (o : K) {n n' : E} {well : Bool} → Writes writes_notes n n' well
      → Many (Call reads writes writes_notes) (world gave true s o n) (world gave well s o n')
  notes-writes gave s o p = many-map (λ (w : Bool × E). world gave w.0 s o w.1)
      (λ x y step. inr (inr (step.0, y.1, step.1, step.2, ap (λ well. world gave well s o y.1) step.3))) p

  -- with a source beside two sinks
  abbrev beside : Bool → S → World (Unit {0}) K E → World S K E
  beside gave s w = world gave w.well s w.out w.notes

  beside-step : (gave : Bool) (s : S) (x y : World (Unit {0}) K E) → Call never writes writes_notes x y → Call reads writes writes_notes (beside gave s x) (beside gave s y)
  beside-step gave s x y (inl step) = absurd step.4
  beside-step gave s x y (inr (inl step)) = inr (inl (step.0, step.1, step.2, step.3, ap (beside gave s) step.4))
  beside-step gave s x y (inr (inr step)) = inr (inr (step.0, step.1, step.2, step.3, ap (beside gave s) step.4))

  pub both-write : (gave : Bool) (s : S) {o o' : K} {n n' : E} {well : Bool} → WritesOnBoth writes writes_notes o n o' n' well
      → Many (Call reads writes writes_notes) (world gave true s o n) (world gave well s o' n')
  both-write gave s p = many-map (beside gave s) (beside-step gave s) p

  -- one read more
  pub one-read : {a : World S K E} (s s' : S) (o : K) (n : E) (count : Option ℕ) → Many (Call reads writes writes_notes) a (world true true s o n) → reads s count s'
      → Many (Call reads writes writes_notes) a (world (gave_some count) true s' o n)
  one-read s s' o n count p call = goes p (inl (count, s', refl, refl, call, refl))

  pub some-read : {a : World S K E} (s s' : S) (o : K) (n : E) (count : Option ℕ) → Many (Call reads writes writes_notes) a (world true true s o n) → reads s count s' → gave_some count ≡ true
      → Many (Call reads writes writes_notes) a (world true true s' o n)
  some-read {a} s s' o n count p call some = subst (λ gave. Many (Call reads writes writes_notes) a (world gave true s' o n)) some (one-read s s' o n count p call)

  -- writes behind what was read and written
  pub then-writes : {a : World S K E} (gave well : Bool) (s : S) (o o' : K) (n n' : E) {last : Bool} → Many (Call reads writes writes_notes) a (world gave well s o n) → well ≡ true
      → WritesOnBoth writes writes_notes o n o' n' last → Many (Call reads writes writes_notes) a (world gave last s o' n')
  then-writes {a} gave well s o o' n n' p is q =
      many-trans (subst (λ well. Many (Call reads writes writes_notes) a (world gave well s o n)) is p) (both-write gave s q)

  -- with notes that nothing is written on
  abbrev noted : E → World S K (Unit {0}) → World S K E
  noted n w = world w.gave w.well w.source w.out n

  noted-step : (n : E) (x y : World S K (Unit {0})) → Call reads writes never x y → Call reads writes writes_notes (noted n x) (noted n y)
  noted-step n x y (inl step) = inl (step.0, step.1, step.2, step.3, step.4, ap (noted n) step.5)
  noted-step n x y (inr (inl step)) = inr (inl (step.0, step.1, step.2, step.3, ap (noted n) step.4))
  noted-step n x y (inr (inr step)) = absurd step.3

  pub with-notes : (n : E) {x y : World S K (Unit {0})} → Many (Call reads writes never) x y → Many (Call reads writes writes_notes) (noted n x) (noted n y)
  with-notes n p = many-map (noted n) (noted-step n) p

  -- without the notes, whatever was written on them; the sink is well, or nothing was done behind
  abbrev bare : Bool → World S K E → World S K (Unit {0})
  bare well w = world w.gave well w.source w.out (tt {0})

  record Bare (x y : World S K E) : Type 0 where
    pub well : Bool
    pub calls : Many (Call reads writes never) (bare true x) (bare well y)
    pub stays_well : y.well ≡ true → well ≡ true

  bare-more : (x y z : World S K E) → Bare x y → Call reads writes writes_notes y z → Bare x z
  bare-more x y z b (inl step) =
      let before = subst (λ well. Many (Call reads writes never) (bare true x) (bare well y)) (b.stays_well step.3) b.calls in
      record { well = true; calls = goes before (inl (step.0, step.1, step.2, refl, step.4, ap (bare true) step.5)); stays_well = λ e. refl }
  bare-more x y z b (inr (inl step)) =
      let before = subst (λ well. Many (Call reads writes never) (bare true x) (bare well y)) (b.stays_well step.2) b.calls in
      record {
        well = is_some step.0;
        calls = goes before (inr (inl (step.0, step.1, refl, step.3, ap (bare (is_some step.0)) step.4)));
        stays_well = λ e. sym (ap (λ (w : World S K E). w.well) step.4) ∙ e;
      }
  bare-more x y z b (inr (inr step)) =
      let before = subst (λ well. Many (Call reads writes never) (bare true x) (bare well y)) (b.stays_well step.2) b.calls in
      record { well = true; calls = subst (Many (Call reads writes never) (bare true x)) (sym (ap (bare true) step.4)) before; stays_well = λ e. refl }

  bare-all : {x y : World S K E} → Many (Call reads writes writes_notes) x y → Bare x y
  bare-all stays = record { well = true; calls = stays; stays_well = λ e. refl }
  bare-all (goes p step) = bare-more _ _ _ (bare-all p) step

  pub without-notes : (s s' : S) (o o' : K) (n n' : E) (gave well : Bool) → Many (Call reads writes writes_notes) (world true true s o n) (world gave well s' o' n')
      → CallsOfTwo reads writes s o s' o'
  without-notes s s' o o' n n' gave well p = let b = bare-all p in (gave, b.well, b.calls)

  -- the reads alone
  abbrev read_alone : World S K E → World S (Unit {0}) (Unit {0})
  read_alone w = world w.gave true w.source (tt {0}) (tt {0})

  alone-more : (x y z : World S K E) → Many (Call reads never never) (read_alone x) (read_alone y) → Call reads writes writes_notes y z → Many (Call reads never never) (read_alone x) (read_alone z)
  alone-more x y z p (inl step) = goes p (inl (step.0, step.1, step.2, refl, step.4, ap read_alone step.5))
  alone-more x y z p (inr (inl step)) = subst (Many (Call reads never never) (read_alone x)) (sym (ap read_alone step.4)) p
  alone-more x y z p (inr (inr step)) = subst (Many (Call reads never never) (read_alone x)) (sym (ap read_alone step.4)) p

  alone-all : {x y : World S K E} → Many (Call reads writes writes_notes) x y → Many (Call reads never never) (read_alone x) (read_alone y)
  alone-all stays = stays
  alone-all {x} {y} (goes {s} {t} {u} p step) = alone-more x t y (alone-all p) step

  pub reads-alone : (s s' : S) (o o' : K) (n n' : E) (gave well : Bool) → Many (Call reads writes writes_notes) (world true true s o n) (world gave well s' o' n') → Reads reads s s'
  reads-alone s s' o o' n n' gave well p = (gave, alone-all p)

module _ {S K : Type 0} (reads : S → Option ℕ → S → Type 0) (writes : K → Option ℕ → K → Type 0) where
  -- with a sink beside a source
  abbrev sunk : K → World S (Unit {0}) (Unit {0}) → World S K (Unit {0})
  sunk o w = world w.gave w.well w.source o (tt {0})

  sunk-step : (o : K) (x y : World S (Unit {0}) (Unit {0})) → Call reads never never x y → Call reads writes never (sunk o x) (sunk o y)
  sunk-step o x y (inl step) = inl (step.0, step.1, step.2, step.3, step.4, ap (sunk o) step.5)
  sunk-step o x y (inr (inl step)) = absurd step.3
  sunk-step o x y (inr (inr step)) = absurd step.3

  pub with-sink : (o : K) {x y : World S (Unit {0}) (Unit {0})} → Many (Call reads never never) x y → Many (Call reads writes never) (sunk o x) (sunk o y)
  with-sink o p = many-map (sunk o) (sunk-step o) p
