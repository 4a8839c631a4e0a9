-- Steps that lead from a state to a state, over stacks of any size.
use Rattle.std.proofs.Common.{◌≡◌, ◌∙◌, sym, ap, refl, subst, ℕ, zero, suc, List, Some, slice_get}
use Rattle.pads_calc.specs.Readings.{Subject}
use Rattle.pads_image.specs.declared.entry.Entry.{Entry}
use Rattle.pads_image.specs.declared.op.Op.{Op}
use Rattle.pads_image.specs.States.{State}
use Rattle.pads_image.specs.Steps.{Goes, does, does_there, step}

module _ (code : List Op) (of_entries : List Entry) (subject : Subject) where
  abbrev pub Walks : ℕ → State → State → Type 0
  Walks zero s u = s ≡ u
  Walks (suc n) s u = (t : State) × (step of_entries subject code s ≡ Goes t) × Walks n t u

  pub record To (s u : State) : Type 0 where
    pub steps : ℕ
    pub walk : Walks steps s u

  pub along : (s t u : State) → step of_entries subject code s ≡ Goes t → To t u → To s u
  along s t u goes more = record { steps = suc more.steps; walk = (t, goes, more.walk) }

  pub once : (s t : State) → step of_entries subject code s ≡ Goes t → To s t
  once s t goes = record { steps = suc zero; walk = (t, goes, refl) }

  walks-join : (n : ℕ) (s t u : State) → Walks n s t → To t u → To s u
  walks-join zero s t u a b = subst (λ (x : State). To x u) (sym a) b
  walks-join (suc n) s t u a b = along s a.0 u a.1 (walks-join n a.0 t u a.2 b)

  pub join : (s t u : State) → To s t → To t u → To s u
  join s t u a b = walks-join a.steps s t u a.walk b

  -- the instruction at an address
  pub by : (s t : State) (instruction : Op) → slice_get code s.at_ ≡ Some instruction → does of_entries subject instruction s ≡ Goes t → step of_entries subject code s ≡ Goes t
  by s t instruction there goes = ap (λ o. does_there of_entries subject o s) there ∙ goes
