-- Steps of arrays, case by case, over states as they are defined.
use Rattle.std.proofs.Common.{cond, eq-eqb, subst, ◌≡◌, ◌∙◌, sym, ap, refl, ℕ, ◌+◌, Bool, true, false, not, ◌&&◌, if◌then◌else◌, nat_eq, List, ◌∷◌, length, Option, Some, None}
use Rattle.std.proofs.lemmas.Bool.{eqb-true}
use Rattle.pads_value.specs.declared.cause.Cause.{Cause}
use Rattle.pads_value.specs.declared.cause.Cause.TheVariants as cause
use Rattle.pads_value.specs.declared.descriptor.Pd.{out-Pd}
use Rattle.pads_expr.specs.declared.expr.Expr.{Expr}
use Rattle.pads_calc.specs.Arrays.{below_size, is_fail_class, is_full, is_last}
use Rattle.pads_calc.specs.Leaves.{at_end, unit_of}
use Rattle.pads_calc.specs.Readings.{is_ok}
use Rattle.pads_image.specs.States.{Mark, Node, State, seen}
use Rattle.pads_image.specs.Steps.{Step, Goes, Stuck, has_its_own, back_to, began, edge_step, elem_step, full_step, is_first, mark_at, reads, reads_to, stop_step, turn_step, undone, with_own, with_reading}
use Rattle.pads_machine.specs.Ran.{GoesWithin, undone_by}
use Rattle.pads_machine.specs.Shown.{has_own}

-- a test that must have held
pub where-there : (room : ℕ) (b : Bool) (x : Step) → GoesWithin room (cond b x Stuck) → b ≡ true
where-there room true x within = refl
where-there room false x within = absurd within

module _ (to : ℕ) (s : State) (n : Node) (nodes : List Node) (nodes_are : s.nodes ≡ n ∷ nodes) where
  pub stop-ends : (m : Mark) (marks : List Mark) → s.marks ≡ m ∷ marks → is_ok s.last ≡ true
      → stop_step to s s.nodes s.marks ≡ Goes (record s { at_ = to; last = back_to m.place s.last; nodes = has_own (below_size n.size) s.nodes; marks = marks })
  stop-ends m marks marks_are ok =
      ap (λ (nodes : List Node). stop_step to s nodes s.marks) nodes_are
      ∙ ap (λ (marks : List Mark). stop_step to s (n ∷ nodes) marks) marks_are
      ∙ ap (λ (b : Bool).
      if b then Goes (record s { at_ = to; last = back_to m.place s.last; nodes = with_own (below_size n.size) n ∷ nodes; marks = marks })
      else Goes (record s { at_ = s.at_ + 1; last = back_to m.place s.last; marks = marks })) ok
      ∙ ap (λ (nodes : List Node). Goes (record s { at_ = to; last = back_to m.place s.last; nodes = has_own (below_size n.size) nodes; marks = marks })) (sym nodes_are)

  pub edge-ends : (bytes : List ℕ) → at_end bytes s.last.place ≡ true → edge_step bytes to s s.nodes ≡ Goes (record s { at_ = to; nodes = has_own (below_size n.size) s.nodes })
  edge-ends bytes end =
      ap (λ (nodes : List Node). edge_step bytes to s nodes) nodes_are
      ∙ ap (λ (b : Bool). if b then Goes (record s { at_ = to; nodes = with_own (below_size n.size) n ∷ nodes }) else reads s.last s) end
      ∙ ap (λ (nodes : List Node). Goes (record s { at_ = to; nodes = has_own (below_size n.size) nodes })) (sym nodes_are)

  module _ (first : Bool) (is : is_first n ≡ first) where
    pub turn-goes : turn_step to s s.nodes ≡ Goes (record s { at_ = if first then to else s.at_ + 1; marks = mark_at s.last.place ∷ s.marks })
    turn-goes =
        ap (λ (nodes : List Node). turn_step to s nodes) nodes_are
        ∙ ap (λ (b : Bool). Goes (record s { at_ = if b then to else s.at_ + 1; marks = mark_at s.last.place ∷ s.marks })) is

    module _ (origin again : ℕ) (m : Mark) (marks : List Mark) (marks_are : s.marks ≡ m ∷ marks) where
      abbrev fails_here : Bool
      fails_here = is_fail_class (out-Pd s.last.pd).class && nat_eq s.last.place (began origin s.last)

      abbrev ends_by : Cause → Step
      ends_by own = undone own to s n nodes m marks

      abbrev keeps : Step
      keeps = Goes (record s { at_ = again; last = unit_of origin s.last.place; nodes = with_reading n s.last ∷ nodes; marks = marks })

      opened : elem_step origin to again s s.nodes s.marks
          ≡ (if fails_here then ends_by cause.ArrayElem else if not first && nat_eq s.last.place m.place then ends_by cause.ArrayStall else keeps)
      opened =
          ap (λ (nodes : List Node). elem_step origin to again s nodes s.marks) nodes_are
          ∙ ap (λ (marks : List Mark). elem_step origin to again s (n ∷ nodes) marks) marks_are
          ∙ ap (λ (b : Bool). if fails_here then ends_by cause.ArrayElem else if not b && nat_eq s.last.place m.place then ends_by cause.ArrayStall else keeps) is

      -- by cases of the tests
      undone-by : (a b : Bool) (own : Cause) → (if a then Some cause.ArrayElem else if b then Some cause.ArrayStall else None) ≡ Some own
          → (if a then ends_by cause.ArrayElem else if b then ends_by cause.ArrayStall else keeps) ≡ ends_by own
      undone-by true b own by = let same : cause.ArrayElem ≡ own = cc in ap ends_by same
      undone-by false true own by = let same : cause.ArrayStall ≡ own = cc in ap ends_by same
      undone-by false false own by = cc

      kept-by : (a b : Bool) → (if a then Some cause.ArrayElem else if b then Some cause.ArrayStall else None) ≡ None
          → (if a then ends_by cause.ArrayElem else if b then ends_by cause.ArrayStall else keeps) ≡ keeps
      kept-by true b by = cc
      kept-by false true by = cc
      kept-by false false by = refl

      pub elem-undone : (own : Cause) → undone_by origin s.last first m.place ≡ Some own
          → elem_step origin to again s s.nodes s.marks ≡ Goes (record s { at_ = to; last = back_to m.place s.last; nodes = has_own (Some own) s.nodes; marks = marks })
      elem-undone own by =
          opened ∙ undone-by fails_here (not first && nat_eq s.last.place m.place) own by
          ∙ ap (λ (nodes : List Node). Goes (record s { at_ = to; last = back_to m.place s.last; nodes = has_own (Some own) nodes; marks = marks })) (sym nodes_are)

      pub elem-kept : undone_by origin s.last first m.place ≡ None → elem_step origin to again s s.nodes s.marks ≡ keeps
      elem-kept by = opened ∙ kept-by fails_here (not first && nat_eq s.last.place m.place) by

  module _ (last : Option Expr) (elts : ℕ) where
    -- the step is there, so the array has no binding of its own
    pub full-alone : (room : ℕ) → GoesWithin room (full_step last elts to s s.nodes) → length s.bindings ≡ n.base
    full-alone room within =
        eqb-true (length s.bindings) n.base
        (where-there room (has_its_own s n) _ (subst (λ (nodes : List Node). GoesWithin room (full_step last elts to s nodes)) nodes_are within))

    module _ (alone : length s.bindings ≡ n.base) where
      pub full-goes : (full : Bool) → is_full n.size (length n.values) ≡ full → (is : Bool) → is_last last elts n.values (seen s) ≡ is
          → full_step last elts to s s.nodes ≡ (if full then reads_to to s.last s else if is then reads_to to s.last s else reads s.last s)
      full-goes full full_is is last_is =
          let by = λ (own full is : Bool). cond own (if full then reads_to to s.last s else if is then reads_to to s.last s else reads s.last s) Stuck in
          ap (λ (nodes : List Node). full_step last elts to s nodes) nodes_are
          ∙ ap (λ (own : Bool). by own (is_full n.size (length n.values)) (is_last last elts n.values (seen s))) (eq-eqb (length s.bindings) n.base alone)
          ∙ ap (λ (full : Bool). by true full (is_last last elts n.values (seen s))) full_is
          ∙ ap (λ (is : Bool). by true full is) last_is

      pub full-ends : is_full n.size (length n.values) ≡ true → full_step last elts to s s.nodes ≡ reads_to to s.last s
      full-ends full_is = full-goes true full_is (is_last last elts n.values (seen s)) refl
