-- A turn whose element takes no byte, where the array has one: its steps lead to the array's end.
use Rattle.std.proofs.Common.{cond, ◌≡◌, ◌∙◌, sym, ap, refl, subst, arith, ℕ, suc, ◌+◌, ◌≤◌, Bool, true, false, not, ◌&&◌, if◌then◌else◌, nat_eq, eq-eqb, List, ◌∷◌, length, Some, slice_get}
use Rattle.pads_value.specs.declared.cause.Cause.TheVariants as cause
use Rattle.pads_value.specs.declared.descriptor.Pd.{out-Pd}
use Rattle.pads_expr.specs.declared.expr.Expr.{Expr}
use Rattle.pads_expr.specs.Value.{Pairs}
use Rattle.pads_calc.specs.declared.decl.Decl.{Decl}
use Rattle.pads_calc.specs.declared.reading.Reading.{Reading}
use Rattle.pads_calc.specs.Arguments.{arguments}
use Rattle.pads_calc.specs.Arrays.{is_fail_class}
use Rattle.pads_calc.specs.Leaves.{unit_of}
use Rattle.pads_calc.specs.Readings.{Subject}
use Rattle.pads_image.specs.declared.entry.Entry.{Entry}
use Rattle.pads_image.specs.declared.op.Op.{Op}
use Rattle.pads_image.specs.declared.op.Op.TheVariants as op
use Rattle.pads_image.specs.Answers.{HaltsWith}
use Rattle.pads_image.specs.Code.{IsCodeOf}
use Rattle.pads_image.specs.States.{Mark, Node, State, base_of, entries, seen}
use Rattle.pads_image.specs.Steps.{Step, Goes, Halts, Stuck, back_to, began, does_there, is_first, mark_at, shut_step, step, with_own, with_reading}
use Rattle.law_images.proofs.Called.{behind_call, called, largest, runs-by}
use Rattle.pads_machine.specs.declared.known.Call.{Call}
use Rattle.pads_machine.specs.declared.known.Outcome.{Outcome}
use Rattle.pads_machine.specs.declared.step.Next.{Next}
use Rattle.pads_machine.specs.declared.step.Next.TheVariants as next
use Rattle.pads_idle.specs.Idle.{IdlesTo}
use Rattle.pads_machine.specs.Known.{HasOutcome, outcome_with, reading_of}
use Rattle.pads_machine.specs.Ran.{Advances, GoesWithin, Leads, Tells}
use Rattle.pads_machine.specs.Shown.{has_own}
use Rattle.pads_machine.proofs.Calling.{call-is}
use Rattle.pads_machine.proofs.Endings.{turn-goes}
use Rattle.pads_machine.proofs.Halts.{moved}
use Rattle.pads_machine.proofs.Fitting.{fitting, walked}
use Rattle.pads_idle.proofs.Idling.{Idling, idles-to}
use Rattle.pads_idle.proofs.Walking.{To, along, by, join, once}

within-if : (most : ℕ) (b : Bool) (t : State) → b ≡ true → entries t ≤ most → GoesWithin most (cond b (Goes t) Stuck)
within-if most true t is fits = fits
within-if most false t is fits = absurd cc

no-halt : (b : Bool) (t : State) → b ≡ true → cond b (Goes t) Stuck ≡ Halts → ⊥
no-halt true t is halts = absurd cc
no-halt false t is halts = absurd cc

-- the array ends over stacks that have less
pub shut-within : (origin to place most : ℕ) (s : State) (n : Node) (nodes : List Node) → s.nodes ≡ n ∷ nodes → n.base ≡ length s.bindings → entries s ≤ most
    → GoesWithin most (shut_step origin (record s { at_ = to; last = record s.last { place = place }; nodes = has_own (Some cause.ArrayStall) s.nodes }) (has_own (Some cause.ArrayStall) s.nodes))
shut-within origin to place most s n nodes nodes_are alone fits =
    let ended = λ (nodes : List Node). record s { at_ = to; last = record s.last { place = place }; nodes = has_own (Some cause.ArrayStall) nodes } in
    let left : length s.bindings + length nodes + length s.marks + length s.callers ≤ most = omega (arith, fits, ap (λ (nodes : List Node). length nodes) nodes_are) in
    subst (λ (nodes : List Node). GoesWithin most (shut_step origin (ended nodes) (has_own (Some cause.ArrayStall) nodes))) (sym nodes_are)
    (within-if most (nat_eq (length s.bindings) n.base) _ (eq-eqb (length s.bindings) n.base (sym alone)) left)

-- what expressions see is neither among the nodes nor among the marks
seen-there : (s : State) (address : ℕ) (nodes : List Node) (marks : List Mark) → seen s ≡ seen (record s { at_ = address; nodes = nodes; marks = marks })
unfolding seen
seen-there s address nodes marks = refl

module _ (code : List Op) (of_entries : List Entry) (subject : Subject) (most : ℕ) where
  -- the array has an element, and a turn is begun
  module _ (s : State) (n : Node) (nodes : List Node) where
    abbrev pub begun : State
    begun = record s { at_ = s.at_ + 1; nodes = n ∷ nodes; marks = mark_at s.last.place ∷ s.marks }

    -- from there on to an address an element is read that takes no byte, and doesn't fail
    abbrev pub Element : ℕ → Type 0
    Element behind = Idling code of_entries subject s.last.place true begun behind

    pub idle-element : (behind : ℕ) → n.base ≤ length s.bindings → IdlesTo code of_entries subject s.last.place (seen s) s.depth (s.at_ + 1) behind → Element behind
    idle-element behind alone element =
        let element_there = subst (λ env. IdlesTo code of_entries subject s.last.place env s.depth (s.at_ + 1) behind) (seen-there s (s.at_ + 1) (n ∷ nodes) (mark_at s.last.place ∷ s.marks)) element in
        idles-to code of_entries subject s.last.place s.depth begun (s.at_ + 1) behind refl element_there refl alone refl

    -- so it is known of a call
    pub known-element : (decls : List Decl) (is : IsCodeOf decls code of_entries) (call : Call) (args : List Expr) (outcome : Outcome)
        → slice_get code (s.at_ + 1) ≡ Some (op.Call call.number args) → arguments args (seen s) ≡ Some call.args → s.depth ≡ suc call.depth → call.place ≡ s.last.place
        → base_of s.callers ≤ length s.bindings → n.base ≤ length s.bindings → s.last.place ≤ length subject.bytes
        → HasOutcome code of_entries subject call outcome → outcome.failed ≡ false → outcome.place ≡ call.place → Element (s.at_ + 2)
    known-element decls is call args outcome there worth depth place sane alone within known stays_well stays =
        let e : State = begun in
        let q : Reading = called decls subject call.number args e in
        let run = runs-by decls subject call.number args e code of_entries is there sane alone within in
        let told : outcome ≡ outcome_with code call.constraint (reading_of decls subject call) = known decls is in
        let sees : arguments args (seen e) ≡ Some call.args =
        ap (λ (env : Pairs). arguments args env) (sym (seen-there s (s.at_ + 1) (n ∷ nodes) (mark_at s.last.place ∷ s.marks))) ∙ worth in
        let same : q ≡ reading_of decls subject call = call-is decls subject call args (seen e) s.depth s.last.place depth place sees in
        let further : s.at_ + 1 + 1 ≡ s.at_ + 2 = omega arith in record {
          reading = q;
          place = ap (λ (r : Reading). r.place) same ∙ sym (ap (λ (o : Outcome). o.place) told) ∙ stays ∙ place;
          class_is = λ wanted. ap (λ (r : Reading). is_fail_class (out-Pd r.pd).class) same ∙ sym (ap (λ (o : Outcome). o.failed) told) ∙ stays_well;
          walk =
              subst (λ (next : ℕ). To code of_entries subject e (record e { at_ = next; last = q })) further
              (walked code of_entries subject (largest decls subject call.number args e) e (behind_call decls subject call.number args e) run);
        }

  module _ (s : State) (n : Node) (nodes : List Node) (nodes_are : s.nodes ≡ n ∷ nodes) (later : is_first n ≡ false)
      (first behind to again : ℕ) (turns : slice_get code s.at_ ≡ Some (op.Turn first)) (element : Element s n nodes behind)
      (ends : slice_get code behind ≡ Some (op.Elem to again)) (shuts : slice_get code to ≡ Some op.Shut) where
    abbrev turning : State
    turning = begun s n nodes

    begins : step of_entries subject code s ≡ Goes turning
    begins =
        by code of_entries subject s _ (op.Turn first) turns
        (turn-goes first s n nodes nodes_are false later
        ∙ ap (λ (nodes : List Node). Goes (record s { at_ = s.at_ + 1; nodes = nodes; marks = mark_at s.last.place ∷ s.marks })) nodes_are)

    -- where the element has been read
    abbrev read : Reading → State
    read r = record turning { at_ = behind; last = r }

    -- where the array ends
    abbrev ended : ℕ → State
    ended place = record s { at_ = to; last = record s.last { place = place }; nodes = with_own (Some cause.ArrayStall) n ∷ nodes }

    abbrev taken : (fell first stays : Bool) → Reading → Step
    taken fell first stays r =
        if fell then Goes (record s { at_ = to; last = back_to s.last.place r; nodes = with_own (Some cause.ArrayElem) n ∷ nodes })
        else if not first && stays then Goes (record s { at_ = to; last = back_to s.last.place r; nodes = with_own (Some cause.ArrayStall) n ∷ nodes })
        else Goes (record s { at_ = again; last = unit_of subject.origin r.place; nodes = with_reading n r ∷ nodes })

    stalls : (r : Reading) → r.place ≡ s.last.place → is_fail_class (out-Pd r.pd).class ≡ false
        → step of_entries subject code (read r) ≡ Goes (record s { at_ = to; last = back_to s.last.place r; nodes = with_own (Some cause.ArrayStall) n ∷ nodes })
    stalls r place class_is =
        let fallen = nat_eq r.place (began subject.origin r) in
        let stays = nat_eq r.place s.last.place in
        ap (λ o. does_there of_entries subject o (read r)) ends
        ∙ ap (λ (fails : Bool). taken (fails && fallen) (is_first n) stays r) class_is
        ∙ ap (λ (first : Bool). taken false first stays r) later
        ∙ ap (λ (stays : Bool). taken false false stays r) (eq-eqb r.place s.last.place place)

    never-halts : shut_step subject.origin (record s { at_ = to; nodes = has_own (Some cause.ArrayStall) s.nodes }) (has_own (Some cause.ArrayStall) s.nodes) ≡ Halts
        → n.base ≡ length s.bindings → ⊥
    never-halts told base =
        let own = λ (nodes : List Node). shut_step subject.origin (record s { at_ = to; nodes = has_own (Some cause.ArrayStall) nodes }) (has_own (Some cause.ArrayStall) nodes) in
        no-halt (nat_eq (length s.bindings) n.base) _ (eq-eqb (length s.bindings) n.base (sym base)) (sym (ap own nodes_are) ∙ told)

    stall-leads : (u : State) (r : Reading)
        → shut_step subject.origin (record s { at_ = to; nodes = has_own (Some cause.ArrayStall) s.nodes }) (has_own (Some cause.ArrayStall) s.nodes) ≡ Goes u
        → HaltsWith code of_entries subject most s r → Leads code of_entries subject most s u
    stall-leads u r goes halts =
        let q = element.reading in
        let z : State = record s { at_ = to; last = back_to s.last.place q; nodes = with_own (Some cause.ArrayStall) n ∷ nodes } in
        let own = λ (nodes : List Node). shut_step subject.origin (record s { at_ = to; nodes = has_own (Some cause.ArrayStall) nodes }) (has_own (Some cause.ArrayStall) nodes) in
        let shut : step of_entries subject code z ≡ Goes u = by code of_entries subject z u op.Shut shuts (sym (ap own nodes_are) ∙ goes) in
        let walk : To code of_entries subject turning u =
        join code of_entries subject turning (read q) u element.walk
        (along code of_entries subject (read q) z u (stalls q element.place (element.class_is refl)) (once code of_entries subject z u shut)) in
        record {
          next_ = turning;
          goes = begins;
          more = fitting code of_entries subject most walk.steps turning u r walk.walk (moved code of_entries subject most s turning r begins halts);
        }

    -- where the array's end has been done, as is told
    pub stall-advances : (next : Next) (t u : State) (r : Reading)
        → Tells next (shut_step subject.origin (record s { at_ = to; nodes = has_own (Some cause.ArrayStall) s.nodes }) (has_own (Some cause.ArrayStall) s.nodes)) t u
        → n.base ≡ length s.bindings → HaltsWith code of_entries subject most s r → Advances code of_entries subject most next s u
    stall-advances next.Goes t u r told base halts = stall-leads u r told halts
    stall-advances next.Searches t u r told base halts = stall-leads u r told halts
    stall-advances next.Halts t u r told base halts = absurd (never-halts told.0 base)
    stall-advances next.Asks t u r told base halts = absurd told
