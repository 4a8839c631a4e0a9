-- A branch that can't be clean: its steps lead to the next branch.
use Rattle.std.proofs.Common.{◌≡◌, ◌∙◌, sym, ap, refl, subst, arith, ℕ, zero, suc, ◌+◌, ◌≤◌, inl, inr, Bool, true, false, not, ◌&&◌, if◌then◌else◌, List, [], ◌∷◌, drop, length, reverse, IfSome, Option, None, Some, slice_get}
use Rattle.std.proofs.lemmas.List.{length-reverse}
use Rattle.pads_expr.specs.declared.expr.Expr.{Expr}
use Rattle.pads_expr.specs.Value.{Pairs}
use Rattle.pads_calc.specs.declared.decl.Decl.{Decl}
use Rattle.pads_calc.specs.declared.reading.Reading.{Reading}
use Rattle.pads_calc.specs.Arguments.{is_true}
use Rattle.pads_calc.specs.Choices.{branch_of}
use Rattle.pads_calc.specs.Leaves.{lit_of, unit_of}
use Rattle.pads_calc.specs.Readings.{Subject, is_ok}
use Rattle.pads_image.specs.declared.entry.Entry.{Entry}
use Rattle.pads_image.specs.declared.op.Op.{Op}
use Rattle.pads_image.specs.declared.op.Op.TheVariants as op
use Rattle.pads_image.specs.Answers.{HaltsWith, Reaches, Runs}
use Rattle.pads_image.specs.Beginnings.{begins_with}
use Rattle.pads_image.specs.Code.{IsCodeOf, code_of, entries_of}
use Rattle.pads_calc.specs.Wrappers.{constrained, guard_of}
use Rattle.pads_image.specs.States.{Mark, State, base_of, entries, floor_of, seen}
use Rattle.pads_image.specs.Steps.{Goes, does_there, reads, step, try_step}
use Rattle.law_images.proofs.Called.{Calls}
use Rattle.law_images.proofs.Missed.{misses}
use Rattle.law_images.proofs.Reaching.{join, seen-behind}
use Rattle.pads_machine.specs.declared.node.Node.{Node}
use Rattle.pads_machine.specs.declared.state.State.{State as Machine}
use Rattle.pads_machine.specs.Held.{AreSound, Held}
use Rattle.pads_machine.specs.Ran.{Leads}
use Rattle.pads_machine.specs.Shown.{Homes, nodes_shown, shown}
use Rattle.pads_machine.specs.declared.constraint.Constraint.{Constraint}
use Rattle.pads_machine.specs.Known.{IsRest, behind_constraint, guarded_by}
use Rattle.pads_machine.specs.Missing.{EndsBranch, IsTry}
use Rattle.pads_machine.proofs.Fitting.{fitting, halts-behind, room-there, walked}
use Rattle.pads_machine.proofs.Halts.{no-more}
use Rattle.pads_idle.specs.Idle.{IsGuarded}
use Rattle.pads_idle.proofs.Walking.{To, by, once, join as walk_on}

-- a constraint leaves what isn't clean as it is
unguarded : (ok kept : Bool) (r : Reading) → ok ≡ false → (if ok && kept then constrained r else r) ≡ r
unguarded true kept r is = absurd cc
unguarded false kept r is = refl

module _ (code : List Op) (of_entries : List Entry) (subject : Subject) (s : State) (r : Reading) (bad : is_ok r ≡ false) where
  abbrev having_read : ℕ → State
  having_read p = record s { at_ = p; last = r }

  pub guards : (p next : ℕ) → IsGuarded code p next → To code of_entries subject (having_read p) (having_read next)
  guards p next (inl same) = record { steps = 0; walk = ap (λ q. having_read q) (sym same) }
  guards p next (inr h) =
      once code of_entries subject (having_read p) (having_read next)
      (by code of_entries subject (having_read p) (having_read next) (op.Guard h.0 h.1) h.2
      (ap (λ r. Goes (record s { at_ = p + 1; last = r })) (unguarded (is_ok r) (not (is_true h.1 ((h.0, r.value) ∷ seen (having_read p)))) r bad)
      ∙ ap (λ q. Goes (having_read q)) (sym h.3)))

module _ (code : List Op) (of_entries : List Entry) (subject : Subject) (most : ℕ) where
  -- steps, and one more
  pub behind-them : (n : ℕ) (s e u : State) → Runs code of_entries subject most n s e → entries e ≤ most → step of_entries subject code e ≡ Goes u → Leads code of_entries subject most s u
  behind-them zero s e u run fits goes = record {
    next_ = u;
    goes = subst (λ (x : State). step of_entries subject code x ≡ Goes u) (sym run) goes;
    more = no-more code of_entries subject most u;
  }
  behind-them (suc n) s e u run fits goes = record {
    next_ = run.1;
    goes = run.2;
    more = join code of_entries subject most run.1 e u (record { steps = n; run = run.3 }) (record { steps = 1; run = (fits, u, goes, refl) });
  }

  module _ (s : State) (mark : Mark) (marks : List Mark) (marked : s.marks ≡ mark ∷ marks) (end : ℕ) (tries : IsTry code end) where
    -- where the branch ends that reads so
    abbrev tried : Reading → State
    tried r = record s { at_ = end; last = r }

    abbrev pub next_branch : State
    next_branch = record s { at_ = end + 1; last = unit_of subject.origin mark.place }

    fails-there : (r : Reading) → is_ok r ≡ false → step of_entries subject code (tried r) ≡ Goes next_branch
    fails-there r bad =
        ap (λ o. does_there of_entries subject o (tried r)) tries.2
        ∙ ap (λ (marks : List Mark). try_step subject.origin tries.0 tries.1 (tried r) marks) marked
        ∙ ap (λ (clean : Bool).
        if clean then Goes (record s { at_ = tries.1; last = branch_of subject.origin tries.0 r mark.place; marks = marks })
        else reads (unit_of subject.origin mark.place) (tried r)) bad

    pub left-at-once : (r q : Reading) → is_ok q ≡ false → To code of_entries subject s (tried q) → HaltsWith code of_entries subject most s r → Leads code of_entries subject most s next_branch
    left-at-once r q bad walk h =
        let run = fitting code of_entries subject most walk.steps s (tried q) r walk.walk h in
        let there = halts-behind code of_entries subject most walk.steps s (tried q) r walk.walk h in
        behind-them run.steps s (tried q) next_branch run.run (room-there code of_entries subject most (tried q) r there) (fails-there q bad)

-- behind a call a constraint is all that is left of a branch, if there is one
module _ (code : List Op) (of_entries : List Entry) (subject : Subject) (m : Machine) (q : Reading) where
  abbrev having : ℕ → Reading → State
  having p r = record (shown m) { at_ = p; last = r }

  pub rests : (p end : ℕ) (constraint : Option Constraint) → IsRest code p end constraint m → To code of_entries subject (having p q) (having end (behind_constraint code constraint q))
  rests p end None rest = record { steps = 0; walk = ap (λ e. having e q) (sym rest) }
  rests p end (Some constraint) rest =
      let s = shown m in
      let r = guard_of rest.0 rest.1 (seen s) q in
      let told : behind_constraint code (Some constraint) q ≡ r =
      ap (λ (address : ℕ). guarded_by (slice_get code address) (reverse constraint.seen) q) rest.3
      ∙ ap (λ (found : Option Op). guarded_by found (reverse constraint.seen) q) rest.2
      ∙ ap (λ (env : Pairs). guard_of rest.0 rest.1 env q) rest.4 in
      once code of_entries subject (having p q) (having end (behind_constraint code (Some constraint) q))
      (by code of_entries subject (having p q) (having end (behind_constraint code (Some constraint) q)) (op.Guard rest.0 rest.1) rest.2
      (ap (λ (env : Pairs). Goes (having (p + 1) (guard_of rest.0 rest.1 env q))) (seen-behind s p q)
      ∙ ap (λ (e : ℕ). Goes (having e r)) (sym rest.5)
      ∙ ap (λ (x : Reading). Goes (having end x)) (sym told)))

-- where the call misses its literal
module _ (code : List Op) (of_entries : List Entry) (subject : Subject) (most : ℕ) (decls : List Decl) (is : IsCodeOf decls code of_entries) where
  pub branch-leads : (s : State) (number : ℕ) (args : List Expr) (entry : Entry) (literal : List ℕ) (mark : Mark) (marks : List Mark) (end : ℕ) (r : Reading)
      → slice_get code s.at_ ≡ Some (op.Call number args) → slice_get of_entries number ≡ Some entry → begins_with (drop entry.first code) ≡ Some literal
      → is_ok (lit_of subject literal s.last.place) ≡ false → s.marks ≡ mark ∷ marks → EndsBranch code (s.at_ + 1) end
      → base_of s.callers ≤ length s.bindings → floor_of s.nodes ≤ length s.bindings → s.last.place ≤ length subject.bytes → HaltsWith code of_entries subject most s r
      → Leads code of_entries subject most s (record s { at_ = end + 1; last = unit_of subject.origin mark.place })
  branch-leads s number args entry literal mark marks end r there entry_is begins bad marked ends sane above within halts =
      let calls : Calls decls subject number args s = record {
        there = ap (λ (code : List Op). slice_get code s.at_) (sym is.code_is) ∙ there;
        sane = sane;
        above = above;
        within = within;
      } in
      let declared : slice_get (entries_of decls) number ≡ Some entry = ap (λ (es : List Entry). slice_get es number) (sym is.entries_are) ∙ entry_is in
      let missed = misses decls subject number args s entry declared calls literal (ap (λ (code : List Op). begins_with (drop entry.first code)) (sym is.code_is) ∙ begins) bad in
      let e : State = record s { at_ = s.at_ + 1; last = missed.reading } in
      let run : Reaches code of_entries subject missed.most s e =
      subst (λ (code : List Op). Reaches code of_entries subject missed.most s e) (sym is.code_is)
      (subst (λ (es : List Entry). Reaches (code_of decls) es subject missed.most s e) (sym is.entries_are) missed.run) in
      let walk =
      walk_on code of_entries subject s e (record s { at_ = end; last = missed.reading }) (walked code of_entries subject missed.most s e run)
      (guards code of_entries subject s missed.reading missed.bad (s.at_ + 1) end ends.guarded) in
      left-at-once code of_entries subject most s mark marks marked end ends.tries r missed.reading missed.bad walk halts

-- what is more of a value that is there
pub if-some : {A : Type 0} (found : Option A) (P Q : A → Type 0) → ((x : A) → P x → Q x) → IfSome found P → IfSome found Q
if-some None P Q more h = h
if-some (Some x) P Q more h = more x h

-- a struct's bindings are among those that there are
floor-in : (nodes : List Node) (homes : Homes) (bindings : Pairs) → AreSound nodes homes → floor_of (nodes_shown nodes homes bindings) ≤ length homes
floor-in [] homes bindings sound = omega arith
floor-in (n ∷ nodes) homes bindings sound = sound.0

pub floor-held : (m : Machine) → Held m → floor_of (shown m).nodes ≤ length (shown m).bindings
floor-held m held =
    omega (
      arith,
      floor-in (reverse m.nodes.items) (reverse m.homes.items) (reverse m.bindings.items) held.sound,
      length-reverse m.homes.items,
      length-reverse m.bindings.items,
      held.each_home,
    )
