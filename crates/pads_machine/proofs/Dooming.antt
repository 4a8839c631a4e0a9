-- A struct that can't be clean, in a call that is a whole branch: its steps lead to the next branch.
use Rattle.std.proofs.Common.{◌≡◌, ◌∙◌, sym, ap, refl, subst, arith, ℕ, zero, suc, ◌+◌, ◌-◌, ◌≤◌, Bool, true, false, ◌&&◌, if◌then◌else◌, nat_eq, nat_le, List, [], ◌∷◌, ◌++◌, drop, length, length-drop, map, reverse, Option, Some, None, slice_get}
use Rattle.std.proofs.Math.Seq.{drop-append-add}
use Rattle.std.proofs.lemmas.Bool.{eq-eqb, eqb-true}
use Rattle.std.proofs.lemmas.List.{length-append, length-reverse}
use Rattle.std.proofs.lemmas.List.Folds.{list_all-append}
use Rattle.pads_value.specs.declared.descriptor.Pd.{Pd}
use Rattle.pads_value.specs.declared.value.Val.{Val}
use Rattle.pads_value.specs.declared.value.Val.TheVariants as val
use Rattle.pads_value.specs.Header.{all_clean, is_clean}
use Rattle.pads_expr.specs.Value.{Pairs}
use Rattle.pads_calc.specs.declared.decl.Decl.{Decl}
use Rattle.pads_calc.specs.declared.reading.Reading.{Reading}
use Rattle.pads_calc.specs.declared.term.Term.{Term}
use Rattle.pads_calc.proofs.CleanNodes.{clean-node}
use Rattle.pads_calc.specs.Calculus.{caller as reads_call, read}
use Rattle.pads_calc.specs.Choices.{branch_of}
use Rattle.pads_calc.specs.Leaves.{unit_of}
use Rattle.pads_calc.specs.Readings.{Subject, is_ok, node}
use Rattle.pads_calc.specs.Structs.{bind}
use Rattle.law_calculus.proofs.SoundTerms.{sound-meaning}
use Rattle.pads_image.specs.declared.entry.Entry.{Entry}
use Rattle.pads_image.specs.declared.op.Op.{Op}
use Rattle.pads_image.specs.declared.op.Op.TheVariants as op
use Rattle.pads_image.specs.Answers.{HaltsWith}
use Rattle.pads_image.specs.Blocks.{layout}
use Rattle.pads_image.specs.Code.{IsCodeOf, code_of, entries_of}
use Rattle.pads_image.specs.Heights.{Deeper, entries_at, height_after}
use Rattle.pads_image.specs.States.{Caller, Mark, Node, State, base_of, entries, floor_of, seen}
use Rattle.pads_image.specs.Steps.{Step, Goes, Stuck, close_step, does_there, return_step, step, try_step, with_reading}
use Rattle.law_images.proofs.Called.{deeper-same}
use Rattle.law_images.proofs.Halting.{calls-run, deeper_at}
use Rattle.law_images.proofs.Levels.{AllBelow}
use Rattle.law_images.proofs.TermsRun.{runs}
use Rattle.pads_machine.specs.declared.doomed.Doomed.{Doomed}
use Rattle.pads_machine.specs.declared.node.Mark.{Mark as MachineMark}
use Rattle.pads_machine.specs.declared.state.State.{State as Machine}
use Rattle.pads_machine.specs.Doomed.{AreParts, EndsStruct, IsDoomed, IsPart}
use Rattle.pads_machine.specs.Held.{Held, Placed}
use Rattle.pads_machine.specs.declared.step.Next.{Next}
use Rattle.pads_machine.specs.declared.step.Next.TheVariants as next
use Rattle.pads_machine.specs.Ran.{GoesWithin, Leads, Tells}
use Rattle.pads_machine.specs.Shown.{caller_shown, mark_shown, shown}
use Rattle.pads_machine.specs.Missing.{EndsBranch}
use Rattle.pads_machine.proofs.Branches.{behind-them, floor-held, guards}
use Rattle.pads_machine.proofs.Fitting.{fitting, halts-behind, room-there, walked}
use Rattle.pads_machine.proofs.Halts.{goes-within}
use Rattle.pads_machine.proofs.Tops.{below_top, callers-are, marks-are, nodes-are, top_shown}
use Rattle.pads_idle.proofs.Walking.{To, by, join, once}

-- room enough for some code
module _ (deeper : Deeper) where
  below-more : (most more : ℕ) (ops : List Op) (below h : ℕ) → most ≤ more → AllBelow deeper most below h ops → AllBelow deeper more below h ops
  below-more most more [] below h less all = tt
  below-more most more (instruction ∷ ops) below h less all =
      (omega (arith, all.0, less), below-more most more ops below (height_after instruction h) less all.1)

  below-some : (ops : List Op) (below h : ℕ) → (most : ℕ) × AllBelow deeper most below h ops
  below-some [] below h = (0, tt)
  below-some (instruction ∷ ops) below h =
      let rest = below-some ops below (height_after instruction h) in
      let most = below + entries_at deeper instruction h + rest.0 in
      (most, (omega arith, below-more rest.0 most ops below (height_after instruction h) (omega arith) rest.1))

-- one part more doesn't make them clean
both-false : (a b : Bool) → a ≡ false → a && b ≡ false
both-false true b is = absurd cc
both-false false b is = refl

unclean-more : (pds : List Pd) (pd : Pd) → all_clean pds ≡ false → all_clean (pds ++ pd ∷ []) ≡ false
unclean-more pds pd bad = list_all-append is_clean pds (pd ∷ []) ∙ both-false (all_clean pds) (all_clean (pd ∷ [])) bad

-- bindings above others
bound-above : (name : Option ℕ) (v : Val) (above env : Pairs) → (more : Pairs) × (bind name v (above ++ env) ≡ more ++ env)
bound-above None v above env = (above, refl)
bound-above (Some name) v above env = ((name, v) ∷ above, refl)

bound-longer : (name : Option ℕ) (v : Val) (env : Pairs) → length env ≤ length (bind name v env)
bound-longer None v env = omega arith
bound-longer (Some name) v env = omega arith

-- what is told of a choice is one side
if-goes : (most : ℕ) (b : Bool) (t : State) → GoesWithin most (if b then Goes t else Stuck) → b ≡ true
if-goes most true t within = refl
if-goes most false t within = absurd within

-- the bindings without those of a struct
abbrev pub left_of : State → Node → Pairs
left_of s first = drop (length s.bindings - first.base) s.bindings

-- the next branch, behind a call that ends with a struct
abbrev pub next_of : Subject → State → Node → List Node → Caller → List Caller → Mark → ℕ → State
next_of subject s first nodes caller callers mark end = record s {
  at_ = end + 1;
  last = unit_of subject.origin mark.place;
  depth = s.depth + 1;
  bindings = drop (length (left_of s first) - caller.base) (left_of s first);
  nodes = nodes;
  callers = callers;
}

-- a state in such a struct
pub record Doom (code : List Op) (es : List Entry) (subject : Subject) (most : ℕ) (s : State) : Type 0 where
  pub first : Node
  pub nodes : List Node
  pub nodes_are : s.nodes ≡ first ∷ nodes
  pub sane : base_of s.callers ≤ length s.bindings
  pub floor : first.base ≤ length s.bindings
  pub unclean : all_clean first.pds ≡ false
  pub within : s.last.place ≤ length subject.bytes
  pub rest : EndsStruct code s.at_
  pub caller : Caller
  pub callers : List Caller
  pub called : s.callers ≡ caller ∷ callers
  pub end : ℕ
  pub ends : EndsBranch code caller.back end
  pub mark : Mark
  pub marks : List Mark
  pub marked : s.marks ≡ mark ∷ marks
  pub halted : Reading
  pub halts : HaltsWith code es subject most s halted

-- what comes of it
pub record Told (code : List Op) (es : List Entry) (subject : Subject) (most : ℕ) (s : State) (d : Doom code es subject most s) : Type 0 where
  pub sound : nat_le (floor_of d.nodes) d.caller.base ≡ true
  pub leads : Leads code es subject most s (next_of subject s d.first d.nodes d.caller d.callers d.mark d.end)

module _ (decls : List Decl) (subject : Subject) where
  abbrev code : List Op
  code = code_of decls

  abbrev es : List Entry
  es = entries_of decls

  -- from a state on a term is read up to an address
  record Read (s : State) (next : ℕ) : Type 0 where
    pub reading : Reading
    pub within : reading.place ≤ length subject.bytes
    pub walk : To code es subject s (record s { at_ = next; last = reading })

  reads-term : (t : Term) (p next : ℕ) (s : State) (rest : List Op) → s.at_ ≡ p → drop p code ≡ (layout t).code p ++ rest → next ≡ p + (layout t).size
      → base_of s.callers ≤ length s.bindings → floor_of s.nodes ≤ length s.bindings → s.last.place ≤ length subject.bytes → Read s next
  reads-term t p next s rest here there ends sane above within =
      let some = below-some (deeper_at decls subject 0 s.depth) ((layout t).code p) (entries s) 0 in
      let most = some.0 in
      let r = read subject (reads_call subject decls s.depth) t (seen s) s.last.place in
      let sound = sound-meaning subject decls s.depth in
      let run = runs code es subject most (deeper_at decls subject most s.depth) s.depth (reads_call subject decls s.depth) sound (calls-run decls subject most s.depth) t p (entries s) 0 s
      (record {
        at_ = here;
        deep = refl;
        sane = sane;
        above = above;
        counted = omega arith;
        within = within;
        there = record { rest = rest; is = there };
        fits = subst (λ (deeper : Deeper). AllBelow deeper most (entries s) 0 ((layout t).code p)) (deeper-same decls subject 0 most s.depth) some.1;
      }) in record {
        reading = r;
        within = (sound t (seen s) s.last.place).within within;
        walk =
            subst (λ q. To code es subject s (record s { at_ = q; last = r })) (sym ends)
            (walked code es subject most s (record s { at_ = p + (layout t).size; last = r }) run);
      }

  -- from a state in a struct that has a part which isn't clean
  module _ (s : State) (first : Node) (nodes : List Node) (nodes_are : s.nodes ≡ first ∷ nodes) (sane : base_of s.callers ≤ length s.bindings) (floor : first.base ≤ length s.bindings) where
    abbrev inside : ℕ → Reading → Pairs → Node → State
    inside p last bindings n = record s { at_ = p; last = last; bindings = bindings; nodes = n ∷ nodes }

    -- steps lead to an address, where it still has one
    record Along (p : ℕ) : Type 0 where
      pub last : Reading
      pub within : last.place ≤ length subject.bytes
      pub above : Pairs
      pub n : Node
      pub base_is : n.base ≡ first.base
      pub unclean : all_clean n.pds ≡ false
      pub walk : To code es subject s (inside p last (above ++ s.bindings) n)

    next-part : (p next : ℕ) → Along p → IsPart code p next → Along next
    next-part p next a part =
        let kept = part.0 in
        let name = part.1 in
        let term = part.2 in
        let bindings = a.above ++ s.bindings in
        let longer : length s.bindings ≤ length bindings = omega (arith, length-append a.above s.bindings) in
        let t = inside p a.last bindings a.n in
        let e = reads-term term.0 p kept t term.1 refl term.2 term.3 (omega (arith, sane, longer)) (omega (arith, floor, longer, a.base_is)) a.within in
        let r = e.reading in
        let u = inside kept r bindings a.n in
        let more = bound-above name r.value a.above s.bindings in
        let v = inside next (unit_of subject.origin r.place) (more.0 ++ s.bindings) (with_reading a.n r) in
        let keeps : step es subject code u ≡ Goes v
        = by code es subject u v (op.Part name) part.3
        (ap (λ q. Goes (inside q (unit_of subject.origin r.place) (bind name r.value bindings) (with_reading a.n r))) (sym part.4)
        ∙ ap (λ bs. Goes (inside next (unit_of subject.origin r.place) bs (with_reading a.n r))) more.1) in
        record {
          last = unit_of subject.origin r.place;
          within = e.within;
          above = more.0;
          n = with_reading a.n r;
          base_is = a.base_is;
          unclean = unclean-more a.n.pds r.pd a.unclean;
          walk = join code es subject s t v a.walk (join code es subject t u v e.walk (once code es subject u v keeps));
        }

    all-parts : (count next : ℕ) → Along s.at_ → AreParts code s.at_ count next → Along next
    all-parts zero next a parts = subst (λ p. Along p) (sym parts) a
    all-parts (suc count) next a parts = next-part parts.0 next (all-parts count parts.0 a parts.1) parts.2

  module _ (most : ℕ) (s : State) (d : Doom code es subject most s) where
    abbrev first : Node
    first = d.first

    abbrev nodes : List Node
    nodes = d.nodes

    abbrev nodes_are : s.nodes ≡ d.first ∷ d.nodes
    nodes_are = d.nodes_are

    abbrev sane : base_of s.callers ≤ length s.bindings
    sane = d.sane

    abbrev floor : d.first.base ≤ length s.bindings
    floor = d.floor

    abbrev rest : EndsStruct code s.at_
    rest = d.rest

    abbrev caller : Caller
    caller = d.caller

    abbrev halted : Reading
    halted = d.halted

    abbrev halts : HaltsWith code es subject most s d.halted
    halts = d.halts

    abbrev here : Along s first nodes nodes_are sane floor s.at_
    here = record {
      last = s.last;
      within = d.within;
      above = [];
      n = first;
      base_is = refl;
      unclean = d.unclean;
      walk = record { steps = 0; walk = ap (λ (nodes : List Node). record s { nodes = nodes }) nodes_are };
    }

    abbrev end : Along s first nodes nodes_are sane floor rest.closes_at
    end = all-parts s first nodes nodes_are sane floor rest.count rest.closes_at here rest.parts

    abbrev left : Pairs
    left = left_of s d.first

    -- where the struct ends
    abbrev closing : State
    closing = inside s first nodes nodes_are sane floor rest.closes_at end.last (end.above ++ s.bindings) end.n

    abbrev struct : Reading
    struct = node subject.origin None (val.Tuple end.n.values) end.n.begin end.last.place end.n.pds

    abbrev closed : ℕ → State
    closed p = record s { at_ = p; last = struct; bindings = left; nodes = nodes }

    there : HaltsWith code es subject most closing halted
    there = halts-behind code es subject most end.walk.steps s closing halted end.walk.walk halts

    own : nat_eq (length (end.above ++ s.bindings)) (end.n.base + rest.close.0) ≡ true
    own =
        if-goes most (nat_eq (length (end.above ++ s.bindings)) (end.n.base + rest.close.0)) _
        (subst (λ (x : Step). GoesWithin most x) (ap (λ o. does_there es subject o closing) rest.close.1) (goes-within code es subject most closing halted there))

    drops : drop rest.close.0 (end.above ++ s.bindings) ≡ left
    drops =
        let size : length (end.above ++ s.bindings) ≡ end.n.base + rest.close.0 = eqb-true (length (end.above ++ s.bindings)) (end.n.base + rest.close.0) own in
        let split : rest.close.0 ≡ length end.above + (length s.bindings - first.base) = omega (arith, size, floor, end.base_is, length-append end.above s.bindings) in
        ap (λ k. drop k (end.above ++ s.bindings)) split ∙ drop-append-add end.above s.bindings (length s.bindings - first.base)

    closes : To code es subject closing (closed (rest.closes_at + 1))
    closes =
        once code es subject closing (closed (rest.closes_at + 1))
        (by code es subject closing (closed (rest.closes_at + 1)) (op.Close rest.close.0) rest.close.1
        (ap (λ (own : Bool). if own then Goes (record s { at_ = rest.closes_at + 1; last = struct; bindings = drop rest.close.0 (end.above ++ s.bindings); nodes = nodes }) else Stuck) own
        ∙ ap (λ bs. Goes (record s { at_ = rest.closes_at + 1; last = struct; bindings = bs; nodes = nodes })) drops))

    bad : is_ok struct ≡ false
    bad = clean-node subject.origin (val.Tuple end.n.values) end.n.begin end.last.place end.n.pds ∙ end.unclean

    -- behind the struct
    abbrev ended_struct : State
    ended_struct = record s { bindings = left; nodes = nodes }

    -- where the declaration ends
    abbrev returning : State
    returning = closed rest.ends.0

    abbrev back : State
    back = record s { at_ = caller.back; last = struct; depth = s.depth + 1; bindings = drop (length left - caller.base) left; nodes = nodes; callers = d.callers }

    to-return : To code es subject s returning
    to-return =
        join code es subject s closing returning end.walk
        (join code es subject closing (closed (rest.closes_at + 1)) returning closes (guards code es subject ended_struct struct bad (rest.closes_at + 1) rest.ends.0 rest.ends.1))

    returned_there : return_step returning s.callers ≡ return_step returning (caller ∷ d.callers)
    returned_there = ap (λ (callers : List Caller). return_step returning callers) d.called

    sound : nat_le (floor_of nodes) caller.base ≡ true
    sound =
        let h = halts-behind code es subject most to-return.steps s returning halted to-return.walk halts in
        if-goes most (nat_le (floor_of nodes) caller.base) _
        (subst (λ (x : Step). GoesWithin most x) (ap (λ o. does_there es subject o returning) rest.ends.2 ∙ returned_there) (goes-within code es subject most returning halted h))

    to-back : To code es subject s back
    to-back =
        join code es subject s returning back to-return
        (once code es subject returning back
        (by code es subject returning back op.Return rest.ends.2
        (returned_there ∙ ap (λ (sound : Bool). if sound then Goes back else Stuck) sound)))

    -- where the branch ends
    abbrev trying : State
    trying = record back { at_ = d.end }

    to-end : To code es subject s trying
    to-end = join code es subject s back trying to-back (guards code es subject back struct bad caller.back d.end d.ends.guarded)

    fails-there : step es subject code trying ≡ Goes (next_of subject s d.first d.nodes d.caller d.callers d.mark d.end)
    fails-there =
        let u = next_of subject s d.first d.nodes d.caller d.callers d.mark d.end in
        ap (λ o. does_there es subject o trying) d.ends.tries.2
        ∙ ap (λ (marks : List Mark). try_step subject.origin d.ends.tries.0 d.ends.tries.1 trying marks) d.marked
        ∙ ap (λ (clean : Bool). if clean then Goes (record back { at_ = d.ends.tries.1; last = branch_of subject.origin d.ends.tries.0 struct d.mark.place; marks = d.marks }) else Goes u) bad

    told : Told code es subject most s d
    told =
        let h = halts-behind code es subject most to-end.steps s trying halted to-end.walk halts in
        let run = fitting code es subject most to-end.steps s trying halted to-end.walk halts in
        let u = next_of subject s d.first d.nodes d.caller d.callers d.mark d.end in record {
          sound = sound;
          leads = behind-them code es subject most run.steps s trying u run.run (room-there code es subject most trying halted h) fails-there;
        }

-- of the code of declarations
pub told-of : (decls : List Decl) (code : List Op) (es : List Entry) (subject : Subject) (most : ℕ) (s : State) → IsCodeOf decls code es → (d : Doom code es subject most s)
    → Told code es subject most s d
told-of decls code es subject most s is =
    subst (λ (code : List Op). (d : Doom code es subject most s) → Told code es subject most s d) (sym is.code_is)
    (subst (λ (es : List Entry). (d : Doom (code_of decls) es subject most s) → Told (code_of decls) es subject most s d) (sym is.entries_are) (told decls subject most s))

-- the struct and its call ended at once, with what it has
module _ (code : List Op) (es : List Entry) (subject : Subject) (most : ℕ) (s : State) (d : Doom code es subject most s) (t : Told code es subject most s d) where
  abbrev pub names : ℕ
  names = length s.bindings - d.first.base

  abbrev pub shut : State
  shut = record s {
    at_ = s.at_ + 1;
    last = node subject.origin None (val.Tuple d.first.values) d.first.begin s.last.place d.first.pds;
    bindings = left_of s d.first;
    nodes = d.nodes;
  }

  pub closes-here : close_step subject.origin names s s.nodes ≡ Goes shut
  closes-here =
      let floor = d.floor in
      ap (λ (nodes : List Node). close_step subject.origin names s nodes) d.nodes_are
      ∙ ap (λ (own : Bool). if own then Goes shut else Stuck) (eq-eqb (length s.bindings) (d.first.base + names) (omega (arith, floor)))

  shut-fits : entries shut ≤ most
  shut-fits =
      let fits = room-there code es subject most s d.halted d.halts in
      omega (arith, fits, ap (λ (nodes : List Node). length nodes) d.nodes_are, length-drop names s.bindings)

  pub close-within : GoesWithin most (close_step subject.origin names s s.nodes)
  close-within = subst (λ (x : Step). GoesWithin most x) (sym closes-here) shut-fits

  abbrev pub ended : State
  ended = record shut {
    at_ = d.caller.back;
    depth = s.depth + 1;
    bindings = drop (length (left_of s d.first) - d.caller.base) (left_of s d.first);
    callers = d.callers;
  }

  pub returns-here : return_step shut s.callers ≡ Goes ended
  returns-here =
      ap (λ (callers : List Caller). return_step shut callers) d.called ∙ ap (λ (sound : Bool). if sound then Goes ended else Stuck) t.sound

  pub return-within : GoesWithin most (return_step shut s.callers)
  return-within =
      let fits = shut-fits in
      let fewer : length ended.bindings ≤ length shut.bindings = omega (arith, length-drop (length (left_of s d.first) - d.caller.base) (left_of s d.first)) in
      let all : entries ended ≤ most = omega (arith, fits, fewer, ap (λ (callers : List Caller). length callers) d.called) in
      subst (λ (x : Step). GoesWithin most x) (sym returns-here) all

  -- what was done is what is told
  pub leads-here : (u : State) → u ≡ record ended { at_ = d.end + 1; last = unit_of subject.origin d.mark.place } → Leads code es subject most s u
  leads-here u is = subst (λ (u : State). Leads code es subject most s u) (sym is) t.leads

-- where a step is told of, the next state
pub told-goes : (next : Next) (made : Step) (k e u : State) → Tells next made k e → made ≡ Goes u → e ≡ u
told-goes next.Goes made k e u told is = let both = sym told ∙ is in cc
told-goes next.Searches made k e u told is = let both = sym told ∙ is in cc
told-goes next.Halts made k e u told is = let never = sym told.0 ∙ is in absurd cc
told-goes next.Asks made k e u told is = absurd told

pub goes-same : (t u : State) → Goes t ≡ Goes u → t ≡ u
goes-same t u same = cc

-- the machine in such a state
abbrev pub doom-of : (m : Machine) (code : List Op) (es : List Entry) (subject : Subject) (doomed : Doomed) (mark : MachineMark) (r : Reading) → IsDoomed code doomed m → Held m
    → Placed (length subject.bytes) m → slice_get (reverse m.marks.items) 0 ≡ Some mark → HaltsWith code es subject m.room (shown m) r → Doom code es subject m.room (shown m)
doom-of m code es subject doomed mark r d held placed there halts =
    let s = shown m in
    let sized : length s.bindings ≡ length m.bindings.items = length-reverse m.bindings.items in
    let called = callers-are m d.caller d.called in
    let low = d.sane in
    let nodes_are = nodes-are m d.node d.latest in
    record {
      first = top_shown m d.node;
      nodes = below_top m d.node;
      nodes_are = nodes_are;
      sane = subst (λ (callers : List Caller). base_of callers ≤ length s.bindings) (sym called) (omega (arith, low, sized));
      floor = subst (λ (nodes : List Node). floor_of nodes ≤ length s.bindings) nodes_are (floor-held m held);
      unclean = d.unclean;
      within = placed.last;
      rest = d.rest;
      caller = caller_shown d.caller;
      callers = map caller_shown (drop 1 (reverse m.callers.items));
      called = called;
      end = doomed.end;
      ends = d.ends;
      mark = mark_shown mark;
      marks = map mark_shown (drop 1 (reverse m.marks.items));
      marked = marks-are m mark there;
      halted = r;
      halts = halts;
    }
