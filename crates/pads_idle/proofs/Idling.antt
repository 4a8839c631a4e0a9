-- A call that takes no byte, by the code alone: its steps lead behind it with a reading that takes none, and that
-- doesn't fail if that is wanted.
use Rattle.std.proofs.Common.{◌≡◌, ◌∙◌, sym, ap, refl, subst, arith, ℕ, ℤ, pos, negsuc, zero, suc, ◌+◌, ◌-◌, ◌<◌, ◌≤◌, ◌≤ℤ◌, ◌⊎◌, inl, inr, Bool, true, false, not, ◌&&◌, if◌then◌else◌, nat_eq, eq-eqb, le-leb, List, [], ◌∷◌, ◌++◌, drop, length, Option, Some, None, option_map, slice_get}
use Rattle.std.proofs.lemmas.List.{length-append}
use Rattle.pads_value.specs.declared.cause.Cause.{Cause}
use Rattle.pads_value.specs.declared.cause.Cause.TheVariants as cause
use Rattle.pads_value.specs.declared.descriptor.Class.TheVariants as class
use Rattle.pads_value.specs.declared.descriptor.Pd.{Pd, Pd-F, out-Pd, out-roll-Pd}
use Rattle.pads_value.specs.declared.value.Val.{Val}
use Rattle.pads_value.specs.declared.value.Val.TheVariants as val
use Rattle.pads_value.specs.Header.{all_clean, class_of}
use Rattle.pads_expr.specs.declared.expr.Expr.{Expr}
use Rattle.pads_expr.specs.declared.expr.Expr.TheVariants as expr
use Rattle.pads_expr.specs.Value.{Pairs, value}
use Rattle.pads_expr.specs.Worth.{Answer, worth_or_none}
use Rattle.pads_expr.proofs.Steps.{value-Num}
use Rattle.pads_calc.specs.declared.reading.Reading.{Reading}
use Rattle.pads_dispatch.specs.declared.base.Arg.{Arg}
use Rattle.pads_calc.specs.Arguments.{arg_told, arguments, bound_to, is_true}
use Rattle.pads_calc.specs.Arrays.{below_size, is_fail_class, is_full, is_last, size_of_arg, soft}
use Rattle.pads_calc.specs.Choices.{branch_of}
use Rattle.pads_calc.specs.Leaves.{at_end, base_of, compute_node, compute_of, computed_told, eor_of, lit_of, unit_of}
use Rattle.pads_calc.specs.Readings.{Subject, fails, is_ok, leaf, node}
use Rattle.pads_calc.specs.Structs.{bind}
use Rattle.pads_calc.specs.Wrappers.{absorb_of, constrained, guard_of}
use Rattle.pads_calc.proofs.CleanNodes.{clean-node, fails-unclean}
use Rattle.pads_steps.specs.Searches.{stands_at}
use Rattle.pads_image.specs.declared.entry.Entry.{Entry}
use Rattle.pads_image.specs.declared.op.Op.{Op}
use Rattle.pads_image.specs.declared.op.Op.TheVariants as op
use Rattle.pads_image.specs.Blocks.{bindings_of}
use Rattle.pads_image.specs.States.{Caller, Mark, Node, State, floor_of, seen}
use Rattle.pads_image.specs.Steps.{Step, Goes, Stuck, back_to, began, call_in, call_step, does, does_there, mark_at, size_step, step}
use Rattle.law_images.proofs.Reaching.{bound-over, drop-over}
use Rattle.pads_idle.specs.Idle.{AreIdleParts, Ends, HasTerminator, HasValues, Idles, IdlesTo, IsAround, IsArrayOf, IsBefore, IsBehind, IsBodyOf, IsGuarded, IsIdlePart, IsKept, IsNamed, IsOptional, IsSize, IsStructOf, LacksSeparator, Links, ReadsCall, ReadsMarker}
use Rattle.pads_idle.proofs.Seeking.{seeks-none}
use Rattle.pads_idle.proofs.Walking as walks

-- one link more
pub link-idles : (code : List Op) (of_entries : List Entry) (subject : Subject) (place : ℕ) (wanted : Bool) (depth number : ℕ) (still : Bool) (inner : ℕ) → 0 < depth
    → Links code of_entries subject place wanted number still inner → Idles code of_entries subject place still (depth - 1) inner
    → Idles code of_entries subject place wanted depth number
link-idles code of_entries subject place wanted zero number still inner more links idles = absurd (omega (arith, more))
link-idles code of_entries subject place wanted (suc depth) number still inner more links idles =
    let one : suc depth - 1 ≡ depth = omega arith in (inner, still, links, subst (λ d. Idles code of_entries subject place still d inner) one idles)

-- a number that isn't below 0 is a size
pub number-size : (count : ℤ) → pos 0 ≤ℤ count → IsSize (Some (expr.Num count))
number-size (pos count) more env = (Some count, ap (λ (a : Answer). option_map Some (size_of_arg (arg_told (worth_or_none a)))) (value-Num (pos count) env))
number-size (negsuc below) more env = absurd (omega (arith, more))

-- a literal that doesn't stand at a place
pub lit-lacks : (subject : Subject) (literal : List ℕ) (place : ℕ) → stands_at subject.bytes literal place ≡ false → is_ok (lit_of subject literal place) ≡ false
lit-lacks subject literal place is =
    ap (λ (stands : Bool). is_ok (if stands then leaf subject.origin val.Unit place (place + length literal) else fails subject.origin cause.MissingLiteral place)) is
    ∙ fails-unclean subject.origin cause.MissingLiteral place

-- an array's own cause doesn't make it fail
never-fails : (clean : Bool) → is_fail_class (if clean then class.Ok else class.Err) ≡ false
never-fails true = refl
never-fails false = refl

soft-class : (own : Option Cause) (kids : List Pd) → is_fail_class (class_of (soft own) kids) ≡ false
soft-class None kids = never-fails (all_clean kids)
soft-class (Some cause) kids = refl

module _ (origin : ℕ) where
  -- an array as it reads, from a place on to a place, and a struct
  abbrev array : Option Cause → List Val → List Pd → ℕ → ℕ → Reading
  array own values pds i j = node origin (soft own) (val.Array values) i j pds

  abbrev struct : List Val → List Pd → ℕ → ℕ → Reading
  struct values pds i j = node origin None (val.Tuple values) i j pds

  node-class : (own : Option Cause) (value : Val) (pds : List Pd) (i j : ℕ) → is_fail_class (out-Pd (node origin (soft own) value i j pds).pd).class ≡ false
  node-class own value pds i j = ap (λ (n : Pd-F Pd). is_fail_class n.class) (out-roll-Pd _) ∙ soft-class own pds

-- what parameters are bound to stands above what there was
bound-drops : (names : List ℕ) (values : List Arg) (env : Pairs) → drop (length (bound_to names values env) - length env) (bound_to names values env) ≡ env
bound-drops names values env =
    subst (λ (bound : Pairs). drop (length bound - length env) bound ≡ env) (sym (bound-over names values [] env)) (drop-over (bound_to names values []) env)

-- a computed value takes no byte
compute-place : (origin i : ℕ) (found : Option Val) → (compute_node origin i found).place ≡ i
compute-place origin i None = refl
compute-place origin i (Some value) = refl

bound-more : (names : List ℕ) (values : List Arg) (env : Pairs) → length env ≤ length (bound_to names values env)
bound-more names values env =
    omega (arith, ap (λ (bound : Pairs). length bound) (bound-over names values [] env), length-append (bound_to names values []) env)

module _ (code : List Op) (of_entries : List Entry) (subject : Subject) where
  -- steps lead from a state to a state
  abbrev To : State → State → Type 0
  To s u = walks.To code of_entries subject s u

  along : (s t u : State) → step of_entries subject code s ≡ Goes t → To t u → To s u
  along s t u goes more = walks.along code of_entries subject s t u goes more

  once : (s t : State) → step of_entries subject code s ≡ Goes t → To s t
  once s t goes = walks.once code of_entries subject s t goes

  join : (s t u : State) → To s t → To t u → To s u
  join s t u a b = walks.join code of_entries subject s t u a b

  by : (s t : State) (instruction : Op) → slice_get code s.at_ ≡ Some instruction → does of_entries subject instruction s ≡ Goes t → step of_entries subject code s ≡ Goes t
  by s t instruction there goes = walks.by code of_entries subject s t instruction there goes

  -- at a place
  module _ (spot : ℕ) where
    -- from a state on what is read up to an address takes no byte, and doesn't fail if that is wanted
    pub record Idling (wanted : Bool) (s : State) (next : ℕ) : Type 0 where
      pub reading : Reading
      pub place : reading.place ≡ s.last.place
      pub class_is : wanted ≡ true → is_fail_class (out-Pd reading.pd).class ≡ false
      pub walk : To s (record s { at_ = next; last = reading })

    -- calls of a declaration take no byte where calls may be nested so deep
    abbrev pub IdlesAt : Bool → ℕ → ℕ → Type 0
    IdlesAt wanted depth number = (s : State) (args : List Expr) → slice_get code s.at_ ≡ Some (op.Call number args) → (wanted ≡ true → HasValues args (seen s)) → s.depth ≡ depth
        → floor_of s.nodes ≤ length s.bindings → s.last.place ≡ spot → Idling wanted s (s.at_ + 1)

    -- a call that isn't made
    refused : (s : State) (number : ℕ) (args : List Expr) (cause : Cause) → slice_get code s.at_ ≡ Some (op.Call number args)
        → does of_entries subject (op.Call number args) s ≡ Goes (record s { at_ = s.at_ + 1; last = fails subject.origin cause s.last.place }) → Idling false s (s.at_ + 1)
    refused s number args cause there goes =
        let r = fails subject.origin cause s.last.place in
        let t = record s { at_ = s.at_ + 1; last = r } in record {
          reading = r;
          place = refl;
          class_is = λ wanted. absurd cc;
          walk = once s t (by s t (op.Call number args) there goes);
        }

    -- where none may be nested any more
    bottom : (wanted : Bool) (number : ℕ) → wanted ≡ false → IdlesAt wanted zero number
    bottom wanted number not_wanted s args there given none above at_spot =
        subst (λ wanted. Idling wanted s (s.at_ + 1)) (sym not_wanted)
        (refused s number args cause.Depth there (ap (λ k. call_step subject.origin of_entries number args k s) none))

    at-address : (p q : ℕ) (instruction : Op) → p ≡ q → slice_get code p ≡ Some instruction → slice_get code q ≡ Some instruction
    at-address p q instruction same there = subst (λ p. slice_get code p ≡ Some instruction) same there

    -- an optional call: nothing is read where it isn't clean
    module _ (s : State) (number : ℕ) (h : IsOptional code s.at_ number)
        (e : Idling false (record s { at_ = s.at_ + 1; marks = mark_at s.last.place ∷ s.marks }) (s.at_ + 1 + 1)) where
      abbrev from : ℕ
      from = s.last.place

      abbrev tried : ℕ → Reading → State
      tried address last = record s { at_ = address; last = last; marks = mark_at from ∷ s.marks }

      abbrev chosen : ℕ → Reading → State
      chosen branch r = record s { at_ = s.at_ + 6; last = branch_of subject.origin branch r from }

      abbrev nothing : Reading
      nothing = unit_of subject.origin from

      abbrev branched : Bool → ℕ → ℕ → Reading → Step
      branched ok branch address r = if ok then Goes (chosen branch r) else Goes (tried (address + 1) nothing)

      tries : (address branch : ℕ) (r : Reading) (ok : Bool) → slice_get code address ≡ Some (op.Try branch (s.at_ + 6)) → is_ok r ≡ ok
          → step of_entries subject code (tried address r) ≡ branched ok branch address r
      tries address branch r ok there is =
          ap (λ o. does_there of_entries subject o (tried address r)) there ∙ ap (λ (ok : Bool). branched ok branch address r) is

      -- the branch without the call
      without : (address : ℕ) → address ≡ s.at_ + 2 → To (tried (address + 1) nothing) (chosen h.missing.0 nothing)
      without address is =
          let p = address + 1 in
          let t = tried p nothing in
          let u = tried (p + 1) nothing in
          let v = chosen h.missing.0 nothing in
          let here = at-address (s.at_ + 3) p op.Unit (omega (arith, is)) h.nothing in
          let there = at-address (s.at_ + 4) (p + 1) (op.Try h.missing.0 (s.at_ + 6)) (omega (arith, is)) h.missing.1 in
          along t u v (by t u op.Unit here refl) (once u v (tries (p + 1) h.missing.0 nothing true there (clean-node subject.origin val.Unit from from [])))

      call-read : To s (tried (s.at_ + 1 + 1) e.reading)
      call-read =
          let t = tried (s.at_ + 1) s.last in
          let u = tried (s.at_ + 1 + 1) e.reading in
          join s t u (once s t (by s t op.Mark h.mark refl)) e.walk

      either : (ok : Bool) → is_ok e.reading ≡ ok → Idling true s (s.at_ + 6)
      either true is =
          let t = tried (s.at_ + 1 + 1) e.reading in
          let u = chosen h.there.0 e.reading in
          let there = at-address (s.at_ + 2) (s.at_ + 1 + 1) (op.Try h.there.0 (s.at_ + 6)) (omega arith) h.there.1 in record {
            reading = branch_of subject.origin h.there.0 e.reading from;
            place = e.place;
            walk = join s t u call-read (once t u (tries (s.at_ + 1 + 1) h.there.0 e.reading true there is));
            class_is = λ wanted. node-class subject.origin None (val.Branch h.there.0 e.reading.value) (e.reading.pd ∷ []) from e.reading.place;
          }
      either false is =
          let t = tried (s.at_ + 1 + 1) e.reading in
          let u = tried (s.at_ + 1 + 1 + 1) nothing in
          let v = chosen h.missing.0 nothing in
          let there = at-address (s.at_ + 2) (s.at_ + 1 + 1) (op.Try h.there.0 (s.at_ + 6)) (omega arith) h.there.1 in record {
            reading = branch_of subject.origin h.missing.0 nothing from;
            place = refl;
            walk = join s t v call-read (along t u v (tries (s.at_ + 1 + 1) h.there.0 e.reading false there is) (without (s.at_ + 1 + 1) (omega arith)));
            class_is = λ wanted. node-class subject.origin None (val.Branch h.missing.0 nothing.value) (nothing.pd ∷ []) from from;
          }

      optional : Idling true s (s.at_ + 6)
      optional = either (is_ok e.reading) refl

    may-fail : (s : State) (next : ℕ) → Idling true s next → Idling false s next
    may-fail s next e = record { reading = e.reading; place = e.place; class_is = λ wanted. absurd cc; walk = e.walk }

    reads-optional : (depth number : ℕ) → IdlesAt false depth number → (s : State) (address next : ℕ) → s.at_ ≡ address
        → IsOptional code address number × (next ≡ address + 6) → s.depth ≡ depth → floor_of s.nodes ≤ length s.bindings → s.last.place ≡ spot → Idling true s next
    reads-optional depth number each s address next here call deep above at_spot =
        let h = subst (λ p. IsOptional code p number) (sym here) call.0 in
        let e = each (record s { at_ = s.at_ + 1; marks = mark_at s.last.place ∷ s.marks }) h.call.0 h.call.1 (λ wanted. absurd cc) deep above at_spot in
        subst (λ next. Idling true s next) (ap (λ p. p + 6) here ∙ sym call.1) (optional s number h e)

    -- a call, or an optional one
    reads-call : (depth number : ℕ) → IdlesAt false depth number → (s : State) (address next : ℕ) → s.at_ ≡ address → ReadsCall code address number next → s.depth ≡ depth
        → floor_of s.nodes ≤ length s.bindings → s.last.place ≡ spot → Idling false s next
    reads-call depth number each s address next here (inl call) deep above at_spot =
        let e = each s call.0 (at-address address s.at_ (op.Call number call.0) (sym here) call.1) (λ wanted. absurd cc) deep above at_spot in
        subst (λ next. Idling false s next) (ap (λ p. p + 1) here ∙ sym call.2) e
    reads-call depth number each s address next here (inr call) deep above at_spot =
        may-fail s next (reads-optional depth number each s address next here call deep above at_spot)

    -- what was read is under a constraint, or not
    pub record Guarded (s : State) (next : ℕ) : Type 0 where
      pub reading : Reading
      pub place : reading.place ≡ s.last.place
      pub class_is : is_fail_class (out-Pd s.last.pd).class ≡ false → is_fail_class (out-Pd reading.pd).class ≡ false
      pub walk : To s (record s { at_ = next; last = reading })

    constrained-place : (bad : Bool) (r : Reading) → (if bad then constrained r else r).place ≡ r.place
    constrained-place true r = refl
    constrained-place false r = refl

    constrained-class : (bad : Bool) (r : Reading) → is_fail_class (out-Pd r.pd).class ≡ false → is_fail_class (out-Pd (if bad then constrained r else r).pd).class ≡ false
    constrained-class true r sound = ap (λ (n : Pd-F Pd). is_fail_class n.class) (out-roll-Pd _)
    constrained-class false r sound = sound

    guards : (s : State) (address next : ℕ) → s.at_ ≡ address → IsGuarded code address next → Guarded s next
    guards s address next here (inl same) = record {
      reading = s.last;
      place = refl;
      class_is = λ sound. sound;
      walk = record { steps = 0; walk = ap (λ p. record s { at_ = p }) (here ∙ sym same) };
    }
    guards s address next here (inr h) =
        let bad = is_ok s.last && not (is_true h.1 ((h.0, s.last.value) ∷ seen s)) in
        let r = guard_of h.0 h.1 (seen s) s.last in
        let t = record s { at_ = next; last = r } in
        let further : s.at_ + 1 ≡ next = omega (arith, here, h.3) in record {
          reading = r;
          place = constrained-place bad s.last;
          class_is = constrained-class bad s.last;
          walk = once s t (by s t (op.Guard h.0 h.1) (at-address address s.at_ (op.Guard h.0 h.1) (sym here) h.2) (ap (λ p. Goes (record s { at_ = p; last = r })) further));
        }

    -- a call of a declaration, where calls may be nested and arguments have values
    module _ (s : State) (depth number : ℕ) (args : List Expr) (passed : List Arg) (entry : Entry) (deep : s.depth ≡ suc depth)
        (there : slice_get code s.at_ ≡ Some (op.Call number args)) (given : arguments args (seen s) ≡ Some passed) (entry_is : slice_get of_entries number ≡ Some entry)
        (above : floor_of s.nodes ≤ length s.bindings) (at_spot : s.last.place ≡ spot) where
      abbrev first : ℕ
      first = entry.first

      abbrev begin : ℕ
      begin = s.last.place

      abbrev caller : Caller
      caller = record { back = s.at_ + 1; base = length s.bindings }

      abbrev bound : Pairs
      bound = bound_to entry.params passed s.bindings

      -- inside the call, at an address
      abbrev inside : ℕ → Reading → List Node → List Mark → State
      inside address last nodes marks = record s {
        at_ = address;
        last = last;
        depth = depth;
        bindings = bound;
        nodes = nodes;
        marks = marks;
        callers = caller ∷ s.callers;
      }

      -- and behind it
      abbrev behind : Reading → State
      behind r = record s { at_ = s.at_ + 1; last = r }

      abbrev opened : Option ℕ → Option Cause → List Val → List Pd → List Node
      opened size own values pds = (record { begin = begin; base = length bound; size = size; values = values; pds = pds; own = own }) ∷ s.nodes

      enters : To s (inside first s.last s.nodes s.marks)
      enters =
          once s (inside first s.last s.nodes s.marks)
          (by s (inside first s.last s.nodes s.marks) (op.Call number args) there
          (ap (λ k. call_step subject.origin of_entries number args k s) deep
          ∙ ap (λ found. call_in subject.origin found (arguments args (seen s)) depth s) entry_is
          ∙ ap (λ found. call_in subject.origin (Some entry) found depth s) given))

      within : floor_of s.nodes ≤ length bound
      within = omega (arith, above, bound-more entry.params passed s.bindings)

      returns : (address : ℕ) (r : Reading) → slice_get code address ≡ Some op.Return → To (inside address r s.nodes s.marks) (behind r)
      returns address r ends =
          let back : depth + 1 ≡ s.depth = omega (arith, deep) in
          once (inside address r s.nodes s.marks) (behind r)
          (by (inside address r s.nodes s.marks) (behind r) op.Return ends
          (ap (λ (sound : Bool).
          if sound then Goes (record s { at_ = s.at_ + 1; last = r; depth = depth + 1; bindings = drop (length bound - length s.bindings) bound }) else Stuck)
          (le-leb (floor_of s.nodes) (length s.bindings) above)
          ∙ ap (λ (bindings : Pairs). Goes (record s { at_ = s.at_ + 1; last = r; depth = depth + 1; bindings = bindings })) (bound-drops entry.params passed s.bindings)
          ∙ ap (λ d. Goes (record s { at_ = s.at_ + 1; last = r; depth = d })) back))

      -- the declaration is an array
      module _ (inner next : ℕ) (h : IsArrayOf code subject spot first inner next) where
        abbrev edge : ℕ
        edge = h.edge

        abbrev shut : ℕ
        shut = h.behind + 1

        abbrev count : Option ℕ
        count = (h.begins.3 (seen (inside first s.last s.nodes s.marks))).0

        -- between its elements, at an address
        abbrev between : ℕ → Reading → List Val → List Pd → State
        between address last values pds = inside address last (opened count None values pds) s.marks

        -- in a turn
        abbrev turned : ℕ → Reading → List Val → List Pd → State
        turned address last values pds = inside address last (opened count None values pds) (mark_at begin ∷ s.marks)

        abbrev turned_at : ℕ → ℕ → Reading → List Val → List Pd → State
        turned_at place address last values pds = inside address last (opened count None values pds) (mark_at place ∷ s.marks)

        abbrev at_shut : Option Cause → Reading → List Val → List Pd → State
        at_shut own last values pds = inside shut last (opened count own values pds) s.marks

        -- steps lead to the array's end, and no byte is taken
        record Ended (t : State) : Type 0 where
          pub own : Option Cause
          pub values : List Val
          pub pds : List Pd
          pub last : Reading
          pub place : last.place ≡ begin
          pub walk : To t (at_shut own last values pds)

        at-once : (t : State) (own : Option Cause) (last : Reading) (values : List Val) (pds : List Pd) → last.place ≡ begin
            → step of_entries subject code t ≡ Goes (at_shut own last values pds) → Ended t
        at-once t own last values pds place goes = record { own = own; values = values; pds = pds; last = last; place = place; walk = once t (at_shut own last values pds) goes }

        earlier : (t u : State) → To t u → Ended u → Ended t
        earlier t u a e = record {
          own = e.own;
          values = e.values;
          pds = e.pds;
          last = e.last;
          place = e.place;
          walk = join t u (at_shut e.own e.last e.values e.pds) a e.walk;
        }

        begins : To (inside first s.last s.nodes s.marks) (between (first + 1) s.last [] [])
        begins =
            let t = inside first s.last s.nodes s.marks in
            let size = h.begins.3 (seen t) in
            once t (between (first + 1) s.last [] [])
            (by t (between (first + 1) s.last [] []) (op.Size h.begins.0 h.begins.1) h.begins.2 (ap (λ size. size_step subject.origin size h.begins.1 t) size.1))

        shuts : (own : Option Cause) (last : Reading) (values : List Val) (pds : List Pd)
            → To (at_shut own last values pds) (inside next (array subject.origin own values pds begin last.place) s.nodes s.marks)
        shuts own last values pds =
            let r = array subject.origin own values pds begin last.place in
            let further : shut + 1 ≡ next = omega (arith, h.ends) in
            let u = inside next r s.nodes s.marks in
            once (at_shut own last values pds) u
            (by (at_shut own last values pds) u op.Shut h.shut
            (ap (λ (alone : Bool). if alone then Goes (inside (shut + 1) r s.nodes s.marks) else Stuck) (eq-eqb (length bound) (length bound) refl)
            ∙ ap (λ p. Goes (inside p r s.nodes s.marks)) further))

        -- what is left to be done before a turn begins
        abbrev Turns : List Val → List Pd → Type 0
        Turns values pds = (last : Reading) → last.place ≡ begin → Ended (between (edge + 1) last values pds)

        module _ (values : List Val) (pds : List Pd) (more : Turns values pds) where
          -- the record ends, or not
          abbrev looked : Bool → Reading → Step
          looked over last = if over then Goes (at_shut (below_size count) last values pds) else Goes (between (edge + 1) last values pds)

          over-or : (over : Bool) (last : Reading) → last.place ≡ begin → step of_entries subject code (between edge last values pds) ≡ looked over last
              → Ended (between edge last values pds)
          over-or true last place goes = at-once (between edge last values pds) (below_size count) last values pds place goes
          over-or false last place goes =
              earlier (between edge last values pds) (between (edge + 1) last values pds) (once (between edge last values pds) (between (edge + 1) last values pds) goes)
              (more last place)

          edges : (last : Reading) → last.place ≡ begin → Ended (between edge last values pds)
          edges last place =
              over-or (at_end subject.bytes last.place) last place (ap (λ o. does_there of_entries subject o (between edge last values pds)) h.over)

          -- the terminator stands, or not
          abbrev stopped : Bool → Reading → Reading → Step
          stopped ok last r =
              if ok then Goes (at_shut (below_size count) (back_to last.place r) values pds)
              else Goes (between (first + 2 + 2 + 1) (back_to last.place r) values pds)

          abbrev marked : ℕ → Reading → Reading → State
          marked address last r = inside address r (opened count None values pds) (mark_at last.place ∷ s.marks)

          stands-or : (ok : Bool) (last r : Reading) → last.place ≡ begin → edge ≡ first + 5
              → step of_entries subject code (marked (first + 2 + 2) last r) ≡ stopped ok last r → Ended (marked (first + 2 + 2) last r)
          stands-or true last r place edge_is goes = at-once (marked (first + 2 + 2) last r) (below_size count) (back_to last.place r) values pds place goes
          stands-or false last r place edge_is goes =
              let t = marked (first + 2 + 2) last r in
              let further : first + 2 + 2 + 1 ≡ edge = omega (arith, edge_is) in
              let there : step of_entries subject code t ≡ Goes (between edge (back_to last.place r) values pds)
              = goes ∙ ap (λ p. Goes (between p (back_to last.place r) values pds)) further in
              earlier t (between edge (back_to last.place r) values pds) (once t (between edge (back_to last.place r) values pds) there)
              (edges (back_to last.place r) place)

          stops : (last r : Reading) → last.place ≡ begin → edge ≡ first + 5 → HasTerminator code (first + 2) shut → Ended (marked (first + 2 + 2) last r)
          stops last r place edge_is has =
              stands-or (is_ok r) last r place edge_is (ap (λ o. does_there of_entries subject o (marked (first + 2 + 2) last r)) has.stop)

          -- what stands at the terminator's place, read
          markers : (last r : Reading) → last.place ≡ begin → edge ≡ first + 5 → HasTerminator code (first + 2) shut
              → step of_entries subject code (marked (first + 2 + 1) last last) ≡ Goes (marked (first + 2 + 1 + 1) last r) → Ended (between (first + 2) last values pds)
          markers last r place edge_is has goes =
              let t = between (first + 2) last values pds in
              let u = marked (first + 2 + 1) last last in
              let v = marked (first + 2 + 2) last r in
              let further : first + 2 + 1 + 1 ≡ first + 2 + 2 = omega arith in
              let there : step of_entries subject code u ≡ Goes v = goes ∙ ap (λ p. Goes (marked p last r)) further in
              earlier t v (along t u v (by t u op.Mark has.mark refl) (once u v there)) (stops last r place edge_is has)

          reads-marker : (last : Reading) → last.place ≡ begin → edge ≡ first + 5 → HasTerminator code (first + 2) shut → Ended (between (first + 2) last values pds)
          reads-marker last place edge_is has = either has.marker
            where
              either : ReadsMarker code (first + 2 + 1) → Ended (between (first + 2) last values pds)
              either (inl lit) =
                  let r = lit_of subject lit.0 last.place in
                  markers last r place edge_is has (by (marked (first + 2 + 1) last last) (marked (first + 2 + 1 + 1) last r) (op.Lit lit.0) lit.1 refl)
              either (inr eor) =
                  let r = eor_of subject last.place in
                  markers last r place edge_is has (by (marked (first + 2 + 1) last last) (marked (first + 2 + 1 + 1) last r) op.Eor eor refl)

          -- behind the look at its size and its last element
          goes-on : IsBefore code first edge shut → (last : Reading) → last.place ≡ begin
              → Ended (between (first + 2) last values pds)
          goes-on (inl edge_is) last place = subst (λ p. Ended (between p last values pds)) edge_is (edges last place)
          goes-on (inr has) last place = reads-marker last place has.0 has.1

          -- it has all of its elements, or not
          abbrev ended_by : (full is_last : Bool) → Reading → Step
          ended_by full is_last last =
              if full then Goes (at_shut None last values pds)
              else if is_last then Goes (at_shut None last values pds)
              else Goes (between (first + 1 + 1) last values pds)

          full-or : (full is_last : Bool) (last : Reading) → last.place ≡ begin → step of_entries subject code (between (first + 1) last values pds) ≡ ended_by full is_last last
              → Ended (between (first + 1) last values pds)
          full-or true is_last last place goes = at-once (between (first + 1) last values pds) None last values pds place goes
          full-or false true last place goes = at-once (between (first + 1) last values pds) None last values pds place goes
          full-or false false last place goes =
              let t = between (first + 1) last values pds in
              let u = between (first + 2) last values pds in
              let further : first + 1 + 1 ≡ first + 2 = omega arith in
              earlier t u (once t u (goes ∙ ap (λ p. Goes (between p last values pds)) further)) (goes-on h.before last place)

          fulls : (last : Reading) → last.place ≡ begin → Ended (between (first + 1) last values pds)
          fulls last place =
              let t = between (first + 1) last values pds in
              let full = is_full count (length values) in
              let is_last = is_last h.full.0 h.full.1 values (seen t) in
              full-or full is_last last place
              (ap (λ o. does_there of_entries subject o t) h.full.2
              ∙ ap (λ (own : Bool). if own then ended_by full is_last last else Stuck) (eq-eqb (length bound) (length bound) refl))

        -- a turn: its element takes no byte, so that it is undone, or kept where it is the first
        module _ (each : IdlesAt false depth inner) where
          -- a first element has no separator before it
          begins-first : (last : Reading) → last.place ≡ begin → To (between (edge + 1) last [] []) (turned h.element last [] [])
          begins-first last place =
              let t = between (edge + 1) last [] [] in
              let u = turned h.element last [] [] in
              once t u (by t u (op.Turn h.element) h.turn (ap (λ place. Goes (inside h.element last (opened count None [] []) (mark_at place ∷ s.marks))) place))

          begins-later : (value : Val) (pd : Pd) (last : Reading) → last.place ≡ begin
              → To (between (edge + 1) last (value ∷ []) (pd ∷ [])) (turned (edge + 2) last (value ∷ []) (pd ∷ []))
          begins-later value pd last place =
              let t = between (edge + 1) last (value ∷ []) (pd ∷ []) in
              let u = turned (edge + 2) last (value ∷ []) (pd ∷ []) in
              let further : edge + 1 + 1 ≡ edge + 2 = omega arith in
              once t u
              (by t u (op.Turn h.element) h.turn
              (ap (λ p. Goes (inside p last (opened count None (value ∷ []) (pd ∷ [])) (mark_at last.place ∷ s.marks))) further
              ∙ ap (λ place. Goes (turned_at place (edge + 2) last (value ∷ []) (pd ∷ []))) place))

          abbrev more_with : Reading → List Val → List Pd → State
          more_with r values pds = between (first + 1) (unit_of subject.origin r.place) (values ++ r.value ∷ []) (pds ++ r.pd ∷ [])

          abbrev taken : (fell stall : Bool) → Reading → List Val → List Pd → Step
          taken fell stall r values pds =
              if fell then Goes (at_shut (Some cause.ArrayElem) (back_to begin r) values pds)
              else if stall then Goes (at_shut (Some cause.ArrayStall) (back_to begin r) values pds)
              else Goes (more_with r values pds)

          abbrev Kept : List Val → List Pd → Type 0
          Kept values pds = (r : Reading) → r.place ≡ begin → not (nat_eq (length values) 0) && nat_eq r.place begin ≡ false → Ended (more_with r values pds)

          kept-or : (fell stall : Bool) (r : Reading) (values : List Val) (pds : List Pd) → r.place ≡ begin
              → not (nat_eq (length values) 0) && nat_eq r.place begin ≡ stall → Kept values pds
              → step of_entries subject code (turned h.behind r values pds) ≡ taken fell stall r values pds → Ended (turned h.behind r values pds)
          kept-or true stall r values pds place is kept goes = at-once (turned h.behind r values pds) (Some cause.ArrayElem) (back_to begin r) values pds refl goes
          kept-or false true r values pds place is kept goes = at-once (turned h.behind r values pds) (Some cause.ArrayStall) (back_to begin r) values pds refl goes
          kept-or false false r values pds place is kept goes =
              earlier (turned h.behind r values pds) (more_with r values pds) (once (turned h.behind r values pds) (more_with r values pds) goes) (kept r place is)

          element : (values : List Val) (pds : List Pd) → Kept values pds → (last : Reading) → last.place ≡ begin → Ended (turned h.element last values pds)
          element values pds kept last place =
              let u = turned h.element last values pds in
              let e = reads-call depth inner each u h.element h.behind refl h.call refl (omega arith) (place ∙ at_spot) in
              let r = e.reading in
              let v = turned h.behind r values pds in
              let fell = is_fail_class (out-Pd r.pd).class && nat_eq r.place (began subject.origin r) in
              let stall = not (nat_eq (length values) 0) && nat_eq r.place begin in
              earlier u v e.walk (kept-or fell stall r values pds (e.place ∙ place) refl kept (ap (λ o. does_there of_entries subject o v) h.elem))

          -- with one element it has no more
          no-more : (value : Val) (pd : Pd) → Kept (value ∷ []) (pd ∷ [])
          no-more value pd r place on = let stays = eq-eqb r.place begin place in absurd cc

          -- the separator isn't there
          lacks : (value : Val) (pd : Pd) → LacksSeparator code subject spot (edge + 2) shut → (last : Reading) → last.place ≡ begin
              → Ended (turned (edge + 2) last (value ∷ []) (pd ∷ []))
          lacks value pd m last place =
              let r = lit_of subject m.missing.0 last.place in
              let q = absorb_of r in
              let at_ = λ (address : ℕ) (last : Reading). turned address last (value ∷ []) (pd ∷ []) in
              let u = at_ (edge + 2) last in
              let v = at_ (edge + 2 + 1) r in
              let w = at_ (edge + 2 + 2) q in
              let z = at_shut (Some cause.ArraySep) (back_to begin q) (value ∷ []) (pd ∷ []) in
              let further : edge + 2 + 1 + 1 ≡ edge + 2 + 2 = omega arith in
              let bad : is_ok q ≡ false = ap (λ i. is_ok (lit_of subject m.missing.0 i)) (place ∙ at_spot) ∙ m.missing.2 in
              let reads : step of_entries subject code u ≡ Goes v = by u v (op.Lit m.missing.0) m.missing.1 refl in
              let drops : step of_entries subject code v ≡ Goes w = by v w op.Absorb m.absorb (ap (λ p. Goes (at_ p q)) further) in
              let ends : step of_entries subject code w ≡ Goes z
              = by w z (op.Sep shut) m.sep (ap (λ (ok : Bool). if ok then Goes (at_ (edge + 2 + 2 + 1) q) else Goes z) bad) in
              record {
                own = Some cause.ArraySep;
                values = value ∷ [];
                pds = pd ∷ [];
                last = back_to begin q;
                place = refl;
                walk = along u v z reads (along v w z drops (once w z ends));
              }

          second : (value : Val) (pd : Pd) → IsBehind code subject spot edge h.element shut → (last : Reading) → last.place ≡ begin
              → Ended (turned (edge + 2) last (value ∷ []) (pd ∷ []))
          second value pd (inl same) last place =
              subst (λ p. Ended (turned p last (value ∷ []) (pd ∷ []))) same (element (value ∷ []) (pd ∷ []) (no-more value pd) last place)
          second value pd (inr m) last place = lacks value pd m.1 last place

          first-turn : Kept [] [] → Turns [] []
          first-turn kept last place =
              earlier (between (edge + 1) last [] []) (turned h.element last [] []) (begins-first last place) (element [] [] kept last place)

          second-turn : (value : Val) (pd : Pd) → Turns (value ∷ []) (pd ∷ [])
          second-turn value pd last place =
              earlier (between (edge + 1) last (value ∷ []) (pd ∷ [])) (turned (edge + 2) last (value ∷ []) (pd ∷ [])) (begins-later value pd last place)
              (second value pd h.separated last place)

          all : Ended (between (first + 1) s.last [] [])
          all =
              fulls [] []
              (first-turn (λ r place on. fulls (r.value ∷ []) (r.pd ∷ []) (second-turn r.value r.pd) (unit_of subject.origin r.place) place))
              s.last refl

          array-idles : Idling true (inside first s.last s.nodes s.marks) next
          array-idles =
              let e = all in
              let r = array subject.origin e.own e.values e.pds begin e.last.place in
              let a = inside first s.last s.nodes s.marks in
              let b = between (first + 1) s.last [] [] in
              let c = at_shut e.own e.last e.values e.pds in
              let d = inside next r s.nodes s.marks in record {
                reading = r;
                place = e.place;
                walk = join a b d begins (join b c d e.walk (shuts e.own e.last e.values e.pds));
                class_is = λ wanted. node-class subject.origin e.own (val.Array e.values) e.pds begin e.last.place;
              }

      -- the declaration is a struct: among its parts, with bindings of its own
      abbrev among : ℕ → Reading → Pairs → List Val → List Pd → State
      among address last mine values pds = record s {
        at_ = address;
        last = last;
        depth = depth;
        bindings = mine ++ bound;
        nodes = opened None None values pds;
        callers = caller ∷ s.callers;
      }

      bind-own : (name : Option ℕ) (value : Val) (mine : Pairs) → bind name value (mine ++ bound) ≡ bind name value mine ++ bound
      bind-own None value mine = refl
      bind-own (Some name) value mine = refl

      bind-more : (name : Option ℕ) (value : Val) (mine : Pairs) → length (bind name value mine) ≡ length mine + bindings_of name
      bind-more None value mine = omega arith
      bind-more (Some name) value mine = omega arith

      -- behind some of its parts no byte is taken, and so many are named
      record Parted (address names : ℕ) : Type 0 where
        pub last : Reading
        pub mine : Pairs
        pub values : List Val
        pub pds : List Pd
        pub place : last.place ≡ begin
        pub bound_ : length mine ≡ names
        pub walk : To (inside first s.last s.nodes s.marks) (among address last mine values pds)

      -- what was read without a byte is kept
      keeps : (address names next : ℕ) (name : Option ℕ) (behind : ℕ) (last : Reading) (p : Parted address names) → last.place ≡ begin
          → To (among address p.last p.mine p.values p.pds) (among behind last p.mine p.values p.pds) → IsKept code behind name next → Parted next (names + bindings_of name)
      keeps address names next name behind last p place walk kept =
          let a = inside first s.last s.nodes s.marks in
          let t = among address p.last p.mine p.values p.pds in
          let u = among behind last p.mine p.values p.pds in
          let g = guards u behind kept.kept refl kept.guarded in
          let r = g.reading in
          let v = among kept.kept r p.mine p.values p.pds in
          let mine = bind name r.value p.mine in
          let w = among next (unit_of subject.origin r.place) mine (p.values ++ r.value ∷ []) (p.pds ++ r.pd ∷ []) in
          let further : kept.kept + 1 ≡ next = sym kept.ends in
          let part : step of_entries subject code v ≡ Goes w
          = by v w (op.Part name) kept.part
          (ap (λ (bindings : Pairs).
          Goes (record v {
            at_ = kept.kept + 1;
            last = unit_of subject.origin r.place;
            bindings = bindings;
            nodes = opened None None (p.values ++ r.value ∷ []) (p.pds ++ r.pd ∷ []);
          })) (bind-own name r.value p.mine)
          ∙ ap (λ at_. Goes (among at_ (unit_of subject.origin r.place) mine (p.values ++ r.value ∷ []) (p.pds ++ r.pd ∷ []))) further) in
          record {
            last = unit_of subject.origin r.place;
            mine = mine;
            values = p.values ++ r.value ∷ [];
            pds = p.pds ++ r.pd ∷ [];
            place = g.place ∙ place;
            bound_ = bind-more name r.value p.mine ∙ ap (λ k. k + bindings_of name) p.bound_;
            walk = join a t w p.walk (join t u w walk (join u v w g.walk (once v w part)));
          }

      -- a base type that takes no byte, a computed value, or a literal that isn't found
      reads-none : (address names next : ℕ) (name : Option ℕ) → Parted address names → IsIdlePart code subject spot address name next → Parted next (names + bindings_of name)
      reads-none address names next name p (behind, inl base, kept) =
          let t = among address p.last p.mine p.values p.pds in
          let r = base_of subject base.0 (arguments base.1 (seen t)) p.last.place in
          let u = among behind r p.mine p.values p.pds in
          let here = p.place ∙ at_spot in
          let stays : r.place ≡ begin = ap (λ i. (base_of subject base.0 (arguments base.1 (seen t)) i).place) here ∙ base.3 (seen t) ∙ sym at_spot in
          let goes : step of_entries subject code t ≡ Goes u
          = by t u (op.Base base.0 base.1) base.2 (ap (λ q. Goes (among q r p.mine p.values p.pds)) (sym base.4)) in
          keeps address names next name behind r p stays (once t u goes) kept
      reads-none address names next name p (behind, inr (inl computed), kept) =
          let t = among address p.last p.mine p.values p.pds in
          let found = worth_or_none (value computed.0 (seen t)) in
          let r = compute_of subject.origin computed.1 found p.last.place in
          let u = among behind r p.mine p.values p.pds in
          let stays : r.place ≡ begin = compute-place subject.origin p.last.place (computed_told computed.1 found) ∙ p.place in
          let goes : step of_entries subject code t ≡ Goes u
          = by t u (op.Compute computed.0 computed.1) computed.2 (ap (λ q. Goes (among q r p.mine p.values p.pds)) (sym computed.3)) in
          keeps address names next name behind r p stays (once t u goes) kept
      reads-none address names next name p (behind, inr (inr literal), kept) =
          let t = among address p.last p.mine p.values p.pds in
          let f = seeks-none code of_entries subject spot t literal.0 (p.place ∙ at_spot) in
          let r = fails subject.origin f.kept spot in
          let walk = subst (λ q. To t (among q r p.mine p.values p.pds)) (sym literal.1) f.walk in
          keeps address names next name behind r p (sym at_spot) walk kept

      -- such parts, one behind another
      more-parts : (from count names next more : ℕ) → AreIdleParts code subject spot from count next more → Parted from names → Parted next (names + more)
      more-parts from zero names next more none p =
          let same : names ≡ names + more = omega (arith, none.1) in
          subst (λ names. Parted next names) same (subst (λ address. Parted address names) (sym none.0) p)
      more-parts from (suc count) names next more parts p =
          let before = more-parts from count names parts.0 parts.1 parts.3 p in
          let same : names + parts.1 + bindings_of parts.2 ≡ names + more = omega (arith, parts.5) in
          subst (λ names. Parted next names) same (reads-none parts.0 (names + parts.1) next parts.2 before parts.4)

      module _ (inner next : ℕ) (h : IsStructOf code subject spot first inner next) (each : IdlesAt false depth inner) where
        begun : Parted (first + 1) 0
        begun =
            let t = inside first s.last s.nodes s.marks in
            let u = among (first + 1) s.last [] [] [] in record {
              last = s.last;
              mine = [];
              values = [];
              pds = [];
              place = refl;
              bound_ = refl;
              walk = once t u (by t u op.Open h.begins refl);
            }

        ahead : Parted h.calls_at (0 + h.names_ahead)
        ahead = more-parts (first + 1) h.ahead 0 h.calls_at h.names_ahead h.parts_ahead begun

        -- the part that is a call
        called : Parted h.kept (0 + h.names_ahead + bindings_of h.name)
        called =
            let p = ahead in
            let t = among h.calls_at p.last p.mine p.values p.pds in
            let above : length bound ≤ length (p.mine ++ bound) = omega (arith, length-append p.mine bound) in
            let e = reads-call depth inner each t h.calls_at h.behind refl h.call refl above (p.place ∙ at_spot) in
            keeps h.calls_at (0 + h.names_ahead) h.kept h.name h.behind e.reading p (e.place ∙ p.place) e.walk h.part

        parted : Parted h.closes_at (0 + h.names_ahead + bindings_of h.name + h.names_more)
        parted = more-parts h.kept h.more (0 + h.names_ahead + bindings_of h.name) h.closes_at h.names_more h.parts_more called

        abbrev names : ℕ
        names = h.names_ahead + bindings_of h.name + h.names_more

        -- what the struct reads as
        abbrev read : Reading
        read = struct subject.origin parted.values parted.pds begin parted.last.place

        abbrev closed : Bool → ℕ → Pairs → Step
        closed own address bindings = if own then Goes (record (inside address read s.nodes s.marks) { bindings = bindings }) else Stuck

        so-many : length (parted.mine ++ bound) ≡ length bound + names
        so-many = omega (arith, length-append parted.mine bound, parted.bound_)

        own-gone : drop names (parted.mine ++ bound) ≡ bound
        own-gone =
            let count : length (parted.mine ++ bound) - length bound ≡ names = omega (arith, so-many) in
            subst (λ k. drop k (parted.mine ++ bound) ≡ bound) count (drop-over parted.mine bound)

        closes : To (among h.closes_at parted.last parted.mine parted.values parted.pds) (inside next read s.nodes s.marks)
        closes =
            let t = among h.closes_at parted.last parted.mine parted.values parted.pds in
            let u = inside next read s.nodes s.marks in
            let further : h.closes_at + 1 ≡ next = sym h.ends in
            once t u
            (by t u (op.Close names) h.close
            (ap (λ (own : Bool). closed own (h.closes_at + 1) (drop names (parted.mine ++ bound)))
            (eq-eqb (length (parted.mine ++ bound)) (length bound + names) so-many)
            ∙ ap (λ (bindings : Pairs). closed true (h.closes_at + 1) bindings) own-gone
            ∙ ap (λ p. Goes (inside p read s.nodes s.marks)) further))

        struct-idles : Idling true (inside first s.last s.nodes s.marks) next
        struct-idles =
            let a = inside first s.last s.nodes s.marks in
            let b = among h.closes_at parted.last parted.mine parted.values parted.pds in
            let c = inside next read s.nodes s.marks in record {
              reading = read;
              place = parted.place;
              walk = join a b c parted.walk closes;
              class_is = λ wanted. node-class subject.origin None (val.Tuple parted.values) parted.pds begin parted.last.place;
            }

      -- the declaration is an array, a struct or an optional call
      body-idles : (inner next : ℕ) → IsBodyOf code subject spot first inner next → IdlesAt false depth inner → Idling true (inside first s.last s.nodes s.marks) next
      body-idles inner next (inl h) each = array-idles inner next h each
      body-idles inner next (inr (inl h)) each = struct-idles inner next h each
      body-idles inner next (inr (inr h)) each = reads-optional depth inner each (inside first s.last s.nodes s.marks) first next refl h refl within at_spot

      -- its constraint is looked at, and it ends
      ends-so : (wanted : Bool) (next : ℕ) → Idling wanted (inside first s.last s.nodes s.marks) next → Ends code next → Idling wanted s (s.at_ + 1)
      ends-so wanted next body ends =
          let q = body.reading in
          let a = inside first s.last s.nodes s.marks in
          let b = inside next q s.nodes s.marks in
          let g = guards b next ends.0 refl ends.1 in
          let r = g.reading in
          let c = inside ends.0 r s.nodes s.marks in record {
            reading = r;
            place = g.place ∙ body.place;
            class_is = λ is. g.class_is (body.class_is is);
            walk = join s a (behind r) enters (join a b (behind r) body.walk (join b c (behind r) g.walk (returns ends.0 r ends.2)));
          }

      if-wanted : (wanted : Bool) (t : State) (next : ℕ) → Idling true t next → Idling wanted t next
      if-wanted true t next e = e
      if-wanted false t next e = may-fail t next e

      link : (wanted still : Bool) (inner : ℕ) → (IsAround code subject spot first inner × (still ≡ false)) ⊎ (IsNamed code first inner × (still ≡ wanted)) → IdlesAt still depth inner
          → Idling wanted s (s.at_ + 1)
      link wanted still inner (inl h) each =
          let body = body-idles inner h.0.0 h.0.1 (subst (λ b. IdlesAt b depth inner) h.1 each) in
          ends-so wanted h.0.0 (if-wanted wanted (inside first s.last s.nodes s.marks) h.0.0 body) h.0.2
      link wanted still inner (inr h) each =
          let e = subst (λ b. IdlesAt b depth inner) h.1 each (inside first s.last s.nodes s.marks) [] h.0.0 (λ is. ([], refl)) refl within at_spot in
          ends-so wanted (first + 1) e h.0.1

    -- whether arguments have values or not
    called-with : (wanted still : Bool) (depth number inner : ℕ) (entry : Entry) (s : State) (args : List Expr) (found : Option (List Arg)) → arguments args (seen s) ≡ found
        → s.depth ≡ suc depth → slice_get code s.at_ ≡ Some (op.Call number args) → (wanted ≡ true → HasValues args (seen s)) → slice_get of_entries number ≡ Some entry
        → floor_of s.nodes ≤ length s.bindings → s.last.place ≡ spot → (IsAround code subject spot entry.first inner × (still ≡ false)) ⊎ (IsNamed code entry.first inner × (still ≡ wanted)) → IdlesAt still depth inner
        → Idling wanted s (s.at_ + 1)
    called-with wanted still depth number inner entry s args (Some values) given deep there has entry_is above at_spot links each =
        link s depth number args values entry deep there given entry_is above at_spot wanted still inner links each
    called-with true still depth number inner entry s args None given deep there has entry_is above at_spot links each = let values = has refl in absurd cc
    called-with false still depth number inner entry s args None given deep there has entry_is above at_spot links each =
        refused s number args cause.BadParam there
        (ap (λ k. call_step subject.origin of_entries number args k s) deep
        ∙ ap (λ found. call_in subject.origin found (arguments args (seen s)) depth s) entry_is
        ∙ ap (λ found. call_in subject.origin (Some entry) found depth s) given)

    -- a call takes no byte, and doesn't fail if that is wanted
    idling : (wanted : Bool) (depth number : ℕ) → Idles code of_entries subject spot wanted depth number → IdlesAt wanted depth number
    idling wanted zero number idles = bottom wanted number idles
    idling wanted (suc depth) number idles =
        let each = idling idles.1 depth idles.0 idles.3 in
        λ s args there has deep above at_spot.
        called-with wanted idles.1 depth number idles.0 idles.2.0 s args (arguments args (seen s)) refl deep there has idles.2.1 above at_spot idles.2.2 each

    -- and so does an element that is read up to an address
    pub idles-to : (depth : ℕ) (s : State) (address next : ℕ) → s.at_ ≡ address → IdlesTo code of_entries subject spot (seen s) depth address next → s.depth ≡ depth
        → floor_of s.nodes ≤ length s.bindings → s.last.place ≡ spot → Idling true s next
    idles-to depth s address next here (inl h) deep above at_spot =
        let there = at-address address s.at_ (op.Call h.0 h.1) (sym here) h.2 in
        let e = idling true depth h.0 h.4 s h.1 there (λ wanted. h.3) deep above at_spot in
        subst (λ next. Idling true s next) (ap (λ p. p + 1) here ∙ sym h.5) e
    idles-to depth s address next here (inr h) deep above at_spot = reads-optional depth h.0 (idling false depth h.0 h.2) s address next here (h.1, h.3) deep above at_spot
