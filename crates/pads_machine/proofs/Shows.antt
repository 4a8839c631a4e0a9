-- What the machine shows behind an instruction, by what it showed before. Stacks here have their latest
-- entry first.
use Rattle.std.proofs.Common.{◌≡◌, ◌∙◌, sym, ap, refl, subst, arith, cond, eqb, true, false, Bool, ℕ, suc, ◌+◌, ◌-◌, ◌<◌, ◌≤◌, ◌^◌, List, [], ◌∷◌, ◌++◌, length, length-drop, drop, map, reverse, get_or, Option, Some, None}
use Rattle.std.proofs.lemmas.Bool.{eqb-true}
use Rattle.std.proofs.lemmas.List.{length-reverse, get_or-reverse}
use Rattle.pads_value.specs.declared.value.Val.{Val}
use Rattle.pads_value.specs.declared.value.Val.TheVariants as val
use Rattle.pads_dispatch.specs.declared.base.Arg.{Arg}
use Rattle.pads_expr.specs.Value.{Pairs}
use Rattle.pads_calc.specs.declared.reading.Reading.{Reading}
use Rattle.pads_calc.specs.Arguments.{bound_to}
use Rattle.pads_calc.specs.Leaves.{unit_of}
use Rattle.pads_calc.specs.Readings.{node}
use Rattle.pads_calc.specs.Structs.{bind}
use Rattle.pads_image.specs.declared.entry.Entry.{Entry}
use Rattle.pads_image.specs.Blocks.{bindings_of}
use Rattle.pads_image.specs.States as states
use Rattle.pads_image.specs.States.{base_of, floor_of}
use Rattle.pads_image.specs.Steps.{Goes, Stuck, close_step, entered, new_node, part_step}
use Rattle.pads_machine.specs.declared.node.Caller.{Caller}
use Rattle.pads_machine.specs.declared.node.Mark.{Mark}
use Rattle.pads_machine.specs.declared.node.Node.{Node}
use Rattle.pads_machine.specs.declared.state.State.{State}
use Rattle.pads_machine.specs.Held.{AreSound, Roomy}
use Rattle.pads_machine.specs.Ran.{GoesWithin, opens}
use Rattle.pads_machine.specs.Shown.{Homes, above, below, caller_shown, mark_shown, home_of, homeless, put_back, shows, shown, stand_in, nodes_shown}
use Rattle.pads_machine.proofs.Bound.{bound-count, bound-shown, bound-sound, homeless-count}
use Rattle.pads_machine.proofs.Homes.{home-length}
use Rattle.pads_machine.proofs.Nodes.{IsFilled, open-shown, open-sound, part-shown, part-sound, leave-shown, leave-sound}

pub own-room : (room : ℕ) (m : State) → Roomy room m → Roomy m.room m
own-room room m h = record {
  room_is = refl;
  bindings = omega (arith, h.room_is, h.bindings);
  homes = omega (arith, h.room_is, h.homes);
  nodes = omega (arith, h.room_is, h.nodes);
  marks = omega (arith, h.room_is, h.marks);
  callers = omega (arith, h.room_is, h.callers);
}

-- how many structs are open, and how many bindings there are with one more
pub nodes-count : (nodes : List Node) (homes : Homes) (bindings : Pairs) → length (nodes_shown nodes homes bindings) ≡ length nodes
nodes-count [] homes bindings = refl
nodes-count (n ∷ nodes) homes bindings = ap (λ k. suc k) (nodes-count nodes (below n.base homes) (below n.base bindings))

pub callers-count : (callers : List Caller) → length (map caller_shown callers) ≡ length callers
callers-count [] = refl
callers-count (c ∷ callers) = ap (λ k. suc k) (callers-count callers)

pub bind-count : (name : Option ℕ) (value : Val) (env : Pairs) → length (bind name value env) ≡ bindings_of name + length env
bind-count None value env = omega arith
bind-count (Some name) value env = omega arith

-- the base of the latest call, told from the callers as they are stored
base-first : (callers : List Caller) (c : Caller) → 0 < length callers → base_of (map caller_shown callers) ≡ (get_or callers 0 c).base
base-first [] c some = absurd (omega arith)
base-first (first ∷ callers) c some = refl

pub base-last : (callers : List Caller) (c : Caller) → 0 < length callers → base_of (map caller_shown (reverse callers)) ≡ (get_or callers (length callers - 1) c).base
base-last callers c some =
    let last : length callers - 1 - 0 ≡ length callers - 1 = omega arith in
    base-first (reverse callers) c (omega (arith, some, length-reverse callers))
    ∙ ap (λ (c : Caller). c.base) (get_or-reverse callers 0 c some ∙ ap (λ k. get_or callers k c) last)

-- what is kept has a struct or an array to go to, and its binding room
part-opens : (origin room : ℕ) (name : Option ℕ) (s : states.State) (nodes : List states.Node) → GoesWithin room (part_step origin name s nodes) → 0 < length nodes
part-opens origin room name s [] within = absurd within
part-opens origin room name s (n ∷ nodes) within = omega arith

part-rooms : (origin room : ℕ) (name : Option ℕ) (s : states.State) (nodes : List states.Node) → GoesWithin room (part_step origin name s nodes) → bindings_of name + length s.bindings ≤ room
part-rooms origin room name s [] within = absurd within
part-rooms origin room name s (n ∷ nodes) within = omega (arith, within, bind-count name s.last.value s.bindings)

pub part-open : (origin room : ℕ) (name : Option ℕ) (m : State) → GoesWithin room (part_step origin name (shown m) (shown m).nodes) → 0 < length m.nodes.items
part-open origin room name m within =
    omega (
      arith,
      part-opens origin room name (shown m) (shown m).nodes within,
      nodes-count (reverse m.nodes.items) (reverse m.homes.items) (reverse m.bindings.items),
      length-reverse m.nodes.items,
    )

pub part-room : (origin room : ℕ) (name : Option ℕ) (m : State) → GoesWithin room (part_step origin name (shown m) (shown m).nodes) → bindings_of name + length m.bindings.items ≤ room
part-room origin room name m within = omega (arith, part-rooms origin room name (shown m) (shown m).nodes within, length-reverse m.bindings.items)

-- a test that must have held
pub where-so : (room : ℕ) (b : Bool) (t : states.State) → GoesWithin room (cond b (Goes t) Stuck) → b ≡ true
where-so room true t within = refl
where-so room false t within = absurd within

module _ (ms : List Mark) (address depth : ℕ) (last : Reading) (bs : Pairs) (hs : Homes) (ns : List Node) (cs : List Caller) (sound : AreSound ns hs) (each : length hs ≡ length bs) where
  pub open-shows : (n : Node) (ns' : List Node) → ns' ≡ n ∷ ns → n.values.items ≡ [] → n.pds.items ≡ [] → n.base ≡ length bs → n.begin ≡ last.place → n.own ≡ None
      → opens n.size (shows ms address last depth bs hs ns cs) ≡ Goes (shows ms (address + 1) last depth bs hs ns' cs)
  open-shows n ns' more values pds base begin own =
      let s = shows ms (address + 1) last depth bs hs ns cs in
      sym (ap (λ nodes. Goes (shows ms (address + 1) last depth bs hs nodes cs)) more
      ∙ ap (λ nodes. Goes (record s { nodes = nodes })) (open-shown n ns hs bs values pds base own each)
      ∙ ap (λ begin. Goes (record s { nodes = new_node begin (length bs) n.size ∷ nodes_shown ns hs bs })) begin)

  pub open-held : (n : Node) (ns' : List Node) → ns' ≡ n ∷ ns → n.base ≡ length bs → n.begin ≤ 2 ^ 62 → AreSound ns' hs
  open-held n ns' more base begin = subst (λ nodes. AreSound nodes hs) (sym more) (open-sound n ns hs (base ∙ sym each) begin sound)

module _ (ms : List Mark) (origin address depth : ℕ) (last : Reading) (bs : Pairs) (hs : Homes) (n : Node) (ns : List Node) (cs : List Caller)
    (sound : AreSound (n ∷ ns) hs) (each : length hs ≡ length bs) where
  module _ (name : Option ℕ) (m : Node) (same : IsFilled n m) (values : m.values.items ≡ n.values.items ++ stand_in name last.value ∷ []) where
    pub part-shows : (bs' : Pairs) (hs' : Homes) (ns' : List Node) → m.pds.items ≡ n.pds.items ++ last.pd ∷ []
        → bs' ≡ bind name last.value bs → hs' ≡ home_of name (length n.values.items) hs → ns' ≡ m ∷ ns
        → part_step origin name (shows ms address last depth bs hs (n ∷ ns) cs) (nodes_shown (n ∷ ns) hs bs) ≡ Goes (shows ms (address + 1) (unit_of origin last.place) depth bs' hs' ns' cs)
    part-shows bs' hs' ns' pds bs_are hs_are ns_are =
        let unit = unit_of origin last.place in
        let s = shows ms (address + 1) unit depth (bind name last.value bs) (home_of name (length n.values.items) hs) (m ∷ ns) cs in
        sym (ap (λ bs. Goes (shows ms (address + 1) unit depth bs hs' ns' cs)) bs_are
        ∙ ap (λ hs. Goes (shows ms (address + 1) unit depth (bind name last.value bs) hs ns' cs)) hs_are
        ∙ ap (λ ns. Goes (shows ms (address + 1) unit depth (bind name last.value bs) (home_of name (length n.values.items) hs) ns cs)) ns_are
        ∙ ap (λ nodes. Goes (record s { nodes = nodes })) (part-shown n m ns hs bs name last same values sound each pds))

    pub part-held : (hs' : Homes) (ns' : List Node) → hs' ≡ home_of name (length n.values.items) hs → ns' ≡ m ∷ ns → AreSound ns' hs'
    part-held hs' ns' hs_are ns_are =
        subst (λ ns. AreSound ns hs') (sym ns_are) (subst (λ hs. AreSound (m ∷ ns) hs) (sym hs_are) (part-sound n m ns hs bs name last same values sound each))

    pub part-each : (bs' : Pairs) (hs' : Homes) → bs' ≡ bind name last.value bs → hs' ≡ home_of name (length n.values.items) hs → length hs' ≡ length bs'
    part-each bs' hs' bs_are hs_are = ap length hs_are ∙ home-length name (length n.values.items) last.value hs bs each ∙ sym (ap length bs_are)

  module _ (room count : ℕ) (within : GoesWithin room (close_step origin count (shows ms address last depth bs hs (n ∷ ns) cs) (nodes_shown (n ∷ ns) hs bs))) where
    own : eqb (length bs) (n.base + count) ≡ true
    own = where-so room (eqb (length bs) (n.base + count)) _ within

    -- what is left below the struct's own bindings
    left : below n.base bs ≡ drop count bs
    left = let same : length bs - n.base ≡ count = omega (arith, eqb-true (length bs) (n.base + count) own) in ap (λ k. drop k bs) same

    pub close-shows : (bs' : Pairs) (hs' : Homes) (values : List Val) (r : Reading) → bs' ≡ below n.base bs → hs' ≡ below n.base hs → values ≡ put_back (above n.base hs) (above n.base bs) n.values.items
        → r ≡ node origin None (val.Tuple values) n.begin last.place n.pds.items
        → close_step origin count (shows ms address last depth bs hs (n ∷ ns) cs) (nodes_shown (n ∷ ns) hs bs) ≡ Goes (shows ms (address + 1) r depth bs' hs' ns cs)
    close-shows bs' hs' values r bs_are hs_are values_are r_is =
        let whole = put_back (above n.base hs) (above n.base bs) n.values.items in
        let closed : Reading → Pairs → List states.Node → states.State = λ r bs nodes. record { at_ = address + 1; last = r; depth = depth; bindings = bs; nodes = nodes; marks = map mark_shown ms; callers = map caller_shown cs } in
        let nodes = nodes_shown ns (below n.base hs) (below n.base bs) in
        ap (λ (b : Bool). cond b (Goes (closed (node origin None (val.Tuple whole) n.begin last.place n.pds.items) (drop count bs) nodes)) Stuck) own
        ∙ ap (λ vs. Goes (closed (node origin None (val.Tuple vs) n.begin last.place n.pds.items) (drop count bs) nodes)) (sym values_are)
        ∙ ap (λ r. Goes (closed r (drop count bs) nodes)) (sym r_is)
        ∙ ap (λ bs. Goes (closed r bs nodes)) (sym left)
        ∙ ap (λ hs'. Goes (closed r (below n.base bs) (nodes_shown ns hs' (below n.base bs)))) (sym hs_are)
        ∙ ap (λ bs'. Goes (closed r bs' (nodes_shown ns hs' bs'))) (sym bs_are)

  pub close-held : (hs' : Homes) → hs' ≡ below n.base hs → AreSound ns hs'
  close-held hs' hs_are = subst (λ hs. AreSound ns hs) (sym hs_are) sound.3

  pub begins : n.begin ≤ 2 ^ 62
  begins = sound.1

-- bindings above the first so many are taken back
module _ (ms : List Mark) (address depth : ℕ) (last : Reading) (bs : Pairs) (hs : Homes) (cs : List Caller) (low : ℕ) (bs' : Pairs) (hs' : Homes) (bs_are : bs' ≡ below low bs) (hs_are : hs' ≡ below low hs) where
  pub cut-none-shows : shows ms address last depth bs' hs' [] cs ≡ record (shows ms address last depth bs hs [] cs) { bindings = below low bs }
  cut-none-shows = ap (λ bs. shows ms address last depth bs hs' [] cs) bs_are

  module _ (n m : Node) (ns ns' : List Node) (same : IsFilled n m) (values : m.values.items ≡ put_back (above low hs) (above low bs) n.values.items)
      (less : n.base ≤ low) (each : length hs ≡ length bs) (ns_are : ns' ≡ m ∷ ns) where
    pub cut-shows : m.pds.items ≡ n.pds.items → shows ms address last depth bs' hs' ns' cs ≡ record (shows ms address last depth bs hs (n ∷ ns) cs) { bindings = below low bs }
    cut-shows pds =
        let s = shows ms address last depth (below low bs) hs (n ∷ ns) cs in
        ap (λ bs'. shows ms address last depth bs' hs' ns' cs) bs_are
        ∙ ap (λ hs'. shows ms address last depth (below low bs) hs' ns' cs) hs_are
        ∙ ap (λ ns'. shows ms address last depth (below low bs) (below low hs) ns' cs) ns_are
        ∙ ap (λ nodes. record s { nodes = nodes }) (leave-shown n m ns hs bs low same values less each pds)

    pub cut-held : AreSound (n ∷ ns) hs → AreSound ns' hs'
    cut-held sound =
        subst (λ ns. AreSound ns hs') (sym ns_are) (subst (λ hs. AreSound (m ∷ ns) hs) (sym hs_are) (leave-sound n m ns hs bs low same values less each sound))

pub cut-each : {A B : Type 0} (low : ℕ) (xs : List A) (ys : List B) → length xs ≡ length ys → length (below low xs) ≡ length (below low ys)
cut-each low xs ys each = omega (arith, each, length-drop (length xs - low) xs, length-drop (length ys - low) ys)

-- a call begins
module _ (ms : List Mark) (entry : Entry) (args : List Arg) (address depth depth' : ℕ) (last : Reading) (bs : Pairs) (hs : Homes) (ns : List Node) (cs : List Caller)
    (bs' : Pairs) (hs' : Homes) (bs_are : bs' ≡ bound_to entry.params args bs) (hs_are : hs' ≡ homeless entry.params args hs) (sound : AreSound ns hs) (each : length hs ≡ length bs) where
  pub enter-shows : (c : Caller) (cs' : List Caller) → cs' ≡ c ∷ cs → c.back ≡ address + 1 → c.base ≡ length bs
      → shows ms entry.first last depth' bs' hs' ns cs' ≡ entered entry args depth' (shows ms address last depth bs hs ns cs)
  enter-shows c cs' cs_are back base =
      let to : Pairs → List states.Node → List states.Caller → states.State = λ bs nodes callers. record { at_ = entry.first; last = last; depth = depth'; bindings = bs; nodes = nodes; marks = map mark_shown ms; callers = callers } in
      let bound = bound_to entry.params args bs in
      ap (λ bs'. to bs' (nodes_shown ns hs' bs') (map caller_shown cs')) bs_are
      ∙ ap (λ hs'. to bound (nodes_shown ns hs' bound) (map caller_shown cs')) hs_are
      ∙ ap (λ nodes. to bound nodes (map caller_shown cs')) (bound-shown entry.params args ns hs bs sound each)
      ∙ ap (λ cs'. to bound (nodes_shown ns hs bs) (map caller_shown cs')) cs_are
      ∙ ap (λ back. to bound (nodes_shown ns hs bs) ((record { back = back; base = c.base }) ∷ map caller_shown cs)) back
      ∙ ap (λ base. to bound (nodes_shown ns hs bs) ((record { back = address + 1; base = base }) ∷ map caller_shown cs)) base

  pub enter-held : AreSound ns hs'
  enter-held = subst (λ hs. AreSound ns hs) (sym hs_are) (bound-sound entry.params args ns hs sound)

  pub enter-each : length hs' ≡ length bs'
  enter-each = omega (arith, each, ap length bs_are, ap length hs_are, bound-count entry.params args bs, homeless-count entry.params args hs)
