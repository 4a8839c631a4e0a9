-- What open structs and arrays show once a part is kept, and once bindings are taken back.
use Rattle.std.proofs.Common.{◌≡◌, ◌∙◌, sym, ap, refl, subst, arith, ℕ, zero, suc, ◌+◌, ◌-◌, ◌≤◌, ◌^◌, List, [], ◌∷◌, ◌++◌, length, length-append, length-drop, take, get_or, Option, None}
use Rattle.std.specs.Prelude.{slice_set}
use Rattle.pads_value.specs.declared.cause.Cause.{Cause}
use Rattle.pads_value.specs.declared.descriptor.Pd.{Pd}
use Rattle.pads_value.specs.declared.value.Val.{Val}
use Rattle.pads_expr.specs.Value.{Pairs}
use Rattle.pads_calc.specs.declared.reading.Reading.{Reading}
use Rattle.pads_calc.specs.Structs.{bind}
use Rattle.pads_image.specs.States as states
use Rattle.pads_image.specs.Steps.{new_node, with_reading}
use Rattle.pads_machine.specs.declared.node.Node.{Node}
use Rattle.pads_machine.specs.Held.{AreHomes, AreSound}
use Rattle.pads_machine.specs.Shown.{Homes, above, below, home_of, put_back, stand_in, node_shown, nodes_shown}
use Rattle.pads_machine.proofs.Homes.{above-all, below-all, part-held, below-bind, below-home, held-homes, home-more, back-split, back-length, below-below, left-homes}

-- what a node shows, with these values and descriptors
abbrev node_of : Node → List Val → List Pd → states.Node
node_of n values pds = record { begin = n.begin; base = n.base; size = n.size; values = values; pds = pds; own = n.own }

-- a node with other values and descriptors
abbrev pub IsFilled : Node → Node → Type 0
IsFilled n m = m ≡ record n { values = m.values; pds = m.pds }

-- a struct or an array begins
pub open-shown : (n : Node) (nodes : List Node) (homes : Homes) (bindings : Pairs) → n.values.items ≡ [] → n.pds.items ≡ [] → n.base ≡ length bindings → n.own ≡ None
    → length homes ≡ length bindings → nodes_shown (n ∷ nodes) homes bindings ≡ new_node n.begin (length bindings) n.size ∷ nodes_shown nodes homes bindings
open-shown n nodes homes bindings values pds base own each =
    let over : length homes ≤ n.base = omega (arith, base, each) in
    let over' : length bindings ≤ n.base = omega (arith, base) in
    let made : node_shown n homes bindings ≡ new_node n.begin (length bindings) n.size =
    ap (λ hs. node_of n (put_back hs (above n.base bindings) n.values.items) n.pds.items) (above-all n.base homes over)
    ∙ ap (λ vs. node_of n vs n.pds.items) values
    ∙ ap (λ ks. node_of n [] ks) pds
    ∙ ap (λ (o : Option Cause). record { begin = n.begin; base = n.base; size = n.size; values = []; pds = []; own = o }) own
    ∙ ap (λ b. new_node n.begin b n.size) base in
    ap (λ m. m ∷ nodes_shown nodes (below n.base homes) (below n.base bindings)) made
    ∙ ap (λ hs. new_node n.begin (length bindings) n.size ∷ nodes_shown nodes hs (below n.base bindings)) (below-all n.base homes over)
    ∙ ap (λ bs. new_node n.begin (length bindings) n.size ∷ nodes_shown nodes homes bs) (below-all n.base bindings over')

pub open-sound : (n : Node) (nodes : List Node) (homes : Homes) → n.base ≡ length homes → n.begin ≤ 2 ^ 62 → AreSound nodes homes → AreSound (n ∷ nodes) homes
open-sound n nodes homes base begin sound =
    let over : length homes ≤ n.base = omega (arith, base) in (
      omega (arith, base),
      begin,
      subst (λ hs. AreHomes hs (length n.values.items)) (sym (above-all n.base homes over)) tt,
      subst (λ hs. AreSound nodes hs) (sym (below-all n.base homes over)) sound,
    )

-- a part is kept
module _ (n m : Node) (nodes : List Node) (homes : Homes) (bindings : Pairs) (name : Option ℕ) (r : Reading)
    (same : IsFilled n m) (values : m.values.items ≡ n.values.items ++ stand_in name r.value ∷ [])
    (sound : AreSound (n ∷ nodes) homes) (each : length homes ≡ length bindings) where
  abbrev homes' : Homes
  homes' = home_of name (length n.values.items) homes

  abbrev bindings' : Pairs
  bindings' = bind name r.value bindings

  pub part-shown : m.pds.items ≡ n.pds.items ++ r.pd ∷ []
      → nodes_shown (m ∷ nodes) homes' bindings' ≡ with_reading (node_shown n homes bindings) r ∷ nodes_shown nodes (below n.base homes) (below n.base bindings)
  part-shown pds =
      let within : n.base ≤ length bindings = omega (arith, sound.0, each) in
      let rest = nodes_shown nodes (below n.base homes') (below n.base bindings') in
      let put = λ (base : ℕ) (vs : List Val). put_back (above base homes') (above base bindings') vs in
      ap (λ (k : Node). node_shown k homes' bindings' ∷ nodes_shown nodes (below k.base homes') (below k.base bindings')) same
      ∙ ap (λ vs. node_of n (put n.base vs) m.pds.items ∷ rest) values
      ∙ ap (λ ks. node_of n (put n.base (n.values.items ++ stand_in name r.value ∷ [])) ks ∷ rest) pds
      ∙ ap (λ vs. node_of n vs (n.pds.items ++ r.pd ∷ []) ∷ rest)
      (part-held name r.value n.values.items homes bindings n.base sound.0 each sound.2)
      ∙ ap (λ hs. with_reading (node_shown n homes bindings) r ∷ nodes_shown nodes hs (below n.base bindings')) (below-home name (length n.values.items) homes n.base sound.0)
      ∙ ap (λ bs. with_reading (node_shown n homes bindings) r ∷ nodes_shown nodes (below n.base homes) bs) (below-bind name r.value bindings n.base within)

  pub part-sound : AreSound (m ∷ nodes) homes'
  part-sound =
      let more : length m.values.items ≡ length n.values.items + 1 = omega (arith, ap length values, length-append n.values.items (stand_in name r.value ∷ [])) in
      let here : AreHomes (above n.base homes') (length n.values.items + 1) = held-homes name (length n.values.items) homes n.base sound.0 sound.2 in
      subst (λ (k : Node). AreSound (k ∷ nodes) homes') (sym same) (
        omega (arith, sound.0, home-more name (length n.values.items) homes),
        sound.1,
        subst (λ k. AreHomes (above n.base homes') k) (sym more) here,
        subst (λ hs. AreSound nodes hs) (sym (below-home name (length n.values.items) homes n.base sound.0)) sound.3,
      )

-- bindings above the first so many are taken back
module _ (n m : Node) (nodes : List Node) (homes : Homes) (bindings : Pairs) (low : ℕ)
    (same : IsFilled n m) (values : m.values.items ≡ put_back (above low homes) (above low bindings) n.values.items)
    (less : n.base ≤ low) (each : length homes ≡ length bindings) where
  pub leave-shown : m.pds.items ≡ n.pds.items → nodes_shown (m ∷ nodes) (below low homes) (below low bindings) ≡ nodes_shown (n ∷ nodes) homes bindings
  leave-shown pds =
      let homes' = below low homes in
      let bindings' = below low bindings in
      let put = λ (base : ℕ) (vs : List Val). put_back (above base homes') (above base bindings') vs in
      let rest = nodes_shown nodes (below n.base homes') (below n.base bindings') in
      ap (λ (k : Node). node_shown k homes' bindings' ∷ nodes_shown nodes (below k.base homes') (below k.base bindings')) same
      ∙ ap (λ vs. node_of n (put n.base vs) m.pds.items ∷ rest) values
      ∙ ap (λ ks. node_of n (put n.base (put_back (above low homes) (above low bindings) n.values.items)) ks ∷ rest) pds
      ∙ ap (λ vs. node_of n vs n.pds.items ∷ rest) (back-split n.base low less homes bindings n.values.items each)
      ∙ ap (λ hs. node_shown n homes bindings ∷ nodes_shown nodes hs (below n.base bindings')) (below-below n.base low homes less)
      ∙ ap (λ bs. node_shown n homes bindings ∷ nodes_shown nodes (below n.base homes) bs) (below-below n.base low bindings less)

  pub leave-sound : AreSound (n ∷ nodes) homes → AreSound (m ∷ nodes) (below low homes)
  leave-sound sound =
      let size : length m.values.items ≡ length n.values.items = ap length values ∙ back-length (above low homes) (above low bindings) n.values.items in
      let here : AreHomes (above n.base (below low homes)) (length n.values.items) = left-homes n.base low less homes (length n.values.items) sound.2 in
      subst (λ (k : Node). AreSound (k ∷ nodes) (below low homes)) (sym same) (
        omega (arith, sound.0, less, length-drop (length homes - low) homes),
        sound.1,
        subst (λ k. AreHomes (above n.base (below low homes)) k) (sym size) here,
        subst (λ hs. AreSound nodes hs) (sym (below-below n.base low homes less)) sound.3,
      )

-- a list by its last item, and with another one in its place
pub last-is : {A : Type 0} (xs : List A) (i : ℕ) (x : A) → length xs ≡ i + 1 → x ≡ get_or xs i x → xs ≡ take i xs ++ x ∷ []
last-is [] i x size there = absurd (omega (arith, size))
last-is (y ∷ []) zero x size there = ap (λ y. y ∷ []) (sym there)
last-is (y ∷ z ∷ xs) zero x size there = absurd (omega (arith, size))
last-is (y ∷ xs) (suc i) x size there = ap (λ xs. y ∷ xs) (last-is xs i x (omega (arith, size)) there)

pub last-set : {A : Type 0} (xs : List A) (i : ℕ) (x : A) → length xs ≡ i + 1 → slice_set xs i x ≡ take i xs ++ x ∷ []
last-set [] i x size = absurd (omega (arith, size))
last-set (y ∷ []) zero x size = refl
last-set (y ∷ z ∷ xs) zero x size = absurd (omega (arith, size))
last-set (y ∷ xs) (suc i) x size = ap (λ xs. y ∷ xs) (last-set xs i x (omega (arith, size)))
