-- What the reading of code has come to, shown as code again: each open construct, and the whole term that
-- was read last, from the address on where it begins. Each instruction is to add itself to it.
use Rattle.std.proofs.Common.{◌≡◌, ◌∙◌, sym, ap, refl, subst, arith, ℕ, ◌+◌, Bool, true, false, List, [], ◌∷◌, ◌++◌, length, length-append, append_assoc, map, Option, None, Some, option_map}
use Rattle.pads_calc.specs.declared.term.Term.{Term}
use Rattle.pads_image.specs.declared.op.Op.{Op}
use Rattle.pads_image.specs.declared.op.Op.TheVariants as op
use Rattle.pads_image.specs.Blocks.{parts_code, arms_size, arms_code, blocks, targets, stop_size, stop_code, sep_size, sep_code, layout, part_layout, case_layout}
use Rattle.pads_image.specs.Opened.{Body, Tried, Head, Opened, Decls, Struct, Alt, Switch, Scan, Sized, Filled, Stopping, Edged, Separating, Taking, Shutting, State, Due, Whole}
use Rattle.pads_image.specs.Reads.{only_if}
use Rattle.pads_image.proofs.Lengths.{sized}

-- bodies with their Returns
abbrev pub bodies_code : List Body → ℕ → List Op
bodies_code [] p = []
bodies_code (body ∷ bodies) p = (layout body.term).code p ++ op.Return ∷ bodies_code bodies (p + ((layout body.term).size + 1))

-- they begin where they say
abbrev pub Begin : List Body → ℕ → Type 0
Begin [] p = Unit {0}
Begin (body ∷ bodies) p = (body.first ≡ p) × Begin bodies (p + ((layout body.term).size + 1))

-- branches, each with the end that it names
abbrev pub tries_code : List Tried → ℕ → ℕ → List Op
tries_code [] number p = []
tries_code (tried ∷ arms) number p = (layout tried.arm.term).code p ++ op.Try number tried.to ∷ tries_code arms (number + 1) (p + (layout tried.arm.term).size + 1)

-- an array up to the test of the record's end, and up to its element
abbrev pub filled_code : Head → Option Term → ℕ → List Op
filled_code head stop p = op.Size head.size head.end ∷ op.Full head.last head.elts head.shut ∷ stop_code (option_map layout stop) head.shut (p + 2)

abbrev pub edge_of : Option Term → ℕ → ℕ
edge_of stop p = p + 2 + stop_size (option_map layout stop)

abbrev pub taken_at : Option Term → Option Term → ℕ → ℕ
taken_at stop sep p = edge_of stop p + 2 + sep_size (option_map layout sep)

abbrev pub turn_code : Head → Option Term → Option Term → ℕ → List Op
turn_code head stop sep p = op.Edge head.shut ∷ op.Turn (taken_at stop sep p) ∷ sep_code (option_map layout sep) head.shut (edge_of stop p + 2)

abbrev pub taking_code : Head → Option Term → Option Term → ℕ → List Op
taking_code head stop sep p = filled_code head stop p ++ turn_code head stop sep p

-- a construct that begins at an address
abbrev pub opened_code : Opened → ℕ → List Op
opened_code (Decls done first) p = bodies_code done p
opened_code (Struct parts) p = op.Open ∷ parts_code (map part_layout parts) (p + 1)
opened_code (Alt arms) p = op.Mark ∷ tries_code arms 0 (p + 1)
opened_code (Switch e left end next cases) p =
    op.Switch e (targets (map case_layout cases) (p + 1) ++ left) end ∷ arms_code (λ number. op.Arm number end) (blocks (map case_layout cases)) 0 (p + 1)
opened_code (Scan inner) p = op.ScanFrom ∷ []
opened_code (Sized full size end) p = op.Size size end ∷ []
opened_code (Filled head stop) p = filled_code head stop p
opened_code (Stopping head) p = op.Size head.size head.end ∷ op.Full head.last head.elts head.shut ∷ op.Mark ∷ []
opened_code (Edged head stop) p = filled_code head stop p ++ op.Edge head.shut ∷ []
opened_code (Separating head stop elem) p = filled_code head stop p ++ op.Edge head.shut ∷ op.Turn elem ∷ []
opened_code (Taking head stop sep) p = taking_code head stop sep p
opened_code (Shutting head stop sep elem) p =
    taking_code head stop sep p ++ ((layout elem).code (p + length (taking_code head stop sep p)) ++ op.Elem head.shut head.full ∷ [])

-- the addresses that it holds are those of its code
abbrev pub opened_there : Opened → ℕ → Type 0
opened_there (Decls done first) p = (first ≡ p + length (bodies_code done p)) × Begin done p
opened_there (Struct parts) p = Unit {0}
opened_there (Alt arms) p = Unit {0}
opened_there (Switch e left end next cases) p = next ≡ p + 1 + arms_size (blocks (map case_layout cases))
opened_there (Scan inner) p = inner ≡ p + 1
opened_there (Sized full size end) p = full ≡ p + 1
opened_there (Filled head stop) p = head.full ≡ p + 1
opened_there (Stopping head) p = head.full ≡ p + 1
opened_there (Edged head stop) p = head.full ≡ p + 1
opened_there (Separating head stop elem) p = head.full ≡ p + 1
opened_there (Taking head stop sep) p = head.full ≡ p + 1
opened_there (Shutting head stop sep elem) p = head.full ≡ p + 1

-- constructs, the innermost first
abbrev pub shown : List Opened → List Op
shown [] = []
shown (construct ∷ more) = shown more ++ opened_code construct (length (shown more))

abbrev pub Placed : List Opened → Type 0
Placed [] = Unit {0}
Placed (construct ∷ more) = opened_there construct (length (shown more)) × Placed more

abbrev pub state_code : State → List Op
state_code (Due open_) = shown open_
state_code (Whole t open_) = shown open_ ++ (layout t).code (length (shown open_))

abbrev pub PlacedIn : State → Type 0
PlacedIn (Due open_) = Placed open_
PlacedIn (Whole t open_) = Placed open_

-- an instruction that adds itself
pub record Appends (instruction : Op) (state next : State) : Type 0 where
  pub code : state_code next ≡ state_code state ++ instruction ∷ []
  pub placed : PlacedIn next

-- so it does at an address, wherever it is read
abbrev pub Tells : ℕ → Op → (State → Option State) → Type 0
Tells p instruction read = (state next : State) → p ≡ length (state_code state) → PlacedIn state → read state ≡ Some next → Appends instruction state next

pub untold : {A : Type 0} (next : State) → None ≡ Some next → A
untold next is = absurd cc

pub told : (instruction : Op) (state found next : State) → Some found ≡ Some next → Appends instruction state found → Appends instruction state next
told instruction state found next is h =
    let same : found ≡ next = cc in
    subst (λ next. Appends instruction state next) same h

pub told-if : (instruction : Op) (state found next : State) (holds : Bool) → only_if holds found ≡ Some next → (holds ≡ true → Appends instruction state found) → Appends instruction state next
told-if instruction state found next true is h = told instruction state found next is (h refl)
told-if instruction state found next false is h = untold next is

module _ (construct : Opened) (more : List Opened) where
  abbrev front : List Op
  front = opened_code construct (length (shown more))

  -- where an instruction stands behind what was read of a construct, or behind a term in it
  pub due-at : (p : ℕ) → p ≡ length (state_code (Due (construct ∷ more))) → p ≡ length (shown more) + length front
  due-at p at_ = at_ ∙ length-append (shown more) front

  pub whole-at : (t : Term) (p : ℕ) → p ≡ length (state_code (Whole t (construct ∷ more))) → p ≡ length (shown more) + length front + (layout t).size
  whole-at t p at_ =
      let q = length (shown more ++ front) in
      omega (arith, at_, length-append (shown more ++ front) ((layout t).code q), length-append (shown more) front, sized t q)

  due-shown : (instruction : Op) (code : List Op) → code ≡ front ++ instruction ∷ [] → shown more ++ code ≡ state_code (Due (construct ∷ more)) ++ instruction ∷ []
  due-shown instruction code is = ap (λ code. shown more ++ code) is ∙ sym (append_assoc (shown more) front (instruction ∷ []))

  pub whole-shown : (t : Term) (instruction : Op) (code : List Op) → code ≡ front ++ ((layout t).code (length (shown more) + length front) ++ instruction ∷ [])
      → shown more ++ code ≡ state_code (Whole t (construct ∷ more)) ++ instruction ∷ []
  whole-shown t instruction code is =
      let inner = λ (q : ℕ). (layout t).code q in
      let p = length (shown more) + length front in
      let q = length (shown more ++ front) in
      ap (λ code. shown more ++ code) is
      ∙ sym (append_assoc (shown more) front (inner p ++ instruction ∷ []))
      ∙ ap (λ q. (shown more ++ front) ++ (inner q ++ instruction ∷ [])) (sym (length-append (shown more) front))
      ∙ sym (append_assoc (shown more ++ front) (inner q) (instruction ∷ []))

  -- an instruction that goes on with a construct, also behind a term in it, or ends it
  pub grows : (instruction : Op) (next : Opened) → opened_code next (length (shown more)) ≡ front ++ instruction ∷ []
      → opened_there next (length (shown more)) → Placed more → Appends instruction (Due (construct ∷ more)) (Due (next ∷ more))
  grows instruction next is there placed = record { code = due-shown instruction (opened_code next (length (shown more))) is; placed = (there, placed) }

  pub takes : (t : Term) (instruction : Op) (next : Opened)
      → opened_code next (length (shown more)) ≡ front ++ ((layout t).code (length (shown more) + length front) ++ instruction ∷ [])
      → opened_there next (length (shown more)) → Placed more → Appends instruction (Whole t (construct ∷ more)) (Due (next ∷ more))
  takes t instruction next is there placed = record { code = whole-shown t instruction (opened_code next (length (shown more))) is; placed = (there, placed) }

  pub closes : (instruction : Op) (next : Term) → (layout next).code (length (shown more)) ≡ front ++ instruction ∷ []
      → Placed more → Appends instruction (Due (construct ∷ more)) (Whole next more)
  closes instruction next is placed = record { code = due-shown instruction ((layout next).code (length (shown more))) is; placed = placed }

  pub ends : (t : Term) (instruction : Op) (next : Term)
      → (layout next).code (length (shown more)) ≡ front ++ ((layout t).code (length (shown more) + length front) ++ instruction ∷ [])
      → Placed more → Appends instruction (Whole t (construct ∷ more)) (Whole next more)
  ends t instruction next is placed = record { code = whole-shown t instruction ((layout next).code (length (shown more))) is; placed = placed }
