-- From what an order gives to what a run says of its status.
use Rattle.std.proofs.Common.{◌≡◌, ◌≢◌, ◌↔◌, ◌∙◌, ◌≤◌, ◌⊎◌, inl, inr, sym, subst, refl, ℕ, true, false, List, [], Option, None, Some, arith}
use Rattle.std.proofs.Math.Seq.{take-nil}
use Rattle.std.specs.Io.KnownBytes.{Appends}
use Rattle.pads_io.specs.Faults.{Rose}
use Rattle.pads_io.specs.Transfer.{AppendsPrefix}
use Rattle.pads_orders.specs.Orders.{order_of}
use Rattle.pads_orders.specs.declared.order.Order.{Order}
use Rattle.pads_tool.specs.Causes.{SinkFailed}
use Rattle.pads_tool.specs.Closing.{Leaves}
use Rattle.pads_tool.specs.Endings.{last_line, status_of}
use Rattle.pads_tool.specs.Promises.{Promise, promise_of, Seen, Counts, counts, Keeps}
use Rattle.pads_tool.specs.Running.{Ordered, RunGives, BeforeLastWords, HasReason, IsFair, EndsOrWantsMemory, IsBeforeInput}
use Rattle.pads_tool.specs.declared.ending.Ending.{Ending}
use Rattle.pads_tool.specs.declared.ending.Ending.TheVariants as ending
use Rattle.pads_tool.specs.declared.status.Status.{Status}
use Rattle.pads_tool.specs.declared.status.Status.TheVariants as status

none-some : (asked : Order) (o : Option Order) → o ≡ Some asked → o ≡ None → ⊥
none-some asked o h k = let wrong : Some asked ≡ None = sym h ∙ k in cc

-- words that aren't Usage are an order
pub ordered-by : (Holds : Promise → Type 0) (o : Option Order) → o ≢ None → ((asked : Order) → Holds (promise_of asked)) → (asked : Order) × (o ≡ Some asked) × Holds (promise_of asked)
ordered-by Holds (Some asked) h f = (asked, refl, f asked)
ordered-by Holds None h f = absurd (h refl)

module _ (words : List (List ℕ)) (s : Seen) (n : Counts) where
  -- what the clauses of a run say together, by its status
  abbrev ByStatus : Status → Type 0
  ByStatus status.Done = Ordered words (λ promise. promise.finishes true s) × Ordered words (λ promise. promise.keeps_records s.content s.left)
  ByStatus status.Dirty = Ordered words (λ promise. promise.finishes false s) × Ordered words (λ promise. promise.keeps_records s.content s.left)
  ByStatus status.Usage = (order_of words ≡ None) × (s.out' ≡ s.out)
  ByStatus status.Refused = (order_of words ≢ None) × (s.out' ≡ s.out)
  ByStatus status.FileFault = Ordered words (λ promise. promise.reads_files ≡ true) × Rose n.files n.files' × (s.out' ≡ s.out)
  ByStatus status.ReadFault = Rose n.source n.source' × Ordered words (λ promise. promise.stops_reading s)
  ByStatus status.WriteFault = Ordered words (λ promise. SinkFailed promise.writes_notes n.out n.out' n.notes n.notes')
      × Ordered words (λ promise. promise.stops_writing s) × Ordered words (λ promise. promise.stays_near s)
  ByStatus status.Memory = Ordered words (λ promise. promise.stops_early s)
  ByStatus status.TooLong = Ordered words (λ promise. promise.stops_at_limit s)
  ByStatus status.Limit = Ordered words (λ promise. promise.stops_at_count s) × (s.out' ≡ s.out)

  by-order : (asked : Order) (e : Ending) → order_of words ≡ Some asked → Keeps (promise_of asked) s n e → ByStatus (status_of e)
  by-order asked ending.Done is p = ((asked, is, p.0), (asked, is, p.1))
  by-order asked ending.Dirty is p = ((asked, is, p.0), (asked, is, p.1))
  by-order asked ending.Usage is p = absurd p
  by-order asked (ending.Refused verdict) is p = (none-some _ _ is, p.1)
  by-order asked ending.FileFault is p = ((asked, is, p.0), p.1, p.2)
  by-order asked ending.ReadFault is p = (p.0, (asked, is, p.1))
  by-order asked ending.WriteFault is p = ((asked, is, p.0), (asked, is, p.1), (asked, is, p.2))
  by-order asked ending.Memory is p = (asked, is, p)
  by-order asked ending.TooLong is p = (asked, is, p.0)
  by-order asked ending.Limit is p = ((asked, is, p.0), p.1)

  by-status : (e : Ending) → RunGives words s n e → ByStatus (status_of e)
  by-status ending.Usage h = h
  by-status ending.Done h = by-order h.0 ending.Done h.1 h.2
  by-status ending.Dirty h = by-order h.0 ending.Dirty h.1 h.2
  by-status (ending.Refused verdict) h = by-order h.0 (ending.Refused verdict) h.1 h.2
  by-status ending.FileFault h = by-order h.0 ending.FileFault h.1 h.2
  by-status ending.ReadFault h = by-order h.0 ending.ReadFault h.1 h.2
  by-status ending.WriteFault h = by-order h.0 ending.WriteFault h.1 h.2
  by-status ending.Memory h = by-order h.0 ending.Memory h.1 h.2
  by-status ending.TooLong h = by-order h.0 ending.TooLong h.1 h.2
  by-status ending.Limit h = by-order h.0 ending.Limit h.1 h.2

  -- what a run says of its status, where that is known
  pub at-status : (e : Ending) (s' t : Status) → s' ≡ status_of e → s' ≡ t → RunGives words s n e → ByStatus t
  at-status e s' t is same h = subst ByStatus (sym is ∙ same) (by-status e h)

  usage-when : (t : Status) → ByStatus t → order_of words ≡ None → t ≡ status.Usage
  usage-when status.Done h e = absurd (none-some h.0.0 _ h.0.1 e)
  usage-when status.Dirty h e = absurd (none-some h.0.0 _ h.0.1 e)
  usage-when status.Usage h e = refl
  usage-when status.Refused h e = absurd (h.0 e)
  usage-when status.FileFault h e = absurd (none-some h.0.0 _ h.0.1 e)
  usage-when status.ReadFault h e = absurd (none-some h.1.0 _ h.1.1 e)
  usage-when status.WriteFault h e = absurd (none-some h.1.0 _ h.1.1 e)
  usage-when status.Memory h e = absurd (none-some h.0 _ h.1 e)
  usage-when status.TooLong h e = absurd (none-some h.0 _ h.1 e)
  usage-when status.Limit h e = absurd (none-some h.0.0 _ h.0.1 e)

  pub usage-is : (e : Ending) (t : Status) → t ≡ status_of e → RunGives words s n e → (t ≡ status.Usage) ↔ (order_of words ≡ None)
  usage-is e t is h = ((λ same. (at-status e t status.Usage is same h).0), (λ none. usage-when t (at-status e t t is refl h) none))

  pub nothing : (e : Ending) (t : Status) → t ≡ status_of e → RunGives words s n e → IsBeforeInput t ⊎ (t ≡ status.Limit) → s.out' ≡ s.out
  nothing e t is h (inl (inl same)) = (at-status e t status.Usage is same h).1
  nothing e t is h (inl (inr (inl same))) = (at-status e t status.Refused is same h).1
  nothing e t is h (inl (inr (inr same))) = (at-status e t status.FileFault is same h).2
  nothing e t is h (inr same) = (at-status e t status.Limit is same h).1

  -- A sink on which the order writes didn't fail.
  fair-sinks : IsFair words s.content s.left n → (asked : Order) → order_of words ≡ Some asked → SinkFailed (promise_of asked).writes_notes n.out n.out' n.notes n.notes' → ⊥
  fair-sinks f asked is (inl rose) = f.out_well rose
  fair-sinks f asked is (inr (writes, rose)) = f.notes_well (asked, is, writes) rose

  fair-order : IsFair words s.content s.left n → (asked : Order) (e : Ending) → order_of words ≡ Some asked → (promise_of asked).can_finish s.content s.left
      → Keeps (promise_of asked) s n e → EndsOrWantsMemory (status_of e)
  fair-order f asked ending.Done is can h = tt
  fair-order f asked ending.Dirty is can h = tt
  fair-order f asked ending.Memory is can h = tt
  fair-order f asked ending.Usage is can h = absurd h
  fair-order f asked (ending.Refused verdict) is can h = absurd (h.2 can)
  fair-order f asked ending.FileFault is can h = absurd (f.files_well h.1)
  fair-order f asked ending.ReadFault is can h = absurd (f.source_well h.0)
  fair-order f asked ending.WriteFault is can h = absurd (fair-sinks f asked is h.0)
  fair-order f asked ending.TooLong is can h = absurd (h.1 can)
  fair-order f asked ending.Limit is can h = absurd (h.2 can)

  same-order : (one other : Order) (o : Option Order) → o ≡ Some one → o ≡ Some other → other ≡ one
  same-order one other o h k = cc

  fair-ordered : IsFair words s.content s.left n → (e : Ending) → Ordered words (λ promise. Keeps promise s n e) → EndsOrWantsMemory (status_of e)
  fair-ordered f e h =
      let same : f.ordered.0 ≡ h.0 = same-order h.0 f.ordered.0 (order_of words) h.1 f.ordered.1 in
      fair-order f h.0 e h.1 (subst (λ (a : Order). (promise_of a).can_finish s.content s.left) same f.ordered.2) h.2

  fair-ending : IsFair words s.content s.left n → (e : Ending) → RunGives words s n e → EndsOrWantsMemory (status_of e)
  fair-ending f ending.Usage h = absurd (none-some f.ordered.0 _ f.ordered.1 h.0)
  fair-ending f ending.Done h = tt
  fair-ending f ending.Dirty h = tt
  fair-ending f ending.Memory h = tt
  fair-ending f (ending.Refused verdict) h = fair-ordered f (ending.Refused verdict) h
  fair-ending f ending.FileFault h = fair-ordered f ending.FileFault h
  fair-ending f ending.ReadFault h = fair-ordered f ending.ReadFault h
  fair-ending f ending.WriteFault h = fair-ordered f ending.WriteFault h
  fair-ending f ending.TooLong h = fair-ordered f ending.TooLong h
  fair-ending f ending.Limit h = fair-ordered f ending.Limit h

  pub fair : IsFair words s.content s.left n → (e : Ending) (t : Status) → t ≡ status_of e → RunGives words s n e → EndsOrWantsMemory t
  fair f e t is h = subst EndsOrWantsMemory (sym is) (fair-ending f e h)

  -- a refusal has its reason
  pub reason : (e : Ending) → RunGives words s n e → HasReason words s.content e
  reason (ending.Refused v) h = (h.0, h.1, h.2.0)
  reason ending.Done h = tt
  reason ending.Dirty h = tt
  reason ending.Usage h = tt
  reason ending.FileFault h = tt
  reason ending.ReadFault h = tt
  reason ending.WriteFault h = tt
  reason ending.Memory h = tt
  reason ending.TooLong h = tt
  reason ending.Limit h = tt

  -- each clean record is kept where all was done
  pub kept : (e : Ending) (t : Status) → t ≡ status_of e → RunGives words s n e → (t ≡ status.Done) ⊎ (t ≡ status.Dirty) → Ordered words (λ promise. promise.keeps_records s.content s.left)
  kept e t is h (inl same) = (at-status e t status.Done is same h).1
  kept e t is h (inr same) = (at-status e t status.Dirty is same h).1

  -- An order that was done.
  pub obeyed : (asked : Order) (e : Ending) → order_of words ≡ Some asked → Keeps (promise_of asked) s n e → RunGives words s n e
  obeyed asked ending.Done is p = (asked, is, p)
  obeyed asked ending.Dirty is p = (asked, is, p)
  obeyed asked ending.Usage is p = absurd p
  obeyed asked (ending.Refused verdict) is p = (asked, is, p)
  obeyed asked ending.FileFault is p = (asked, is, p)
  obeyed asked ending.ReadFault is p = (asked, is, p)
  obeyed asked ending.WriteFault is p = (asked, is, p)
  obeyed asked ending.Memory is p = (asked, is, p)
  obeyed asked ending.TooLong is p = (asked, is, p)
  obeyed asked ending.Limit is p = (asked, is, p)

-- A count that rose still is above what it was when it rose further.
rose-still : (before count now : ℕ) → count ≤ now → Rose before count → Rose before now
rose-still before count now later rose = omega (arith, later, rose)

-- No call failed up to the last words, where none failed with them.
pub fair-before : (words : List (List ℕ)) (content : List ℕ → Option (List ℕ)) (left : Option (List ℕ)) (files files' source source' out out' notes count notes' : ℕ) → count ≤ notes'
    → IsFair words content left (counts files files' source source' out out' notes notes') → IsFair words content left (counts files files' source source' out out' notes count)
fair-before words content left files files' source source' out out' notes count notes' later f =
    record { ordered = f.ordered; files_well = f.files_well; source_well = f.source_well; out_well = f.out_well; notes_well = λ writes rose. f.notes_well writes (rose-still notes count notes' later rose) }

-- A run that was done leaves no last words.
abbrev IsEnd : Status → Type 0
IsEnd status.Done = Unit {0}
IsEnd status.Dirty = Unit {0}
IsEnd status.Usage = ⊥
IsEnd status.Refused = ⊥
IsEnd status.FileFault = ⊥
IsEnd status.ReadFault = ⊥
IsEnd status.WriteFault = ⊥
IsEnd status.Memory = ⊥
IsEnd status.TooLong = ⊥
IsEnd status.Limit = ⊥

silent : (e : Ending) → IsEnd (status_of e) → last_line e ≡ []
silent ending.Done end = refl
silent ending.Dirty end = refl
silent ending.Usage end = absurd end
silent (ending.Refused verdict) end = absurd end
silent ending.FileFault end = absurd end
silent ending.ReadFault end = absurd end
silent ending.WriteFault end = absurd end
silent ending.Memory end = absurd end
silent ending.TooLong end = absurd end
silent ending.Limit end = absurd end

none-grown : (n n' : Option (List ℕ)) (before now : ℕ) → (Appends n n' [] ⊎ (Rose before now × AppendsPrefix n n' [])) → Appends n n' []
none-grown n n' before now (inl all) = all
none-grown n n' before now (inr part) = subst (λ l. Appends n n' l) (take-nil part.1.0) part.1.1

pub none-left : (e : Ending) (t at_end : Status) (n n' : Option (List ℕ)) (before now : ℕ) → t ≡ status_of e → t ≡ at_end → IsEnd at_end → Leaves n n' before now (last_line e) → Appends n n' []
none-left e t at_end n n' before now is same end leaves =
    let none : last_line e ≡ [] = silent e (subst IsEnd (sym same ∙ is) end) in
    none-grown n n' before now (rw none at leaves.grown)

-- This held before the last words of a run.
pub before-last : (words : List (List ℕ)) (content : List ℕ → Option (List ℕ)) (ended : Status) (e : Ending) (n n' : Option (List ℕ)) (count now : ℕ) (Holds : Option (List ℕ) → ℕ → Type 0)
    → ended ≡ status_of e → HasReason words content e → Leaves n n' count now (last_line e) → Holds n count → BeforeLastWords words content ended n' now Holds
before-last words content ended e n n' count now Holds is why leaves holds = record { ending = e; is = is; reason = why; noted = n; count = count; holds = holds; leaves = leaves }
