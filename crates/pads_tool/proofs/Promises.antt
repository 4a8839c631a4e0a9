-- How the promise of a command is kept.
use Rattle.std.proofs.Common.{◌≡◌, ◌^◌, ◌≤◌, ◌∙◌, inl, inr, refl, sym, subst, ℕ, Bool, true, List, [], length, append-nil, Option, None, Some, IfSome, arith}
use Rattle.std.specs.Prelude.{All}
use Rattle.std.specs.Io.KnownBytes.{Appends}
use Rattle.pads_describe.proofs.AnswerLaws.{not_refused, one_description}
use Rattle.pads_describe.specs.Describing.{Describes}
use Rattle.pads_describe.specs.Verdicts.{IsRefused}
use Rattle.pads_code.specs.declared.Coding.{Coding}
use Rattle.pads_orders.specs.declared.order.Cutting.{Cutting}
use Rattle.pads_orders.specs.declared.order.Order.{Order}
use Rattle.pads_orders.specs.declared.order.Order.TheVariants as order
use Rattle.pads_orders.specs.declared.order.Settings.{Settings}
use Rattle.pads_module.specs.Modules.{Contents}
use Rattle.pads_describe.specs.declared.verdict.Verdict.{Verdict}
use Rattle.pads_tool.proofs.Texts.{if-known, within}
use Rattle.pads_drive.specs.Outputs.{Work}
use Rattle.pads_selftest.specs.Description.{description}
use Rattle.pads_value.specs.declared.row.Row.{Row}
use Rattle.law_calculus.specs.Plain.{Plain}
use Rattle.pads_calc.specs.Skeletons.{KeepsAll}
use Rattle.pads_orders.specs.Orders.{IsWithinLimits}
use Rattle.pads_tool.proofs.Kept.{all-kept}
use Rattle.pads_tool.specs.Describing.{Description, described, frames_of, is_clean, lines}
use Rattle.pads_tool.specs.Printing.{IsKept, prints}
use Rattle.pads_tool.specs.Querying.{answers}
use Rattle.pads_tool.specs.Reading.{RecordsGive, WroteAll, WroteMost, rows_in}
use Rattle.pads_tool.specs.Promises.{Promise, Seen, seen, Counts, counts, Keeps, checking, printing, reading, testing, promise_of}
use Rattle.pads_tool.specs.Running.{Ordered}
use Rattle.pads_tool.specs.Telling.{Tells}
use Rattle.pads_tool.specs.Testing.{all_clean, selftest_line}
use Rattle.pads_tool.specs.Images.{CanBeRead, HasImage, HasNoImage, IsReadIn, IsUnreadFor}
use Rattle.pads_tool.specs.Masking.{Preparation, describing}
use Rattle.pads_tool.specs.Texts.{IsDescribedIn, IsRefusedIn, StopsBefore, StopsFor}
use Rattle.pads_tool.specs.declared.reason.Reason.{Reason}
use Rattle.pads_tool.specs.declared.reason.Reason.TheVariants as reason
use Rattle.pads_tool.specs.declared.ending.Ending.{Ending}
use Rattle.pads_tool.specs.declared.ending.Ending.TheVariants as ending

pub known-at : {A : Type 0} (P : A → Type 0) (o : Option A) (x : A) → o ≡ Some x → IfSome o P → P x
known-at P (Some y) x e h = let same : y ≡ x = cc in subst P same h
known-at P None x e h = cc

-- An accepted description, whose module has an image, isn't refused.
module _ (content : Option (List ℕ)) (coding : Coding) (can : CanBeRead content coding) where
  accepted-verdict : (v : Verdict) → IsRefusedIn content v → ⊥
  accepted-verdict v refused = not_refused can.text coding can.made v can.describes (known-at (λ text. IsRefused text v) content can.text can.content_is refused)

  small-image : (made : Contents) → IsDescribedIn content coding made → HasNoImage made → ⊥
  small-image made here large =
      let same = one_description can.text coding can.made made can.describes (known-at (λ text. Describes text coding made) content can.text can.content_is here) in
      let small = subst HasImage same can.small in
      omega (arith, small, large)

  not-refused : (why : Reason) → IsUnreadFor content coding why → ⊥
  not-refused (reason.Description v) refused = accepted-verdict v refused
  not-refused reason.ImageTooLarge refused = small-image refused.0 refused.1 refused.2
  not-refused (reason.MaskItem item) refused = absurd refused
  not-refused (reason.Question fault) refused = absurd refused
  not-refused reason.SummaryTooLarge refused = absurd refused

-- Where there is a module, there is no reason that there is none.
abbrev pub Excludes : Preparation → Type 0
Excludes prepared = (content : Option (List ℕ)) (why : Reason) → prepared.can_make content → prepared.refused_for content why → ⊥

pub describing-excludes : (coding : Coding) (scan : ℕ) → Excludes (describing coding scan)
describing-excludes coding scan content why can refused = not-refused content coding can why refused

-- The run of a command ends before its module is there.
pub stopped : (p : Promise) (s : Seen) (n : Counts) (Refuses : Reason → Type 0) (e : Ending) → p.reads_files ≡ true
    → ((why : Reason) → Refuses why → p.refused_for s.content why × (p.can_finish s.content s.left → ⊥))
    → p.stops_early s → s.out' ≡ s.out → StopsBefore Refuses n.files n.files' e → Keeps p s n e
stopped p s n Refuses (ending.Refused why) reads refused early same h = ((refused why h).0, same, (refused why h).1)
stopped p s n Refuses ending.FileFault reads refused early same h = (reads, h, same)
stopped p s n Refuses ending.Memory reads refused early same h = early
stopped p s n Refuses ending.Done reads refused early same h = absurd h
stopped p s n Refuses ending.Dirty reads refused early same h = absurd h
stopped p s n Refuses ending.Usage reads refused early same h = absurd h
stopped p s n Refuses ending.ReadFault reads refused early same h = absurd h
stopped p s n Refuses ending.WriteFault reads refused early same h = absurd h
stopped p s n Refuses ending.TooLong reads refused early same h = absurd h
stopped p s n Refuses ending.Limit reads refused early same h = absurd h

pub check-stopped : (name : List ℕ) (settings : Settings) (content : List ℕ → Option (List ℕ)) (left left' out noted noted' : Option (List ℕ)) (n : Counts) (e : Ending)
    → StopsBefore (IsUnreadFor (content name) settings.coding) n.files n.files' e → Keeps (checking name settings) (seen content left left' out out noted noted') n e
check-stopped name settings content left left' out noted noted' n e h =
    stopped (checking name settings) (seen content left left' out out noted noted') n (IsUnreadFor (content name) settings.coding) e refl
    (λ why refused. (refused, λ can. not-refused (content name) settings.coding can why refused)) refl refl h

pub reading-stopped : (prepared : Preparation) (work : Description → Work Row Bool) (noting : Bool) (name : List ℕ) (cutting : Cutting) (content : List ℕ → Option (List ℕ)) (left out noted : Option (List ℕ)) (n : Counts)
    (e : Ending) → Excludes prepared → StopsBefore (prepared.refused_for (content name)) n.files n.files' e
    → Keeps (reading prepared work noting name cutting) (seen content left left out out noted noted) n e
reading-stopped prepared work noting name cutting content left out noted n e excludes h =
    stopped (reading prepared work noting name cutting) (seen content left left out out noted noted) n (prepared.refused_for (content name)) e refl
    (λ why refused. (refused, λ can. excludes (content name) why can.0 refused)) (inl (refl, refl, refl)) refl h

pub printing-stopped : (name : List ℕ) (settings : Settings) (content : List ℕ → Option (List ℕ)) (left out noted : Option (List ℕ)) (n : Counts) (e : Ending)
    → StopsBefore (IsUnreadFor (content name) settings.coding) n.files n.files' e → Keeps (printing name settings) (seen content left left out out noted noted) n e
printing-stopped name settings content left out noted n e h =
    stopped (printing name settings) (seen content left left out out noted noted) n (IsUnreadFor (content name) settings.coding) e refl
    (λ why refused. (refused, λ can. describing-excludes settings.coding settings.scan (content name) why can.0 refused)) (inl (refl, refl, refl)) refl h

module _ (work : Description → Work Row Bool) (left left' o o' n n' : Option (List ℕ)) where
  -- an input of at most 2^62 bytes isn't longer
  not-too-long : (d : Description) (input : List ℕ) → left ≡ Some input → length input ≤ 2 ^ 62 → IfSome left (WroteMost work left' o o' n n' d) → ⊥
  not-too-long d input is fits h =
      let long = known-at (WroteMost work left' o o' n n' d) left input is h in
      omega (arith, fits, long.2, within input left' long.0 long.1)

  -- By a module that is there, an input was read.
  pub reading-read : (prepared : Preparation) (noting : Bool) (name : List ℕ) (cutting : Cutting) (content : List ℕ → Option (List ℕ)) (files files' source source' out out' notes notes' : ℕ) (made : Contents)
      (e : Ending) → prepared.is_made (content name) made
      → RecordsGive work noting (described made cutting) left left' o o' n n' source source' out out' notes notes' e
      → Keeps (reading prepared work noting name cutting) (seen content left left' o o' n n') (counts files files' source source' out out' notes notes') e
  reading-read prepared noting name cutting content files files' source source' out out' notes notes' made ending.Done h p = ((made, h, p), tt)
  reading-read prepared noting name cutting content files files' source source' out out' notes notes' made ending.Dirty h p = ((made, h, p), tt)
  reading-read prepared noting name cutting content files files' source source' out out' notes notes' made ending.ReadFault h p = (p.0, (made, h, p.1))
  reading-read prepared noting name cutting content files files' source source' out out' notes notes' made ending.WriteFault h p =
      (p.0, (made, h, if-known _ _ left (λ input q. q.0) p.1), (made, h, if-known _ _ left (λ input q. q.1) p.1))
  reading-read prepared noting name cutting content files files' source source' out out' notes notes' made ending.TooLong h p =
      ((made, h, p), λ can. not-too-long (described made cutting) can.1 can.2 can.3 p)
  reading-read prepared noting name cutting content files files' source source' out out' notes notes' made ending.Memory h p = inr (made, h, p)
  reading-read prepared noting name cutting content files files' source source' out out' notes notes' made ending.Usage h p = absurd p
  reading-read prepared noting name cutting content files files' source source' out out' notes notes' made (ending.Refused why) h p = absurd p
  reading-read prepared noting name cutting content files files' source source' out out' notes notes' made ending.FileFault h p = absurd p
  reading-read prepared noting name cutting content files files' source source' out out' notes notes' made ending.Limit h p = absurd p

-- The same where records are printed.
pub each-kept : (settings : Settings) (made : Contents) → Plain made.decls → KeepsAll made.decls → IsWithinLimits settings.cutting → (left : Option (List ℕ))
    → IfSome left (λ input. All (λ row. is_clean row ≡ true → IsKept (described made settings.cutting) row) (rows_in prints (described made settings.cutting) (frames_of (described made settings.cutting) input)))
each-kept settings made plain keeps within None = tt
each-kept settings made plain keeps within (Some input) = all-kept (described made settings.cutting) plain keeps within.limit within.fits input

pub printed : (name : List ℕ) (settings : Settings) (s : Seen) (n : Counts) (e : Ending) → (printing name settings).keeps_records s.content s.left → Keeps (reading (describing settings.coding settings.scan) prints true name settings.cutting) s n e → Keeps (printing name settings) s n e
printed name settings s n ending.Done kept h = (h.0, kept)
printed name settings s n ending.Dirty kept h = (h.0, kept)
printed name settings s n ending.Usage kept h = h
printed name settings s n (ending.Refused verdict) kept h = h
printed name settings s n ending.FileFault kept h = h
printed name settings s n ending.ReadFault kept h = h
printed name settings s n ending.WriteFault kept h = h
printed name settings s n ending.Memory kept h = h
printed name settings s n ending.TooLong kept h = h
printed name settings s n ending.Limit kept h = h

-- A self-test ends without its module.
pub test-stopped : (records : ℕ) (settings : Settings) (s : Seen) (n : Counts) (e : Ending) → s.out' ≡ s.out → StopsFor (IsUnreadFor (Some description) settings.coding) e → Keeps (testing records settings) s n e
test-stopped records settings s n (ending.Refused why) same h = (h, same, λ can. not-refused (Some description) settings.coding can why h)
test-stopped records settings s n ending.Memory same h = same
test-stopped records settings s n ending.FileFault same h = absurd h
test-stopped records settings s n ending.Done same h = absurd h
test-stopped records settings s n ending.Dirty same h = absurd h
test-stopped records settings s n ending.Usage same h = absurd h
test-stopped records settings s n ending.ReadFault same h = absurd h
test-stopped records settings s n ending.WriteFault same h = absurd h
test-stopped records settings s n ending.TooLong same h = absurd h
test-stopped records settings s n ending.Limit same h = absurd h

-- It tells its tally.
pub test-told : (records : ℕ) (settings : Settings) (s : Seen) (n : Counts) (made : Contents) (e : Ending) → IsReadIn (Some description) settings.coding made
    → Tells (selftest_line (described made settings.cutting) records) (all_clean (described made settings.cutting) records) s.out s.out' n.out n.out' e → Keeps (testing records settings) s n e
test-told records settings s n made ending.Done h t = ((made, h.0, h.1, t), tt)
test-told records settings s n made ending.Dirty h t = ((made, h.0, h.1, t), tt)
test-told records settings s n made ending.WriteFault h t = (inl t.0, (made, h.0, h.1, t.1), tt)
test-told records settings s n made ending.Usage h t = absurd t
test-told records settings s n made (ending.Refused verdict) h t = absurd t
test-told records settings s n made ending.FileFault h t = absurd t
test-told records settings s n made ending.ReadFault h t = absurd t
test-told records settings s n made ending.Memory h t = t
test-told records settings s n made ending.TooLong h t = absurd t
test-told records settings s n made ending.Limit h t = absurd t

-- Before anything was read or written there may be no memory.
pub early : (asked : Order) (content : List ℕ → Option (List ℕ)) (left out noted : Option (List ℕ)) → (promise_of asked).stops_early (seen content left left out out noted noted)
early (order.Check name settings) content left out noted = refl
early (order.Parse name settings mask) content left out noted = inl (refl, refl, refl)
early (order.Print name settings) content left out noted = inl (refl, refl, refl)
early (order.Summary name settings mask) content left out noted = refl
early (order.Query asks settings mask) content left out noted = inl (refl, refl, refl)
early (order.Selftest records settings) content left out noted = refl

-- What is kept for an order is kept for the same order.
pub same-order-keeps : (asked one : Order) (s : Seen) (n : Counts) (e : Ending) → asked ≡ one → Keeps (promise_of one) s n e → Keeps (promise_of asked) s n e
same-order-keeps asked one s n e same h = subst (λ (o : Order). Keeps (promise_of o) s n e) (sym same) h

-- Nothing more on the notes changes nothing of an order that was done.
grown-no-more : (o n n' : Option (List ℕ)) (bytes : List ℕ) → Appends o n bytes → Appends n n' [] → Appends o n' bytes
grown-no-more None n n' bytes h k = tt
grown-no-more (Some xs) None n' bytes h k = absurd h
grown-no-more (Some xs) (Some ys) None bytes h k = absurd k
grown-no-more (Some xs) (Some ys) (Some zs) bytes h k = k ∙ append-nil ys ∙ h

noted-no-more : (work : Description → Work Row Bool) (well : Bool) (d : Description) (left left' o o' n m m' : Option (List ℕ)) → Appends m m' []
    → IfSome left (WroteAll work left' o o' n m well d) → IfSome left (WroteAll work left' o o' n m' well d)
noted-no-more work well d left left' o o' n m m' more h =
    if-known _ _ left (λ input p. (record { out_grows = p.0.out_grows; notes_grow = grown-no-more n m m' _ p.0.notes_grow more }, p.1, p.2, p.3)) h

pub finishes-still : (asked : Order) (clean : Bool) (content : List ℕ → Option (List ℕ)) (left left' out out' noted m m' : Option (List ℕ)) → Appends m m' []
    → (promise_of asked).finishes clean (seen content left left' out out' noted m) → (promise_of asked).finishes clean (seen content left left' out out' noted m')
finishes-still (order.Check name settings) clean content left left' out out' noted m m' more h = h
finishes-still (order.Parse name settings mask) clean content left left' out out' noted m m' more h =
    (h.0, h.1, noted-no-more (λ d. lines d.made) clean (described h.0 settings.cutting) left left' out out' noted m m' more h.2)
finishes-still (order.Print name settings) clean content left left' out out' noted m m' more h =
    (h.0, h.1, noted-no-more prints clean (described h.0 settings.cutting) left left' out out' noted m m' more h.2)
finishes-still (order.Summary name settings mask) clean content left left' out out' noted m m' more h = h
finishes-still (order.Query asks settings mask) clean content left left' out out' noted m m' more h =
    (h.0, (h.1.0, h.1.1, noted-no-more (λ d. answers d.made h.0) clean (described h.1.0 settings.cutting) left left' out out' noted m m' more h.1.2))
finishes-still (order.Selftest records settings) clean content left left' out out' noted m m' more h = h

pub ordered-still : (words : List (List ℕ)) (clean : Bool) (content : List ℕ → Option (List ℕ)) (left left' out out' noted m m' : Option (List ℕ)) → Appends m m' []
    → Ordered words (λ promise. promise.finishes clean (seen content left left' out out' noted m)) → Ordered words (λ promise. promise.finishes clean (seen content left left' out out' noted m'))
ordered-still words clean content left left' out out' noted m m' more h = (h.0, h.1, finishes-still h.0 clean content left left' out out' noted m m' more h.2)
