-- From what was read and written step by step to the input as a whole.
use Rattle.std.proofs.Common.{◌≡◌, ℕ, ◌+◌, ◌^◌, ◌<◌, ◌≤◌, min, Bool, true, false, Option, None, Some, IfSome, Ok, Err, List, [], ◌∷◌, ◌++◌, length, take, map, refl, sym, ap, subst, ◌∙◌, append_assoc, append-nil, length-append, arith, zero-add}
use Rattle.std.proofs.lemmas.Bool.{true≢false}
use Rattle.std.proofs.lemmas.List.{take_min, take-append-le, take_at}
use Rattle.std.specs.Io.KnownBytes.{Appends, Consumes, IsAtEnd}
use Rattle.std.proofs.KnownBytes.{Appends-nil}
use Rattle.pads_io.specs.Transfer.{AppendsPrefix}
use Rattle.pads_value.specs.Cuts.{Cut}
use Rattle.pads_frame.specs.Cutting.{cuts}
use Rattle.pads_frame.specs.Placed.{moved}
use Rattle.pads_frame.specs.State.{MayCome, Owes, reach, rest}
use Rattle.pads_frame.specs.declared.discipline.Discipline.{Discipline}
use Rattle.pads_drive.specs.Drives.{DriveGives}
use Rattle.pads_drive.specs.Driving.{IsWaiting}
use Rattle.pads_drive.specs.Ends.{Anything, Reads, ReadsToEnd, StopsAt}
use Rattle.pads_drive.specs.Outputs.{Work, Tallies, output_of, rows_of}
use Rattle.pads_drive.specs.Stopping.{AtLimit}
use Rattle.pads_drive.specs.Progress.{Moment, Progresses, Stops}
use Rattle.pads_drive.specs.Writing.{Grows, GrowsPrefix}
use Rattle.pads_drive.specs.declared.ended.Ended.TheVariants as ended
use Rattle.pads_drive.specs.declared.refill.Refill.{Refill}
use Rattle.pads_drive.specs.declared.refill.Refill.TheVariants as refill
use Rattle.pads_drive.specs.declared.stop.Stop.{Stop}
use Rattle.pads_drive.specs.declared.stop.Stop.TheVariants as stop
use Rattle.std.specs.List.{flat_map}
use Rattle.std.proofs.lemmas.Grind.{flat_map-append}
use Rattle.pads_drive.proofs.Outputs.{rows_of-append}
use Rattle.pads_drive.proofs.Progress.{at-limit-map, progresses-trans, stops-after}
use Rattle.pads_drive.proofs.ReadSteps.{reads-pumped}

moved-zero : (frame : Cut) → moved 0 frame ≡ frame
moved-zero frame = rw (zero-add frame.first, zero-add frame.end) refl

map-moved-zero : (frames : List Cut) → map (moved 0) frames ≡ frames
map-moved-zero [] = refl
map-moved-zero (frame ∷ frames) = ap (λ f. f ∷ map (moved 0) frames) (moved-zero frame) ∙ ap (λ l. frame ∷ l) (map-moved-zero frames)

AppendsPrefix-more : (old new : Option (List ℕ)) (xs ys : List ℕ) → AppendsPrefix old new xs → AppendsPrefix old new (xs ++ ys)
AppendsPrefix-more old new xs ys p =
    let same : take p.0 xs ≡ take (min p.0 (length xs)) (xs ++ ys) = sym (take_min p.0 xs) ∙ sym (take-append-le (min p.0 (length xs)) xs ys (omega arith)) in
    (min p.0 (length xs), subst (Appends old new) same p.1)

module _ {Row Tally : Type 0} (work : Work Row Tally) where
  more-written : (line : Row → List ℕ) (number : ℕ) (xs ys : List Cut)
      → flat_map line (rows_of work number (xs ++ ys)) ≡ flat_map line (rows_of work number xs) ++ flat_map line (rows_of work (number + length xs) ys)
  more-written line number xs ys = ap (flat_map line) (rows_of-append work number xs ys) ∙ flat_map-append line (rows_of work number xs) (rows_of work (number + length xs) ys)

  grows-prefix-more : (o o' n n' : Option (List ℕ)) (number : ℕ) (xs ys : List Cut) → GrowsPrefix o o' n n' (output_of work (rows_of work number xs))
      → GrowsPrefix o o' n n' (output_of work (rows_of work number (xs ++ ys)))
  grows-prefix-more o o' n n' number xs ys p = record {
    out_grows = rw (more-written work.out number xs ys) (AppendsPrefix-more o o' _ _ p.out_grows);
    notes_grow = rw (more-written work.notes number xs ys) (AppendsPrefix-more n n' _ _ p.notes_grow);
  }

-- Rows that can't be counted can't with more behind them.
abbrev pub StaysOver : {Row Tally : Type 0} → Work Row Tally → Type 0
StaysOver {Row} work = (rows more : List Row) → work.is_over rows ≡ true → work.is_over (rows ++ more) ≡ true

-- the moment at which a reading begins
pub record Starts {Row Tally : Type 0} (work : Work Row Tally) (d : Discipline) (max : ℕ) (m : Moment Tally) : Type 0 where
  pub owed : (ended : Bool) (more : List ℕ) → m.waiting ++ rest ended m.framer more ≡ cuts d max ended 0 0 more
  pub number : m.number ≡ 0
  pub tallied : Tallies work [] m.tally
  pub reaches : reach m.framer ≡ 0

pub starts : {Row Tally : Type 0} (work : Work Row Tally) (d : Discipline) (max : ℕ) (m : Moment Tally) → Owes d max 0 m.framer → m.waiting ≡ [] → m.number ≡ 0 → Tallies work [] m.tally
    → reach m.framer ≡ 0 → Starts work d max m
starts work d max m owes none number tallied reaches = record {
  owed = λ ended more. rw none (owes ended more ∙ map-moved-zero (cuts d max ended 0 0 more));
  number = number;
  tallied = tallied;
  reaches = reaches;
}

module _ {Row Tally : Type 0} (work : Work Row Tally) (d : Discipline) (max : ℕ) where
  -- all frames of the bytes so far were read
  frames-all : (o o' n n' : Option (List ℕ)) (old new : Moment Tally) (bytes : List ℕ) (e : Bool) → Starts work d max old → (p : Progresses work o o' n n' old new bytes) → new.waiting ≡ []
      → rest e new.framer [] ≡ [] → new.framer.ended ≡ e → p.frames ≡ cuts d max e 0 0 bytes
  frames-all o o' n n' old new bytes e start p none waits same =
      let may : MayCome new.framer e [] = λ h. (sym same ∙ h, refl) in
      let all : p.frames ++ (new.waiting ++ rest e new.framer []) ≡ p.frames = ap (λ l. p.frames ++ (l ++ rest e new.framer [])) none ∙ ap (λ l. p.frames ++ l) waits ∙ append-nil p.frames in
      sym all ∙ sym (p.owed e [] may) ∙ start.owed e (bytes ++ []) ∙ ap (λ l. cuts d max e 0 0 l) (append-nil bytes)

  grows-all : (o o' n n' : Option (List ℕ)) (old new : Moment Tally) (bytes : List ℕ) (e : Bool) → Starts work d max old → Progresses work o o' n n' old new bytes → new.waiting ≡ []
      → rest e new.framer [] ≡ [] → new.framer.ended ≡ e → Grows o o' n n' (output_of work (rows_of work 0 (cuts d max e 0 0 bytes)))
  grows-all o o' n n' old new bytes e start p none waits same =
      rw (← frames-all o o' n n' old new bytes e start p none waits same, ← start.number) p.grown

  tallies-all : (o o' n n' : Option (List ℕ)) (old new : Moment Tally) (bytes : List ℕ) (e : Bool) → Starts work d max old → Progresses work o o' n n' old new bytes → new.waiting ≡ []
      → rest e new.framer [] ≡ [] → new.framer.ended ≡ e → Tallies work (rows_of work 0 (cuts d max e 0 0 bytes)) new.tally
  tallies-all o o' n n' old new bytes e start p none waits same =
      rw (← frames-all o o' n n' old new bytes e start p none waits same, ← start.number) (p.tallied [] start.tallied)

  -- the source was read to its end
  pub driven-finished : (left left' o o' o'' n n' n'' : Option (List ℕ)) (old mid new : Moment Tally) → Starts work d max old → Reads work left left' o o' n n' old mid [] → IsAtEnd left'
      → mid.framer.ended ≡ true → reach mid.framer ≤ 2 ^ 62 → Progresses work o' o'' n' n'' mid new [] → new.waiting ≡ [] → IsWaiting new.framer
      → new.framer.ended ≡ mid.framer.ended → IfSome left (λ input. DriveGives work d max input left' o o'' n n'' (Ok (ended.Finished new.tally)))
  driven-finished None left' o o' o'' n n' n'' old mid new start r end over within p none waits same = tt
  driven-finished (Some input) None o o' o'' n n' n'' old mid new start r end over within p none waits same = absurd r.consumed
  driven-finished (Some input) (Some xs) o o' o'' n n' n'' old mid new start r end over within p none waits same =
      let whole = reads-pumped work (Some input) (Some xs) o o' o'' n n' n'' old mid new r p in
      let is_over : new.framer.ended ≡ true = same ∙ over in
      let waits_now : rest true new.framer [] ≡ [] = ap (λ e. rest e new.framer []) (sym is_over) ∙ waits.none in
      let input_is : whole.bytes ≡ input = sym (append-nil whole.bytes) ∙ sym (append-nil (whole.bytes ++ [])) ∙ ap (λ l. (whole.bytes ++ []) ++ l) (sym end) ∙ sym whole.consumed in
      let read_is : r.bytes ≡ input = sym (append-nil r.bytes) ∙ sym (append-nil (r.bytes ++ [])) ∙ ap (λ l. (r.bytes ++ []) ++ l) (sym end) ∙ sym r.consumed in
      let short : length input ≤ 2 ^ 62 = omega (arith, within, r.progress.reaches, start.reaches, ap length read_is) in (
        subst (λ l. Grows o o'' n n'' (output_of work (rows_of work 0 (cuts d max true 0 0 l)))) input_is (grows-all o o'' n n'' old new whole.bytes true start whole.progress none waits_now is_over),
        subst (λ l. Tallies work (rows_of work 0 (cuts d max true 0 0 l)) new.tally) input_is (tallies-all o o'' n n'' old new whole.bytes true start whole.progress none waits_now is_over),
        short,
        end,
      )

  -- the source failed
  pub driven-fault : (left left' o o' o'' n n' n'' : Option (List ℕ)) (old mid new : Moment Tally) → Starts work d max old → Reads work left left' o o' n n' old mid []
      → mid.framer.ended ≡ false → Progresses work o' o'' n' n'' mid new [] → new.waiting ≡ [] → IsWaiting new.framer → new.framer.ended ≡ mid.framer.ended
      → IfSome left (λ input. DriveGives work d max input left' o o'' n n'' (Ok ended.ReadFault))
  driven-fault None left' o o' o'' n n' n'' old mid new start r still p none waits same = tt
  driven-fault (Some input) left' o o' o'' n n' n'' old mid new start r still p none waits same =
      let whole = reads-pumped work (Some input) left' o o' o'' n n' n'' old mid new r p in
      let is_open : new.framer.ended ≡ false = same ∙ still in
      let waits_now : rest false new.framer [] ≡ [] = ap (λ e. rest e new.framer []) (sym is_open) ∙ waits.none in (
        whole.bytes,
        subst (Consumes (Some input) left') (append-nil whole.bytes) whole.consumed,
        grows-all o o'' n n'' old new whole.bytes false start whole.progress none waits_now is_open,
        (tallies-all o o'' n n'' old new whole.bytes false start whole.progress none waits_now is_open).within,
      )

  -- a byte came whose offset is 2^62
  pub driven-too-long : (left left' o o' o'' n n' n'' : Option (List ℕ)) (old mid new : Moment Tally) (beyond : List ℕ) → Starts work d max old → Reads work left left' o o' n n' old mid beyond
      → 0 < length beyond → reach mid.framer ≡ 2 ^ 62 → mid.framer.ended ≡ false → Progresses work o' o'' n' n'' mid new [] → new.waiting ≡ [] → IsWaiting new.framer
      → new.framer.ended ≡ mid.framer.ended → IfSome left (λ input. DriveGives work d max input left' o o'' n n'' (Ok ended.TooLong))
  driven-too-long None left' o o' o'' n n' n'' old mid new beyond start r some full still p none waits same = tt
  driven-too-long (Some input) left' o o' o'' n n' n'' old mid new beyond start r some full still p none waits same =
      let whole = subst (Progresses work o o'' n n'' old new) (append-nil r.bytes) (progresses-trans work o o' o'' n n' n'' old mid new r.bytes [] r.progress p) in
      let is_open : new.framer.ended ≡ false = same ∙ still in
      let waits_now : rest false new.framer [] ≡ [] = ap (λ e. rest e new.framer []) (sym is_open) ∙ waits.none in
      let count : length r.bytes ≡ 2 ^ 62 = omega (arith, r.progress.reaches, start.reaches, full) in
      let front : take (2 ^ 62) (r.bytes ++ beyond) ≡ r.bytes = take_at r.bytes beyond (2 ^ 62) count in
      let long : length (r.bytes ++ beyond) ≡ length r.bytes + length beyond = length-append r.bytes beyond in (
        r.bytes ++ beyond,
        r.consumed,
        omega (arith, long, count, some),
        rw front (grows-all o o'' n n'' old new r.bytes false start whole none waits_now is_open),
        rw front (tallies-all o o'' n n'' old new r.bytes false start whole none waits_now is_open).within,
      )

  -- what stands at a stop, over the whole input
  abbrev StopsIn : List ℕ → (o o' n n' : Option (List ℕ)) → Stop → Type 0
  StopsIn input o o' n n' why =
      GrowsPrefix o o' n n' (output_of work (rows_of work 0 (cuts d max true 0 0 input))) × AtLimit (work.is_over (rows_of work 0 (cuts d max true 0 0 input)) ≡ true) why

  stops-front : (o o' n n' : Option (List ℕ)) (why : Stop) (old : Moment Tally) (bytes : List ℕ) (F : Bool → List ℕ → Type 0) (others : List Cut) → StaysOver work → Starts work d max old
      → (s : Stops work o o' n n' old bytes F why) → GrowsPrefix o o' n n' (output_of work (rows_of work 0 (s.frames ++ others))) × AtLimit (work.is_over (rows_of work 0 (s.frames ++ others)) ≡ true) why
  stops-front o o' n n' why old bytes F others stays start s =
      let grown : GrowsPrefix o o' n n' (output_of work (rows_of work 0 s.frames)) = rw (← start.number) s.grown in
      let all : rows_of work 0 (s.frames ++ others) ≡ rows_of work old.number s.frames ++ rows_of work (0 + length s.frames) others =
      rows_of-append work 0 s.frames others ∙ ap (λ k. rows_of work k s.frames ++ rows_of work (0 + length s.frames) others) (sym start.number) in (
        grows-prefix-more work o o' n n' 0 s.frames others grown,
        at-limit-map _ _ why (λ over. rw all (stays (rows_of work old.number s.frames) (rows_of work (0 + length s.frames) others) (over [] start.tallied))) s.over,
      )

  stops-input : (o o' n n' : Option (List ℕ)) (why : Stop) (old : Moment Tally) (bytes more input : List ℕ) (F : Bool → List ℕ → Type 0) → StaysOver work → Starts work d max old
      → Stops work o o' n n' old bytes F why → F true more → input ≡ bytes ++ more → StopsIn input o o' n n' why
  stops-input o o' n n' why old bytes more input F stays start s follows input_is =
      let (others, e) = s.first true more follows in
      let all : s.frames ++ others ≡ cuts d max true 0 0 input = sym e ∙ start.owed true (bytes ++ more) ∙ ap (λ l. cuts d max true 0 0 l) (sym input_is) in
      subst (λ frames. GrowsPrefix o o' n n' (output_of work (rows_of work 0 frames)) × AtLimit (work.is_over (rows_of work 0 frames) ≡ true) why) all
      (stops-front o o' n n' why old bytes F others stays start s)

  -- the reading stopped while the source was read
  pub driven-stopped : (left left' o o' n n' : Option (List ℕ)) (old : Moment Tally) (why : Stop) → StaysOver work → Starts work d max old → StopsAt work left left' o o' n n' old why
      → IfSome left (λ input. DriveGives work d max input left' o o' n n' (Err why))
  driven-stopped None left' o o' n n' old why stays start s = tt
  driven-stopped (Some input) None o o' n n' old why stays start s = absurd s.consumed
  driven-stopped (Some input) (Some xs) o o' n n' old why stays start s =
      let gives = stops-input o o' n n' why old s.bytes xs input Anything stays start s.stops tt s.consumed in (s.bytes, s.consumed, gives.0, gives.1)

  reads-then-stops : (input xs beyond : List ℕ) (o o' o'' n n' n'' : Option (List ℕ)) (old mid : Moment Tally) (why : Stop) → StaysOver work → Starts work d max old
      → Reads work (Some input) (Some xs) o o' n n' old mid beyond → Stops work o' o'' n' n'' mid [] (MayCome mid.framer) why → MayCome mid.framer true (beyond ++ xs)
      → StopsIn input o o'' n n'' why
  reads-then-stops input xs beyond o o' o'' n n' n'' old mid why stays start r s may =
      let whole = stops-after work o o' o'' n n' n'' old mid r.bytes [] (MayCome mid.framer) why (λ ended more follows. follows) r.progress s in
      let input_is : input ≡ (r.bytes ++ []) ++ (beyond ++ xs) = r.consumed ∙ append_assoc r.bytes beyond xs ∙ ap (λ l. l ++ (beyond ++ xs)) (sym (append-nil r.bytes)) in
      stops-input o o'' n n'' why old (r.bytes ++ []) (beyond ++ xs) input (MayCome mid.framer) stays start whole may input_is

  -- it stopped after that
  pub driven-finish-stopped : (left left' o o' o'' n n' n'' : Option (List ℕ)) (f f' : ℕ) (old mid : Moment Tally) (end : Refill) (why : Stop) → StaysOver work → Starts work d max old
      → ReadsToEnd work left left' o o' n n' f f' old mid end → Stops work o' o'' n' n'' mid [] (MayCome mid.framer) why
      → IfSome left (λ input. DriveGives work d max input left' o o'' n n'' (Err why))
  driven-finish-stopped None left' o o' o'' n n' n'' f f' old mid end why stays start r s = tt
  driven-finish-stopped (Some input) left' o o' o'' n n' n'' f f' old mid refill.More why stays start r s = absurd r
  driven-finish-stopped (Some input) None o o' o'' n n' n'' f f' old mid refill.End why stays start r s = absurd r.0.consumed
  driven-finish-stopped (Some input) None o o' o'' n n' n'' f f' old mid refill.ReadFault why stays start r s = absurd r.0.consumed
  driven-finish-stopped (Some input) None o o' o'' n n' n'' f f' old mid refill.TooLong why stays start r s = absurd r.1.consumed
  driven-finish-stopped (Some input) (Some xs) o o' o'' n n' n'' f f' old mid refill.End why stays start r s =
      let gives = reads-then-stops input xs [] o o' o'' n n' n'' old mid why stays start r.0 s (λ e. (refl, r.1)) in (r.0.bytes ++ [], r.0.consumed, gives.0, gives.1)
  driven-finish-stopped (Some input) (Some xs) o o' o'' n n' n'' f f' old mid refill.ReadFault why stays start r s =
      let gives = reads-then-stops input xs [] o o' o'' n n' n'' old mid why stays start r.0 s (λ e. absurd (true≢false (sym e ∙ r.2))) in (r.0.bytes ++ [], r.0.consumed, gives.0, gives.1)
  driven-finish-stopped (Some input) (Some xs) o o' o'' n n' n'' f f' old mid refill.TooLong why stays start r s =
      let gives = reads-then-stops input xs r.0 o o' o'' n n' n'' old mid why stays start r.1 s (λ e. absurd (true≢false (sym e ∙ r.4))) in (r.1.bytes ++ r.0, r.1.consumed, gives.0, gives.1)

  -- Where a limit was met, some rows can't be counted, whatever the source tells.
  abbrev SomeOver : Type 0
  SomeOver = (rows : List Row) × (work.is_over rows ≡ true)

  over-stopped : (o o' n n' : Option (List ℕ)) (old : Moment Tally) (bytes : List ℕ) (F : Bool → List ℕ → Type 0) (why : Stop) → Tallies work [] old.tally → Stops work o o' n n' old bytes F why
      → AtLimit SomeOver why
  over-stopped o o' n n' old bytes F why none s = at-limit-map _ _ why (λ over. (rows_of work old.number s.frames, over [] none)) s.over

  pub over-reading : (left left' o o' n n' : Option (List ℕ)) (old : Moment Tally) (why : Stop) → Starts work d max old → StopsAt work left left' o o' n n' old why → AtLimit SomeOver why
  over-reading left left' o o' n n' old why start s = over-stopped o o' n n' old s.bytes Anything why start.tallied s.stops

  over-read : (left left' o o' o'' n n' n'' : Option (List ℕ)) (old mid : Moment Tally) (beyond : List ℕ) (F : Bool → List ℕ → Type 0) (why : Stop) → Starts work d max old → Reads work left left' o o' n n' old mid beyond
      → Stops work o' o'' n' n'' mid [] F why → AtLimit SomeOver why
  over-read left left' o o' o'' n n' n'' old mid beyond F why start r s =
      at-limit-map _ _ why (λ over. (rows_of work old.number r.progress.frames ++ rows_of work mid.number s.frames, over (rows_of work old.number r.progress.frames) (r.progress.tallied [] start.tallied))) s.over

  pub over-finishing : (left left' o o' o'' n n' n'' : Option (List ℕ)) (f f' : ℕ) (old mid : Moment Tally) (end : Refill) (why : Stop) → Starts work d max old
      → ReadsToEnd work left left' o o' n n' f f' old mid end → Stops work o' o'' n' n'' mid [] (MayCome mid.framer) why → AtLimit SomeOver why
  over-finishing left left' o o' o'' n n' n'' f f' old mid refill.More why start r s = absurd r
  over-finishing left left' o o' o'' n n' n'' f f' old mid refill.End why start r s = over-read left left' o o' o'' n n' n'' old mid [] (MayCome mid.framer) why start r.0 s
  over-finishing left left' o o' o'' n n' n'' f f' old mid refill.ReadFault why start r s = over-read left left' o o' o'' n n' n'' old mid [] (MayCome mid.framer) why start r.0 s
  over-finishing left left' o o' o'' n n' n'' f f' old mid refill.TooLong why start r s = over-read left left' o o' o'' n n' n'' old mid r.0 (MayCome mid.framer) why start r.1 s

  -- there was no memory to begin
  pub driven-nothing : (left o n : Option (List ℕ)) → IfSome left (λ input. DriveGives work d max input left o o n n (Err stop.Memory))
  driven-nothing None o n = tt
  driven-nothing (Some input) o n = ([], refl, record { out_grows = (0, Appends-nil o); notes_grow = (0, Appends-nil n) }, tt)
