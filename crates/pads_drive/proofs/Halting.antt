-- How far the reading was, over several steps.
use Rattle.std.proofs.Common.{◌≡◌, ℕ, ◌+◌, ◌-◌, ◌^◌, ◌<◌, ◌≤◌, min, Bool, true, false, Option, None, Some, IfSome, List, [], ◌∷◌, ◌++◌, length, take, map, refl, sym, ap, subst, ◌∙◌, inl, inr, append_assoc, append-nil, arith}
use Rattle.std.proofs.lemmas.Bool.{true≢false}
use Rattle.std.proofs.lemmas.List.{length-append, length-map, map-append}
use Rattle.std.specs.Io.KnownBytes.{Appends, Consumes, Keeps}
use Rattle.std.proofs.KnownBytes.{Appends-nil, Appends-trans, Consumes-nil, Consumes-trans, Consumes-kept}
use Rattle.pads_drive.proofs.Ahead.{little_ahead}
use Rattle.pads_drive.specs.Ahead.{IsBatch, all_have_bytes, weight}
use Rattle.pads_frame.specs.Cutting.{closed, records}
use Rattle.pads_frame.specs.Fits.{FitsLimit}
use Rattle.pads_frame.proofs.CuttingLemmas.{cuts_nil}
use Rattle.pads_frame.specs.Placed.{moved}
use Rattle.pads_frame.specs.State.{MayCome, Owes, State, rest}
use Rattle.pads_frame.specs.declared.discipline.Discipline.{Discipline}
use Rattle.pads_value.specs.Cuts.{Cut, cut_of_kept}
use Rattle.pads_value.specs.declared.frame.Kept.{Kept}
use Rattle.pads_drive.specs.Driving.{IsWaiting, Refills}
use Rattle.pads_drive.specs.Ends.{Anything, Reads, ReadsToEnd}
use Rattle.pads_drive.specs.Halting.{Caught, Halts, HaltsAt, IsSized, met}
use Rattle.pads_drive.specs.LittleAhead.{IsLittleAhead}
use Rattle.pads_drive.specs.Outputs.{Work, output_of, rows_of}
use Rattle.pads_drive.specs.Writing.{Grows, GrowsPast, GrowsPrefix, HasWritten}
use Rattle.pads_drive.specs.Progress.{Moment, Progresses}
use Rattle.pads_drive.specs.declared.output.Output.{Output}
use Rattle.pads_drive.specs.declared.refill.Refill.{Refill}
use Rattle.pads_drive.specs.declared.refill.Refill.TheVariants as refill
use Rattle.pads_drive.proofs.Driven.{Starts}
use Rattle.std.specs.List.{flat_map}
use Rattle.std.proofs.lemmas.Grind.{flat_map-append}
use Rattle.pads_drive.proofs.Outputs.{rows_of-append, rows_of-none}

-- A batch that is empty, and one with one frame more.
pub sized-none : (size : ℕ) → IsSized [] size
sized-none size = record { batch = inl refl; counted = omega arith }

weight-one : (frames : List Cut) (frame : Cut) → weight (frames ++ frame ∷ []) ≡ weight frames + length frame.bytes
weight-one [] frame = omega arith
weight-one (x ∷ frames) frame = let i = weight-one frames frame in omega (arith, i)

light : (frames : List Cut) (size : ℕ) → min (weight frames) (2 ^ 64 - 1) ≤ size → (0 < length frames → size < 4194304) → weight frames < 4194304
light [] size counted h = omega arith
light (x ∷ frames) size counted h = let few : size < 4194304 = h (omega arith) in omega arith

pub sized-more : (frames : List Kept) (kept : Kept) (size : ℕ) → IsSized (map cut_of_kept frames) size → length frames < 8192 → (0 < length frames → size < 4194304)
    → IsSized (map cut_of_kept (frames ++ kept ∷ [])) (min (size + length kept.bytes) (2 ^ 64 - 1))
sized-more frames kept size s few room =
    let cuts : map cut_of_kept (frames ++ kept ∷ []) ≡ map cut_of_kept frames ++ cut_of_kept kept ∷ [] = rw map-append refl in
    let count : length (map cut_of_kept frames) ≡ length frames = length-map frames cut_of_kept in
    let weigh = weight-one (map cut_of_kept frames) (cut_of_kept kept) in
    rw cuts record {
      batch = inr record {
        front = map cut_of_kept frames;
        last = cut_of_kept kept;
        whole = refl;
        few = omega (arith, count);
        light = light (map cut_of_kept frames) size s.counted (λ some. room (omega (arith, count)));
      };
      counted = omega (arith, weigh, s.counted);
    }

pub sized-push : (old new : List Kept) (kept : Kept) (size now len : ℕ) → new ≡ old ++ kept ∷ [] → len ≡ length kept.bytes → now ≡ min (size + len) (2 ^ 64 - 1)
    → IsSized (map cut_of_kept old) size → length old < 8192 → (0 < length old → size < 4194304) → IsSized (map cut_of_kept new) now
sized-push old new kept size now len is long grown s few room = rw (is, grown, long) (sized-more old kept size s few room)

-- A new framer owes no frame yet.
pub fresh : (d : Discipline) (max : ℕ) (s : State) → Owes d max 0 s → rest false s [] ≡ []
fresh d max s owes = owes false [] ∙ ap (map (moved 0)) (cuts_nil d max false 0 0)

-- Nothing was read yet.
pub caught-none : {Tally : Type 0} (left : Option (List ℕ)) (m : Moment Tally) → rest false m.framer [] ≡ [] → Caught left left m m
caught-none left m none = record {
  seen = [];
  piece = [];
  read = Consumes-nil left;
  small = omega arith;
  all_met = omega (arith, ap length (ap (λ l. m.waiting ++ l) none ∙ append-nil m.waiting));
}

-- The later moment met no fewer frames.
kept-caught : {Tally : Type 0} (left left' : Option (List ℕ)) (old new : Moment Tally) → Caught left left' old new → met old ≤ met new
kept-caught left left' old new c = omega (arith, c.all_met, length-append old.waiting (rest false old.framer c.seen))

HasWritten-after : (o mid o' : Option (List ℕ)) (before after : List ℕ) → Appends o mid before → HasWritten mid o' after → HasWritten o o' (before ++ after)
HasWritten-after o mid o' before after p q =
    (q.0, subst (Appends o o') (sym (append_assoc before after q.0)) (Appends-trans o mid o' before (after ++ q.0) p q.1))

grows-past-prefix : (o o' n n' : Option (List ℕ)) (output : Output) → GrowsPrefix o o' n n' output → GrowsPast o o' n n' (record { out = []; notes = [] })
grows-past-prefix o o' n n' output p = record {
  out_grows = (take p.out_grows.0 output.out, p.out_grows.1);
  notes_grow = (take p.notes_grow.0 output.notes, p.notes_grow.1);
}

module _ {Row Tally : Type 0} (work : Work Row Tally) where
  -- A write failed of the output for the frames that wait.
  pub halts-hand : (o o' n n' : Option (List ℕ)) (m : Moment Tally) (output : Output) → IsBatch m.waiting → GrowsPrefix o o' n n' output → Halts work o o' n n' m [] (MayCome m.framer)
  halts-hand o o' n n' m output batch p = record {
    done = [];
    hand = m.waiting;
    first = λ ended more may. (rest ended m.framer more, refl);
    wrote = rw (rows_of-none work m.number) (grows-past-prefix o o' n n' output p);
    batch = batch;
    met_still = omega arith;
  }

  -- Nothing was written.
  pub halts-idle : (o n : Option (List ℕ)) (m : Moment Tally) → IsBatch m.waiting → Halts work o o n n m [] (MayCome m.framer)
  halts-idle o n m batch = halts-hand o o n n m (record { out = []; notes = [] }) batch (record { out_grows = (0, Appends-nil o); notes_grow = (0, Appends-nil n) })

  -- The same where less may follow.
  pub halts-when : (o o' n n' : Option (List ℕ)) (m : Moment Tally) (bytes : List ℕ) (F G : Bool → List ℕ → Type 0) → ((ended : Bool) (more : List ℕ) → G ended more → F ended more)
      → Halts work o o' n n' m bytes F → Halts work o o' n n' m bytes G
  halts-when o o' n n' m bytes F G f h = record { done = h.done; hand = h.hand; first = λ ended more follows. h.first ended more (f ended more follows); wrote = h.wrote; batch = h.batch; met_still = h.met_still }

  written-both : (line : Row → List ℕ) (number next : ℕ) (xs ys : List Cut) → next ≡ number + length xs
      → flat_map line (rows_of work number (xs ++ ys)) ≡ flat_map line (rows_of work number xs) ++ flat_map line (rows_of work next ys)
  written-both line number next xs ys e =
      ap (flat_map line) (rows_of-append work number xs ys) ∙ flat_map-append line (rows_of work number xs) (rows_of work (number + length xs) ys)
      ∙ ap (λ k. flat_map line (rows_of work number xs) ++ flat_map line (rows_of work k ys)) (sym e)

  grows-past-after : (o mid o' n halfway n' : Option (List ℕ)) (number next : ℕ) (xs ys : List Cut) → next ≡ number + length xs → Grows o mid n halfway (output_of work (rows_of work number xs))
      → GrowsPast mid o' halfway n' (output_of work (rows_of work next ys)) → GrowsPast o o' n n' (output_of work (rows_of work number (xs ++ ys)))
  grows-past-after o mid o' n halfway n' number next xs ys e p q = record {
    out_grows = rw (written-both work.out number next xs ys e) (HasWritten-after o mid o' _ _ p.out_grows q.out_grows);
    notes_grow = rw (written-both work.notes number next xs ys e) (HasWritten-after n halfway n' _ _ p.notes_grow q.notes_grow);
  }

  first-after : (o mid o' n halfway n' : Option (List ℕ)) (a b : Moment Tally) (xs ys : List ℕ) (F : Bool → List ℕ → Type 0) → ((ended : Bool) (more : List ℕ) → F ended more → MayCome b.framer ended (ys ++ more))
      → (p : Progresses work o mid n halfway a b xs) (h : Halts work mid o' halfway n' b ys F) (ended : Bool) (more : List ℕ) → F ended more
      → (others : List Cut) × (a.waiting ++ rest ended a.framer ((xs ++ ys) ++ more) ≡ (p.frames ++ h.done) ++ h.hand ++ others)
  first-after o mid o' n halfway n' a b xs ys F may p h ended more follows =
      let (others, e) = h.first ended more follows in (
        others,
        ap (λ l. a.waiting ++ rest ended a.framer l) (append_assoc xs ys more) ∙ p.owed ended (ys ++ more) (may ended more follows)
            ∙ ap (λ l. p.frames ++ l) e ∙ sym (append_assoc p.frames (h.done ++ h.hand) others) ∙ ap (λ l. l ++ others) (sym (append_assoc p.frames h.done h.hand)),
      )

  pub halts-after : (o mid o' n halfway n' : Option (List ℕ)) (a b : Moment Tally) (xs ys : List ℕ) (F : Bool → List ℕ → Type 0) → ((ended : Bool) (more : List ℕ) → F ended more → MayCome b.framer ended (ys ++ more))
      → Progresses work o mid n halfway a b xs → met a ≤ met b → Halts work mid o' halfway n' b ys F → Halts work o o' n n' a (xs ++ ys) F
  halts-after o mid o' n halfway n' a b xs ys F may p kept h = record {
    done = p.frames ++ h.done;
    hand = h.hand;
    first = first-after o mid o' n halfway n' a b xs ys F may p h;
    wrote = grows-past-after o mid o' n halfway n' a.number b.number p.frames h.done p.counted p.grown h.wrote;
    batch = h.batch;
    met_still = omega (arith, kept, p.counted, h.met_still, length-append p.frames h.done);
  }

  -- all frames that came are met where the framer waits, and then a piece came
  pub caught-more : (left left' left'' o o' n n' : Option (List ℕ)) (old mid new : Moment Tally) (piece : List ℕ) → Reads work left left' o o' n n' old mid []
      → mid.framer.ended ≡ false → IsWaiting mid.framer → Consumes left' left'' piece → length piece ≤ 4096 → met new ≡ met mid → Caught left left'' old new
  caught-more left left' left'' o o' n n' old mid new piece r still waits consumed few same =
      let may : MayCome mid.framer false [] = λ e. absurd (true≢false (sym e ∙ still)) in
      let none : rest false mid.framer [] ≡ [] = ap (λ e. rest e mid.framer []) (sym still) ∙ waits.none in
      let all : old.waiting ++ rest false old.framer r.bytes ≡ r.progress.frames ++ mid.waiting =
      ap (λ l. old.waiting ++ rest false old.framer l) (sym (append-nil r.bytes)) ∙ r.progress.owed false [] may
      ∙ ap (λ l. r.progress.frames ++ (mid.waiting ++ l)) none ∙ ap (λ l. r.progress.frames ++ l) (append-nil mid.waiting) in
      record {
        seen = r.bytes;
        piece = piece;
        read = subst (λ l. Consumes left left'' (l ++ piece)) (append-nil r.bytes) (Consumes-trans left left' left'' _ _ r.consumed consumed);
        small = few;
        all_met = omega (arith, ap length all, length-append r.progress.frames mid.waiting, r.progress.counted, same);
      }

  pub caught-took : (left left' left'' o o' n n' : Option (List ℕ)) (old mid new : Moment Tally) (bytes beyond : List ℕ) → Reads work left left' o o' n n' old mid []
      → mid.framer.ended ≡ false → IsWaiting mid.framer → Refills left' left'' mid.framer new.framer bytes beyond → met new ≡ met mid → Caught left left'' old new
  caught-took left left' left'' o o' n n' old mid new bytes beyond r still waits p same =
      caught-more left left' left'' o o' n n' old mid new (bytes ++ beyond) r still waits p.consumed (omega (arith, p.few, length-append bytes beyond)) same

  -- the source gave nothing
  pub caught-kept : (left left' left'' o o' n n' : Option (List ℕ)) (old mid new : Moment Tally) → Reads work left left' o o' n n' old mid []
      → mid.framer.ended ≡ false → IsWaiting mid.framer → Keeps left' left'' → met new ≡ met mid → Caught left left'' old new
  caught-kept left left' left'' o o' n n' old mid new r still waits kept same =
      caught-more left left' left'' o o' n n' old mid new [] r still waits (Consumes-kept left' left' left'' [] (Consumes-nil left') kept) (omega arith) same

  -- it stopped after this was read
  pub halts-read : (left left' o mid o' n halfway n' : Option (List ℕ)) (old new : Moment Tally) (beyond : List ℕ) (F : Bool → List ℕ → Type 0) → ((ended : Bool) (more : List ℕ) → F ended more → MayCome new.framer ended more)
      → Reads work left left' o mid n halfway old new beyond → Caught left left' old new → Halts work mid o' halfway n' new [] F → HaltsAt work left left' o o' n n' old F
  halts-read left left' o mid o' n halfway n' old new beyond F may r c h = record {
    bytes = r.bytes ++ [];
    beyond = beyond;
    consumed = subst (λ l. Consumes left left' (l ++ beyond)) (sym (append-nil r.bytes)) r.consumed;
    halts = record {
      done = r.progress.frames ++ h.done;
      hand = h.hand;
      first = first-after o mid o' n halfway n' old new r.bytes [] F may r.progress h;
      wrote = grows-past-after o mid o' n halfway n' old.number new.number r.progress.frames h.done r.progress.counted r.progress.grown h.wrote;
      batch = h.batch;
      met_still = let kept = kept-caught left left' old new c in omega (arith, kept, r.progress.counted, h.met_still, length-append r.progress.frames h.done);
    };
    seen = c.seen;
    piece = c.piece;
    read = c.read;
    small = c.small;
    all_met = omega (arith, c.all_met, r.progress.counted, h.met_still, length-append r.progress.frames h.done);
  }

-- From there to the input as a whole.
HasWritten-front : (o o' : Option (List ℕ)) (front others : List ℕ) → HasWritten o o' (front ++ others) → HasWritten o o' front
HasWritten-front o o' front others p = (others ++ p.0, subst (Appends o o') (append_assoc front others p.0) p.1)

module _ {Row Tally : Type 0} (work : Work Row Tally) (d : Discipline) (max : ℕ) (fits : FitsLimit d max) where
  grows-past-front : (o o' n n' : Option (List ℕ)) (number next : ℕ) (xs ys zs : List Cut) → number ≡ next → zs ≡ xs ++ ys → GrowsPast o o' n n' (output_of work (rows_of work number zs))
      → GrowsPast o o' n n' (output_of work (rows_of work next xs))
  grows-past-front o o' n n' number next xs ys zs is front p = record {
    out_grows = HasWritten-front o o' _ _ (rw (is, front, written-both work work.out next (next + length xs) xs ys refl) at p.out_grows);
    notes_grow = HasWritten-front n n' _ _ (rw (is, front, written-both work work.notes next (next + length xs) xs ys refl) at p.notes_grow);
  }

  pub little-ahead : (input more : List ℕ) (o o' n n' : Option (List ℕ)) (old : Moment Tally) (F : Bool → List ℕ → Type 0) → Starts work d max old → (h : HaltsAt work (Some input) (Some more) o o' n n' old F)
      → F true (h.beyond ++ more) → IsLittleAhead work d max (Some more) o o' n n' input
  little-ahead input more o o' n n' old F start h follows carried =
      let (others, e) = h.halts.first true (h.beyond ++ more) follows in
      let input_is : input ≡ (h.seen ++ h.piece) ++ more = h.read in
      let bytes_is : input ≡ h.bytes ++ (h.beyond ++ more) = h.consumed ∙ append_assoc h.bytes h.beyond more in
      let all : records d max (h.seen ++ h.piece ++ more) ≡ h.halts.done ++ h.halts.hand ++ others =
      ap (records d max) (sym input_is ∙ bytes_is) ∙ sym (start.owed true (h.bytes ++ (h.beyond ++ more))) ∙ e in
      let count : length (closed d max h.seen) ≤ length h.halts.done + length h.halts.hand = omega (arith, h.all_met, ap length (start.owed false h.seen)) in
      let near = little_ahead d max h.seen h.piece more h.halts.done h.halts.hand others fits (subst (λ l. all_have_bytes (records d max l) ≡ true) input_is carried) all count h.halts.batch h.small in
      record {
        taken = h.seen ++ h.piece;
        consumed = h.read;
        served = near.0;
        near = near.2;
        wrote = grows-past-front o o' n n' old.number 0 (closed d max (take near.0 (h.seen ++ h.piece))) near.1.0 h.halts.done start.number near.1.1 h.halts.wrote;
      }

  -- nothing was read
  pub ahead-nothing : (left o n : Option (List ℕ)) → IfSome left (IsLittleAhead work d max left o o n n)
  ahead-nothing None o n = tt
  ahead-nothing (Some input) o n = λ carried. record {
    taken = [];
    consumed = refl;
    served = 0;
    near = omega arith;
    wrote = subst (λ frames. GrowsPast o o n n (output_of work (rows_of work 0 frames))) (sym (cuts_nil d max false 0 0))
        (rw (rows_of-none work 0) record { out_grows = ([], Appends-nil o); notes_grow = ([], Appends-nil n) });
  }

  -- the reading stopped while the source was read
  pub ahead-reading : (left left' o o' n n' : Option (List ℕ)) (old : Moment Tally) → Starts work d max old → HaltsAt work left left' o o' n n' old Anything
      → IfSome left (IsLittleAhead work d max left' o o' n n')
  ahead-reading None left' o o' n n' old start h = tt
  ahead-reading (Some input) None o o' n n' old start h = absurd h.consumed
  ahead-reading (Some input) (Some more) o o' n n' old start h = little-ahead input more o o' n n' old Anything start h tt

  -- It stopped after all was read.
  pub ahead-finishing : (left left' o mid o' n halfway n' : Option (List ℕ)) (f f' : ℕ) (old new : Moment Tally) (end : Refill) → Starts work d max old → ReadsToEnd work left left' o mid n halfway f f' old new end
      → Caught left left' old new → Halts work mid o' halfway n' new [] (MayCome new.framer) → IfSome left (IsLittleAhead work d max left' o o' n n')
  unfolding halts-read
  ahead-finishing None left' o mid o' n halfway n' f f' old new end start r c h = tt
  ahead-finishing (Some input) left' o mid o' n halfway n' f f' old new refill.More start r c h = absurd r
  ahead-finishing (Some input) None o mid o' n halfway n' f f' old new refill.End start r c h = absurd r.0.consumed
  ahead-finishing (Some input) None o mid o' n halfway n' f f' old new refill.ReadFault start r c h = absurd r.0.consumed
  ahead-finishing (Some input) None o mid o' n halfway n' f f' old new refill.TooLong start r c h = absurd r.1.consumed
  ahead-finishing (Some input) (Some more) o mid o' n halfway n' f f' old new refill.End start r c h =
      little-ahead input more o o' n n' old (MayCome new.framer) start (halts-read work (Some input) (Some more) o mid o' n halfway n' old new [] (MayCome new.framer) (λ ended more may. may) r.0 c h)
      (λ e. (refl, r.1))
  ahead-finishing (Some input) (Some more) o mid o' n halfway n' f f' old new refill.ReadFault start r c h =
      little-ahead input more o o' n n' old (MayCome new.framer) start (halts-read work (Some input) (Some more) o mid o' n halfway n' old new [] (MayCome new.framer) (λ ended more may. may) r.0 c h)
      (λ e. absurd (true≢false (sym e ∙ r.2)))
  ahead-finishing (Some input) (Some more) o mid o' n halfway n' f f' old new refill.TooLong start r c h =
      little-ahead input more o o' n n' old (MayCome new.framer) start (halts-read work (Some input) (Some more) o mid o' n halfway n' old new r.0 (MayCome new.framer) (λ ended more may. may) r.1 c h)
      (λ e. absurd (true≢false (sym e ∙ r.4)))
