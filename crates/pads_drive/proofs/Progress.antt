-- Progress over two stretches of time is progress.
use Rattle.std.proofs.Common.{◌≡◌, ℕ, ◌+◌, Bool, true, false, Option, List, [], ◌∷◌, ◌++◌, length, refl, sym, ap, subst, ◌∙◌, append_assoc, length-append, arith}
use Rattle.std.proofs.lemmas.Bool.{true≢false}
use Rattle.std.proofs.lemmas.Grind.{flat_map-append}
use Rattle.std.proofs.KnownBytes.{Appends-nil, Appends-trans}
use Rattle.std.specs.List.{flat_map}
use Rattle.pads_value.specs.Cuts.{Cut}
use Rattle.pads_frame.specs.State.{MayCome, reach, rest}
use Rattle.pads_drive.specs.declared.output.Output.{Output}
use Rattle.pads_drive.specs.declared.stop.Stop.{Stop}
use Rattle.pads_drive.specs.declared.stop.Stop.TheVariants as stop
use Rattle.pads_drive.specs.Outputs.{Work, Tallies, output_of, rows_of}
use Rattle.pads_drive.specs.Stopping.{AtLimit}
use Rattle.pads_drive.specs.Writing.{Grows, GrowsPrefix}
use Rattle.pads_drive.specs.Driving.{Collects}
use Rattle.pads_drive.specs.Progress.{Moment, Progresses, Stops}
use Rattle.pads_drive.proofs.Growing.{AppendsPrefix-after}
use Rattle.pads_drive.proofs.Outputs.{behind, both-rows, tallies-none}

pub at-limit-map : (P Q : Type 0) (s : Stop) → (P → Q) → AtLimit P s → AtLimit Q s
at-limit-map P Q stop.Limit f p = f p
at-limit-map P Q stop.Out f p = tt
at-limit-map P Q stop.Notes f p = tt
at-limit-map P Q stop.Memory f p = tt

module _ {Row Tally : Type 0} (work : Work Row Tally) where
  written : (line : Row → List ℕ) (number next : ℕ) (xs ys : List Cut) → next ≡ number + length xs
      → flat_map line (rows_of work number (xs ++ ys)) ≡ flat_map line (rows_of work number xs) ++ flat_map line (rows_of work next ys)
  written line number next xs ys e = ap (flat_map line) (both-rows work number next xs ys e) ∙ flat_map-append line (rows_of work number xs) (rows_of work next ys)

  grows-trans : (o o' o'' n n' n'' : Option (List ℕ)) (number next : ℕ) (xs ys : List Cut) → next ≡ number + length xs → Grows o o' n n' (output_of work (rows_of work number xs))
      → Grows o' o'' n' n'' (output_of work (rows_of work next ys)) → Grows o o'' n n'' (output_of work (rows_of work number (xs ++ ys)))
  grows-trans o o' o'' n n' n'' number next xs ys e p q = record {
    out_grows = rw (written work.out number next xs ys e) (Appends-trans o o' o'' _ _ p.out_grows q.out_grows);
    notes_grow = rw (written work.notes number next xs ys e) (Appends-trans n n' n'' _ _ p.notes_grow q.notes_grow);
  }

  grows-prefix : (o o' o'' n n' n'' : Option (List ℕ)) (number next : ℕ) (xs ys : List Cut) → next ≡ number + length xs → Grows o o' n n' (output_of work (rows_of work number xs))
      → GrowsPrefix o' o'' n' n'' (output_of work (rows_of work next ys)) → GrowsPrefix o o'' n n'' (output_of work (rows_of work number (xs ++ ys)))
  grows-prefix o o' o'' n n' n'' number next xs ys e p q = record {
    out_grows = rw (written work.out number next xs ys e) (AppendsPrefix-after o o' o'' _ _ p.out_grows q.out_grows);
    notes_grow = rw (written work.notes number next xs ys e) (AppendsPrefix-after n n' n'' _ _ p.notes_grow q.notes_grow);
  }

  pub progresses-trans : (o o' o'' n n' n'' : Option (List ℕ)) (a b c : Moment Tally) (xs ys : List ℕ) → Progresses work o o' n n' a b xs
      → Progresses work o' o'' n' n'' b c ys → Progresses work o o'' n n'' a c (xs ++ ys)
  progresses-trans o o' o'' n n' n'' a b c xs ys p q = record {
    frames = p.frames ++ q.frames;
    owed = λ ended more may.
        ap (λ l. a.waiting ++ rest ended a.framer l) (append_assoc xs ys more) ∙ p.owed ended (ys ++ more) (q.may ended more may)
        ∙ ap (λ l. p.frames ++ l) (q.owed ended more may) ∙ sym (append_assoc p.frames q.frames (c.waiting ++ rest ended c.framer more));
    may = λ ended more may. rw (append_assoc xs ys more) (p.may ended (ys ++ more) (q.may ended more may));
    reaches = omega (arith, p.reaches, q.reaches, length-append xs ys);
    later = omega (arith, p.later, q.later, length-append p.frames q.frames);
    grown = grows-trans o o' o'' n n' n'' a.number b.number p.frames q.frames p.counted p.grown q.grown;
    counted = omega (arith, p.counted, q.counted, length-append p.frames q.frames);
    tallied = λ before t. subst (λ l. Tallies work l c.tally) (behind work before a.number b.number p.frames q.frames p.counted) (q.tallied (before ++ rows_of work a.number p.frames) (p.tallied before t));
  }

  pub stops-after : (o o' o'' n n' n'' : Option (List ℕ)) (a b : Moment Tally) (xs ys : List ℕ) (MayFollow : Bool → List ℕ → Type 0) (s : Stop)
      → ((ended : Bool) (more : List ℕ) → MayFollow ended more → MayCome b.framer ended (ys ++ more)) → Progresses work o o' n n' a b xs
      → Stops work o' o'' n' n'' b ys MayFollow s → Stops work o o'' n n'' a (xs ++ ys) MayFollow s
  stops-after o o' o'' n n' n'' a b xs ys MayFollow s may p q = record {
    frames = p.frames ++ q.frames;
    first = λ ended more follows. let (others, e) = q.first ended more follows in (
      others,
      ap (λ l. a.waiting ++ rest ended a.framer l) (append_assoc xs ys more) ∙ p.owed ended (ys ++ more) (may ended more follows)
          ∙ ap (λ l. p.frames ++ l) e ∙ sym (append_assoc p.frames q.frames others),
    );
    grown = grows-prefix o o' o'' n n' n'' a.number b.number p.frames q.frames p.counted p.grown q.grown;
    over = at-limit-map _ _ s (λ over before t. subst (λ l. work.is_over l ≡ true) (behind work before a.number b.number p.frames q.frames p.counted) (over (before ++ rows_of work a.number p.frames) (p.tallied before t))) q.over;
  }

  -- the same where less may follow
  pub stops-when : (o o' n n' : Option (List ℕ)) (m : Moment Tally) (bytes : List ℕ) (F G : Bool → List ℕ → Type 0) (s : Stop) → ((ended : Bool) (more : List ℕ) → G ended more → F ended more)
      → Stops work o o' n n' m bytes F s → Stops work o o' n n' m bytes G s
  stops-when o o' n n' m bytes F G s f p = record { frames = p.frames; first = λ ended more follows. p.first ended more (f ended more follows); grown = p.grown; over = p.over }

  -- nothing happened
  pub progresses-same : (o n : Option (List ℕ)) (m : Moment Tally) → Progresses work o o n n m m []
  unfolding rows_of
  progresses-same o n m = record {
    frames = [];
    owed = λ ended more may. refl;
    may = λ ended more may. may;
    reaches = omega arith;
    later = omega arith;
    grown = record { out_grows = Appends-nil o; notes_grow = Appends-nil n };
    counted = omega arith;
    tallied = λ before t. tallies-none work before m.number m.tally m.tally refl t;
  }

  -- frames were collected
  pub progresses-collected : (o n : Option (List ℕ)) (a b : Moment Tally) → b.number ≡ a.number → b.tally ≡ a.tally → Collects a.framer b.framer a.waiting b.waiting
      → Progresses work o o n n a b []
  unfolding rows_of
  progresses-collected o n a b number tally_same p =
      let may_before = λ (ended : Bool) (more : List ℕ) (may : MayCome b.framer ended more). let before : MayCome a.framer ended more = λ e. may (p.input.ended ∙ e) in before in
      record {
        frames = [];
        owed = λ ended more may. p.owed ended more (may_before ended more may);
        may = may_before;
        reaches = omega (arith, p.reaches);
        later = omega (arith, p.later);
        grown = record { out_grows = Appends-nil o; notes_grow = Appends-nil n };
        counted = omega (arith, number);
        tallied = λ before t. tallies-none work before a.number a.tally b.tally tally_same t;
      }

  -- the framer took bytes, or learned of the end
  pub progresses-framer : (o n : Option (List ℕ)) (a b : Moment Tally) (bytes : List ℕ) → b.number ≡ a.number → b.tally ≡ a.tally → b.waiting ≡ a.waiting → a.framer.ended ≡ false
      → ((ended : Bool) (more : List ℕ) → rest ended b.framer more ≡ rest ended a.framer (bytes ++ more)) → reach b.framer ≡ reach a.framer + length bytes
      → b.framer.first ≡ a.framer.first → Progresses work o o n n a b bytes
  unfolding rows_of
  progresses-framer o n a b bytes number tally_same waiting still owed reaches first = record {
    frames = [];
    owed = λ ended more may. rw (owed ended more, waiting) refl;
    may = λ ended more may e. absurd (true≢false (sym e ∙ still));
    reaches = reaches;
    later = rw waiting (omega (arith, first));
    grown = record { out_grows = Appends-nil o; notes_grow = Appends-nil n };
    counted = omega (arith, number);
    tallied = λ before t. tallies-none work before a.number a.tally b.tally tally_same t;
  }

  -- nothing was written, and no limit was met
  pub stops-unwritten : (o n : Option (List ℕ)) (m : Moment Tally) → Stops work o o n n m [] (MayCome m.framer) stop.Memory
  unfolding rows_of
  stops-unwritten o n m = record {
    frames = [];
    first = λ ended more may. (m.waiting ++ rest ended m.framer more, refl);
    grown = record { out_grows = (0, Appends-nil o); notes_grow = (0, Appends-nil n) };
    over = tt;
  }

  -- nothing was written, and the frames that wait can't be counted
  pub stops-over : (o n : Option (List ℕ)) (m : Moment Tally)
      → ((before : List Row) → Tallies work before m.tally → work.is_over (before ++ rows_of work m.number m.waiting) ≡ true) → Stops work o o n n m [] (MayCome m.framer) stop.Limit
  stops-over o n m over = record {
    frames = m.waiting;
    first = λ ended more may. (rest ended m.framer more, refl);
    grown = record { out_grows = (0, Appends-nil o); notes_grow = (0, Appends-nil n) };
    over = over;
  }

  -- a prefix of the output for the frames that wait was written
  pub stops-waiting : (o o' n n' : Option (List ℕ)) (m : Moment Tally) (output : Output) (s : Stop) → output ≡ output_of work (rows_of work m.number m.waiting)
      → GrowsPrefix o o' n n' output → AtLimit ⊥ s → Stops work o o' n n' m [] (MayCome m.framer) s
  stops-waiting o o' n n' m output s e p none = record {
    frames = m.waiting;
    first = λ ended more may. (rest ended m.framer more, refl);
    grown = rw e at p;
    over = at-limit-map _ _ s (λ no. absurd no) none;
  }

-- where nothing is noted for a row, nothing is for many
pub flat_map-nothing : {Row : Type 0} (line : Row → List ℕ) (rows : List Row) → ((row : Row) → line row ≡ []) → flat_map line rows ≡ []
flat_map-nothing line [] none = refl
flat_map-nothing line (row ∷ rows) none = rw (none row, flat_map-nothing line rows none) refl
