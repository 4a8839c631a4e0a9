-- Texts read what they spell.
use Rattle.std.proofs.Common.{◌≡◌, ℕ, ◌≤◌, Bool, true, false, not, cond, nat_eq, List, length, take, Option, Some, None, refl, sym, ap, ◌∙◌, arith}
use Rattle.std.specs.Option.{IsSomeAnd}
use Rattle.std.specs.List.{prefix_len, take_while}
use Rattle.std.proofs.Math.Seq.{take-length}
use Rattle.std.proofs.lemmas.List.Folds.{length-prefix_len}
use Rattle.std.proofs.lemmas.List.Sums.{prefix_len-le-length}
use Rattle.pads_value.specs.declared.reading.Read.{Read}
use Rattle.pads_value.specs.declared.reading.Read.TheVariants.{Good, Hard}
use Rattle.pads_value.specs.declared.cause.Cause.{Cause}
use Rattle.pads_code.specs.declared.Coding.{Coding}
use Rattle.pads_code.specs.CodePage.{points_of, bytes_of}
use Rattle.pads_code.proofs.TextLemmas.{length-points, length-bytes, points-take, points-bytes}
use Rattle.pads_code.proofs.NumeralLemmas.{run_passes, whole_run}
use Rattle.pads_bases.specs.Strings.{until_reading, until_spelling, SpellsUntil, HasNoStop}

-- what a good reading says
pub good_parts : {V : Type 0} (a n : ℕ) (x v : V) → Good a x ≡ Good n v → (n ≡ a) × (v ≡ x)
good_parts a n x v e = (cc, cc)

pub not_hard : {V : Type 0} (b : Bool) (why : Cause) (r : Read V) (n : ℕ) (v : V) → cond b (Hard why) r ≡ Good n v → (b ≡ false) × (r ≡ Good n v)
not_hard true why r n v e = cc
not_hard false why r n v e = (refl, e)

-- a run in front of the points, taken from the bytes
pub record TakesRun (coding : Coding) (p : ℕ → Bool) (bytes : List ℕ) (n : ℕ) (v : List ℕ) : Type 0 where
  pub within : n ≤ length bytes
  pub same : points_of coding (take n bytes) ≡ v

pub takes_run : (coding : Coding) (p : ℕ → Bool) (bytes : List ℕ) (n : ℕ) (v : List ℕ) → n ≡ length (take_while p (points_of coding bytes)) → v ≡ take_while p (points_of coding bytes) → TakesRun coding p bytes n v
takes_run coding p bytes n v size are =
    let points = points_of coding bytes in
    let run : n ≡ prefix_len p points = size ∙ length-prefix_len p points in
    record {
      within = omega (arith, run, prefix_len-le-length p points, length-points coding bytes);
      same = sym (points-take coding n bytes) ∙ ap (λ (k : ℕ). take k points) run ∙ sym are;
    }

-- up to a stop character

pub until_within : (coding : Coding) (stop : Option ℕ) (bytes : List ℕ) (n : ℕ) (v : List ℕ) → until_reading coding stop bytes ≡ Good n v → n ≤ length bytes
unfolding until_reading
until_within coding None bytes n v e = let good = good_parts (length bytes) n (points_of coding bytes) v e in omega arith
until_within coding (Some stop) bytes n v e =
    let text = take_while (λ p. not (nat_eq p stop)) (points_of coding bytes) in
    let good = good_parts (length text) n text v e in
    (takes_run coding (λ p. not (nat_eq p stop)) bytes n v good.0 good.1).within

pub until_spelled : (coding : Coding) (stop : Option ℕ) (bytes : List ℕ) (n : ℕ) (v : List ℕ) → until_reading coding stop bytes ≡ Good n v → SpellsUntil coding stop v (take n bytes)
unfolding until_reading
until_spelled coding None bytes n v e =
    let good = good_parts (length bytes) n (points_of coding bytes) v e in
    record { same = rw (good.0, take-length bytes) (sym good.1); no_stop = tt }
until_spelled coding (Some stop) bytes n v e =
    let text = take_while (λ p. not (nat_eq p stop)) (points_of coding bytes) in
    let good = good_parts (length text) n text v e in
    record {
      same = (takes_run coding (λ p. not (nat_eq p stop)) bytes n v good.0 good.1).same;
      no_stop = rw good.1 (run_passes (λ p. not (nat_eq p stop)) (points_of coding bytes));
    }

pub until_canonical : (coding : Coding) (stop : Option ℕ) (bytes : List ℕ) (n : ℕ) (v : List ℕ) → until_reading coding stop bytes ≡ Good n v → IsSomeAnd (until_spelling coding v) (λ s. length s ≤ n)
unfolding until_reading
until_canonical coding None bytes n v e =
    let good = good_parts (length bytes) n (points_of coding bytes) v e in
    omega (arith, length-bytes coding v, ap length good.1, length-points coding bytes, good.0)
until_canonical coding (Some stop) bytes n v e =
    let text = take_while (λ p. not (nat_eq p stop)) (points_of coding bytes) in
    let good = good_parts (length text) n text v e in
    omega (arith, length-bytes coding v, ap length good.1, good.0)

pub until_reads_back : (coding : Coding) (stop : Option ℕ) (v bytes : List ℕ) → SpellsUntil coding stop v bytes → until_reading coding stop bytes ≡ Good (length bytes) v
unfolding until_reading
until_reads_back coding None v bytes spells = rw spells.same refl
until_reads_back coding (Some stop) v bytes spells =
    let size : length v ≡ length bytes = ap length (sym spells.same) ∙ length-points coding bytes in
    rw (spells.same, whole_run (λ p. not (nat_eq p stop)) v spells.no_stop, size) refl

pub until_canonical_reads_back : (coding : Coding) (stop : Option ℕ) (v s : List ℕ) → HasNoStop stop v → until_spelling coding v ≡ Some s → until_reading coding stop s ≡ Good (length s) v
until_canonical_reads_back coding stop v s free e =
    let is : s ≡ bytes_of coding v = cc in
    until_reads_back coding stop v s (record { same = rw is (points-bytes coding v); no_stop = free })
