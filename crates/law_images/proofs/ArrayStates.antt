-- The states of an array that runs: a node over those that there were, with what is read of it so far. What
-- was read last counts by its place alone.
use Rattle.std.proofs.Common.{◌≡◌, ap, refl, arith, ℕ, ◌+◌, ◌≤◌, List, ◌∷◌, length, Option, None, option_map}
use Rattle.pads_value.specs.declared.cause.Cause.{Cause}
use Rattle.pads_value.specs.declared.descriptor.Pd.{Pd}
use Rattle.pads_value.specs.declared.value.Val.{Val}
use Rattle.pads_expr.specs.Value.{Pairs}
use Rattle.pads_calc.specs.declared.reading.Reading.{Reading}
use Rattle.pads_calc.specs.declared.term.Seq.{Seq}
use Rattle.pads_calc.specs.declared.term.Term.{Term}
use Rattle.pads_calc.specs.Arrays.{SeqReader}
use Rattle.pads_calc.specs.Calculus.{Caller, read, seq_reader}
use Rattle.pads_calc.specs.Readings.{Subject, Reader}
use Rattle.pads_calc.proofs.Induction.{InSeq}
use Rattle.law_calculus.proofs.SoundReadings.{SoundReader}
use Rattle.pads_image.specs.declared.entry.Entry.{Entry}
use Rattle.pads_image.specs.declared.op.Op.{Op}
use Rattle.pads_image.specs.Blocks.{edge_at, elem_at, shut_at, layout}
use Rattle.pads_image.specs.Heights.{Deeper, entries_at}
use Rattle.pads_image.specs.States.{State, Node, Mark, entries, base_of, seen}
use Rattle.pads_image.specs.Steps.{Goes, does}
use Rattle.law_images.proofs.ArrayCode.{Spot, One, Laid}
use Rattle.law_images.proofs.Reaching.{To, here, once, join, to-same}
use Rattle.law_images.proofs.Running.{RunsAs, behind}

-- an array, and where it runs
pub record Array : Type 0 where
  pub code : List Op
  pub of_entries : List Entry
  pub subject : Subject
  pub most : ℕ
  pub deeper : Deeper
  pub depth : ℕ
  pub call : Caller
  pub seq : Seq
  -- its first address, the entries below its declaration's own, and the height
  pub first : ℕ
  pub below : ℕ
  pub height : ℕ
  -- its size, and the state at its first instruction
  pub size : Option ℕ
  pub start : State

module _ (a : Array) where
  -- what a term reads as, and the whole array
  abbrev pub read_of : Term → Reader
  read_of = read a.subject a.call

  abbrev pub reader : SeqReader
  reader = seq_reader a.subject a.call a.seq

  -- a term that runs as it reads
  abbrev pub Term_runs : Term → Type 0
  Term_runs t = RunsAs a.code a.of_entries a.subject a.most a.deeper a.depth (layout t) (read_of t)

  pub record Given : Type 0 where
    pub deep : a.start.depth ≡ a.depth
    pub sane : base_of a.start.callers ≤ length a.start.bindings
    pub counted : entries a.start ≤ a.below + a.height
    pub within : a.start.last.place ≤ length a.subject.bytes
    pub laid : Laid a.code a.deeper a.most a.below a.seq a.first a.height
    pub runs : InSeq Term_runs a.seq
    pub sound : (t : Term) → SoundReader a.subject (read_of t)

  abbrev pub To_in : State → State → Type 0
  To_in = To a.code a.of_entries a.subject a.most

  -- the addresses behind Size, and of Edge, of the element and of Shut
  abbrev pub full : ℕ
  full = a.first + 1

  abbrev pub edge : ℕ
  edge = edge_at (option_map layout a.seq.stop) (option_map layout a.seq.sep) (layout a.seq.elem) a.first

  abbrev pub elem_first : ℕ
  elem_first = elem_at (option_map layout a.seq.stop) (option_map layout a.seq.sep) (layout a.seq.elem) a.first

  abbrev pub shut : ℕ
  shut = shut_at (option_map layout a.seq.stop) (option_map layout a.seq.sep) (layout a.seq.elem) a.first

  abbrev pub env : Pairs
  env = seen a.start

  -- the array's node
  abbrev pub holds : List Val → List Pd → Option Cause → Node
  holds vs ks own = record { begin = a.start.last.place; base = length a.start.bindings; size = a.size; values = vs; pds = ks; own = own }

  abbrev pub running : ℕ → Reading → Node → List Mark → State
  running q r n marks = record a.start { at_ = q; last = r; nodes = n ∷ a.start.nodes; marks = marks }

  pub seen-running : (q : ℕ) (r : Reading) (n : Node) (marks : List Mark) → seen (running q r n marks) ≡ env
  unfolding seen
  seen-running q r n marks = refl

  pub stay : (s : State) → To_in s s
  stay s = here a.code a.of_entries a.subject a.most s

  -- from a state to an address, at a place
  pub record Reached (s : State) (q : ℕ) (n : Node) (marks : List Mark) (j : ℕ) : Type 0 where
    pub last : Reading
    pub place : last.place ≡ j
    pub run : To_in s (running q last n marks)

  module _ (g : Given) where
    -- an instruction
    pub steps : (s t : State) (q h : ℕ) (instruction : Op) → One a.code a.deeper a.most a.below q h instruction → s.at_ ≡ q → h ≤ entries_at a.deeper instruction h → entries s ≤ a.below + h
        → does a.of_entries a.subject instruction s ≡ Goes t → To_in s t
    steps s t q h instruction there at_ small counted goes =
        once a.code a.of_entries a.subject a.most s t q instruction at_ there.there (omega (arith, there.fits, small, counted)) goes

    -- a term of the array
    pub term-runs : (t : Term) → Term_runs t → (q h : ℕ) (r : Reading) (vs : List Val) (ks : List Pd) (marks : List Mark) → Spot a.code a.deeper a.most a.below q h ((layout t).code q)
        → r.place ≤ length a.subject.bytes → entries (running q r (holds vs ks None) marks) ≤ a.below + h
        → To_in (running q r (holds vs ks None) marks) (running (q + (layout t).size) (read_of t env r.place) (holds vs ks None) marks)
    term-runs t runs q h r vs ks marks spot within counted =
        let n = holds vs ks None in
        let s = running q r n marks in
        let behind_ = q + (layout t).size in
        to-same a.code a.of_entries a.subject a.most s (behind s behind_ (read_of t (seen s) r.place)) (running behind_ (read_of t env r.place) n marks)
        (ap (λ env. running behind_ (read_of t env r.place) n marks) (seen-running q r n marks))
        (runs q a.below h s (record {
          at_ = refl;
          deep = g.deep;
          sane = g.sane;
          above = omega arith;
          counted = counted;
          within = within;
          there = spot.there;
          fits = spot.fits;
        }))

    -- on from what was reached
    pub and-then : (s t : State) (q : ℕ) (n : Node) (marks : List Mark) (j : ℕ) → To_in s t → Reached t q n marks j → Reached s q n marks j
    and-then s t q n marks j to later = record {
      last = later.last;
      place = later.place;
      run = join a.code a.of_entries a.subject a.most s t (running q later.last n marks) to later.run;
    }
