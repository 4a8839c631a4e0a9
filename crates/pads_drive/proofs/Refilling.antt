-- A piece of the input that a framer takes as a whole, in part, or not at all.
use Rattle.std.proofs.Common.{◌≡◌, ℕ, ◌+◌, ◌^◌, ◌<◌, ◌≤◌, List, [], Option, length, take, drop, ap, arith, length-take, length-drop, take-append-drop}
use Rattle.std.specs.Io.KnownBytes.{Consumes}
use Rattle.pads_frame.specs.declared.cutter.Fed.{Fed}
use Rattle.pads_frame.specs.Feed.{Feeds}
use Rattle.pads_frame.specs.Next.{SameInput}
use Rattle.pads_frame.specs.State.{State, reach, rest, room}
use Rattle.pads_drive.specs.Driving.{Refills}

-- none of it: the next byte would have offset 2^62
pub refills-none : (left left' : Option (List ℕ)) (old new : State) (piece : List ℕ) → new ≡ old → SameInput old new → Consumes left left' piece → reach old ≡ 2 ^ 62 → length piece ≤ 4096
    → Refills left left' old new [] piece
refills-none left left' old new piece same input consumed past few = record {
  consumed = consumed;
  owed = λ ended more. ap (λ s. rest ended s more) same;
  reaches = omega (arith, ap reach same);
  within = omega (arith, ap reach same);
  first = ap (λ s. s.first) same;
  input = input;
  few = omega (arith, few);
}

-- as much of it as has offsets below 2^62
pub refills : (left left' : Option (List ℕ)) (old new : State) (piece : List ℕ) (fed : Fed) → Feeds old piece new fed → SameInput old new → Consumes left left' piece
    → length old.held + 4096 ≤ room old → length piece ≤ 4096 → reach old ≤ 2 ^ 62 → Refills left left' old new (take fed.took piece) (drop fed.took piece)
refills left left' old new piece fed feeds input consumed free bound within =
    let short : fed.took ≤ length piece = omega (arith, feeds.took) in
    let count : length (take fed.took piece) ≡ fed.took = rw length-take (omega arith) in
    record {
      consumed = rw (take-append-drop fed.took piece) consumed;
      owed = feeds.owed;
      reaches = omega (arith, feeds.reach, count);
      within = omega (arith, feeds.reach, feeds.took);
      first = ap (λ s. s.first) feeds.state;
      input = input;
      few = omega (arith, bound, count, length-drop fed.took piece);
    }

-- a part of it is left: it ends at offset 2^62
pub refills-end : (old new : State) (piece : List ℕ) (fed : Fed) → Feeds old piece new fed → length old.held + 4096 ≤ room old → length piece ≤ 4096 → reach old ≤ 2 ^ 62
    → fed.took < length piece → reach new ≡ 2 ^ 62
refills-end old new piece fed feeds free bound within less = omega (arith, feeds.reach, feeds.took)
