-- Steps of a run that halts: wherever they lead, they are within its room, and it halts from there.
use Rattle.std.proofs.Common.{subst, ℕ, zero, suc, ◌≤◌, List}
use Rattle.pads_calc.specs.declared.reading.Reading.{Reading}
use Rattle.pads_calc.specs.Readings.{Subject}
use Rattle.pads_image.specs.declared.entry.Entry.{Entry}
use Rattle.pads_image.specs.declared.op.Op.{Op}
use Rattle.pads_image.specs.Answers.{HaltsWith, Reaches, Runs}
use Rattle.pads_image.specs.States.{State, entries}
use Rattle.law_images.proofs.Reaching.{before, here, to-same}
use Rattle.pads_machine.proofs.Halts.{fits-first, moved}
use Rattle.pads_idle.proofs.Walking.{To, Walks}

module _ (code : List Op) (of_entries : List Entry) (subject : Subject) (most : ℕ) where
  -- steps on stacks of some size are steps
  walks : (n : ℕ) (s u : State) → Runs code of_entries subject most n s u → Walks code of_entries subject n s u
  walks zero s u run = run
  walks (suc n) s u run = (run.1, run.2, walks n run.1 u run.3)

  pub walked : (s u : State) → Reaches code of_entries subject most s u → To code of_entries subject s u
  walked s u h = record { steps = h.steps; walk = walks h.steps s u h.run }

  pub halts-behind : (n : ℕ) (s u : State) (r : Reading) → Walks code of_entries subject n s u → HaltsWith code of_entries subject most s r → HaltsWith code of_entries subject most u r
  halts-behind zero s u r walk h = subst (λ (x : State). HaltsWith code of_entries subject most x r) walk h
  halts-behind (suc n) s u r walk h = halts-behind n walk.0 u r walk.2 (moved code of_entries subject most s walk.0 r walk.1 h)

  pub fitting : (n : ℕ) (s u : State) (r : Reading) → Walks code of_entries subject n s u → HaltsWith code of_entries subject most s r → Reaches code of_entries subject most s u
  fitting zero s u r walk h = to-same code of_entries subject most s s u walk (here code of_entries subject most s)
  fitting (suc n) s u r walk h =
      before code of_entries subject most s walk.0 u (fits-first code of_entries subject most h.reached.steps s h.end h.reached.run h.within) walk.1
      (fitting n walk.0 u r walk.2 (moved code of_entries subject most s walk.0 r walk.1 h))

  pub room-there : (s : State) (r : Reading) → HaltsWith code of_entries subject most s r → entries s ≤ most
  room-there s r h = fits-first code of_entries subject most h.reached.steps s h.end h.reached.run h.within
