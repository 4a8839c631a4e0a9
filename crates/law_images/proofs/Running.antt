-- Code runs as it reads: from a state at the first instruction of a block to the one behind its last, where
-- what was read last is what the block reads as, and all else is as before.
use Rattle.std.proofs.Common.{◌≡◌, ◌∙◌, sym, ap, refl, subst, arith, ℕ, ◌+◌, ◌≤◌, List, [], ◌∷◌, length}
use Rattle.pads_expr.specs.Value.{Pairs}
use Rattle.pads_calc.specs.declared.reading.Reading.{Reading}
use Rattle.pads_calc.specs.Readings.{Subject, Reader}
use Rattle.pads_image.specs.declared.entry.Entry.{Entry}
use Rattle.pads_image.specs.declared.op.Op.{Op}
use Rattle.pads_image.specs.Blocks.{Block, single, followed}
use Rattle.pads_image.specs.Heights.{Deeper, entries_at}
use Rattle.pads_image.specs.States.{State, entries, floor_of, seen}
use Rattle.pads_image.specs.States as states
use Rattle.pads_image.specs.Steps.{Goes, does}
use Rattle.law_images.proofs.Levels.{AllBelow, height_behind, below-left, below-right}
use Rattle.law_images.proofs.Places.{StandsAt, first-there, left-there, right-there}
use Rattle.law_images.proofs.Reaching.{To, once, join, to-same, seen-behind}

-- a state at another address, with another reading
abbrev pub behind : State → ℕ → Reading → State
behind s p r = record s { at_ = p; last = r }

module _ (code : List Op) (of_entries : List Entry) (subject : Subject) (most : ℕ) (deeper : Deeper) (depth : ℕ) where
  -- a state at which a block of code is to run
  pub record Ready (ops : List Op) (p below h : ℕ) (s : State) : Type 0 where
    pub at_ : s.at_ ≡ p
    pub deep : s.depth ≡ depth
    pub sane : states.base_of s.callers ≤ length s.bindings
    pub above : floor_of s.nodes ≤ length s.bindings
    pub counted : entries s ≤ below + h
    pub within : s.last.place ≤ length subject.bytes
    pub there : StandsAt code p ops
    pub fits : AllBelow deeper most below h ops

  -- a block that reads so
  abbrev pub RunsAs : Block → Reader → Type 0
  RunsAs b reader = (p below h : ℕ) (s : State) → Ready (b.code p) p below h s
      → To code of_entries subject most s (behind s (p + b.size) (reader (seen s) s.last.place))

  pub by-layout : (b c : Block) (f g : Reader) → b ≡ c → ((env : Pairs) (i : ℕ) → f env i ≡ g env i) → RunsAs c g → RunsAs b f
  by-layout b c f g same reads h p below height s ready =
      let moved : RunsAs b g = subst (λ (b : Block). RunsAs b g) (sym same) h in
      to-same code of_entries subject most s (behind s (p + b.size) (g (seen s) s.last.place)) (behind s (p + b.size) (f (seen s) s.last.place))
      (ap (λ r. behind s (p + b.size) r) (sym (reads (seen s) s.last.place))) (moved p below height s ready)

  -- one instruction, at which there are no more entries than its height
  pub one-runs : (instruction : Op) (reader : Reader) → ((h : ℕ) → h ≤ entries_at deeper instruction h)
      → ((s : State) → s.depth ≡ depth → does of_entries subject instruction s ≡ Goes (behind s (s.at_ + 1) (reader (seen s) s.last.place))) → RunsAs (single instruction) reader
  one-runs instruction reader small goes p below h s ready =
      once code of_entries subject most s (behind s (p + 1) (reader (seen s) s.last.place)) p instruction ready.at_
      (first-there code p instruction [] ready.there) (omega (arith, ready.counted, ready.fits.0, small h))
      (goes s ready.deep ∙ ap (λ q. Goes (behind s (q + 1) (reader (seen s) s.last.place))) ready.at_)

  -- the reading of a block, changed by one instruction
  pub followed-runs : (b : Block) (instruction : Op) (inner : Reader) (change : Pairs → Reading → Reading) → ((p : ℕ) → length (b.code p) ≡ b.size)
      → ((p h : ℕ) → height_behind deeper most (b.code p) h ≡ h) → ((h : ℕ) → h ≤ entries_at deeper instruction h)
      → ((s : State) → does of_entries subject instruction s ≡ Goes (behind s (s.at_ + 1) (change (seen s) s.last)))
      → RunsAs b inner → RunsAs (followed b instruction) (λ env i. change env (inner env i))
  followed-runs b instruction inner change sizes level small goes runs p below h s ready =
      let q = p + b.size in
      let r = inner (seen s) s.last.place in
      let t = behind s q r in
      let u = behind s (q + 1) (change (seen s) r) in
      let sized : p + length (b.code p) ≡ q = ap (λ n. p + n) (sizes p) in
      let over = below-right deeper most (b.code p) (instruction ∷ []) below h h (level p h) ready.fits in
      let next : q + 1 ≡ p + (b.size + 1) = omega arith in
      to-same code of_entries subject most s u (behind s (p + (b.size + 1)) (change (seen s) r)) (ap (λ p. behind s p (change (seen s) r)) next)
      (join code of_entries subject most s t u
      (runs p below h s (record {
        at_ = ready.at_;
        deep = ready.deep;
        sane = ready.sane;
        above = ready.above;
        counted = ready.counted;
        within = ready.within;
        there = left-there code p (b.code p) (instruction ∷ []) ready.there;
        fits = below-left deeper most (b.code p) (instruction ∷ []) below h ready.fits;
      }))
      (once code of_entries subject most t u q instruction refl
      (first-there code q instruction [] (right-there code p (b.code p) (instruction ∷ []) q sized ready.there))
      (omega (arith, ready.counted, over.0, small h))
      (goes t ∙ ap (λ env. Goes (behind s (q + 1) (change env r))) (seen-behind s q r))))
