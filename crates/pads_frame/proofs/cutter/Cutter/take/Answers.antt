use Rattle.std.proofs.Common.{◌+◌, ◌-◌, ◌≤◌, vec_len, arith}
use Rattle.std.proofs.lemmas.List.{length-drop}
use Rattle.pads_frame.specs.Cutters.{held_of}
use Rattle.pads_frame.proofs.Taking.{found_facts, has_block, takes, keeps}
use Rattle.pads_frame.proofs.cutter.Cutter.take.Goals as goal
use Rattle.pads_frame.specs.declared.cutter.Cutter.{Cutter}
use Rattle.pads_frame.specs.declared.discipline.Extent.{Extent}
use Rattle.pads_frame.specs.Cutters.{IsCutter}
use Rattle.pads_frame.specs.Looks.{Finds}

-- the sizes of a frame that was found, against the bytes that came
record Sizes (c : Cutter) (e : Extent) : Type 0 where
  pub extent : c.first + e.lead + e.len ≤ 4611686018427387904
  pub whole : e.lead + e.len + e.terminator ≤ 4611686018427387904
  pub end : c.first + e.lead + e.len + e.terminator ≤ 4611686018427387904
  pub covers : c.passed ≤ e.lead + e.len + e.terminator
  pub start : c.start + (e.lead + e.len + e.terminator - c.passed) ≤ vec_len c.buffer

sizes : (c : Cutter) (e : Extent) → IsCutter c → Finds c.discipline c.max c.passed (held_of c) c.ended e → Sizes c e
sizes c e kept found =
    let facts = found_facts c.discipline c.max c.passed (held_of c) c.ended e (has_block c.discipline c.max kept.fits_limit) kept.may_pass found in
    let n = length-drop c.start c.buffer.items in
    record {
      extent = omega (arith, facts.extent_fits, kept.reach, kept.within, c.buffer.ok.0);
      whole = omega (arith, facts.size_fits, kept.reach, kept.within, c.buffer.ok.0);
      end = omega (arith, facts.size_fits, kept.reach, kept.within, c.buffer.ok.0);
      covers = facts.covers;
      start = omega (arith, facts.size_fits, kept.within, c.buffer.ok.0);
    }

pub overflow_add-end : goal.overflow_add-end
overflow_add-end c = let s = sizes c.args.self.now c.args.found c.requires.kept c.requires.found in omega (arith, s.extent)

pub overflow_add-self : goal.overflow_add-self
overflow_add-self c = let s = sizes c.args.self.now c.args.found c.requires.kept c.requires.found in omega (arith, s.whole)

pub overflow_add-self-2 : goal.overflow_add-self-2
overflow_add-self-2 c = let s = sizes c.args.self.now c.args.found c.requires.kept c.requires.found in omega (arith, s.whole)

pub overflow_sub-self : goal.overflow_sub-self
overflow_sub-self c = let s = sizes c.args.self.now c.args.found c.requires.kept c.requires.found in s.covers

pub overflow_add-self-3 : goal.overflow_add-self-3
overflow_add-self-3 c =
    let s = sizes c.args.self.now c.args.found c.requires.kept c.requires.found in
    omega (arith, s.start, c.args.self.now.buffer.ok.1, c.args.self.now.buffer.small)

pub overflow_add-self-4 : goal.overflow_add-self-4
overflow_add-self-4 c = let s = sizes c.args.self.now c.args.found c.requires.kept c.requires.found in omega (arith, s.end)

pub returns-clause-takes : goal.returns-clause-takes
returns-clause-takes c = rw c.carried.ensures (takes c.args.self.now c.args.found c.requires.kept c.requires.found)

pub returns-clause-kept : goal.returns-clause-kept
returns-clause-kept c = keeps c.args.self.now c.args.found c.requires.kept c.requires.found
