use Rattle.std.proofs.Common.{◌≡◌, ◌+◌, ◌-◌, ◌≤◌, List, ℕ, length, drop, take, vec_len, ap, ◌∙◌, arith}
use Rattle.std.proofs.lemmas.List.{length-drop, drop-take}
use Rattle.pads_frame.specs.Cutters.{held_of, state_of}
use Rattle.pads_frame.specs.State.{word_size}
use Rattle.pads_frame.proofs.Passing.{may_pass_over, waits_over}
use Rattle.pads_frame.proofs.Taking.{searched_none}
use Rattle.pads_frame.proofs.cutter.Cutter.pass_over.Goals as goal

-- what is passed over, and what stays
passed_is : (c : goal.After-self-2-1) → c.args.self.now.passed + (c.len.result - (c.args.self.now.start + c.word_len.result)) ≡ c.args.self.now.passed + (length (held_of c.args.self.now) - word_size c.args.self.now.discipline)
passed_is c =
    let n = length-drop c.args.self.now.start c.args.self.now.buffer.items in
    omega (arith, c.args.self.now.buffer.ok.0, c.len.ensures, c.word_len.ensures)

held_is : (c : goal.After-self-2-1) → drop c.args.self.now.start c.truncate.new.self.items ≡ take (word_size c.args.self.now.discipline) (held_of c.args.self.now)
held_is c =
    ap (λ (l : List ℕ). drop c.args.self.now.start l) c.truncate.ensures.items
    ∙ drop-take c.args.self.now.start c.word_len.result c.args.self.now.buffer.items
    ∙ ap (λ (n : ℕ). take n (held_of c.args.self.now)) c.word_len.ensures

pub returns-clause-waits : goal.returns-clause-waits
returns-clause-waits c =
    rw (passed_is c, held_is c) (waits_over (state_of c.args.self.now) c.requires.kept.fits_limit c.requires.kept.may_pass c.requires.lost)

pub returns-clause-kept : goal.returns-clause-kept
returns-clause-kept c =
    let old = c.args.self.now in
    let kept = c.requires.kept in
    let may = may_pass_over old kept c.requires.lost in
    let n = length-drop old.start old.buffer.items in
    let word : word_size old.discipline ≤ length (held_of old) = may.0 in
    let len : vec_len c.truncate.new.self ≡ old.start + word_size old.discipline = omega (arith, c.truncate.ensures.len, c.word_len.ensures, old.buffer.ok.0, kept.within) in
    record {
      limit = kept.limit;
      fits_limit = kept.fits_limit;
      within = omega arith;
      has_searched = searched_none old.discipline (drop old.start c.truncate.new.self.items);
      may_pass = rw (passed_is c, held_is c) may.1;
      room = omega (arith, kept.room, kept.within, old.buffer.ok.0);
      capacity = rw c.truncate.ensures.capacity kept.capacity;
      reach = omega (arith, kept.reach, kept.within, c.len.ensures, c.word_len.ensures, old.buffer.ok.0);
    }
