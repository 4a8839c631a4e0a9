use Rattle.std.proofs.Common.{◌≡◌, ◌-◌, length, refl, arith}
use Rattle.std.proofs.lemmas.List.{length-drop}
use Rattle.pads_frame.specs.Cutters.{held_of, state_of}
use Rattle.pads_frame.proofs.Passing.{none_owed, searched_all}
use Rattle.pads_frame.proofs.Taking.{lost_already}
use Rattle.pads_frame.proofs.cutter.Cutter.advance.Goals as goal

pub returns-in-Wait-clause-kept : goal.returns-in-Wait-clause-kept
returns-in-Wait-clause-kept c =
    let old = c.args.self.now in
    let kept = c.requires.kept in
    let all = searched_all old.discipline old.max old.passed (held_of old) old.ended c.in-Wait.ensures.0 in
    let n = length-drop old.start old.buffer.items in
    let len : c.len.result - old.start ≡ length (held_of old) = omega (arith, c.len.ensures, old.buffer.ok.0) in
    record {
      limit = kept.limit;
      fits_limit = kept.fits_limit;
      within = omega (arith, kept.within, c.len.ensures);
      has_searched = rw len all;
      may_pass = kept.may_pass;
      room = kept.room;
      capacity = kept.capacity;
      reach = kept.reach;
    }

pub returns-in-Wait-clause-gives : goal.returns-in-Wait-clause-gives
returns-in-Wait-clause-gives c =
    let old = c.args.self.now in
    record {
      none = c.in-Wait.ensures.0;
      owed = λ ended more. refl;
      done = none_owed (state_of old) c.in-Wait.ensures.0;
      first = refl;
      lost = lost_already old.discipline old.max old.passed (held_of old) c.requires.kept.may_pass;
      free = omega (arith, c.in-Wait.ensures.1);
      reach = refl;
      input = record { discipline = refl; max = refl; ended = refl };
    }
