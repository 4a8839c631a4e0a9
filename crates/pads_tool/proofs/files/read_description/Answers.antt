use Rattle.std.proofs.Common.{ap, arith, refl, subst, sym, ◌∙◌, ◌≡◌, ◌≤◌, ◌<◌, ◌+◌, None, Some, length, length-append, length-take, take}
use Rattle.pads_io.specs.Calls.{Many, stays}
use Rattle.pads_tool.specs.FileReads.{DueRead, due_at}
use Rattle.pads_tool.proofs.FileReads.{reads-end, reads-more}
use Rattle.pads_tool.proofs.Told.{told-more, told-none}
use Rattle.pads_tool.proofs.files.read_description.Goals as goal

pub pieces-init : goal.pieces-init
pieces-init g c = record {
  told = told-none (g.F.Files.content c.args.files.now c.args.name.now) _ c.new-text.ensures.empty;
  calls = rw c.new-text.ensures.empty stays;
  stays = refl;
  kept = refl;
}

pub pieces-preserved : goal.pieces-preserved
pieces-preserved g c =
    let text = c.pieces.text in
    let count = c.in-Ok.count in
    let within : length text ≤ 1048576 = omega (arith, c.pieces-test.true, c.len.ensures.length) in
    let some : 0 < count = omega (arith, c.if-count-eq0.false) in
    let grown : length c.extend_from_slice.new.self ≡ length text + count =
    omega (arith, ap length c.in_ok-extend_from_slice.ensures.ok, length-append text (take count c.read_at.new.into), length-take count c.read_at.new.into, c.in-Ok.ensures.within.0) in
    record {
      told = told-more _ _ _ c.read_at.new.into _ count _ (ap (λ content. content c.args.name.now) c.pieces.invariant.stays)
          c.len-in-pieces.ensures.length c.pieces.invariant.told (omega (arith, c.in-Ok.ensures.within.0)) c.in-Ok.ensures.bytes c.in_ok-extend_from_slice.ensures.ok;
      calls = subst (λ n. Many (DueRead g.F.Files.reads c.args.name.now) (Some 0, c.args.files.now) (due_at n, c.read_at.new.self)) (sym grown)
          (reads-more g.F.Files.reads c.args.name.now c.args.files.now c.pieces.files c.read_at.new.self (length text) count within some c.pieces.invariant.calls
          (rw c.len-in-pieces.ensures.length at c.in-Ok.ensures.call));
      stays = c.in-Ok.ensures.stays ∙ c.pieces.invariant.stays;
      kept = c.in-Ok.ensures.cause.stays ∙ c.pieces.invariant.kept;
    }

pub returns-in_default-clause-reads : goal.returns-in_default-clause-reads
returns-in_default-clause-reads g c =
    let within : length c.pieces.text ≤ 1048576 = omega (arith, c.pieces-test.true, c.len.ensures.length) in
    reads-end g.F.Files.reads c.args.name.now c.args.files.now c.pieces.files c.read_at.new.self (length c.pieces.text) None within c.pieces.invariant.calls
    (rw c.len-in-pieces.ensures.length at c.in_default.ensures.call)

pub returns-then-count-eq0-clause-reads : goal.returns-then-count-eq0-clause-reads
returns-then-count-eq0-clause-reads g c =
    let within : length c.pieces.text ≤ 1048576 = omega (arith, c.pieces-test.true, c.len.ensures.length) in
    reads-end g.F.Files.reads c.args.name.now c.args.files.now c.pieces.files c.read_at.new.self (length c.pieces.text) (Some c.in-Ok.count) within c.pieces.invariant.calls
    (rw c.len-in-pieces.ensures.length at c.in-Ok.ensures.call)

pub returns-in_err-extend_from_slice-clause-reads : goal.returns-in_err-extend_from_slice-clause-reads
returns-in_err-extend_from_slice-clause-reads g c =
    let within : length c.pieces.text ≤ 1048576 = omega (arith, c.pieces-test.true, c.len.ensures.length) in
    reads-end g.F.Files.reads c.args.name.now c.args.files.now c.pieces.files c.read_at.new.self (length c.pieces.text) (Some c.in-Ok.count) within c.pieces.invariant.calls
    (rw c.len-in-pieces.ensures.length at c.in-Ok.ensures.call)
