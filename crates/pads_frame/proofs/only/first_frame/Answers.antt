use Rattle.std.proofs.Common.{◌≡◌, ◌+◌, ◌<◌, ◌≤◌, true, ◌∷◌, length, drop, ap, sym, ◌∙◌, arith}
use Rattle.pads_value.specs.Cuts.{Cut}
use Rattle.pads_frame.specs.Cutting.{cuts}
use Rattle.pads_frame.specs.Placed.{size_of}
use Rattle.pads_frame.proofs.OnlyOne.{first_and_rest}
use Rattle.pads_frame.proofs.Taking.{found_facts, has_block, passed_none}
use Rattle.pads_frame.proofs.only.first_frame.Goals as goal

pub front_frame-requires-clause-within : goal.front_frame-requires-clause-within
front_frame-requires-clause-within c =
    let d = c.args.discipline in
    (found_facts d c.args.max 0 c.args.bytes.now true c.in-Found.found (has_block d c.args.max c.requires.fits_limit) (passed_none d c.args.max c.args.bytes.now) c.in-Found.ensures).carried_fits

pub front_frame-requires-clause-bounded : goal.front_frame-requires-clause-bounded
front_frame-requires-clause-bounded c =
    let d = c.args.discipline in
    let facts = found_facts d c.args.max 0 c.args.bytes.now true c.in-Found.found (has_block d c.args.max c.requires.fits_limit) (passed_none d c.args.max c.args.bytes.now) c.in-Found.ensures in
    omega (arith, facts.extent_fits, c.requires.within)

pub overflow_add-result-in-Found : goal.overflow_add-result-in-Found
overflow_add-result-in-Found c =
    let d = c.args.discipline in
    let facts = found_facts d c.args.max 0 c.args.bytes.now true c.in-Found.found (has_block d c.args.max c.requires.fits_limit) (passed_none d c.args.max c.args.bytes.now) c.in-Found.ensures in
    omega (arith, facts.size_fits, c.requires.within)

pub returns-in-Found-clause-first : goal.returns-in-Found-clause-first
returns-in-Found-clause-first c =
    let d = c.args.discipline in
    let e = c.in-Found.found in
    let whole = first_and_rest d c.args.max c.requires.fits_limit c.args.at c.args.bytes.now e c.in-Found.ensures in
    whole ∙ ap (λ (frame : Cut). frame ∷ cuts d c.args.max true (c.args.at + size_of e) 0 (drop (size_of e) c.args.bytes.now)) (sym c.front_frame.ensures)

pub returns-in-Found-clause-takes : goal.returns-in-Found-clause-takes
returns-in-Found-clause-takes c =
    let d = c.args.discipline in
    let facts = found_facts d c.args.max 0 c.args.bytes.now true c.in-Found.found (has_block d c.args.max c.requires.fits_limit) (passed_none d c.args.max c.args.bytes.now) c.in-Found.ensures in
    (facts.some, omega (arith, facts.size_fits))
