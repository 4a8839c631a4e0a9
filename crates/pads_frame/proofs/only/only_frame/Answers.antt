use Rattle.std.proofs.Common.{◌≡◌, ◌+◌, ap, sym, ◌∙◌, option_map}
use Rattle.pads_value.specs.Cuts.{cut_of_frame}
use Rattle.pads_frame.specs.OnlyFrame.{only}
use Rattle.pads_frame.proofs.OnlyOne.{none_at_all, not_alone, one_alone}
use Rattle.pads_frame.proofs.only.only_frame.Goals as goal

pub returns-in_err-first : goal.returns-in_err-first
returns-in_err-first c =
    record { frame = ap (option_map cut_of_frame) c.from_residual.ensures ∙ sym (none_at_all c.args.discipline c.args.max c.requires.fits_limit c.args.bytes.now c.in_err-first.ensures.none) }

pub returns-then-first-bytes : goal.returns-then-first-bytes
returns-then-first-bytes c =
    let first = c.in_ok-first.first in
    let none = not_alone c.args.discipline c.args.max c.requires.fits_limit (cut_of_frame first.frame) (0 + first.size) first.size c.args.bytes.now c.if-first-bytes.true in
    record { frame = sym none ∙ ap only (sym c.in_ok-first.ensures.first) }

pub returns : goal.returns
returns c =
    let first = c.in_ok-first.first in
    let one = one_alone c.args.discipline c.args.max c.requires.fits_limit (cut_of_frame first.frame) (0 + first.size) first.size c.args.bytes.now c.if-first-bytes.false in
    record { frame = sym (ap only (c.in_ok-first.ensures.first ∙ one)) }
