use Rattle.std.proofs.Common.{◌≡◌, ◌∙◌, sym, None}
use Rattle.pads_image.specs.Skeletons.{erasing_in}
use Rattle.pads_image.proofs.KeptReadings.{erasing-none, kept-same}
use Rattle.pads_image.proofs.image.Image.kept.Goals as goal

pub returns-in-None : goal.returns-in-None
returns-in-None c =
    let none : erasing_in c.args.self.now.entries ≡ None = sym c.args.self.now.erases ∙ c.in-None.is in
    record { kept = sym (kept-same c.args.self.now.entries (erasing-none c.args.self.now.entries none) c.args.number c.args.reading) }
