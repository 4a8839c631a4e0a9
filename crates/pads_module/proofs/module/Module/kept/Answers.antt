use Rattle.std.proofs.Common.{◌≡◌, ◌∙◌, sym, None}
use Rattle.pads_calc.specs.Skeletons.{erasing_of}
use Rattle.pads_module.proofs.KeptReadings.{erasing-none, kept-same}
use Rattle.pads_module.proofs.module.Module.kept.Goals as goal

pub returns-in-None : goal.returns-in-None
returns-in-None c =
    let none : erasing_of c.args.self.now.decls ≡ None = sym c.args.self.now.erases ∙ c.in-None.is in
    record { kept = sym (kept-same c.args.self.now.decls (erasing-none c.args.self.now.decls none) c.args.number c.args.reading) }
