-- The places of declarations.
use Rattle.pads_resolve.specs.declared.site.ResolvingSite.{ResolvingSite as Placed}
use Rattle.pads_rules.specs.Pieces.{Site}

-- The place that a borrowed one stands for.
abbrev pub stands : Placed → Site
stands site = record { decls = site.decls.now; env = site.env.now; number = site.number; decl = site.decl.now }
