use Rattle.std.proofs.Common.{◌≡◌, ◌++◌, map, drop}
use Rattle.pads_resolution.specs.Resolution.{decl_at}
use Rattle.pads_resolve.specs.Places.{sites_from, sites_among}
use Rattle.pads_resolve.proofs.declarations.decls_of.Given as goal

abbrev pub invariant-loop-number : goal.invariant-loop-number
invariant-loop-number l = l.made ++ map decl_at (sites_from l.table l.env l.number (drop l.number l.table)) ≡ map decl_at (sites_among l.table l.env)
