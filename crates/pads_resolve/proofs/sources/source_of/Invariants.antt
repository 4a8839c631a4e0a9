use Rattle.std.proofs.Common.{◌≡◌, drop, fold}
use Rattle.pads_resolution.specs.Resolution.{source_after, source_of}
use Rattle.pads_resolve.specs.Places.{sites_from, sites_among}
use Rattle.pads_resolve.proofs.sources.source_of.Given as goal

abbrev pub invariant-loop-number : goal.invariant-loop-number
invariant-loop-number l = fold source_after l.source (sites_from l.table l.env l.number (drop l.number l.table)) ≡ source_of (sites_among l.table l.env)
