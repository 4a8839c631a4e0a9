-- Lists of names, one more name at a time.
use Rattle.std.proofs.Common.{append_assoc}
use Rattle.std.proofs.lemmas.List.{map-append, append-nil}
use Rattle.std.proofs.lemmas.Simd.{map-map}
use Rattle.std.proofs.lemmas.List.Concat.{flat_map-append}

pub ruleset name_lists = (map-append, map-map, append-nil, append_assoc, flat_map-append)
