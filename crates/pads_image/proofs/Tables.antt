-- What a table has at a number.
use Rattle.std.proofs.lemmas.Option.{unwrap_or-slice_get}

pub ruleset table_rules = unwrap_or-slice_get
