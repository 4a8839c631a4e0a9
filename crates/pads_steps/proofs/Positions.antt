-- The rule set of the first place in a list that is made item by item.
use Rattle.pads_value.proofs.NameLemmas.{position-map}

pub ruleset positions = (position-map)
