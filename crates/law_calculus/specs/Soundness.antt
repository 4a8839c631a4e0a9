-- When a descriptor is sound: what its counts and its spans say at each of its nodes, the node itself and
-- all below it. Source: the PADS manual's parse descriptors, whose counts here are totals over all nodes.
use Rattle.std.specs.Prelude.{◌≡◌, ℕ, ◌≤◌, ◌↔◌, List, [], ◌∷◌}
use Rattle.pads_value.specs.CauseCount.{causes}
use Rattle.pads_value.specs.Header.{capped}
use Rattle.pads_value.specs.declared.descriptor.Class.TheVariants as class
use Rattle.pads_value.specs.declared.descriptor.Pd.{Pd, Pd-F, out-Pd, roll-Pd, every-Pd}

-- the count is 0 exactly where the class is Ok, and it is the number of causes from here on down, or
-- 2^64 - 1 where there are more
pub record CountsHere (node : Pd-F Pd) : Type 0 where
  pub none_is_ok : (node.nerr ≡ 0) ↔ (node.class ≡ class.Ok)
  pub all_causes : node.nerr ≡ capped (causes (roll-Pd node))

-- kids that lie between `begin` and `end`, each behind the ones before it
abbrev pub InOrder : ℕ → List Pd → ℕ → Type 0
InOrder begin [] end = begin ≤ end
InOrder begin (kid ∷ kids) end =
    let span = (out-Pd kid).span in (begin ≤ span.begin) × (span.begin ≤ span.end) × InOrder span.end kids end

-- the kids lie in the node's span, in order and without overlap
abbrev pub SpansHere : Pd-F Pd → Type 0
SpansHere node = InOrder node.span.begin node.kids node.span.end

abbrev pub CountsAreSound : Pd → Type 0
CountsAreSound = every-Pd CountsHere

abbrev pub SpansAreSound : Pd → Type 0
SpansAreSound = every-Pd SpansHere
