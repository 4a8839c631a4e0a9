use Rattle.std.proofs.Common.{◌≡◌, ◌∙◌, arith, to_z, of_z}
use Rattle.std.specs.Int.{w128}
use Rattle.std.proofs.lemmas.Int.{ints, to_z-of_z}
use Rattle.pads_bases.proofs.BinaryLemmas.{size_too_small, size_too_large, bytes_missing, bytes_there}
use Rattle.pads_bases.proofs.bytes.read_bin.Goals as goal

pub returns-then-size-lt1 : goal.returns-then-size-lt1
returns-then-size-lt1 c = record { reading = size_too_small _ _ _ _ (grind (arith, to_z-of_z)) }

pub returns-then-size-gt8 : goal.returns-then-size-gt8
returns-then-size-gt8 c = record { reading = size_too_large _ _ _ _ (grind (arith, to_z-of_z)) }

pub returns-then-bytes-size : goal.returns-then-bytes-size
returns-then-bytes-size c = record { reading = bytes_missing _ _ _ _ (grind (arith, to_z-of_z)) (grind (arith, to_z-of_z)) (grind (arith, ints, to_z-of_z)) }

pub returns : goal.returns
returns c =
    let whole : to_z w128 (of_z w128 c.number.result) ≡ c.number.result = omega (arith, ints) in
    record {
      reading = c.ranged.ensures.range ∙ rw (whole, c.number.ensures.number)
          (bytes_there c.args.range c.args.order c.args.size c.args.bytes.now _ _ (omega (arith, ints)) (omega (arith, ints)) (omega (arith, ints)) (omega (arith, ints)) c.split_at.ensures.front);
    }
