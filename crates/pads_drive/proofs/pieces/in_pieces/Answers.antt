use Rattle.std.proofs.Common.{◌≡◌, ◌<◌, ◌≤◌, ◌*◌, ℕ, false, true, zero, suc, sym, subst, length, ◌∙◌, arith}
use Rattle.std.specs.Bool.{◌==◌}
use Rattle.std.specs.Prelude.{IfOk}
use Rattle.pads_drive.proofs.Chunks.{Counted, counted-division, counted-inside, gives-if-in-order, gives-if-one, some-size}
use Rattle.pads_drive.proofs.pieces.in_pieces.Goals as goal

some : (n : ℕ) → false ≡ (n == 0) → 0 < n
some zero e = let never : false ≡ true = e in cc
some (suc n) e = omega arith

pub returns-then-workers-le1 : goal.returns-then-workers-le1
returns-then-workers-le1 g c =
    let jobs = c.requires.jobs in
    record {
      pieces = gives-if-one g.F.Fn c.args.f.now c.args.jobs c.args.items.now c.of_one.result (some _ c.if-is_empty.ensures) (omega (arith, jobs)) c.of_one.ensures.one;
    }

pub handed-requires-clause-count : goal.handed-requires-clause-count
handed-requires-clause-count g c κs lives number within =
    let size = c.div_ceil-size.result in
    let item = some _ c.if-is_empty.ensures in
    let jobs = c.requires.jobs in
    let most : 0 < c.args.jobs = omega (arith, jobs) in
    let enough : length c.args.items.now ≤ size * c.args.jobs = rw c.div_ceil-size.ensures (counted-division c.args.jobs (length c.args.items.now) most).enough in
    let size_some = some-size size (length c.args.items.now) c.args.jobs item enough in
    let counted : Counted size (length c.args.items.now) c.div_ceil-count.result = rw c.div_ceil-count.ensures (counted-division size (length c.args.items.now) size_some) in
    counted-inside size (length c.args.items.now) c.div_ceil-count.result number counted within

pub returns : goal.returns
returns g c =
    let jobs = c.requires.jobs in
    record {
      pieces = gives-if-in-order g.F.Fn c.args.f.now c.args.jobs c.div_ceil-size.result c.args.items.now c.handed.result (some _ c.if-is_empty.ensures) (omega (arith, jobs))
          c.div_ceil-size.ensures (subst (λ count. IfOk c.handed.result (λ results. length results ≡ count)) c.div_ceil-count.ensures c.handed.ensures.count) c.handed.ensures.order;
    }
