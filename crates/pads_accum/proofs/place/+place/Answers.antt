use Rattle.std.proofs.Common.{◌∙◌, sym, ap, ◌++◌, ◌∷◌, [], map, arith}
use Rattle.std.specs.Option.{option_copied}
use Rattle.std.proofs.lemmas.List.{map-append}
use Rattle.std.proofs.lemmas.Result.{on_ok_weaker}
use Rattle.pads_accum.specs.Placed.{placed}
use Rattle.pads_accum.specs.Walks.{found_seen, kids_below, spot_placed}
use Rattle.pads_accum.proofs.Layers.{node_listed, kid_next, kid_skipped}
use Rattle.pads_accum.proofs.place.+place.Goals as goal
use Rattle.pads_accum.proofs.place.+place.Goals.{place_kids-in-Some+in_ok-place, place_kids-in_default}

pub place-returns : goal.place-returns
place-returns t c =
    let parts = c.args.guide.now.plan.parts in
    let v = option_copied c.args.value in
    let own = ap (map found_seen) c.in_ok-push.ensures.items ∙ map-append found_seen c.args.found.now.items _
    ∙ ap (λ clean. map found_seen c.args.found.now.items ++ record { part = c.args.part; node = record { value = v; clean = clean } } ∷ []) c.is_clean-clean.ensures.clean in
    record {
      placed =
          on_ok_weaker c.place_kids.result
          (λ e. node_listed parts c.args.pd.now c.args.part v (map found_seen c.args.found.now.items) _ _ own
          (e ∙ ap (λ kids. map found_seen c.push.new.self.items ++ kids_below parts c.args.part v 0 kids) c.as_slice.ensures.items))
          c.place_kids.ensures.placed;
    }

pub place_kids-kids-preserved : goal.place_kids-kids-preserved
place_kids-kids-preserved t c =
    let parts = c.args.guide.now.plan.parts in
    let v = option_copied c.args.value in
    let old = map found_seen c.kids.found.items in
    elim c.match-kid_spot.branch [
      | place_kids-in-Some+in_ok-place w ↦
          let kid = w.index-kids-i.result in
          kid_next parts c.args.part v c.args.kids.now c.kids.i kid old _ _ (omega (arith, c.kids-test.true)) w.index-kids-i.is
          (ap (λ found. map found_seen found.items) w.found-is ∙ w.in_ok-place.ensures.placed
          ∙ ap (λ spot. old ++ spot_placed spot (placed parts kid)) w.in-Some.ensures.spot)
          c.kids.invariant
      | place_kids-in_default w ↦
          kid_skipped parts c.args.part v c.args.kids.now c.kids.i old _ _ (omega (arith, c.kids-test.true)) (ap (λ found. map found_seen found.items) w.found-is)
          (sym w.in_default.ensures.spot) c.kids.invariant
    ]
