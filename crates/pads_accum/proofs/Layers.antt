-- The nodes of a row, layer by layer.
use Rattle.std.proofs.Math.Seq.{drop-cons}
use Rattle.std.proofs.Common.{◌≡◌, ◌∙◌, sym, ap, refl, ℕ, suc, ◌+◌, ◌<◌, List, [], ◌∷◌, ◌++◌, length, drop, get_or, Option, Some, None, append_assoc, arith}
use Rattle.std.specs.Option.{option_map}
use Rattle.std.proofs.lemmas.List.{append-nil}
use Rattle.pads_value.specs.Header.{is_ok_class}
use Rattle.pads_value.specs.declared.descriptor.Pd.{Pd, Pd-F, roll-Pd, out-Pd, map-Pd, fold-roll-Pd, fold_out-Pd}
use Rattle.pads_value.specs.declared.value.Val.{Val}
use Rattle.pads_plan.specs.declared.part.PlanPart.{PlanPart}
use Rattle.pads_accum.specs.Placed.{Kid, Placed, Placing, below, form_at, kid_of, kid_placed, placed, placing_step}
use Rattle.pads_accum.specs.Walks.{kids_below, spot_of, spot_placed}

pub placed_roll : (parts : List PlanPart) (node : Pd-F Pd) (part : ℕ) (v : Option Val)
    → placed parts (roll-Pd node) part v ≡ placing_step parts (map-Pd Pd Placing (placed parts) node) part v
unfolding placed
placed_roll parts node part v = ap (λ (f : Placing). f part v) (fold-roll-Pd Placing (placing_step parts) node)

-- a node's own, then those below it
abbrev pub own_placed : ℕ → Option Val → Pd → Placed
own_placed part v pd = record { part = part; node = record { value = v; clean = is_ok_class (out-Pd pd).class } }

pub placed_out : (parts : List PlanPart) (pd : Pd) (part : ℕ) (v : Option Val)
    → placed parts pd part v ≡ own_placed part v pd ∷ kids_below parts part v 0 (out-Pd pd).kids
unfolding placed
placed_out parts pd part v = ap (λ (f : Placing). f part v) (fold_out-Pd Placing (placing_step parts) pd)

-- listed one after the other
pub node_listed : (parts : List PlanPart) (pd : Pd) (part : ℕ) (v : Option Val) (old own new : List Placed)
    → own ≡ old ++ own_placed part v pd ∷ [] → new ≡ own ++ kids_below parts part v 0 (out-Pd pd).kids
    → new ≡ old ++ placed parts pd part v
node_listed parts pd part v old own new mine all =
    all ∙ ap (λ listed. listed ++ kids_below parts part v 0 (out-Pd pd).kids) mine
    ∙ append_assoc old (own_placed part v pd ∷ []) (kids_below parts part v 0 (out-Pd pd).kids)
    ∙ ap (λ listed. old ++ listed) (sym (placed_out parts pd part v))

module _ (parts : List PlanPart) (up : ℕ) where
  below-step : (found : Option ℕ) (v : Option Val) (kid : Placing)
      → Rattle.pads_accum.specs.Placed.if_below found v kid ≡ spot_placed (option_map (λ part. (part, v)) found) kid
  below-step None v kid = refl
  below-step (Some part) v kid = refl

  kid-spot : (given : Kid) (kid : Placing) → kid_placed parts up given kid ≡ spot_placed (spot_of parts up given) kid
  kid-spot None kid = refl
  kid-spot (Some given) kid = below-step (below parts up given.0) given.1 kid

some-kid : (kids : List Pd) (i : ℕ) → i < length kids → (kid : Pd) × (drop i kids ≡ kid ∷ drop (suc i) kids)
some-kid [] i h = absurd (omega (arith, h))
some-kid (x ∷ kids) i h = (get_or (x ∷ kids) i x, drop-cons (x ∷ kids) i x h)

module _ (parts : List PlanPart) (part : ℕ) (v : Option Val) (kids : List Pd) (i : ℕ) where
  next-kid : (kid : Pd) (old new whole : List Placed) → drop i kids ≡ kid ∷ drop (suc i) kids
      → new ≡ old ++ spot_placed (spot_of parts part (kid_of (form_at parts part) v i)) (placed parts kid)
      → old ++ kids_below parts part v i (drop i kids) ≡ whole
      → new ++ kids_below parts part v (i + 1) (drop (i + 1) kids) ≡ whole
  next-kid kid old new whole split listed before =
      let next : suc i ≡ i + 1 = omega arith in
      let mine = spot_placed (spot_of parts part (kid_of (form_at parts part) v i)) (placed parts kid) in
      let rest = kids_below parts part v (i + 1) (drop (i + 1) kids) in
      ap (λ xs. xs ++ rest) listed
      ∙ append_assoc old mine rest
      ∙ ap (λ xs. old ++ (xs ++ rest)) (sym (kid-spot parts part (kid_of (form_at parts part) v i) (placed parts kid)))
      ∙ ap (λ ks. old ++ kids_below parts part v i ks) (sym (split ∙ ap (λ n. kid ∷ drop n kids) next))
      ∙ before

  -- one kid more, and the rest
  pub kid_next : (kid : Pd) (old new whole : List Placed) → i < length kids → kid ≡ get_or kids i kid
      → new ≡ old ++ spot_placed (spot_of parts part (kid_of (form_at parts part) v i)) (placed parts kid)
      → old ++ kids_below parts part v i (drop i kids) ≡ whole
      → new ++ kids_below parts part v (i + 1) (drop (i + 1) kids) ≡ whole
  kid_next kid old new whole within there listed before =
      next-kid kid old new whole (drop-cons kids i kid within ∙ ap (λ k. k ∷ drop (suc i) kids) (sym there)) listed before

  -- a kid that is no node of a part
  pub kid_skipped : (old new whole : List Placed) → i < length kids → new ≡ old → spot_of parts part (kid_of (form_at parts part) v i) ≡ None
      → old ++ kids_below parts part v i (drop i kids) ≡ whole
      → new ++ kids_below parts part v (i + 1) (drop (i + 1) kids) ≡ whole
  kid_skipped old new whole within same none before =
      let here = some-kid kids i within in
      next-kid here.0 old new whole here.1 (same ∙ sym (append-nil old) ∙ ap (λ spot. old ++ spot_placed spot (placed parts here.0)) (sym none)) before
