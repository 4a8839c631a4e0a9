-- Where the instructions of an array stand, and how many entries there may be at each of them.
use Rattle.std.proofs.Common.{◌≡◌, ◌∙◌, ap, refl, subst, arith, ℕ, ◌+◌, ◌≤◌, List, [], ◌∷◌, ◌++◌, length, append_assoc, Option, Some, option_map, slice_get}
use Rattle.pads_calc.specs.declared.term.Seq.{Seq}
use Rattle.pads_calc.specs.declared.term.Term.{Term}
use Rattle.pads_image.specs.declared.op.Op.{Op}
use Rattle.pads_image.specs.declared.op.Op.TheVariants as op
use Rattle.pads_image.specs.Blocks.{Block, stop_code, sep_code, edge_at, elem_at, shut_at, layout, seq_layout}
use Rattle.pads_image.specs.Heights.{Deeper, entries_at, height_after}
use Rattle.pads_image.proofs.Lengths.{sized, stop-sized, sep-sized}
use Rattle.law_images.proofs.LevelledTerms.{levelled, option-levelled}
use Rattle.law_images.proofs.Levels.{AllBelow, height_behind, below-left, below-right, stop-level, sep-level}
use Rattle.law_images.proofs.Places.{StandsAt, first-there, rest-there, left-there, right-there}

module _ (code : List Op) (deeper : Deeper) (most below : ℕ) where
  -- code that stands from an address on, where the height is so
  pub record Spot (q h : ℕ) (ops : List Op) : Type 0 where
    pub there : StandsAt code q ops
    pub fits : AllBelow deeper most below h ops

  -- an instruction
  pub record One (q h : ℕ) (instruction : Op) : Type 0 where
    pub there : slice_get code q ≡ Some instruction
    pub fits : below + entries_at deeper instruction h ≤ most

  one : (q h : ℕ) (instruction : Op) (ops : List Op) → Spot q h (instruction ∷ ops) → One q h instruction
  one q h instruction ops spot = record { there = first-there code q instruction ops spot.there; fits = spot.fits.0 }

  rest : (q h : ℕ) (instruction : Op) (ops : List Op) (q' h' : ℕ) → q + 1 ≡ q' → height_after instruction h ≡ h' → Spot q h (instruction ∷ ops) → Spot q' h' ops
  rest q h instruction ops q' h' next level spot = record {
    there = subst (λ (q : ℕ). StandsAt code q ops) next (rest-there code q instruction ops spot.there);
    fits = subst (λ (h : ℕ). AllBelow deeper most below h ops) level spot.fits.1;
  }

  left : (q h : ℕ) (xs ys : List Op) → Spot q h (xs ++ ys) → Spot q h xs
  left q h xs ys spot = record { there = left-there code q xs ys spot.there; fits = below-left deeper most xs ys below h spot.fits }

  right : (q h : ℕ) (xs ys : List Op) (q' h' : ℕ) → q + length xs ≡ q' → height_behind deeper most xs h ≡ h' → Spot q h (xs ++ ys) → Spot q' h' ys
  right q h xs ys q' h' next level spot = record {
    there = right-there code q xs ys q' next spot.there;
    fits = below-right deeper most xs ys below h h' level spot.fits;
  }

  -- the parts of a terminator and of a separator
  pub record StopLaid (t : Term) (shut q h : ℕ) : Type 0 where
    pub mark : One q h op.Mark
    pub inner : Spot (q + 1) (h + 1) ((layout t).code (q + 1))
    pub stop : One (q + 1 + (layout t).size) (h + 1) (op.Stop shut)

  pub stop-laid : (t : Term) (shut q h : ℕ) → Spot q h (stop_code (Some (layout t)) shut q) → StopLaid t shut q h
  stop-laid t shut q h spot =
      let ops = (layout t).code (q + 1) in
      let behind = q + 1 + (layout t).size in
      let within = rest q h op.Mark (ops ++ op.Stop shut ∷ []) (q + 1) (h + 1) refl refl spot in
      record {
        mark = one q h op.Mark (ops ++ op.Stop shut ∷ []) spot;
        inner = left (q + 1) (h + 1) ops (op.Stop shut ∷ []) within;
        stop = one behind (h + 1) (op.Stop shut) []
            (right (q + 1) (h + 1) ops (op.Stop shut ∷ []) behind (h + 1) (ap (λ n. q + 1 + n) (sized t (q + 1))) ((levelled deeper most t).level (q + 1) (h + 1)) within);
      }

  pub record SepLaid (t : Term) (shut q h : ℕ) : Type 0 where
    pub inner : Spot q h ((layout t).code q)
    pub sep : One (q + (layout t).size) h (op.Sep shut)

  pub sep-laid : (t : Term) (shut q h : ℕ) → Spot q h (sep_code (Some (layout t)) shut q) → SepLaid t shut q h
  sep-laid t shut q h spot =
      let ops = (layout t).code q in
      let behind = q + (layout t).size in
      record {
        inner = left q h ops (op.Sep shut ∷ []) spot;
        sep = one behind h (op.Sep shut) [] (right q h ops (op.Sep shut ∷ []) behind h (ap (λ n. q + n) (sized t q)) ((levelled deeper most t).level q h) spot);
      }

  module _ (s : Seq) (p h : ℕ) where
    abbrev stop : Option Block
    stop = option_map layout s.stop

    abbrev sep : Option Block
    sep = option_map layout s.sep

    abbrev elem : Block
    elem = layout s.elem

    abbrev shut : ℕ
    shut = shut_at stop sep elem p

    abbrev first : ℕ
    first = elem_at stop sep elem p

    abbrev edge : ℕ
    edge = edge_at stop sep elem p

    -- the parts of an array at `p`
    pub record Laid : Type 0 where
      pub size_ : One p h (op.Size s.size (shut + 1))
      pub full : One (p + 1) (h + 1) (op.Full s.last s.elts shut)
      pub stops : Spot (p + 2) (h + 1) (stop_code stop shut (p + 2))
      pub over : One edge (h + 1) (op.Edge shut)
      pub turn : One (edge + 1) (h + 1) (op.Turn first)
      pub seps : Spot (edge + 2) (h + 2) (sep_code sep shut (edge + 2))
      pub inner : Spot first (h + 2) (elem.code first)
      pub kept : One (first + elem.size) (h + 2) (op.Elem shut (p + 1))
      pub end : One shut (h + 1) op.Shut

    pub laid : Spot p h ((seq_layout s).code p) → Laid
    laid spot =
        let final = op.Elem shut (p + 1) ∷ op.Shut ∷ [] in
        let seps = sep_code sep shut (edge + 2) in
        let inner = elem.code first in
        let behind_turn = seps ++ (inner ++ final) in
        let turn_part = op.Edge shut ∷ op.Turn first ∷ seps in
        let behind_stop = op.Edge shut ∷ op.Turn first ∷ behind_turn in
        let stops = stop_code stop shut (p + 2) in
        let behind_full = ((stops ++ turn_part) ++ inner) ++ final in
        let behind_size = op.Full s.last s.elts shut ∷ behind_full in
        let regrouped : behind_full ≡ stops ++ behind_stop = append_assoc (stops ++ turn_part) inner final ∙ append_assoc stops turn_part (inner ++ final) in
        let at_full = rest p h (op.Size s.size (shut + 1)) behind_size (p + 1) (h + 1) refl refl spot in
        let at_stop = subst (λ (ops : List Op). Spot (p + 2) (h + 1) ops) regrouped (rest (p + 1) (h + 1) (op.Full s.last s.elts shut) behind_full (p + 2) (h + 1) (omega arith) refl at_full) in
        let at_edge = right (p + 2) (h + 1) stops behind_stop edge (h + 1)
        (ap (λ n. p + 2 + n) (stop-sized s.stop (λ t there. sized t) shut (p + 2)))
        (stop-level deeper most stop (option-levelled deeper most s.stop (λ t there. levelled deeper most t)) shut (p + 2) (h + 1)) at_stop in
        let at_turn = rest edge (h + 1) (op.Edge shut) (op.Turn first ∷ behind_turn) (edge + 1) (h + 1) refl refl at_edge in
        let at_sep = rest (edge + 1) (h + 1) (op.Turn first) behind_turn (edge + 2) (h + 2) (omega arith) (omega arith) at_turn in
        let at_elem = right (edge + 2) (h + 2) seps (inner ++ final) first (h + 2)
        (ap (λ n. edge + 2 + n) (sep-sized s.sep (λ t there. sized t) shut (edge + 2)))
        (sep-level deeper most sep (option-levelled deeper most s.sep (λ t there. levelled deeper most t)) shut (edge + 2) (h + 2)) at_sep in
        let at_kept = right first (h + 2) inner final (first + elem.size) (h + 2)
        (ap (λ n. first + n) (sized s.elem first)) ((levelled deeper most s.elem).level first (h + 2)) at_elem in
        let at_shut = rest (first + elem.size) (h + 2) (op.Elem shut (p + 1)) (op.Shut ∷ []) shut (h + 1) refl (omega arith) at_kept in
        record {
          size_ = one p h (op.Size s.size (shut + 1)) behind_size spot;
          full = one (p + 1) (h + 1) (op.Full s.last s.elts shut) behind_full at_full;
          stops = left (p + 2) (h + 1) stops behind_stop at_stop;
          over = one edge (h + 1) (op.Edge shut) (op.Turn first ∷ behind_turn) at_edge;
          turn = one (edge + 1) (h + 1) (op.Turn first) behind_turn at_turn;
          seps = left (edge + 2) (h + 2) seps (inner ++ final) at_sep;
          inner = left first (h + 2) inner final at_elem;
          kept = one (first + elem.size) (h + 2) (op.Elem shut (p + 1)) (op.Shut ∷ []) at_kept;
          end = one shut (h + 1) op.Shut [] at_shut;
        }
