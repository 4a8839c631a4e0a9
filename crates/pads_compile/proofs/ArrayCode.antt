-- The code of an array is what begins it, what begins a turn, and the element, one behind the other.
use Rattle.std.proofs.Common.{◌≡◌, ◌∙◌, sym, ap, refl, arith, ℕ, ◌+◌, List, [], ◌∷◌, ◌++◌, length, length-append, append_assoc, option_map, Option, Some, None}
use Rattle.pads_calc.specs.declared.term.Seq.{Seq}
use Rattle.pads_calc.specs.declared.term.Term.{Term}
use Rattle.pads_image.specs.declared.op.Op.{Op}
use Rattle.pads_image.specs.declared.op.Op.TheVariants as op
use Rattle.pads_image.specs.Blocks.{layout, seq_layout, stop_code, stop_size, sep_code, sep_size, edge_at, elem_at, shut_at}
use Rattle.pads_image.proofs.Lengths.{sized}

stop-sized : (o : Option Term) (shut p : ℕ) → length (stop_code (option_map layout o) shut p) ≡ stop_size (option_map layout o)
stop-sized None shut p = refl
stop-sized (Some t) shut p = omega (arith, length-append ((layout t).code (p + 1)) (op.Stop shut ∷ []), sized t (p + 1))

sep-sized : (o : Option Term) (shut p : ℕ) → length (sep_code (option_map layout o) shut p) ≡ sep_size (option_map layout o)
sep-sized None shut p = refl
sep-sized (Some t) shut p = omega (arith, length-append ((layout t).code p) (op.Sep shut ∷ []), sized t p)

module _ (s : Seq) where
  abbrev pub begin_code : ℕ → ℕ → List Op
  begin_code shut p = op.Size s.size (shut + 1) ∷ op.Full s.last s.elts shut ∷ stop_code (option_map layout s.stop) shut (p + 2)

  abbrev pub turn_code : ℕ → ℕ → ℕ → List Op
  turn_code elem shut p = op.Edge shut ∷ op.Turn elem ∷ sep_code (option_map layout s.sep) shut (p + 2)

  abbrev pub elem_code : ℕ → ℕ → ℕ → List Op
  elem_code shut again p = (layout s.elem).code p ++ op.Elem shut again ∷ op.Shut ∷ []

  -- where each of the three begins
  pub turn-place : (code a : List Op) (shut : ℕ) → a ≡ code ++ begin_code shut (length code)
      → length a ≡ length code + 2 + stop_size (option_map layout s.stop)
  turn-place code a shut is =
      omega (arith, ap length is, length-append code (begin_code shut (length code)), stop-sized s.stop shut (length code + 2))

  pub elem-place : (a b : List Op) (elem shut : ℕ) → b ≡ a ++ turn_code elem shut (length a)
      → length b ≡ length a + 2 + sep_size (option_map layout s.sep)
  elem-place a b elem shut is =
      omega (arith, ap length is, length-append a (turn_code elem shut (length a)), sep-sized s.sep shut (length a + 2))

  joined : (code a b e z : List Op) → ((code ++ a) ++ b) ++ (e ++ z) ≡ code ++ (((a ++ b) ++ e) ++ z)
  joined code a b e z =
      ap (λ x. x ++ (e ++ z)) (append_assoc code a b)
      ∙ sym (append_assoc (code ++ (a ++ b)) e z)
      ∙ ap (λ x. x ++ z) (append_assoc code (a ++ b) e)
      ∙ append_assoc code ((a ++ b) ++ e) z

  pub made : (code a b c : List Op) (elem shut : ℕ)
      → elem ≡ elem_at (option_map layout s.stop) (option_map layout s.sep) (layout s.elem) (length code)
      → shut ≡ shut_at (option_map layout s.stop) (option_map layout s.sep) (layout s.elem) (length code)
      → a ≡ code ++ begin_code shut (length code)
      → b ≡ a ++ turn_code elem shut (length a)
      → c ≡ b ++ elem_code shut (length code + 1) (length b)
      → c ≡ code ++ (seq_layout s).code (length code)
  made code a b c elem shut elem_is shut_is a_is b_is c_is =
      let stop = option_map layout s.stop in
      let sep = option_map layout s.sep in
      let p = length code in
      let edge = edge_at stop sep (layout s.elem) p in
      let at_edge : length a ≡ edge = turn-place code a shut a_is in
      let at_elem : length b ≡ elem_at stop sep (layout s.elem) p = elem-place a b elem shut b_is ∙ ap (λ n. n + 2 + sep_size sep) at_edge in
      let whole : ℕ → ℕ → ℕ → ℕ → List Op =
      λ elem shut q r. code ++ (((begin_code shut p ++ turn_code elem shut q) ++ (layout s.elem).code r) ++ op.Elem shut (p + 1) ∷ op.Shut ∷ []) in
      c_is
      ∙ ap (λ x. x ++ elem_code shut (p + 1) (length b)) (b_is ∙ ap (λ x. x ++ turn_code elem shut (length a)) a_is)
      ∙ joined code (begin_code shut p) (turn_code elem shut (length a)) ((layout s.elem).code (length b)) (op.Elem shut (p + 1) ∷ op.Shut ∷ [])
      ∙ ap (λ q. whole elem shut q (length b)) at_edge
      ∙ ap (λ r. whole elem shut edge r) at_elem
      ∙ ap (λ elem. whole elem shut edge (elem_at stop sep (layout s.elem) p)) elem_is
      ∙ ap (λ shut. whole (elem_at stop sep (layout s.elem) p) shut edge (elem_at stop sep (layout s.elem) p)) shut_is
