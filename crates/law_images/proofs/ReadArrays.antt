-- How the layouts of arrays read back.
use Rattle.std.proofs.Common.{◌≡◌, ◌∙◌, sym, ap, refl, arith, eq-eqb, ℕ, ◌+◌, Bool, true, false, nat_eq, List, [], ◌∷◌, ◌++◌, length, length-append, Option, None, Some, option_map, if◌then◌else◌}
use Rattle.std.proofs.lemmas.Bool.{ne_eqb}
use Rattle.pads_erase.specs.declared.skeleton.Skeleton.TheVariants as skeleton
use Rattle.pads_calc.specs.declared.term.Seq.{Seq}
use Rattle.pads_calc.specs.declared.term.Term.{Term}
use Rattle.pads_calc.specs.declared.term.Term.TheVariants as term
use Rattle.pads_module.proofs.SkeletonRolls.{skeleton-Seq}
use Rattle.pads_calc.proofs.Induction.{WhereThere, InSeq}
use Rattle.pads_image.specs.declared.op.Op.{Op}
use Rattle.pads_image.specs.declared.op.Op.TheVariants as op
use Rattle.pads_image.specs.Blocks.{Block, stop_code, sep_size, sep_code, edge_at, elem_at, shut_at, layout, seq_layout}
use Rattle.pads_image.specs.Opened.{Head, Opened, Sized, Filled, Stopping, Edged, Separating, Taking, Shutting, State, Due, Whole}
use Rattle.pads_image.specs.Reads.{code_read, takes_term, only_if}
use Rattle.law_images.proofs.Closed.{both}
use Rattle.pads_image.proofs.Layouts.{layout-Seq}
use Rattle.pads_image.proofs.Lengths.{sized, stop-sized, sep-sized}
use Rattle.law_images.proofs.ReadBack.{Back, by-layout, read-none, read-one, read-then, same-number}

-- the terminator, where there is one
record StopBack (o : Option Term) : Type 0 where
  back : Option Term
  reads : (head : Head) (p : ℕ) (more : List Opened) → code_read p (stop_code (option_map layout o) head.shut p) (Due (Filled head None ∷ more)) ≡ Some (Due (Filled head back ∷ more))

stop-back : (o : Option Term) → WhereThere Back o → StopBack o
stop-back None h = record { back = None; reads = λ head p more. read-none p (Due (Filled head None ∷ more)) }
stop-back (Some t) h =
    let found = h t refl in
    record {
      back = Some found.back;
      reads = λ head p more.
          let code = (layout t).code (p + 1) in
          let q = p + 1 + length code in
          let end = op.Stop head.shut ∷ [] in
          let next = Due (Filled head (Some found.back) ∷ more) in
          read-one p op.Mark (code ++ end) (Due (Filled head None ∷ more)) (Due (Stopping head ∷ more)) refl
          ∙ read-then code end (p + 1) q (Due (Stopping head ∷ more)) (Whole found.back (Stopping head ∷ more)) refl (found.reads (p + 1) (Stopping head ∷ more) refl)
          ∙ read-one q (op.Stop head.shut) [] (Whole found.back (Stopping head ∷ more)) next (ap (λ b. only_if b next) (same-number head.shut))
          ∙ read-none (q + 1) next;
    }

-- a turn, with the separator where there is one
record SepBack (o : Option Term) : Type 0 where
  back : Option Term
  reads : (head : Head) (stop : Option Term) (p elem : ℕ) (more : List Opened) → elem ≡ p + 1 + sep_size (option_map layout o)
      → code_read p (op.Turn elem ∷ sep_code (option_map layout o) head.shut (p + 1)) (Due (Edged head stop ∷ more)) ≡ Some (Due (Taking head stop back ∷ more))

abbrev turned : Bool → Head → Option Term → ℕ → List Opened → State
turned here head stop elem more = Due ((if here then Taking head stop None else Separating head stop elem) ∷ more)

sep-back : (o : Option Term) → WhereThere Back o → SepBack o
sep-back None h = record {
  back = None;
  reads = λ head stop p elem more same.
      let here : nat_eq elem (p + 1) ≡ true = eq-eqb elem (p + 1) (omega (arith, same)) in
      let next = Due (Taking head stop None ∷ more) in
      read-one p (op.Turn elem) [] (Due (Edged head stop ∷ more)) next (ap (λ b. Some (turned b head stop elem more)) here) ∙ read-none (p + 1) next;
}
sep-back (Some t) h =
    let found = h t refl in
    record {
      back = Some found.back;
      reads = λ head stop p elem more same.
          let b = layout t in
          let code = b.code (p + 1) in
          let q = p + 1 + b.size in
          let end = op.Sep head.shut ∷ [] in
          let separating = Separating head stop elem ∷ more in
          let next = Due (Taking head stop (Some found.back) ∷ more) in
          let behind : p + 1 + length code ≡ q = omega (arith, sized t (p + 1)) in
          let there : nat_eq elem (p + 1) ≡ false = ne_eqb elem (p + 1) (λ h. omega (arith, same, h)) in
          let here : nat_eq elem (q + 1) ≡ true = eq-eqb elem (q + 1) (omega (arith, same)) in
          read-one p (op.Turn elem) (code ++ end) (Due (Edged head stop ∷ more)) (Due separating) (ap (λ b. Some (turned b head stop elem more)) there)
          ∙ read-then code end (p + 1) q (Due separating) (Whole found.back separating) behind (found.reads (p + 1) separating refl)
          ∙ read-one q (op.Sep head.shut) [] (Whole found.back separating) next
          (ap (λ b. only_if b next) (both (nat_eq head.shut head.shut) (nat_eq elem (q + 1)) (same-number head.shut) here))
          ∙ read-none (q + 1) next;
    }

module _ (s : Seq) (h : InSeq Back s) where
  abbrev until : StopBack s.stop
  until = stop-back s.stop h.stop

  abbrev between : SepBack s.sep
  between = sep-back s.sep h.sep

  abbrev back : Seq
  back = record { elem = h.elem.back; sep = between.back; size = s.size; last = s.last; stop = until.back; elts = s.elts }

  module _ (p : ℕ) (open_ : List Opened) where
    abbrev stop : Option Block
    stop = option_map layout s.stop

    abbrev sep : Option Block
    sep = option_map layout s.sep

    abbrev edge : ℕ
    edge = edge_at stop sep (layout s.elem) p

    abbrev elem : ℕ
    elem = elem_at stop sep (layout s.elem) p

    abbrev shut : ℕ
    shut = shut_at stop sep (layout s.elem) p

    abbrev head : Head
    head = record { full = p + 1; size = s.size; end = shut + 1; last = s.last; elts = s.elts; shut = shut }

    -- the four pieces of an array's code
    abbrev filling : List Op
    filling = op.Full s.last s.elts shut ∷ stop_code stop shut (p + 2)

    abbrev begins : List Op
    begins = op.Size s.size (shut + 1) ∷ filling

    abbrev turns : List Op
    turns = op.Edge shut ∷ op.Turn elem ∷ sep_code sep shut (edge + 2)

    abbrev takes : List Op
    takes = (layout s.elem).code elem

    abbrev ends : List Op
    ends = op.Elem shut (p + 1) ∷ op.Shut ∷ []

    abbrev sized_at : State
    sized_at = Due (Sized (p + 1) s.size (shut + 1) ∷ open_)

    abbrev filled : State
    filled = Due (Filled head until.back ∷ open_)

    abbrev taking : List Opened
    taking = Taking head until.back between.back ∷ open_

    abbrev whole : State
    whole = Whole (term.Seq back) open_

    begins-read : takes_term open_ ≡ true → code_read p begins (Due open_) ≡ Some filled
    begins-read may =
        let same : p + 1 + 1 ≡ p + 2 = omega arith in
        let first = Due (Filled head None ∷ open_) in
        read-one p (op.Size s.size (shut + 1)) filling (Due open_) sized_at (ap (λ b. only_if b sized_at) may)
        ∙ read-one (p + 1) (op.Full s.last s.elts shut) (stop_code stop shut (p + 2)) sized_at first refl
        ∙ ap (λ q. code_read q (stop_code stop shut (p + 2)) first) same
        ∙ until.reads head (p + 2) open_

    turns-read : code_read edge turns filled ≡ Some (Due taking)
    turns-read =
        let edged = Due (Edged head until.back ∷ open_) in
        let same : edge + 2 ≡ edge + 1 + 1 = omega arith in
        read-one edge (op.Edge shut) (op.Turn elem ∷ sep_code sep shut (edge + 2)) filled edged (ap (λ b. only_if b edged) (same-number shut))
        ∙ ap (λ q. code_read (edge + 1) (op.Turn elem ∷ sep_code sep shut q) edged) same
        ∙ between.reads head until.back (edge + 1) elem open_ (omega arith)

    ends-read : (q : ℕ) → shut ≡ q + 1 → code_read q ends (Whole h.elem.back taking) ≡ Some whole
    ends-read q same =
        let shutting = Due (Shutting head until.back between.back h.elem.back ∷ open_) in
        let here : nat_eq shut (q + 1) ≡ true = eq-eqb shut (q + 1) same in
        let behind : nat_eq (shut + 1) (q + 1 + 1) ≡ true = eq-eqb (shut + 1) (q + 1 + 1) (ap (λ n. n + 1) same) in
        read-one q (op.Elem shut (p + 1)) (op.Shut ∷ []) (Whole h.elem.back taking) shutting
        (ap (λ b. only_if b shutting) (both (nat_eq shut shut) (nat_eq (p + 1) (p + 1)) (same-number shut) (same-number (p + 1))))
        ∙ read-one (q + 1) op.Shut [] shutting whole (ap (λ b. only_if b whole) (both (nat_eq shut (q + 1)) (nat_eq (shut + 1) (q + 1 + 1)) here behind))
        ∙ read-none (q + 1 + 1) whole

    begins-long : p + length begins ≡ edge
    begins-long = omega (arith, stop-sized s.stop (λ t there. sized t) shut (p + 2))

    turns-long : edge + length turns ≡ elem
    turns-long = omega (arith, sep-sized s.sep (λ t there. sized t) shut (edge + 2))

    front-long : p + length (begins ++ turns) ≡ elem
    front-long = omega (arith, length-append begins turns, begins-long, turns-long)

    all-long : p + length ((begins ++ turns) ++ takes) ≡ elem + (layout s.elem).size
    all-long = omega (arith, length-append (begins ++ turns) takes, front-long, sized s.elem elem)

    array-reads : takes_term open_ ≡ true → code_read p ((seq_layout s).code p) (Due open_) ≡ Some whole
    array-reads may =
        let q = elem + (layout s.elem).size in
        let front = read-then begins turns p edge (Due open_) filled begins-long (begins-read may) ∙ turns-read in
        let all = read-then (begins ++ turns) takes p elem (Due open_) (Due taking) front-long front ∙ h.elem.reads elem taking refl in
        read-then ((begins ++ turns) ++ takes) ends p q (Due open_) (Whole h.elem.back taking) all-long all ∙ ends-read q refl

pub seq-back : (s : Seq) → InSeq Back s → Back (term.Seq s)
seq-back s h = record {
  back = term.Seq (back s h);
  reads = by-layout _ _ (term.Seq (back s h)) (layout-Seq s) (array-reads s h);
  skeleton = skeleton-Seq (back s h) ∙ ap (λ element. skeleton.Each element) h.elem.skeleton ∙ sym (skeleton-Seq s);
}
