-- The code of a struct runs as the struct reads, where the code of each part does.
use Rattle.std.proofs.Common.{◌≡◌, ◌∙◌, sym, ap, refl, arith, true, Bool, cond, eqb, ℕ, suc, ◌+◌, ◌≤◌, List, [], ◌∷◌, ◌++◌, length, append_assoc, map, drop, Option, Some, None}
use Rattle.std.proofs.lemmas.Bool.{eq-eqb}
use Rattle.pads_value.specs.declared.descriptor.Pd.{Pd}
use Rattle.pads_value.specs.declared.value.Val.{Val}
use Rattle.pads_value.specs.declared.value.Val.TheVariants as val
use Rattle.pads_expr.specs.Value.{Pairs}
use Rattle.pads_calc.specs.declared.reading.Reading.{Reading}
use Rattle.pads_calc.specs.declared.term.Part.{Part}
use Rattle.pads_calc.specs.declared.term.Term.{Term}
use Rattle.pads_calc.specs.Calculus.{Caller, read, part_reader}
use Rattle.pads_calc.specs.Leaves.{unit_of}
use Rattle.pads_calc.specs.Readings.{Subject, node, values, pds, end_of}
use Rattle.pads_calc.specs.Structs.{bind, in_turn, struct_of}
use Rattle.pads_image.specs.declared.entry.Entry.{Entry}
use Rattle.pads_image.specs.declared.op.Op.{Op}
use Rattle.pads_image.specs.declared.op.Op.TheVariants as op
use Rattle.pads_image.specs.Blocks.{bindings_of, parts_code, parts_size, named, struct_block, layout, part_layout}
use Rattle.pads_image.specs.Heights.{Deeper}
use Rattle.pads_image.specs.States.{State, Node, floor_of, seen}
use Rattle.pads_image.specs.Steps.{Goes, Stuck, new_node, part_step, with_reading}
use Rattle.law_images.proofs.LevelledTerms.{levelled}
use Rattle.pads_image.proofs.Lengths.{parts-sized, sized}
use Rattle.law_images.proofs.Levels.{height_behind, below-left, below-right, parts-level}
use Rattle.law_images.proofs.Places.{first-there, rest-there, left-there, right-there}
use Rattle.law_images.proofs.Reaching.{To, here, once, join, to-same, seen-is, seen-bind, seen-open}
use Rattle.law_images.proofs.ReadBack.{append-none}
use Rattle.pads_calc.proofs.Induction.{EachPart}
use Rattle.law_calculus.proofs.SoundReadings.{SoundReader}
use Rattle.law_images.proofs.Running.{Ready, RunsAs, behind}

module _ (code : List Op) (of_entries : List Entry) (subject : Subject) (most : ℕ) (deeper : Deeper) (depth : ℕ) where
  -- what a struct's node, its bindings and its last reading are behind readings
  abbrev pub node_after : Node → List Reading → Node
  node_after n [] = n
  node_after n (r ∷ rs) = node_after (with_reading n r) rs

  abbrev pub last_of : Reading → List Reading → Reading
  last_of r [] = r
  last_of r (next ∷ rs) = last_of (unit_of subject.origin next.place) rs

  abbrev pub bound_after : List Part → List Reading → Pairs → Pairs
  bound_after [] rs env = env
  bound_after (part ∷ parts) [] env = env
  bound_after (part ∷ parts) (r ∷ rs) env = bound_after parts rs (bind part.name r.value env)

  last-ends : (r : Reading) (rs : List Reading) → (last_of r rs).place ≡ end_of r.place rs
  last-ends r [] = refl
  last-ends r (next ∷ rs) = last-ends (unit_of subject.origin next.place) rs

  node-values : (n : Node) (rs : List Reading) → (node_after n rs).values ≡ n.values ++ values rs
  node-values n [] = sym (append-none n.values)
  node-values n (r ∷ rs) = node-values (with_reading n r) rs ∙ append_assoc n.values (r.value ∷ []) (values rs)

  node-pds : (n : Node) (rs : List Reading) → (node_after n rs).pds ≡ n.pds ++ pds rs
  node-pds n [] = sym (append-none n.pds)
  node-pds n (r ∷ rs) = node-pds (with_reading n r) rs ∙ append_assoc n.pds (r.pd ∷ []) (pds rs)

  node-begin : (n : Node) (rs : List Reading) → (node_after n rs).begin ≡ n.begin
  node-begin n [] = refl
  node-begin n (r ∷ rs) = node-begin (with_reading n r) rs

  node-base : (n : Node) (rs : List Reading) → (node_after n rs).base ≡ n.base
  node-base n [] = refl
  node-base n (r ∷ rs) = node-base (with_reading n r) rs

  bind-more : (name : Option ℕ) (v : _) (env : Pairs) → length (bind name v env) ≡ bindings_of name + length env
  bind-more None v env = omega arith
  bind-more (Some name) v env = omega arith

  drop-bind : (name : Option ℕ) (v : _) (k : ℕ) (env : Pairs) → drop (bindings_of name + k) (bind name v env) ≡ drop k env
  drop-bind None v k env = let same : 0 + k ≡ k = omega arith in ap (λ k. drop k env) same
  drop-bind (Some name) v k env = let more : 1 + k ≡ suc k = omega arith in ap (λ k. drop k ((name, v) ∷ env)) more

  bound-entries : (parts : List Part) (rs : List Reading) (env : Pairs) → length (bound_after parts rs env) ≤ named (map part_layout parts) + length env
  bound-entries [] rs env = omega arith
  bound-entries (part ∷ parts) [] env = omega arith
  bound-entries (part ∷ parts) (r ∷ rs) env = omega (arith, bound-entries parts rs (bind part.name r.value env), bind-more part.name r.value env)

  module _ (call : Caller) (sound : (t : Term) → SoundReader subject (read subject call t)) where
    abbrev readings : List Part → Pairs → ℕ → List Reading
    readings parts env i = in_turn (map (part_reader subject call) parts) env i

    drop-bound : (parts : List Part) (seen_ : Pairs) (i : ℕ) (k : ℕ) (env : Pairs)
        → drop (named (map part_layout parts) + k) (bound_after parts (readings parts seen_ i) env) ≡ drop k env
    drop-bound [] seen_ i k env = let same : 0 + k ≡ k = omega arith in ap (λ k. drop k env) same
    drop-bound (part ∷ parts) seen_ i k env =
        let r = read subject call part.term seen_ i in
        let m = named (map part_layout parts) in
        let same : bindings_of part.name + m + k ≡ m + (bindings_of part.name + k) = omega arith in
        ap (λ n. drop n (bound_after parts (readings parts (bind part.name r.value seen_) r.place) (bind part.name r.value env))) same
        ∙ drop-bound parts (bind part.name r.value seen_) r.place (bindings_of part.name + k) (bind part.name r.value env)
        ∙ drop-bind part.name r.value k env

    drop-named : (parts : List Part) (seen_ : Pairs) (i : ℕ) (env : Pairs)
        → drop (named (map part_layout parts)) (bound_after parts (readings parts seen_ i) env) ≡ env
    drop-named parts seen_ i env =
        let m = named (map part_layout parts) in
        let same : m ≡ m + 0 = omega arith in
        ap (λ n. drop n (bound_after parts (readings parts seen_ i) env)) same ∙ drop-bound parts seen_ i 0 env

    -- each named part has a binding
    bound-size : (parts : List Part) (seen_ : Pairs) (i : ℕ) (env : Pairs)
        → length (bound_after parts (readings parts seen_ i) env) ≡ named (map part_layout parts) + length env
    bound-size [] seen_ i env = omega arith
    bound-size (part ∷ parts) seen_ i env =
        let r = read subject call part.term seen_ i in
        omega (arith, bound-size parts (bind part.name r.value seen_) r.place (bind part.name r.value env), bind-more part.name r.value env)

    abbrev after : List Part → State → Node → List Node → ℕ → List Reading → State
    after parts s n nodes p rs = record s { at_ = p; last = last_of s.last rs; bindings = bound_after parts rs s.bindings; nodes = node_after n rs ∷ nodes }

    abbrev EachRuns : List Part → Type 0
    EachRuns parts = EachPart (λ t. RunsAs code of_entries subject most deeper depth (layout t) (read subject call t)) parts

    parts-run : (parts : List Part) → EachRuns parts → (p below h : ℕ) (s : State) (n : Node) (nodes : List Node) → s.nodes ≡ n ∷ nodes
        → Ready code of_entries subject most deeper depth (parts_code (map part_layout parts) p) p below h s
        → To code of_entries subject most s (after parts s n nodes (p + parts_size (map part_layout parts)) (readings parts (seen s) s.last.place))
    parts-run [] each p below h s n nodes open_ ready =
        let same : s.at_ ≡ p + 0 = omega (arith, ready.at_) in
        to-same code of_entries subject most s s (after [] s n nodes (p + 0) [])
        (ap (λ q. record s { at_ = q }) same ∙ ap (λ nodes. record s { at_ = p + 0; nodes = nodes }) open_)
        (here code of_entries subject most s)
    parts-run (part ∷ parts) each p below h s n nodes open_ ready =
        let b = layout part.term in
        let rest = parts_code (map part_layout parts) (p + b.size + 1) in
        let here_ = op.Part part.name in
        let q = p + b.size in
        let r = read subject call part.term (seen s) s.last.place in
        let t = behind s q r in
        let u : State = record s { at_ = q + 1; last = unit_of subject.origin r.place; bindings = bind part.name r.value s.bindings; nodes = with_reading n r ∷ nodes } in
        let sized_ : p + length (b.code p) ≡ q = ap (λ n. p + n) (sized part.term p) in
        let over = below-right deeper most (b.code p) (here_ ∷ rest) below h h ((levelled deeper most part.term).level p h) ready.fits in
        let behind_ = right-there code p (b.code p) (here_ ∷ rest) q sized_ ready.there in
        let env : seen u ≡ bind part.name r.value (seen s) = seen-is u ∙ seen-bind s part.name r.value ready.sane in
        let last : q + 1 + parts_size (map part_layout parts) ≡ p + (b.size + 1 + parts_size (map part_layout parts)) = omega arith in
        let end = after parts u (with_reading n r) nodes (q + 1 + parts_size (map part_layout parts)) (readings parts (seen u) r.place) in
        to-same code of_entries subject most s end
        (after (part ∷ parts) s n nodes (p + (b.size + 1 + parts_size (map part_layout parts))) (readings (part ∷ parts) (seen s) s.last.place))
        (ap (λ env. after parts u (with_reading n r) nodes (q + 1 + parts_size (map part_layout parts)) (readings parts env r.place)) env
        ∙ ap (λ p. after parts u (with_reading n r) nodes p (readings parts (bind part.name r.value (seen s)) r.place)) last)
        (join code of_entries subject most s t end
        (each 0 part refl p below h s (record {
          at_ = ready.at_;
          deep = ready.deep;
          sane = ready.sane;
          above = ready.above;
          counted = ready.counted;
          within = ready.within;
          there = left-there code p (b.code p) (here_ ∷ rest) ready.there;
          fits = below-left deeper most (b.code p) (here_ ∷ rest) below h ready.fits;
        }))
        (join code of_entries subject most t u end
        (once code of_entries subject most t u q here_ refl (first-there code q here_ rest behind_) (omega (arith, ready.counted, over.0))
        (ap (λ nodes. part_step subject.origin part.name t nodes) open_))
        (parts-run parts (λ k part there. each (suc k) part there) (q + 1) below (h + bindings_of part.name) u (with_reading n r) nodes refl (record {
          at_ = refl;
          deep = ready.deep;
          sane = omega (arith, ready.sane, bind-more part.name r.value s.bindings);
          above = omega (arith, ready.above, ap floor_of open_, bind-more part.name r.value s.bindings);
          counted = omega (arith, ready.counted, bind-more part.name r.value s.bindings, ap length open_);
          within = (sound part.term (seen s) s.last.place).within ready.within;
          there = rest-there code q here_ rest behind_;
          fits = over.1;
        }))))

    pub struct-runs : (parts : List Part) → EachRuns parts → RunsAs code of_entries subject most deeper depth (struct_block (map part_layout parts)) (λ env i. struct_of subject.origin (readings parts env i) i)
    struct-runs parts each p below h s ready =
        let m = named (map part_layout parts) in
        let ops = parts_code (map part_layout parts) (p + 1) in
        let place = s.last.place in
        let rs = readings parts (seen s) place in
        let n = new_node place (length s.bindings) None in
        let t : State = record s { at_ = p + 1; nodes = n ∷ s.nodes } in
        let q = p + 1 + parts_size (map part_layout parts) in
        let u = after parts t n s.nodes q rs in
        let r = struct_of subject.origin rs place in
        let end = behind s (p + (2 + parts_size (map part_layout parts))) r in
        let inner = rest-there code p op.Open (ops ++ op.Close m ∷ []) ready.there in
        let sized_ : p + 1 + length ops ≡ q = omega (arith, parts-sized parts (λ k part there. sized part.term) (p + 1)) in
        let level : height_behind deeper most ops (h + 1) ≡ h + 1 + m = parts-level deeper most parts (λ k part there. levelled deeper most part.term) (p + 1) (h + 1) in
        let over = below-right deeper most ops (op.Close m ∷ []) below (h + 1) (h + 1 + m) level ready.fits.1 in
        let close : (vs : List Val) (ks : List Pd) (b e : ℕ) (bs : Pairs) → State =
        λ vs ks b e bs. record s { at_ = q + 1; last = node subject.origin None (val.Tuple vs) b e ks; bindings = bs } in
        let last_ : q + 1 ≡ p + (2 + parts_size (map part_layout parts)) = omega arith in
        let ends : u.last.place ≡ end_of place rs = last-ends s.last rs in
        let bound : drop m u.bindings ≡ s.bindings = drop-named parts (seen s) place s.bindings in
        let N = node_after n rs in
        let own : eqb (length u.bindings) (N.base + m) ≡ true =
        eq-eqb (length u.bindings) (N.base + m) (omega (arith, bound-size parts (seen s) place s.bindings, node-base n rs)) in
        let made : close N.values N.pds N.begin u.last.place (drop m u.bindings) ≡ close (values rs) (pds rs) place (end_of place rs) s.bindings =
        ap (λ vs. close vs N.pds N.begin u.last.place (drop m u.bindings)) (node-values n rs)
        ∙ ap (λ ks. close (values rs) ks N.begin u.last.place (drop m u.bindings)) (node-pds n rs)
        ∙ ap (λ b. close (values rs) (pds rs) b u.last.place (drop m u.bindings)) (node-begin n rs)
        ∙ ap (λ e. close (values rs) (pds rs) place e (drop m u.bindings)) ends
        ∙ ap (λ bs. close (values rs) (pds rs) place (end_of place rs) bs) bound in
        to-same code of_entries subject most s (behind s (q + 1) r) end (ap (λ p. behind s p r) last_)
        (join code of_entries subject most s t (behind s (q + 1) r)
        (once code of_entries subject most s t p op.Open ready.at_ (first-there code p op.Open (ops ++ op.Close m ∷ []) ready.there)
        (omega (arith, ready.counted, ready.fits.0)) (ap (λ p. Goes (record s { at_ = p + 1; nodes = n ∷ s.nodes })) ready.at_))
        (join code of_entries subject most t u (behind s (q + 1) r)
        (to-same code of_entries subject most t (after parts t n s.nodes q (readings parts (seen t) place)) u
        (ap (λ env. after parts t n s.nodes q (readings parts env place)) (seen-open s (p + 1) (n ∷ s.nodes)))
        (parts-run parts each (p + 1) below (h + 1) t n s.nodes refl (record {
          at_ = refl;
          deep = ready.deep;
          sane = ready.sane;
          above = omega arith;
          counted = omega (arith, ready.counted);
          within = ready.within;
          there = left-there code (p + 1) ops (op.Close m ∷ []) inner;
          fits = below-left deeper most ops (op.Close m ∷ []) below (h + 1) ready.fits.1;
        })))
        (once code of_entries subject most u (behind s (q + 1) r) q (op.Close m) refl
        (first-there code q (op.Close m) [] (right-there code (p + 1) ops (op.Close m ∷ []) q sized_ inner))
        (omega (arith, over.0, ready.counted, bound-entries parts rs s.bindings))
        (ap (λ (found : Bool). cond found (Goes (close N.values N.pds N.begin u.last.place (drop m u.bindings))) Stuck) own ∙ ap (λ s. Goes s) made))))
