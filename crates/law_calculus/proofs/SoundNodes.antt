-- A node is sound by the header rule where its kids are.
use Rattle.std.proofs.Common.{◌≡◌, ◌∙◌, ap, refl, subst, arith, ℕ, ◌+◌, ◌≤◌, ◌↔◌, List, [], ◌∷◌, map, sum, Bool, true, false, if◌then◌else◌, Option, None, Some}
use Rattle.std.specs.Prelude.{⊤}
use Rattle.std.proofs.lemmas.List.Sums.{sum_by-cons}
use Rattle.std.proofs.lemmas.Bool.{and_parts}
use Rattle.pads_value.specs.CauseCount.{causes, node_causes}
use Rattle.pads_value.specs.Header.{head, capped, counted, all_clean, is_clean, is_ok_class, class_of, count_of, cause_of, with_cause}
use Rattle.pads_value.specs.declared.cause.Cause.{Cause}
use Rattle.pads_value.specs.declared.descriptor.Class.{Class}
use Rattle.pads_value.specs.declared.descriptor.Class.TheVariants as class
use Rattle.pads_value.specs.declared.descriptor.Own.{Own}
use Rattle.pads_value.specs.declared.descriptor.Span.{Span}
use Rattle.pads_value.specs.declared.descriptor.Pd.{Pd, Pd-F, out-Pd, roll-Pd, out-roll-Pd, roll-out-Pd, map-Pd, fold-roll-Pd, every-Pd, every_here-Pd, every_held-Pd, every_made-Pd}
use Rattle.law_calculus.specs.Soundness.{CountsHere, SpansHere, InOrder, CountsAreSound, SpansAreSound}

-- a fact of every node, kids first
module _ (Q : Pd-F Pd → Type 0) where
  abbrev pub AllEvery : List Pd → Type 0
  AllEvery [] = ⊤
  AllEvery (kid ∷ kids) = every-Pd Q kid × AllEvery kids

  abbrev Such : Type 0
  Such = (z : Pd) × every-Pd Q z

  paired : (kids : List Pd) → AllEvery kids → List Such
  paired [] all = []
  paired (kid ∷ kids) all = (kid, all.0) ∷ paired kids all.1

  paired-is : (kids : List Pd) (all : AllEvery kids) → map (λ (e : Such). e.0) (paired kids all) ≡ kids
  unfolding paired
  paired-is [] all = refl
  paired-is (kid ∷ kids) all = ap (λ rest. kid ∷ rest) (paired-is kids all.1)

  unpaired : (pairs : List Such) → AllEvery (map (λ (e : Such). e.0) pairs)
  unpaired [] = tt
  unpaired (pair ∷ pairs) = (pair.1, unpaired pairs)

  abbrev with_kids : (A : Type 0) → Pd-F Pd → List A → Pd-F A
  with_kids A node kids = record { nerr = node.nerr; class = node.class; cause = node.cause; span = node.span; kids = kids }

  pub every-made : (node : Pd-F Pd) → AllEvery node.kids → Q node → every-Pd Q (roll-Pd node)
  every-made node all here =
      every_made-Pd Q node (with_kids Such node (paired node.kids all)) (ap (with_kids Pd node) (paired-is node.kids all)) here

  pub every-kids : (pd : Pd) → every-Pd Q pd → AllEvery (out-Pd pd).kids
  every-kids pd every =
      let held = every_held-Pd Q pd every in
      subst (λ (node : Pd-F Pd). AllEvery node.kids) held.1 (unpaired held.0.kids)

abbrev pub AllCounts : List Pd → Type 0
AllCounts = AllEvery CountsHere

abbrev pub AllSpans : List Pd → Type 0
AllSpans = AllEvery SpansHere

-- counts
pub causes-roll : (node : Pd-F Pd) → causes (roll-Pd node) ≡ node_causes (map-Pd Pd ℕ causes node)
causes-roll node = fold-roll-Pd ℕ node_causes node

count-is : (pd : Pd) → CountsAreSound pd → (out-Pd pd).nerr ≡ capped (causes pd)
count-is pd sound = (every_here-Pd CountsHere pd sound).all_causes ∙ ap (λ pd. capped (causes pd)) (roll-out-Pd pd)

counted-more : (kid : Pd) (kids : List Pd) → counted (kid ∷ kids) ≡ (out-Pd kid).nerr + counted kids
counted-more kid kids = sum_by-cons (λ kid. (out-Pd kid).nerr) kid kids

causes-more : (kid : Pd) (kids : List Pd) → sum (map causes (kid ∷ kids)) ≡ causes kid + sum (map causes kids)
causes-more kid kids = sum_by-cons (λ n. n) (causes kid) (map causes kids)

total-is : (kids : List Pd) → AllCounts kids → capped (counted kids) ≡ capped (sum (map causes kids))
total-is [] all = refl
total-is (kid ∷ kids) all =
    omega (arith, counted-more kid kids, causes-more kid kids, count-is kid all.0, total-is kids all.1)

is-ok : (c : Class) → is_ok_class c ≡ true → c ≡ class.Ok
is-ok class.Ok ok = refl
is-ok class.Err ok = cc
is-ok class.Fail ok = cc

pub clean-none : (pd : Pd) → CountsAreSound pd → is_clean pd ≡ true → (out-Pd pd).nerr ≡ 0
clean-none pd sound clean = (every_here-Pd CountsHere pd sound).none_is_ok.1 (is-ok (out-Pd pd).class clean)

none-clean : (pd : Pd) → CountsAreSound pd → (out-Pd pd).nerr ≡ 0 → is_clean pd ≡ true
none-clean pd sound none = ap is_ok_class ((every_here-Pd CountsHere pd sound).none_is_ok.0 none)

total-clean : (kids : List Pd) → AllCounts kids → all_clean kids ≡ true → counted kids ≡ 0
total-clean [] all clean = refl
total-clean (kid ∷ kids) all clean =
    omega (
      arith,
      counted-more kid kids,
      clean-none kid all.0 (and_parts (is_clean kid) (all_clean kids) clean).0,
      total-clean kids all.1 (and_parts (is_clean kid) (all_clean kids) clean).1,
    )

total-none : (kids : List Pd) → AllCounts kids → counted kids ≡ 0 → all_clean kids ≡ true
total-none [] all none = refl
total-none (kid ∷ kids) all none =
    let here : is_clean kid ≡ true = none-clean kid all.0 (omega (arith, counted-more kid kids)) in
    let later : all_clean kids ≡ true = total-none kids all.1 (omega (arith, counted-more kid kids)) in
    rw (here, later) refl

if-ok : (b : Bool) → (if b then class.Ok else class.Err) ≡ class.Ok → b ≡ true
if-ok true ok = refl
if-ok false ok = cc

never-ok : (b : Bool) → (if b then class.Fail else class.Err) ≡ class.Ok → ⊥
never-ok true ok = cc
never-ok false ok = cc

abbrev headed : Option Own → Span → List Pd → Pd-F Pd
headed own span kids = record { nerr = count_of own kids; class = class_of own kids; cause = cause_of own; span = span; kids = kids }

headed-ok : (own : Option Own) (kids : List Pd) → AllCounts kids → (count_of own kids ≡ 0) ↔ (class_of own kids ≡ class.Ok)
headed-ok None kids all = (
  λ none. (let clean : all_clean kids ≡ true = total-none kids all (omega arith) in rw clean refl),
  λ ok. (let none : counted kids ≡ 0 = total-clean kids all (if-ok (all_clean kids) ok) in rw none refl),
)
headed-ok (Some own) kids all = (λ none. absurd (omega arith), λ ok. absurd (never-ok own.fails ok))

headed-causes : (own : Option Own) (span : Span) (kids : List Pd) → AllCounts kids → count_of own kids ≡ capped (causes (roll-Pd (headed own span kids)))
headed-causes None span kids all =
    let below : causes (roll-Pd (headed None span kids)) ≡ 0 + sum (map causes kids) = causes-roll (headed None span kids) in
    omega (arith, total-is kids all)
headed-causes (Some own) span kids all =
    let below : causes (roll-Pd (headed (Some own) span kids)) ≡ 1 + sum (map causes kids) = causes-roll (headed (Some own) span kids) in
    omega (arith, total-is kids all)

-- the header rule counts soundly
pub head-counts : (own : Option Own) (span : Span) (kids : List Pd) → AllCounts kids → CountsAreSound (head own span kids)
head-counts own span kids all = every-made CountsHere (headed own span kids) all (record {
  none_is_ok = headed-ok own kids all;
  all_causes = headed-causes own span kids all;
})

pub head-spans : (own : Option Own) (span : Span) (kids : List Pd) → AllSpans kids → InOrder span.begin kids span.end → SpansAreSound (head own span kids)
head-spans own span kids all ordered = every-made SpansHere (headed own span kids) all ordered

-- a clean node that gets a cause of its own
abbrev caused : Cause → ℕ → Pd-F Pd → Pd-F Pd
caused cause begin node =
    record { nerr = 1; class = class.Err; cause = Some cause; span = record { begin = begin; end = node.span.end }; kids = node.kids }

clean-kids : (pd : Pd) → CountsAreSound pd → is_clean pd ≡ true → sum (map causes (out-Pd pd).kids) ≡ 0
clean-kids pd sound clean =
    omega (arith, (every_here-Pd CountsHere pd sound).all_causes, clean-none pd sound clean, causes-roll (out-Pd pd))

pub caused-counts : (cause : Cause) (begin : ℕ) (pd : Pd) → CountsAreSound pd → is_clean pd ≡ true → CountsAreSound (with_cause cause begin pd)
caused-counts cause begin pd sound clean =
    let node = caused cause begin (out-Pd pd) in
    let below : causes (roll-Pd node) ≡ 1 + sum (map causes (out-Pd pd).kids) = causes-roll node in
    every-made CountsHere node (every-kids CountsHere pd sound) (record {
      none_is_ok = (λ none. absurd (omega arith), λ ok. cc);
      all_causes = omega (arith, clean-kids pd sound clean);
    })

earlier : (kids : List Pd) (begin later end : ℕ) → begin ≤ later → InOrder later kids end → InOrder begin kids end
earlier [] begin later end before ordered = omega arith
earlier (kid ∷ kids) begin later end before ordered = (omega (arith, ordered.0), ordered.1, ordered.2)

pub caused-spans : (cause : Cause) (begin : ℕ) (pd : Pd) → SpansAreSound pd → begin ≤ (out-Pd pd).span.begin → SpansAreSound (with_cause cause begin pd)
caused-spans cause begin pd sound before =
    let node = out-Pd pd in
    every-made SpansHere (caused cause begin node) (every-kids SpansHere pd sound)
    (earlier node.kids begin node.span.begin node.span.end before (every_here-Pd SpansHere pd sound))

-- the spans that they have
pub span-head : (own : Option Own) (span : Span) (kids : List Pd) → (out-Pd (head own span kids)).span ≡ span
span-head own span kids = ap (λ (node : Pd-F Pd). node.span) (out-roll-Pd (headed own span kids))

pub span-caused : (cause : Cause) (begin : ℕ) (pd : Pd) → (out-Pd (with_cause cause begin pd)).span ≡ record { begin = begin; end = (out-Pd pd).span.end }
span-caused cause begin pd = ap (λ (node : Pd-F Pd). node.span) (out-roll-Pd (caused cause begin (out-Pd pd)))
