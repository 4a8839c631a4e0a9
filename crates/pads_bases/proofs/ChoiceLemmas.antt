-- The choice of a label as a loop over the labels makes it.
use Rattle.std.proofs.Common.{◌≡◌, ℕ, suc, ◌+◌, ◌<◌, ◌≤◌, Bool, true, false, ◌&&◌, cond, nat_eq, List, [], ◌∷◌, length, drop, get_or, Option, Some, None, refl, sym, ap, ◌∙◌, arith, inl, inr, drop-cons, add-one}
use Rattle.std.proofs.lemmas.List.{get_or-map, drop_all}
use Rattle.std.proofs.lemmas.Bool.{ne_eqb, eq-eqb, lt-ltb, le-ltb, cases_lt}
use Rattle.pads_code.specs.declared.Coding.{Coding}
use Rattle.pads_code.specs.CodePage.{point, points_of}
use Rattle.pads_code.proofs.TextLemmas.{length-points}
use Rattle.pads_bases.specs.declared.enums.Label.{Label}
use Rattle.pads_bases.specs.declared.enums.Choice.{Choice}
use Rattle.pads_bases.specs.Enums.{begins, longer, merged, choice}

pub begins_short : (spelling points : List ℕ) → length points < length spelling → begins spelling points ≡ false
begins_short [] points h = absurd (omega arith)
begins_short (s ∷ ss) [] h = refl
begins_short (s ∷ ss) (p ∷ ps) h = elim (nat_eq p s) as (λ b. (b && begins ss ps) ≡ false) [ true ↦ begins_short ss ps (omega arith) | false ↦ refl ]

merged_none : (a : Option Choice) → merged a None ≡ a
merged_none None = refl
merged_none (Some a) = refl

longer_assoc : (a b : Choice) (c : Option Choice) → longer a (longer b c) ≡ merged (longer a (Some b)) c
longer_assoc a b None = sym (merged_none (longer a (Some b)))
longer_assoc a b (Some c) = elim (cases_lt a.size b.size) [
  | inl ab ↦ elim (cases_lt b.size c.size) [
    | inl bc ↦ rw (lt-ltb a.size b.size ab, lt-ltb b.size c.size bc, lt-ltb a.size c.size (omega arith)) refl
    | inr cb ↦ rw (lt-ltb a.size b.size ab, le-ltb b.size c.size cb, lt-ltb a.size b.size ab) refl
  ]
  | inr ba ↦ elim (cases_lt b.size c.size) [
    | inl bc ↦ rw (le-ltb a.size b.size ba, lt-ltb b.size c.size bc) refl
    | inr cb ↦ rw (le-ltb b.size c.size cb, le-ltb a.size b.size ba, le-ltb a.size c.size (omega arith)) refl
  ]
]

pub merged_assoc : (a : Option Choice) (b : Choice) (c : Option Choice) → merged a (longer b c) ≡ merged (merged a (Some b)) c
merged_assoc None b c = refl
merged_assoc (Some a) b c = longer_assoc a b c

-- the loop over the spelling
pub begins_step : (spelling points : List ℕ) (i : ℕ) → i < length spelling → i < length points
    → begins (drop i spelling) (drop i points) ≡ (nat_eq (get_or points i 0) (get_or spelling i 0) && begins (drop (i + 1) spelling) (drop (i + 1) points))
begins_step spelling points i in_spelling in_points = rw (add-one, drop-cons spelling i 0, drop-cons points i 0) refl

pub begins_differs : (coding : Coding) (spelling bytes : List ℕ) (i : ℕ) → i < length spelling → length spelling ≤ length bytes
    → begins spelling (points_of coding bytes) ≡ begins (drop i spelling) (drop i (points_of coding bytes)) → (point coding (get_or bytes i 0) ≡ get_or spelling i 0 → ⊥) → false ≡ begins spelling (points_of coding bytes)
begins_differs coding spelling bytes i lt long so_far differs =
    let other : nat_eq (get_or (points_of coding bytes) i 0) (get_or spelling i 0) ≡ false =
    rw (get_or-map (point coding) bytes i 0 0 (omega arith)) (ne_eqb _ _ differs) in
    rw (so_far, begins_step spelling (points_of coding bytes) i lt (omega (arith, length-points coding bytes)), other) refl

pub begins_goes_on : (coding : Coding) (spelling bytes : List ℕ) (i : ℕ) → i < length spelling → length spelling ≤ length bytes
    → begins spelling (points_of coding bytes) ≡ begins (drop i spelling) (drop i (points_of coding bytes)) → point coding (get_or bytes i 0) ≡ get_or spelling i 0
    → begins spelling (points_of coding bytes) ≡ begins (drop (i + 1) spelling) (drop (i + 1) (points_of coding bytes))
begins_goes_on coding spelling bytes i lt long so_far same =
    let equal : nat_eq (get_or (points_of coding bytes) i 0) (get_or spelling i 0) ≡ true =
    rw (get_or-map (point coding) bytes i 0 0 (omega arith)) (eq-eqb _ _ same) in
    so_far ∙ rw (begins_step spelling (points_of coding bytes) i lt (omega (arith, length-points coding bytes)), equal) refl

pub begins_whole : (coding : Coding) (spelling bytes : List ℕ) (i : ℕ) → i ≡ length spelling
    → begins spelling (points_of coding bytes) ≡ begins (drop i spelling) (drop i (points_of coding bytes)) → true ≡ begins spelling (points_of coding bytes)
begins_whole coding spelling bytes i all so_far = rw (so_far, drop_all i spelling (omega arith)) refl

-- the loop over the labels
pub choice_none : (points : List ℕ) (labels : List Label) (i : ℕ) (best : Option Choice) → choice 0 labels points ≡ merged best (choice i (drop i labels) points) → i ≡ length labels → best ≡ choice 0 labels points
choice_none points labels i best so_far all = rw (so_far, drop_all i labels (omega arith)) (sym (merged_none best))

taken : (b : Bool) (best : Option Choice) (this : Choice) (later : Option Choice) → merged best (cond b (longer this later) later) ≡ merged (cond b (merged best (Some this)) best) later
taken true best this later = merged_assoc best this later
taken false best this later = refl

pub choice_step : (points : List ℕ) (labels : List Label) (i : ℕ) (best : Option Choice) (label : Label) → i < length labels → label ≡ get_or labels i label
    → choice 0 labels points ≡ merged best (choice i (drop i labels) points)
    → choice 0 labels points ≡ merged (cond (begins label.spelling points) (merged best (Some (record { number = i; size = length label.spelling }))) best) (choice (i + 1) (drop (i + 1) labels) points)
choice_step points labels i best label lt is so_far =
    let later = choice (i + 1) (drop (i + 1) labels) points in
    let this : Choice = record { number = i; size = length label.spelling } in
    let here : drop i labels ≡ label ∷ drop (suc i) labels = drop-cons labels i label lt ∙ ap (λ l. l ∷ drop (suc i) labels) (sym is) in
    so_far ∙ rw (here, add-one) (taken (begins label.spelling points) best this (choice (suc i) (drop (suc i) labels) points))
