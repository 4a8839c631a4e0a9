-- Enums read what they spell.
use Rattle.std.proofs.Common.{◌≡◌, ℕ, zero, suc, ◌+◌, ◌≤◌, Bool, true, false, cond, nat_eq, nat_lt, List, [], ◌∷◌, length, take, Option, Some, None, option_map, refl, sym, ap, ◌∙◌, arith, inl, inr, ◌⊎◌}
use Rattle.std.specs.Option.{IsSomeAnd}
use Rattle.std.specs.List.{slice_get}
use Rattle.std.proofs.Math.Seq.{take-length}
use Rattle.std.proofs.lemmas.Bool.{cases_lt, cases_Bool, lt-ltb, le-ltb, eqb-true, eq-eqb, and_parts}
use Rattle.pads_value.specs.declared.reading.Read.TheVariants.{Good}
use Rattle.pads_code.specs.declared.Coding.{Coding}
use Rattle.pads_code.specs.CodePage.{points_of, bytes_of}
use Rattle.pads_code.proofs.TextLemmas.{length-points, length-bytes, points-take, points-bytes}
use Rattle.pads_bases.specs.declared.enums.Label.{Label}
use Rattle.pads_bases.specs.declared.enums.Choice.{Choice}
use Rattle.pads_bases.specs.Enums.{begins, longer, choice, choice_read, enum_reading, enum_spelling, SpellsEnum, SpellingsDiffer}

-- a spelling that begins a text is its front
pub begins_front : (spelling points : List ℕ) → begins spelling points ≡ true → (take (length spelling) points ≡ spelling) × (length spelling ≤ length points)
begins_front [] points h = (refl, omega arith)
begins_front (s ∷ ss) [] h = cc
begins_front (s ∷ ss) (p ∷ ps) h =
    let both = and_parts (nat_eq p s) (begins ss ps) h in
    let rest = begins_front ss ps both.1 in
    (rw (rest.0, eqb-true p s both.0) refl, omega (arith, rest.1))

pub begins_itself : (points : List ℕ) → begins points points ≡ true
begins_itself [] = refl
begins_itself (p ∷ ps) = rw (eq-eqb p p refl, begins_itself ps) refl

-- what a choice among labels says: it is one of them, begins the text, and none that does is longer
pub record Chosen (start : ℕ) (labels : List Label) (points : List ℕ) (c : Choice) : Type 0 where
  pub place : ℕ
  pub label : Label
  pub is : slice_get labels place ≡ Some label
  pub number : c.number ≡ start + place
  pub size : c.size ≡ length label.spelling
  pub begins : begins label.spelling points ≡ true

first_label : (start : ℕ) (l : Label) (ls : List Label) (points : List ℕ) (c : Choice) → begins l.spelling points ≡ true → c ≡ record { number = start; size = length l.spelling } → Chosen start (l ∷ ls) points c
first_label start l ls points c here is =
    record { place = 0; label = l; is = refl; number = ap (λ (x : Choice). x.number) is ∙ omega arith; size = ap (λ (x : Choice). x.size) is; begins = here }

later_label : (start : ℕ) (l : Label) (ls : List Label) (points : List ℕ) (c : Choice) → Chosen (suc start) ls points c → Chosen start (l ∷ ls) points c
later_label start l ls points c chosen =
    record { place = suc chosen.place; label = chosen.label; is = chosen.is; number = omega (arith, chosen.number); size = chosen.size; begins = chosen.begins }

longer_one : (this c : Choice) (later : Option Choice) → longer this later ≡ Some c → (c ≡ this) ⊎ (later ≡ Some c)
longer_one this c None e = inl cc
longer_one this c (Some l) e = elim (nat_lt this.size l.size) as (λ b. cond b (Some l) (Some this) ≡ Some c → (c ≡ this) ⊎ (Some l ≡ Some c)) [ true ↦ λ h. inr h | false ↦ λ h. inl cc ] e

pub choice_is : (start : ℕ) (labels : List Label) (points : List ℕ) (c : Choice) → choice start labels points ≡ Some c → Chosen start labels points c
choice_is start [] points c e = cc
choice_is start (l ∷ ls) points c e =
    elim (cases_Bool (begins l.spelling points)) [
      | inl here ↦
          let this : Choice = record { number = start; size = length l.spelling } in
          let e' : longer this (choice (suc start) ls points) ≡ Some c = rw here at e in
          elim (longer_one this c (choice (suc start) ls points) e') [
            | inl same ↦ first_label start l ls points c here same
            | inr later ↦ later_label start l ls points c (choice_is (suc start) ls points c later)
          ]
      | inr other ↦
          let e' : choice (suc start) ls points ≡ Some c = rw other at e in
          later_label start l ls points c (choice_is (suc start) ls points c e')
    ]

-- every label that begins the text is at most as long as the choice
pub record Reaches (size : ℕ) (r : Option Choice) : Type 0 where
  pub chosen : Choice
  pub is : r ≡ Some chosen
  pub long : size ≤ chosen.size

longer_this : (this : Choice) (later : Option Choice) → Reaches this.size (longer this later)
longer_this this None = record { chosen = this; is = refl; long = omega arith }
longer_this this (Some l) = elim (cases_lt this.size l.size) [
  | inl lt ↦ record { chosen = l; is = rw (lt-ltb this.size l.size lt) refl; long = omega arith }
  | inr le ↦ record { chosen = this; is = rw (le-ltb this.size l.size le) refl; long = omega arith }
]

longer_later : (this l : Choice) → Reaches l.size (longer this (Some l))
longer_later this l = elim (cases_lt this.size l.size) [
  | inl lt ↦ record { chosen = l; is = rw (lt-ltb this.size l.size lt) refl; long = omega arith }
  | inr le ↦ record { chosen = this; is = rw (le-ltb this.size l.size le) refl; long = omega arith }
]

reaches_later : (b : Bool) (size : ℕ) (this : Choice) (later : Option Choice) → Reaches size later → Reaches size (cond b (longer this later) later)
reaches_later false size this later r = r
reaches_later true size this later r =
    let further = longer_later this r.chosen in
    record { chosen = further.chosen; is = rw r.is further.is; long = omega (arith, r.long, further.long) }

pub choice_reaches : (start : ℕ) (labels : List Label) (points : List ℕ) (i : ℕ) (label : Label) → slice_get labels i ≡ Some label → begins label.spelling points ≡ true → Reaches (length label.spelling) (choice start labels points)
choice_reaches start [] points i label is here = cc
choice_reaches start (l ∷ ls) points zero label is here =
    let same : l ≡ label = cc in
    let begun : begins l.spelling points ≡ true = rw same here in
    let this : Choice = record { number = start; size = length l.spelling } in
    let reach = longer_this this (choice (suc start) ls points) in
    record { chosen = reach.chosen; is = rw begun reach.is; long = omega (arith, reach.long, ap (λ (x : Label). length x.spelling) same) }
choice_reaches start (l ∷ ls) points (suc i) label is here =
    reaches_later (begins l.spelling points) (length label.spelling) (record { number = start; size = length l.spelling }) (choice (suc start) ls points) (choice_reaches (suc start) ls points i label is here)

-- what a good reading says
record EnumRead (labels : List Label) (points : List ℕ) (n v : ℕ) : Type 0 where
  label : Label
  is : slice_get labels v ≡ Some label
  size : n ≡ length label.spelling
  front : begins label.spelling points ≡ true

read_choice : (r : Option Choice) (n v : ℕ) → choice_read r ≡ Good n v → (c : Choice) × (r ≡ Some c) × (n ≡ c.size) × (v ≡ c.number)
read_choice None n v e = cc
read_choice (Some c) n v e = (c, refl, cc, cc)

enum_read : (coding : Coding) (labels : List Label) (bytes : List ℕ) (n v : ℕ) → enum_reading coding labels bytes ≡ Good n v → EnumRead labels (points_of coding bytes) n v
unfolding enum_reading
enum_read coding labels bytes n v e =
    let points = points_of coding bytes in
    let found = read_choice (choice 0 labels points) n v e in
    let chosen = choice_is 0 labels points found.0 found.1 in
    let place : v ≡ chosen.place = omega (arith, found.3, chosen.number) in
    record { label = chosen.label; is = ap (slice_get labels) place ∙ chosen.is; size = found.2 ∙ chosen.size; front = chosen.begins }

pub enum_within : (coding : Coding) (labels : List Label) (bytes : List ℕ) (n v : ℕ) → enum_reading coding labels bytes ≡ Good n v → n ≤ length bytes
enum_within coding labels bytes n v e =
    let r = enum_read coding labels bytes n v e in
    omega (arith, r.size, (begins_front r.label.spelling (points_of coding bytes) r.front).1, length-points coding bytes)

pub enum_spelled : (coding : Coding) (labels : List Label) (bytes : List ℕ) (n v : ℕ) → enum_reading coding labels bytes ≡ Good n v → SpellsEnum coding labels v (take n bytes)
enum_spelled coding labels bytes n v e =
    let r = enum_read coding labels bytes n v e in
    record {
      label = r.label;
      is = r.is;
      spelling = sym (points-take coding n bytes) ∙ (ap (λ (k : ℕ). take k (points_of coding bytes)) r.size ∙ (begins_front r.label.spelling (points_of coding bytes) r.front).0);
    }

enum_fits : (coding : Coding) (labels : List Label) (n v : ℕ) (label : Label) → slice_get labels v ≡ Some label → n ≡ length label.spelling → IsSomeAnd (enum_spelling coding labels v) (λ s. length s ≤ n)
unfolding enum_spelling
enum_fits coding labels n v label is size = rw is (omega (arith, length-bytes coding label.spelling, size))

pub enum_canonical : (coding : Coding) (labels : List Label) (bytes : List ℕ) (n v : ℕ) → enum_reading coding labels bytes ≡ Good n v → IsSomeAnd (enum_spelling coding labels v) (λ s. length s ≤ n)
enum_canonical coding labels bytes n v e =
    let r = enum_read coding labels bytes n v e in
    enum_fits coding labels n v r.label r.is r.size

pub enum_reads_back : (coding : Coding) (labels : List Label) (v : ℕ) (bytes : List ℕ) → SpellingsDiffer labels → SpellsEnum coding labels v bytes → enum_reading coding labels bytes ≡ Good (length bytes) v
unfolding enum_reading
enum_reads_back coding labels v bytes differ spells =
    let points = points_of coding bytes in
    let here : begins spells.label.spelling points ≡ true = rw spells.spelling (begins_itself spells.label.spelling) in
    let reach = choice_reaches 0 labels points v spells.label spells.is here in
    let chosen = choice_is 0 labels points reach.chosen reach.is in
    let front = begins_front chosen.label.spelling points chosen.begins in
    let whole : length chosen.label.spelling ≡ length points = omega (arith, front.1, reach.long, chosen.size, ap length spells.spelling) in
    let same : chosen.label.spelling ≡ spells.label.spelling = sym front.0 ∙ (ap (λ (k : ℕ). take k points) whole ∙ (take-length points ∙ spells.spelling)) in
    let place : chosen.place ≡ v = differ chosen.place v chosen.label spells.label chosen.is spells.is same in
    let size : reach.chosen.size ≡ length bytes = omega (arith, chosen.size, whole, length-points coding bytes) in
    let number : reach.chosen.number ≡ v = omega (arith, chosen.number, place) in
    rw (reach.is, size, number) refl

label_of : (coding : Coding) (r : Option Label) (s : List ℕ) → option_map (λ label. bytes_of coding label.spelling) r ≡ Some s → (label : Label) × (r ≡ Some label) × (s ≡ bytes_of coding label.spelling)
label_of coding None s e = cc
label_of coding (Some label) s e = (label, refl, cc)

pub enum_spells : (coding : Coding) (labels : List Label) (v : ℕ) (s : List ℕ) → enum_spelling coding labels v ≡ Some s → SpellsEnum coding labels v s
unfolding enum_spelling
enum_spells coding labels v s e =
    let found = label_of coding (slice_get labels v) s e in
    record { label = found.0; is = found.1; spelling = ap (points_of coding) found.2 ∙ points-bytes coding found.0.spelling }

pub enum_canonical_reads_back : (coding : Coding) (labels : List Label) (v : ℕ) (s : List ℕ) → SpellingsDiffer labels → enum_spelling coding labels v ≡ Some s → enum_reading coding labels s ≡ Good (length s) v
enum_canonical_reads_back coding labels v s differ e = enum_reads_back coding labels v s differ (enum_spells coding labels v s e)
