-- Values at their homes: what a struct shows while its parts are bound.
use Rattle.std.proofs.Common.{◌≡◌, ◌∙◌, sym, ap, refl, subst, arith, ℕ, zero, suc, ◌+◌, ◌-◌, ◌≤◌, List, [], ◌∷◌, ◌++◌, length, length-drop, take, drop, reverse, Option, Some, None, ⊎_elim}
use Rattle.std.proofs.lemmas.Bool.{cases_lt}
use Rattle.std.proofs.lemmas.List.{length-set, set-append_left, reverse-append}
use Rattle.std.proofs.Math.Seq.{set-append_seam}
use Rattle.pads_value.specs.declared.value.Val.{Val}
use Rattle.pads_expr.specs.Value.{Pairs}
use Rattle.pads_calc.specs.Structs.{bind}
use Rattle.pads_machine.specs.Held.{AreHomes}
use Rattle.pads_machine.specs.Shown.{Homes, above, below, home_of, put_home, put_back, stand_in}

pub reverse-push : {A : Type 0} (xs : List A) (x : A) → reverse (xs ++ x ∷ []) ≡ x ∷ reverse xs
reverse-push xs x = reverse-append xs (x ∷ [])

module _ {A : Type 0} (base : ℕ) where
  pub above-next : (x : A) (xs : List A) → base ≤ length xs → above base (x ∷ xs) ≡ x ∷ above base xs
  above-next x xs within =
      let more : length (x ∷ xs) - base ≡ suc (length xs - base) = omega (arith, within) in
      ap (λ n. take n (x ∷ xs)) more

  pub below-next : (x : A) (xs : List A) → base ≤ length xs → below base (x ∷ xs) ≡ below base xs
  below-next x xs within =
      let more : length (x ∷ xs) - base ≡ suc (length xs - base) = omega (arith, within) in
      ap (λ n. drop n (x ∷ xs)) more

  pub above-all : (xs : List A) → length xs ≤ base → above base xs ≡ []
  above-all xs over =
      let none : length xs - base ≡ zero = omega (arith, over) in
      ap (λ n. take n xs) none

  pub below-all : (xs : List A) → length xs ≤ base → below base xs ≡ xs
  below-all xs over =
      let none : length xs - base ≡ zero = omega (arith, over) in
      ap (λ n. drop n xs) none

above-none : {A : Type 0} (base : ℕ) → above {A = A} base [] ≡ []
above-none {A = A} base = above-all base [] (omega arith)

below-none : {A : Type 0} (base : ℕ) → below {A = A} base [] ≡ []
below-none {A = A} base = below-all base [] (omega arith)

-- one more value behind the others
put-more : (home : Option ℕ) (value x : Val) (values : List Val) → AreHomes (home ∷ []) (length values)
    → put_home home value (values ++ x ∷ []) ≡ put_home home value values ++ x ∷ []
put-more None value x values there = refl
put-more (Some part) value x values there = set-append_left values (x ∷ []) part value there.0

pub put-length : (home : Option ℕ) (value : Val) (values : List Val) → length (put_home home value values) ≡ length values
put-length None value values = refl
put-length (Some part) value values = length-set values part value

first-home : (home : Option ℕ) (homes : Homes) (parts : ℕ) → AreHomes (home ∷ homes) parts → AreHomes (home ∷ []) parts
first-home None homes parts there = tt
first-home (Some part) homes parts there = (there.0, tt)

pub later-homes : (home : Option ℕ) (homes : Homes) (parts : ℕ) → AreHomes (home ∷ homes) parts → AreHomes homes parts
later-homes None homes parts there = there
later-homes (Some part) homes parts there = there.1

pub back-more : (homes : Homes) (bindings : Pairs) (values : List Val) (x : Val) → AreHomes homes (length values)
    → put_back homes bindings (values ++ x ∷ []) ≡ put_back homes bindings values ++ x ∷ []
back-more [] bindings values x there = refl
back-more (home ∷ homes) [] values x there = refl
back-more (home ∷ homes) (b ∷ bindings) values x there =
    let rest : AreHomes homes (length (put_home home b.1 values)) =
    subst (λ n. AreHomes homes n) (sym (put-length home b.1 values)) (later-homes home homes (length values) there) in
    ap (λ values. put_back homes bindings values) (put-more home b.1 x values (first-home home homes (length values) there))
    ∙ back-more homes bindings (put_home home b.1 values) x rest

pub more-homes : (homes : Homes) (parts more : ℕ) → parts ≤ more → AreHomes homes parts → AreHomes homes more
more-homes [] parts more less there = tt
more-homes (None ∷ homes) parts more less there = more-homes homes parts more less there
more-homes (Some part ∷ homes) parts more less there = (omega (arith, there.0, less), more-homes homes parts more less there.1)

-- the next part of a struct, whose value is bound where it has a name
pub part-held : (name : Option ℕ) (value : Val) (values : List Val) (homes : Homes) (bindings : Pairs) (base : ℕ)
    → base ≤ length homes → length homes ≡ length bindings → AreHomes (above base homes) (length values)
    → put_back (above base (home_of name (length values) homes)) (above base (bind name value bindings)) (values ++ stand_in name value ∷ [])
    ≡ put_back (above base homes) (above base bindings) values ++ value ∷ []
part-held None value values homes bindings base within each there = back-more (above base homes) (above base bindings) values value there
part-held (Some name) value values homes bindings base within each there =
    ap (λ homes. put_back homes (above base ((name, value) ∷ bindings)) (values ++ stand_in (Some name) value ∷ [])) (above-next base (Some (length values)) homes within)
    ∙ ap (λ bindings. put_back (Some (length values) ∷ above base homes) bindings (values ++ stand_in (Some name) value ∷ []))
    (above-next base (name, value) bindings (omega (arith, within, each)))
    ∙ ap (λ values. put_back (above base homes) (above base bindings) values) (set-append_seam values (stand_in (Some name) value) [] value)
    ∙ back-more (above base homes) (above base bindings) values value there

-- and the bindings below those of the struct are as before
pub below-bind : (name : Option ℕ) (value : Val) (bindings : Pairs) (base : ℕ) → base ≤ length bindings → below base (bind name value bindings) ≡ below base bindings
below-bind None value bindings base within = refl
below-bind (Some name) value bindings base within = below-next base (name, value) bindings within

pub below-home : (name : Option ℕ) (part : ℕ) (homes : Homes) (base : ℕ) → base ≤ length homes → below base (home_of name part homes) ≡ below base homes
below-home None part homes base within = refl
below-home (Some name) part homes base within = below-next base (Some part) homes within

pub held-homes : (name : Option ℕ) (parts : ℕ) (homes : Homes) (base : ℕ) → base ≤ length homes → AreHomes (above base homes) parts
    → AreHomes (above base (home_of name parts homes)) (parts + 1)
held-homes None parts homes base within there = more-homes (above base homes) parts (parts + 1) (omega arith) there
held-homes (Some name) parts homes base within there =
    subst (λ homes. AreHomes homes (parts + 1)) (sym (above-next base (Some parts) homes within))
    (omega arith, more-homes (above base homes) parts (parts + 1) (omega arith) there)

pub home-length : (name : Option ℕ) (part : ℕ) (value : Val) (homes : Homes) (bindings : Pairs) → length homes ≡ length bindings
    → length (home_of name part homes) ≡ length (bind name value bindings)
home-length None part value homes bindings each = each
home-length (Some name) part value homes bindings each = omega (arith, each)

pub home-more : (name : Option ℕ) (part : ℕ) (homes : Homes) → length homes ≤ length (home_of name part homes)
home-more None part homes = omega arith
home-more (Some name) part homes = omega arith

-- values are put back in two goes
pub back-split : (low base : ℕ) → low ≤ base → (homes : Homes) (bindings : Pairs) (values : List Val) → length homes ≡ length bindings
    → put_back (above low (below base homes)) (above low (below base bindings)) (put_back (above base homes) (above base bindings) values)
    ≡ put_back (above low homes) (above low bindings) values
back-split low base less [] [] values each =
    ap (λ (hs : Homes). put_back (above low hs) (above low (below base [])) (put_back (above base []) (above base []) values)) (below-none base)
    ∙ ap (λ (hs : Homes). put_back hs (above low (below base [])) (put_back (above base []) (above base []) values)) (above-none low)
    ∙ ap (λ (hs : Homes). put_back hs (above base []) values) (above-none base)
    ∙ sym (ap (λ (hs : Homes). put_back hs (above low []) values) (above-none low))
back-split low base less [] (b ∷ bindings) values each = absurd (omega (arith, each))
back-split low base less (home ∷ homes) [] values each = absurd (omega (arith, each))
back-split low base less (home ∷ homes) (b ∷ bindings) values each =
    ⊎_elim
    (λ over.
    let small : length (home ∷ homes) ≤ base = omega (arith, over) in
    let small' : length (b ∷ bindings) ≤ base = omega (arith, over, each) in
    ap (λ hs. put_back (above low (below base (home ∷ homes))) (above low (below base (b ∷ bindings))) (put_back hs (above base (b ∷ bindings)) values)) (above-all base (home ∷ homes) small)
    ∙ ap (λ hs. put_back (above low hs) (above low (below base (b ∷ bindings))) values) (below-all base (home ∷ homes) small)
    ∙ ap (λ bs. put_back (above low (home ∷ homes)) (above low bs) values) (below-all base (b ∷ bindings) small'))
    (λ within.
    let within' : base ≤ length bindings = omega (arith, within, each) in
    let rest = back-split low base less homes bindings (put_home home b.1 values) (omega (arith, each)) in
    ap (λ hs. put_back (above low hs) (above low (below base (b ∷ bindings))) (put_back (above base (home ∷ homes)) (above base (b ∷ bindings)) values)) (below-next base home homes within)
    ∙ ap (λ bs. put_back (above low (below base homes)) (above low bs) (put_back (above base (home ∷ homes)) (above base (b ∷ bindings)) values)) (below-next base b bindings within')
    ∙ ap (λ hs. put_back (above low (below base homes)) (above low (below base bindings)) (put_back hs (above base (b ∷ bindings)) values)) (above-next base home homes within)
    ∙ ap (λ bs. put_back (above low (below base homes)) (above low (below base bindings)) (put_back (home ∷ above base homes) bs values)) (above-next base b bindings within')
    ∙ rest
    ∙ ap (λ bs. put_back (home ∷ above low homes) bs values) (sym (above-next low b bindings (omega (arith, within', less))))
    ∙ ap (λ hs. put_back hs (above low (b ∷ bindings)) values) (sym (above-next low home homes (omega (arith, within, less)))))
    (cases_lt (length homes) base)

pub below-below : {A : Type 0} (low base : ℕ) (xs : List A) → low ≤ base → below low (below base xs) ≡ below low xs
below-below {A = A} low base [] less = ap (λ (ys : List A). below low ys) (below-none base)
below-below low base (x ∷ xs) less =
    ⊎_elim
    (λ over. let small : length (x ∷ xs) ≤ base = omega (arith, over) in ap (λ ys. below low ys) (below-all base (x ∷ xs) small))
    (λ within. ap (λ ys. below low ys) (below-next base x xs within) ∙ below-below low base xs less ∙ sym (below-next low x xs (omega (arith, within, less))))
    (cases_lt (length xs) base)

pub back-length : (homes : Homes) (bindings : Pairs) (values : List Val) → length (put_back homes bindings values) ≡ length values
back-length [] bindings values = refl
back-length (home ∷ homes) [] values = refl
back-length (home ∷ homes) (b ∷ bindings) values = back-length homes bindings (put_home home b.1 values) ∙ put-length home b.1 values

-- the homes that are left are homes still
pub left-homes : (low base : ℕ) → low ≤ base → (homes : Homes) (parts : ℕ) → AreHomes (above low homes) parts → AreHomes (above low (below base homes)) parts
left-homes low base less [] parts there = subst (λ (hs : Homes). AreHomes (above low hs) parts) (sym (below-none base)) there
left-homes low base less (home ∷ homes) parts there =
    ⊎_elim
    (λ over.
    let small : length (home ∷ homes) ≤ base = omega (arith, over) in
    subst (λ hs. AreHomes (above low hs) parts) (sym (below-all base (home ∷ homes) small)) there)
    (λ within.
    let first = subst (λ hs. AreHomes hs parts) (above-next low home homes (omega (arith, within, less))) there in
    subst (λ hs. AreHomes (above low hs) parts) (sym (below-next base home homes within)) (left-homes low base less homes parts (later-homes home (above low homes) parts first)))
    (cases_lt (length homes) base)

pub below-length : {A : Type 0} (base : ℕ) (xs : List A) → base ≤ length xs → length (below base xs) ≡ base
below-length base xs within = omega (arith, length-drop (length xs - base) xs, within)
