-- Parts that are listed already, and those that are still to be listed.
use Rattle.std.proofs.Common.{◌≡◌, ◌∙◌, sym, ap, refl, subst, ℕ, ◌+◌, ◌<◌, ◌≤◌, add-zero, List, [], ◌∷◌, ◌++◌, length, reverse, arith, Option, Some, None, Result, codes}
use Rattle.std.proofs.lemmas.List.{append-nil, append_assoc, length-append, reverse-append, reverse-reverse}
use Rattle.pads_calc.specs.declared.decl.Decl.{Decl}
use Rattle.pads_calc.specs.declared.term.Term.{Term, out-Term}
use Rattle.pads_calc.specs.declared.term.Term.TheVariants as code
use Rattle.pads_value.specs.declared.memory.Refusal.{Refusal}
use Rattle.pads_plan.specs.declared.plan.TooManyParts.{TooManyParts}
use Rattle.pads_plan.specs.Plans.{parts_of}
use Rattle.pads_sums.specs.declared.form.PartForm.{PartForm}
use Rattle.pads_sums.specs.declared.form.PartForm.TheVariants as form
use Rattle.pads_plan.specs.declared.part.PlanPart.{PlanPart}
use Rattle.pads_plan.specs.Expansion.{Listed, Numbered, listing, caller}
use Rattle.pads_plan.specs.Pending.{Listing, Plain, found_at, form_of, kids_of, parts_at, pending, whole}
use Rattle.pads_plan.specs.declared.listing.Pending.{Pending}
use Rattle.pads_plan.specs.declared.part.Step.TheVariants as step
use Rattle.pads_plan.specs.Ways.{Origin, from, own, record_origin, body_origin}
use Rattle.pads_plan.proofs.Rolls.{call_listed, stands_listed}

pub listing_append : (at : ℕ) (xs ys : List Numbered) → listing at (xs ++ ys) ≡ listing at xs ++ listing (at + length (listing at xs)) ys
listing_append at [] ys = ap (λ at. listing at ys) (sym (add-zero at))
listing_append at (x ∷ xs) ys =
    let here = x at in
    let rest = listing (at + length (x at)) xs in
    let places : at + length (x at) + length rest ≡ at + length (x at ++ rest) =
    let both : length (x at ++ rest) ≡ length (x at) + length rest = length-append (x at) rest in omega (arith, both) in
    ap (λ more. x at ++ more) (listing_append (at + length (x at)) xs ys)
    ∙ sym (append_assoc (x at) rest (listing (at + length (x at) + length rest) ys))
    ∙ ap (λ at. (here ++ rest) ++ listing at ys) places

-- a part, with what stands below it put before the rest
pub part_listed : (parts : List PlanPart) (own : PlanPart) (item : Numbered) (kids rest : List Numbered)
    → item (length parts) ≡ own ∷ listing (length parts + 1) kids
    → whole (parts ++ own ∷ []) (kids ++ rest) ≡ whole parts (item ∷ rest)
part_listed parts own item kids rest is =
    let here = listing (length parts + 1) kids in
    let count : length (parts ++ own ∷ []) ≡ length parts + 1 = length-append parts (own ∷ []) in
    let after : length parts + 1 + length here ≡ length parts + length (own ∷ here) = omega arith in
    append_assoc parts (own ∷ []) (listing (length (parts ++ own ∷ [])) (kids ++ rest))
    ∙ ap (λ at. parts ++ own ∷ listing at (kids ++ rest)) count
    ∙ ap (λ more. parts ++ own ∷ more) (listing_append (length parts + 1) kids rest)
    ∙ ap (λ at. parts ++ own ∷ (here ++ listing at rest)) after
    ∙ ap (λ made. parts ++ (made ++ listing (length parts + length made) rest)) (sym is)

-- a part for which there is no room
pub no_room : (parts : List PlanPart) (own : PlanPart) (item : Numbered) (kids rest : List Numbered) (room : ℕ)
    → item (length parts) ≡ own ∷ listing (length parts + 1) kids → room ≤ length parts
    → room < length (whole parts (item ∷ rest))
no_room parts own item kids rest room is full =
    let made = item (length parts) in
    let more = listing (length parts + length made) rest in
    let first : length made ≡ length (listing (length parts + 1) kids) + 1 = ap length is ∙ (omega arith) in
    let both : length (parts ++ (made ++ more)) ≡ length parts + length (made ++ more) = length-append parts (made ++ more) in
    let inner : length (made ++ more) ≡ length made + length more = length-append made more in
    omega (arith, first, both, inner, full)

-- what was found where a term stands: a part, and what stands below it
module _ (decls : List Decl) (names : List (List ℕ)) where
  abbrev Found : ℕ → Option Term → List ℕ → Origin → ℕ → Type 0
  Found left found way origin at = (part : PlanPart) × (kids : List Numbered) × (found_at decls names left found way origin at ≡ part ∷ listing (at + 1) kids)

  found : (left : ℕ) (t : Option Term) (way : List ℕ) (origin : Origin) (at : ℕ) → Plain t → Found left t way origin at
  found left None way origin at plain = (own form.Bare origin, [], refl)
  found left (Some t) way origin at plain = (
    own (form_of names (out-Term t)) origin,
    kids_of names (caller names decls left) way origin.step origin.place at (out-Term t),
    stands_listed names (caller names decls left) t plain.0 plain.1 way origin at,
  )

  pub no_room_found : (left : ℕ) (t : Option Term) (way : List ℕ) (origin : Origin) (parts : List PlanPart) (item : Numbered) (rest : List Numbered) (room : ℕ)
      → Plain t → item (length parts) ≡ found_at decls names left t way origin (length parts) → room ≤ length parts
      → room < length (whole parts (item ∷ rest))
  no_room_found left t way origin parts item rest room plain is full =
      let f = found left t way origin (length parts) plain in
      no_room parts f.0 item f.1 rest room (is ∙ f.2) full

  pub term_listed : (left : ℕ) (t : Term) (way way' : List ℕ) (origin : Origin) (place' : List ℕ) (parts parts' : List PlanPart) (item : Numbered)
      (stack stack' : List Numbered) (form : PartForm) (number : ℕ)
      → Plain (Some t) → item (length parts) ≡ parts_at decls names left t way origin (length parts)
      → form ≡ form_of names (out-Term t) → way' ≡ way → place' ≡ origin.place → number ≡ length parts
      → parts' ≡ parts ++ own form origin ∷ []
      → stack' ≡ stack ++ reverse (kids_of names (caller names decls left) way' origin.step place' number (out-Term t))
      → whole parts' (reverse stack') ≡ whole parts (item ∷ reverse stack)
  term_listed left t way way' origin place' parts parts' item stack stack' form number plain is form-is way-is place-is number-is pushed put =
      let kids = kids_of names (caller names decls left) way origin.step origin.place (length parts) (out-Term t) in
      let here = own (form_of names (out-Term t)) origin in
      let kids-is : kids_of names (caller names decls left) way' origin.step place' number (out-Term t) ≡ kids =
      ap (λ way. kids_of names (caller names decls left) way origin.step place' number (out-Term t)) way-is
      ∙ ap (λ place. kids_of names (caller names decls left) way origin.step place number (out-Term t)) place-is
      ∙ ap (λ number. kids_of names (caller names decls left) way origin.step origin.place number (out-Term t)) number-is in
      let stack-is : reverse stack' ≡ kids ++ reverse stack =
      ap reverse (put ∙ ap (λ (kids : List Numbered). stack ++ reverse kids) kids-is) ∙ reverse-append stack (reverse kids)
      ∙ ap (λ (kids : List Numbered). kids ++ reverse stack) (reverse-reverse kids) in
      let parts-is : parts' ≡ parts ++ here ∷ [] = pushed ∙ ap (λ form. parts ++ own form origin ∷ []) form-is in
      ap (λ (parts : List PlanPart). whole parts (reverse stack')) parts-is ∙ ap (λ (items : List Numbered). whole (parts ++ here ∷ []) items) stack-is
      ∙ part_listed parts here item kids (reverse stack) (is ∙ stands_listed names (caller names decls left) t plain.0 plain.1 way origin (length parts))

  -- the same, where that term was found
  pub found_listed : (left : ℕ) (found : Option Term) (t : Term) (way way' : List ℕ) (origin : Origin) (place' : List ℕ) (parts parts' : List PlanPart) (item : Numbered)
      (stack stack' : List Numbered) (form : PartForm) (number : ℕ)
      → found ≡ Some t → Plain found → item (length parts) ≡ found_at decls names left found way origin (length parts)
      → form ≡ form_of names (out-Term t) → way' ≡ way → place' ≡ origin.place → number ≡ length parts
      → parts' ≡ parts ++ own form origin ∷ []
      → stack' ≡ stack ++ reverse (kids_of names (caller names decls left) way' origin.step place' number (out-Term t))
      → whole parts' (reverse stack') ≡ whole parts (item ∷ reverse stack)
  found_listed left found t way way' origin place' parts parts' item stack stack' form number found-is plain is form-is way-is place-is number-is pushed put =
      term_listed left t way way' origin place' parts parts' item stack stack' form number (subst Plain found-is plain)
      (is ∙ ap (λ t. found_at decls names left t way origin (length parts)) found-is) form-is way-is place-is number-is pushed put

pub one_more : {A : Type 0} (xs : List A) (x : A) (ys : List A) → ys ≡ xs ++ x ∷ [] → length ys ≡ length xs + 1
one_more xs x ys is = ap length is ∙ length-append xs (x ∷ [])

-- the record node, and its body as all that is still to be listed
pub body_whole : (decls : List Decl) (names : List (List ℕ)) (left : ℕ) (t : Term) (parts : List PlanPart) (part : PlanPart) (item : Pending) (stack : List Pending)
    → parts ≡ part ∷ [] → stack ≡ item ∷ [] → item.up ≡ 0 → item.step ≡ step.Body → item.place ≡ codes "$" → item.way ≡ [] → item.left ≡ left → item.term.now ≡ t
    → whole parts (reverse (pending decls names stack)) ≡ part ∷ parts_at decls names left t [] body_origin 1
body_whole decls names left t parts part item stack parts-is stack-is up-is step-is place-is way-is left-is term-is =
    ap (λ (parts : List PlanPart). whole parts (reverse (pending decls names stack))) parts-is
    ∙ ap (λ (stack : List Pending). whole (part ∷ []) (reverse (pending decls names stack))) stack-is
    ∙ ap (λ rest. part ∷ rest) (append-nil (parts_at decls names item.left item.term.now item.way (from item.up item.step item.place) 1))
    ∙ ap (λ up. part ∷ parts_at decls names item.left item.term.now item.way (from up item.step item.place) 1) up-is
    ∙ ap (λ s. part ∷ parts_at decls names item.left item.term.now item.way (from 0 s item.place) 1) step-is
    ∙ ap (λ place. part ∷ parts_at decls names item.left item.term.now item.way (from 0 step.Body place) 1) place-is
    ∙ ap (λ (way : List ℕ). part ∷ parts_at decls names item.left item.term.now way body_origin 1) way-is
    ∙ ap (λ left. part ∷ parts_at decls names left item.term.now [] body_origin 1) left-is
    ∙ ap (λ (t : Term). part ∷ parts_at decls names left t [] body_origin 1) term-is

-- the parts of a record type are those of a call of its declaration, behind the record node
pub type_listed : (decls : List Decl) (names : List (List ℕ)) (number room : ℕ) (t : Term) (result : Result (List PlanPart) (Refusal TooManyParts))
    → t ≡ code.Call number []
    → Listing room (own form.Record record_origin ∷ parts_at decls names (length decls) t [] body_origin 1) result
    → Listing room (parts_of decls names number) result
type_listed decls names number room t result is listed =
    let called = call_listed names (caller names decls (length decls)) number [] in
    subst (λ all. Listing room all result)
    (ap (λ (t : Term). own form.Record record_origin ∷ parts_at decls names (length decls) t [] body_origin 1) is
    ∙ ap (λ (parts : Listed). own form.Record record_origin ∷ parts [] body_origin 1) called) listed
