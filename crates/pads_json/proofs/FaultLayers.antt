-- The faults of a node, layer by layer.
use Rattle.std.proofs.Common.{◌≡◌, ◌∙◌, sym, ap, refl, ℕ, zero, suc, ◌+◌, ◌<◌, true, List, [], ◌∷◌, ◌++◌, map, length, drop, get_or, arith, Option, Some, None}
use Rattle.std.proofs.lemmas.List.{append-nil, append_assoc}
use Rattle.pads_value.specs.declared.descriptor.Pd.{Pd, out-Pd, fold_out-Pd}
use Rattle.pads_value.specs.declared.value.Val.{Val}
use Rattle.pads_calc.specs.declared.decl.Decl.{Decl}
use Rattle.pads_calc.specs.declared.term.Term.{Term}
use Rattle.pads_forms.specs.Forms.{Form, form_at}
use Rattle.pads_json.specs.Places.{place_text}
use Rattle.pads_forms.specs.Slots.{Slot, slot}
use Rattle.pads_forms.specs.Steps.{Step}
use Rattle.pads_json.specs.Faults.{Told, own_fault, faults, faults_step, below, kid_told, kids_faults, has_nothing, is_bare_node, listed}
use Rattle.pads_json.proofs.Written.{listed_append}
use Rattle.pads_value.specs.declared.cause.Cause.{Cause}
use Rattle.pads_value.specs.declared.descriptor.Span.{Span}

-- its own, then those of its kids
pub faults_out : (decls : List Decl) (names : List (List ℕ)) (pd : Pd) (steps : List Step) (v : Option Val) (depth : ℕ) (t : Term)
    → faults decls names pd steps v depth t
    ≡ own_fault (place_text steps) (out-Pd pd).cause (out-Pd pd).span ++ below decls names steps v (form_at decls true depth t) (map (faults decls names) (out-Pd pd).kids)
unfolding faults
faults_out decls names pd steps v depth t = ap (λ (f : Told). f steps v depth t) (fold_out-Pd Told (faults_step decls names) pd)

-- told one after the other
pub faults_written : (decls : List Decl) (names : List (List ℕ)) (pd : Pd) (steps : List Step) (v : Option Val) (depth : ℕ) (t : Term) (form : Option Form) (old own new : List ℕ)
    → own ≡ old ++ listed (own_fault (place_text steps) (out-Pd pd).cause (out-Pd pd).span)
    → form_at decls true depth t ≡ form
    → new ≡ own ++ listed (below decls names steps v form (map (faults decls names) (out-Pd pd).kids))
    → new ≡ old ++ listed (faults decls names pd steps v depth t)
faults_written decls names pd steps v depth t form old own new mine found all =
    let own-told = own_fault (place_text steps) (out-Pd pd).cause (out-Pd pd).span in
    let kids-told = below decls names steps v form (map (faults decls names) (out-Pd pd).kids) in
    rw (faults_out decls names pd steps v depth t, found)
    (all ∙ ap (λ own. own ++ listed kids-told) mine
    ∙ append_assoc old (listed own-told) (listed kids-told)
    ∙ ap (λ told. old ++ told) (sym (listed_append own-told kids-told)))

-- nothing of a bare node
none-below : (decls : List Decl) (names : List (List ℕ)) (steps : List Step) (v : Option Val) (form : Option Form) (cause : Option Cause) (span : Span) (kids : List Pd)
    → has_nothing cause kids ≡ true → own_fault (place_text steps) cause span ++ below decls names steps v form (map (faults decls names) kids) ≡ []
none-below decls names steps v None None span [] h = refl
none-below decls names steps v (Some form) None span [] h = refl
none-below decls names steps v form None span (kid ∷ kids) h = cc
none-below decls names steps v form (Some cause) span kids h = cc

bare-kid : (decls : List Decl) (names : List (List ℕ)) (steps : List Step) (depth : ℕ) (given : Option Slot) (kid : Pd)
    → is_bare_node kid ≡ true → kid_told decls names steps depth given kid ≡ []
bare-kid decls names steps depth None kid h = refl
bare-kid decls names steps depth (Some given) kid h =
    faults_out decls names kid (given.step ∷ steps) given.value depth given.term
    ∙ none-below decls names (given.step ∷ steps) given.value (form_at decls true depth given.term) (out-Pd kid).cause (out-Pd kid).span (out-Pd kid).kids h

pub bare_written : (decls : List Decl) (names : List (List ℕ)) (steps : List Step) (depth : ℕ) (given : Option Slot) (kid : Pd) (old : List ℕ)
    → is_bare_node kid ≡ true → old ≡ old ++ listed (kid_told decls names steps depth given kid)
bare_written decls names steps depth given kid old h =
    sym (append-nil old) ∙ ap (λ told. old ++ listed told) (sym (bare-kid decls names steps depth given kid h))

-- one kid more, and the rest
first-kid : (kids : List Pd) (i : ℕ) (kid : Pd) → i < length kids → drop i kids ≡ get_or kids i kid ∷ drop (suc i) kids
first-kid [] i kid h = absurd (omega (arith, h))
first-kid (x ∷ kids) zero kid h = refl
first-kid (x ∷ kids) (suc i) kid h = first-kid kids i kid (omega (arith, h))

pub kid_next : (decls : List Decl) (names : List (List ℕ)) (steps : List Step) (v : Option Val) (form : Form) (kids : List Pd) (i next : ℕ) (kid : Pd) (old new whole : List ℕ)
    → next ≡ i + 1 → i < length kids → kid ≡ get_or kids i kid
    → new ≡ old ++ listed (kid_told decls names steps form.depth (slot names form.term v i) kid)
    → old ++ listed (kids_faults decls names steps v form i (map (faults decls names) (drop i kids))) ≡ whole
    → new ++ listed (kids_faults decls names steps v form next (map (faults decls names) (drop next kids))) ≡ whole
kid_next decls names steps v form kids i next kid old new whole is_next h is n so_far =
    let told = kid_told decls names steps form.depth (slot names form.term v i) kid in
    let rest = kids_faults decls names steps v form (i + 1) (map (faults decls names) (drop (i + 1) kids)) in
    let more : suc i ≡ i + 1 = omega arith in
    let first : drop i kids ≡ kid ∷ drop (i + 1) kids =
    first-kid kids i kid h ∙ ap (λ (kid : Pd). kid ∷ drop (suc i) kids) (sym is) ∙ ap (λ (n : ℕ). kid ∷ drop n kids) more in
    rw is_next
    (ap (λ text. text ++ listed rest) n
    ∙ append_assoc old (listed told) (listed rest)
    ∙ ap (λ text. old ++ text) (sym (listed_append told rest))
    ∙ ap (λ (kids : List Pd). old ++ listed (kids_faults decls names steps v form i (map (faults decls names) kids))) (sym first)
    ∙ so_far)
