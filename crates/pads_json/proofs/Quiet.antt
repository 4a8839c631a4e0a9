-- Nodes of which none has a cause: nothing is told of them.
use Rattle.std.proofs.Common.{◌≡◌, ◌∙◌, sym, ap, ap₂, subst, refl, ℕ, ◌+◌, ◌<◌, Bool, true, ◌&&◌, List, [], ◌∷◌, ◌++◌, length, map, take, get_or, codes, Option, Some, None, is_none}
use Rattle.std.proofs.lemmas.Bool.{and_parts}
use Rattle.std.proofs.lemmas.List.{append-nil}
use Rattle.std.proofs.lemmas.List.Folds.{list_all-map, list_all_more}
use Rattle.std.specs.List.{list_all}
use Rattle.serde_json.specs.Data.{Data}
use Rattle.pads_value.specs.declared.cause.Cause.{Cause}
use Rattle.pads_value.specs.declared.descriptor.Pd.{Pd, Pd-F, out-Pd, roll-Pd, map-Pd, fold-roll-Pd, fold_out-Pd, ind-Pd}
use Rattle.pads_value.specs.declared.descriptor.Span.{Span}
use Rattle.pads_value.specs.declared.value.Val.{Val}
use Rattle.pads_calc.specs.declared.decl.Decl.{Decl}
use Rattle.pads_calc.specs.declared.term.Term.{Term}
use Rattle.pads_calc.specs.Rows.{deepest}
use Rattle.pads_forms.specs.Forms.{Form, form_at}
use Rattle.pads_forms.specs.Slots.{Slot, slot}
use Rattle.pads_forms.specs.Steps.{Step}
use Rattle.pads_json.specs.Faults.{Told, own_fault, faults, faults_step, below, kid_faults, kids_faults, is_quiet, quiet_step, has_nothing, is_bare_node, listed}
use Rattle.pads_json.specs.Lines.{body_faults, extra_fault, row_faults}
use Rattle.pads_json.specs.Places.{place_text}

-- layer by layer
quiet-roll : (layer : Pd-F Pd) → is_quiet (roll-Pd layer) ≡ (is_none layer.cause && list_all is_quiet layer.kids)
unfolding is_quiet
quiet-roll layer = fold-roll-Pd Bool quiet_step layer ∙ ap (λ (b : Bool). is_none layer.cause && b) (list_all-map (λ b. b) is_quiet layer.kids)

pub quiet_out : (pd : Pd) → is_quiet pd ≡ (is_none (out-Pd pd).cause && list_all is_quiet (out-Pd pd).kids)
unfolding is_quiet
quiet_out pd = fold_out-Pd Bool quiet_step pd ∙ ap (λ (b : Bool). is_none (out-Pd pd).cause && b) (list_all-map (λ b. b) is_quiet (out-Pd pd).kids)

bare-by : (cause : Option Cause) (kids : List Pd) → has_nothing cause kids ≡ true → (is_none cause && list_all is_quiet kids) ≡ true
bare-by None [] h = refl
bare-by None (kid ∷ kids) h = cc
bare-by (Some cause) kids h = cc

pub bare_quiet : (pd : Pd) → is_bare_node pd ≡ true → is_quiet pd ≡ true
bare_quiet pd h = quiet_out pd ∙ bare-by (out-Pd pd).cause (out-Pd pd).kids h

-- one kid more
pub quiet_next : (kids : List Pd) (i next : ℕ) (kid : Pd) → next ≡ i + 1 → i < length kids → kid ≡ get_or kids i kid → is_quiet kid ≡ true
    → list_all is_quiet (take i kids) ≡ true → list_all is_quiet (take next kids) ≡ true
quiet_next kids i next kid is_next h is quiet so_far =
    rw is_next (list_all_more is_quiet kids i kid h ∙ ap₂ (λ (front last : Bool). front && last) so_far (ap is_quiet (sym is) ∙ quiet))

own-none : (place : List ℕ) (cause : Option Cause) (span : Span) → is_none cause ≡ true → own_fault place cause span ≡ []
own-none place None span h = refl
own-none place (Some cause) span h = cc

module _ (decls : List Decl) (names : List (List ℕ)) where
  faults-roll : (layer : Pd-F Pd) (steps : List Step) (v : Option Val) (depth : ℕ) (t : Term)
      → faults decls names (roll-Pd layer) steps v depth t
      ≡ own_fault (place_text steps) layer.cause layer.span ++ below decls names steps v (form_at decls true depth t) (map (faults decls names) layer.kids)
  unfolding faults
  faults-roll layer steps v depth t = ap (λ (f : Told). f steps v depth t) (fold-roll-Pd Told (faults_step decls names) layer)

  abbrev Quiet : Pd → Type 0
  Quiet pd = (steps : List Step) (v : Option Val) (depth : ℕ) (t : Term) → is_quiet pd ≡ true → faults decls names pd steps v depth t ≡ []

  -- nodes with the fact of each
  abbrev Known : Type 0
  Known = (pd : Pd) × Quiet pd

  abbrev pd_of : Known → Pd
  pd_of e = e.0

  kid-none : (steps : List Step) (depth : ℕ) (given : Option Slot) (e : Known) → is_quiet e.0 ≡ true → kid_faults steps depth given (faults decls names e.0) ≡ []
  kid-none steps depth None e h = refl
  kid-none steps depth (Some given) e h = e.1 (given.step ∷ steps) given.value depth given.term h

  kids-none : (known : List Known) (steps : List Step) (v : Option Val) (form : Form) (at : ℕ) → list_all is_quiet (map pd_of known) ≡ true
      → kids_faults decls names steps v form at (map (faults decls names) (map pd_of known)) ≡ []
  kids-none [] steps v form at h = refl
  kids-none (e ∷ known) steps v form at h =
      let parts = and_parts (is_quiet e.0) (list_all is_quiet (map pd_of known)) h in
      ap₂ (λ (kid rest : List Data). kid ++ rest) (kid-none steps form.depth (slot names form.term v at) e parts.0) (kids-none known steps v form (at + 1) parts.1)

  below-none : (known : List Known) (steps : List Step) (v : Option Val) (form : Option Form) → list_all is_quiet (map pd_of known) ≡ true
      → below decls names steps v form (map (faults decls names) (map pd_of known)) ≡ []
  below-none known steps v None h = refl
  below-none known steps v (Some form) h = kids-none known steps v form 0 h

  quiet-layer : (layer : Pd-F Known) → Quiet (roll-Pd (map-Pd Known Pd pd_of layer))
  quiet-layer layer steps v depth t h =
      let seen = map-Pd Known Pd pd_of layer in
      let parts = and_parts (is_none layer.cause) (list_all is_quiet (map pd_of layer.kids)) (sym (quiet-roll seen) ∙ h) in
      faults-roll seen steps v depth t
      ∙ ap₂ (λ (own rest : List Data). own ++ rest) (own-none (place_text steps) layer.cause layer.span parts.0) (below-none layer.kids steps v (form_at decls true depth t) parts.1)

  quiet-told : (pd : Pd) → Quiet pd
  quiet-told = ind-Pd Quiet (λ x y is. subst (λ (layer : Pd-F Pd). Quiet (roll-Pd layer)) is (quiet-layer y))

  -- ---- a row

  extra-none : (kids : List Pd) → list_all is_quiet kids ≡ true → extra_fault kids ≡ []
  extra-none [] h = refl
  extra-none (extra ∷ more) h =
      let all = and_parts (is_quiet extra) (list_all is_quiet more) h in
      let parts = and_parts (is_none (out-Pd extra).cause) (list_all is_quiet (out-Pd extra).kids) (sym (quiet_out extra) ∙ all.0) in
      own-none (codes ".") (out-Pd extra).cause (out-Pd extra).span parts.0

  body-none : (body : Term) (v : Val) (kids : List Pd) → list_all is_quiet kids ≡ true → body_faults decls names body v kids ≡ []
  body-none body v [] h = refl
  body-none body v (kid ∷ kids) h =
      let parts = and_parts (is_quiet kid) (list_all is_quiet kids) h in
      ap₂ (λ (first rest : List Data). first ++ rest) (quiet-told kid [] (Some v) deepest body parts.0) (extra-none kids parts.1)

  pub quiet_row : (body : Term) (v : Val) (pd : Pd) (old : List ℕ) → is_quiet pd ≡ true → old ≡ old ++ listed (row_faults decls names body v pd)
  quiet_row body v pd old h =
      let parts = and_parts (is_none (out-Pd pd).cause) (list_all is_quiet (out-Pd pd).kids) (sym (quiet_out pd) ∙ h) in
      let nothing = ap₂ (λ (own rest : List Data). own ++ rest) (own-none (codes ".") (out-Pd pd).cause (out-Pd pd).span parts.0) (body-none body v (out-Pd pd).kids parts.1) in
      sym (append-nil old) ∙ ap (λ (told : List Data). old ++ listed told) (sym nothing)
