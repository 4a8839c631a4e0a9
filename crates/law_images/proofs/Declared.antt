-- Where the code of a declaration stands, and what its need bounds.
use Rattle.std.proofs.Common.{◌≡◌, ◌∙◌, sym, ap, refl, subst, arith, ℕ, zero, suc, ◌+◌, ◌≤◌, max, List, [], ◌∷◌, ◌++◌, length, length-append, append_assoc, drop, get_or, Some, None, slice_get}
use Rattle.pads_calc.specs.declared.decl.Decl.{Decl}
use Rattle.pads_module.specs.Scopes.{arities_of}
use Rattle.pads_calc.specs.Skeletons.{skeleton_of}
use Rattle.pads_image.specs.declared.entry.Entry.{Entry}
use Rattle.pads_image.specs.declared.op.Op.{Op}
use Rattle.pads_image.specs.declared.op.Op.TheVariants as op
use Rattle.pads_image.specs.Blocks.{layout}
use Rattle.pads_image.specs.Code.{code_from, entries_from, decl_length}
use Rattle.pads_image.specs.Heights.{Deeper, height_after, needs_from, later_arities, next_arity}
use Rattle.pads_image.proofs.Lengths.{sized}
use Rattle.law_images.proofs.Levels.{AllBelow, height_behind, peak, peak-below, needs-behind}
use Rattle.law_images.proofs.LevelledTerms.{levelled}
use Rattle.pads_image.proofs.Needs.{needs-cons}
use Rattle.law_images.proofs.Places.{StandsAt}

abbrev pub entry_for : Decl → ℕ → Entry
entry_for decl first = record { first = first; params = decl.params; set = decl.set; skeleton = skeleton_of decl.body }

pub undeclared : (decls : List Decl) (from number : ℕ) → slice_get decls number ≡ None → slice_get (entries_from decls from) number ≡ None
undeclared [] from number none = refl
undeclared (d ∷ decls) from zero none = cc
undeclared (d ∷ decls) from (suc number) none = undeclared decls (from + decl_length d) number none

drop-front : {A : Type 0} (xs ys : List A) → drop (length xs) (xs ++ ys) ≡ ys
drop-front [] ys = refl
drop-front (x ∷ xs) ys = drop-front xs ys

module _ (deeper : Deeper) (most : ℕ) where
  -- the needs of declarations whose code begins at an address
  abbrev pub needs_of : List Decl → ℕ → List ℕ
  needs_of decls from = needs_from deeper (later_arities (arities_of decls)) (next_arity (arities_of decls)) 0 (code_from decls from)

  needs-first : (decl : Decl) (decls : List Decl) (from : ℕ) → needs_of (decl ∷ decls) from
      ≡ max (peak deeper most ((layout decl.body).code from) (length decl.params) 0) (length decl.params) ∷ needs_of decls (from + decl_length decl)
  needs-first decl decls from =
      let ops = (layout decl.body).code from in
      let h = length decl.params in
      let level = levelled deeper most decl.body in
      let rest = code_from decls (from + decl_length decl) in
      needs-behind deeper most ops (op.Return ∷ rest) (arities_of decls) h 0 (level.none from)
      ∙ ap (λ g. needs_from deeper (arities_of decls) g (peak deeper most ops h 0) (op.Return ∷ rest)) (level.level from h)
      ∙ needs-cons deeper (arities_of decls) h (peak deeper most ops h 0) op.Return rest

  return-below : (ops : List Op) (below h g : ℕ) → height_behind deeper most ops h ≡ g → below + g ≤ most → AllBelow deeper most below h ops
      → AllBelow deeper most below h (ops ++ op.Return ∷ [])
  return-below [] below h g same fits all = (omega (arith, same, fits), tt)
  return-below (x ∷ xs) below h g same fits all = (all.0, return-below xs below (height_after x h) g same fits all.1)

  -- a declaration by its number: its entry, its code of code that begins at `from`, and that its need bounds
  -- the entries there
  pub record Declared (decls : List Decl) (from number : ℕ) (decl : Decl) : Type 0 where
    pub first : ℕ
    pub entry : slice_get (entries_from decls from) number ≡ Some (entry_for decl first)
    pub front : List Op
    pub back : List Op
    pub code : code_from decls from ≡ front ++ ((layout decl.body).code first ++ op.Return ∷ back)
    pub begins : from + length front ≡ first
    pub bounded : (below : ℕ) → below + get_or (needs_of decls from) number 0 ≤ most
        → AllBelow deeper most below (length decl.params) ((layout decl.body).code first ++ op.Return ∷ [])

  first-bounded : (d : Decl) (decls : List Decl) (from : ℕ) (below : ℕ) → below + get_or (needs_of (d ∷ decls) from) 0 0 ≤ most
      → AllBelow deeper most below (length d.params) ((layout d.body).code from ++ op.Return ∷ [])
  first-bounded d decls from below fits =
      let ops = (layout d.body).code from in
      let h = length d.params in
      let need : get_or (needs_of (d ∷ decls) from) 0 0 ≡ max (peak deeper most ops h 0) h = ap (λ needs. get_or needs 0 0) (needs-first d decls from) in
      return-below ops below h h ((levelled deeper most d.body).level from h) (omega (arith, need, fits))
      (peak-below deeper most ops below h 0 (omega (arith, need, fits)))

  pub declared : (decls : List Decl) (from number : ℕ) (decl : Decl) → slice_get decls number ≡ Some decl → Declared decls from number decl
  declared [] from number decl there = absurd cc
  declared (d ∷ decls) from zero decl there =
      let same : d ≡ decl = cc in
      let P : Decl → Type 0 = λ decl. Declared (d ∷ decls) from zero decl in
      subst P same (record {
        first = from;
        entry = refl;
        front = [];
        back = code_from decls (from + decl_length d);
        code = refl;
        begins = omega arith;
        bounded = first-bounded d decls from;
      })
  declared (d ∷ decls) from (suc number) decl there =
      let more = declared decls (from + decl_length d) number decl there in
      let b = layout d.body in
      record {
        first = more.first;
        entry = more.entry;
        front = b.code from ++ op.Return ∷ more.front;
        back = more.back;
        code = ap (λ rest. b.code from ++ op.Return ∷ rest) more.code
            ∙ sym (append_assoc (b.code from) (op.Return ∷ more.front) ((layout decl.body).code more.first ++ op.Return ∷ more.back));
        begins = omega (arith, more.begins, length-append (b.code from) (op.Return ∷ more.front), sized d.body from);
        bounded = λ below fits.
            let next : get_or (needs_of (d ∷ decls) from) (suc number) 0 ≡ get_or (needs_of decls (from + decl_length d)) number 0 =
            ap (λ needs. get_or needs (suc number) 0) (needs-first d decls from) in
            more.bounded below (omega (arith, next, fits));
      }

  -- from address 0 on
  pub stands : (decls : List Decl) (number : ℕ) (decl : Decl) (d : Declared decls 0 number decl) → StandsAt (code_from decls 0) d.first ((layout decl.body).code d.first ++ op.Return ∷ [])
  stands decls number decl d =
      let body = (layout decl.body).code d.first in
      let at_ : d.first ≡ length d.front = omega (arith, d.begins) in
      record {
        rest = d.back;
        is = ap (λ p. drop p (code_from decls 0)) at_ ∙ ap (λ code. drop (length d.front) code) d.code
            ∙ drop-front d.front (body ++ op.Return ∷ d.back) ∙ sym (append_assoc body (op.Return ∷ []) d.back);
      }
