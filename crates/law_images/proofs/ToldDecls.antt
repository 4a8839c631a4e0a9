-- A valid image is that of declarations: those of its bodies, with the parameters that its entries have.
use Rattle.std.proofs.Common.{◌≡◌, ◌∙◌, sym, ap, refl, ℕ, suc, ◌+◌, Bool, true, ◌&&◌, nat_eq, nat_le, List, [], ◌∷◌, ◌++◌, length, map, Option, None, Some}
use Rattle.std.specs.List.{list_all}
use Rattle.std.proofs.lemmas.Bool.{and_parts, eqb-true}
use lib.Pointwise.{pointwise}
use Rattle.pads_erase.specs.declared.skeleton.Skeleton.{Skeleton}
use Rattle.pads_calc.specs.declared.decl.Decl.{Decl}
use Rattle.pads_calc.specs.declared.decl.Shape.{Shape}
use Rattle.pads_calc.specs.Skeletons.{skeleton_of}
use Rattle.pads_module.specs.Counts.{few}
use Rattle.pads_module.specs.Scopes.{shape_there}
use Rattle.pads_image.specs.declared.entry.Entry.{Entry}
use Rattle.pads_image.specs.declared.op.Op.{Op}
use Rattle.pads_image.specs.declared.op.Op.TheVariants as op
use Rattle.pads_image.specs.Blocks.{layout}
use Rattle.pads_image.specs.Code.{IsCodeOf, code_from, entries_from}
use Rattle.pads_image.specs.Opened.{Body}
use Rattle.pads_image.specs.Reads.{bodies_of}
use Rattle.pads_image.specs.Skeletons.{same_skeleton}
use Rattle.pads_image.specs.Validity.{is_valid, longest, begin_at, keep_of, variables_stand}
use Rattle.law_images.proofs.ReadBack.{never}
use Rattle.law_images.proofs.SameSkeletons.{same-is}
use Rattle.law_images.proofs.Shown.{bodies_code, Begin}
use Rattle.law_images.proofs.ToldCode.{bodies-are}

abbrev decls_with : List Body → List Entry → List Decl
decls_with [] entries = []
decls_with (body ∷ bodies) [] = []
decls_with (body ∷ bodies) (entry ∷ entries) =
    (record { name = 0; params = entry.params; body = body.term; set = entry.set }) ∷ decls_with bodies entries

abbrev firsts : List Body → List ℕ
firsts bodies = map (λ body. body.first) bodies

abbrev entry_firsts : List Entry → List ℕ
entry_firsts entries = map (λ entry. entry.first) entries

abbrev skeletons : List Body → List Skeleton
skeletons bodies = map (λ body. skeleton_of body.term) bodies

abbrev entry_skeletons : List Entry → List Skeleton
entry_skeletons entries = map (λ entry. entry.skeleton) entries

-- the bodies' code and the entries are those of declarations, from an address on
record AreOf (bodies : List Body) (entries : List Entry) (p : ℕ) : Type 0 where
  code : bodies_code bodies p ≡ code_from (decls_with bodies entries) p
  same : entries ≡ entries_from (decls_with bodies entries) p
  count : length entries ≡ length (decls_with bodies entries)

decls-are : (bodies : List Body) (entries : List Entry) (p : ℕ) → Begin bodies p → pointwise nat_eq (firsts bodies) (entry_firsts entries) ≡ true
    → pointwise same_skeleton (skeletons bodies) (entry_skeletons entries) ≡ true → AreOf bodies entries p
decls-are [] [] p begin at_ kept = record { code = refl; same = refl; count = refl }
decls-are [] (entry ∷ entries) p begin at_ kept = never at_
decls-are (body ∷ bodies) [] p begin at_ kept = never at_
decls-are (body ∷ bodies) (entry ∷ entries) p begin at_ kept =
    let a = and_parts (nat_eq body.first entry.first) (pointwise nat_eq (firsts bodies) (entry_firsts entries)) at_ in
    let k = and_parts (same_skeleton (skeleton_of body.term) entry.skeleton) (pointwise same_skeleton (skeletons bodies) (entry_skeletons entries)) kept in
    let b = layout body.term in
    let q = p + (b.size + 1) in
    let more = decls-are bodies entries q begin.1 a.1 k.1 in
    let first : entry.first ≡ p = sym (eqb-true body.first entry.first a.0) ∙ begin.0 in
    let skeleton : entry.skeleton ≡ skeleton_of body.term = sym (same-is (skeleton_of body.term) entry.skeleton k.0) in
    let with = λ (first : ℕ) (skeleton : Skeleton). let e : Entry = record { first = first; params = entry.params; set = entry.set; skeleton = skeleton } in e in
    record {
      code = ap (λ rest. b.code p ++ op.Return ∷ rest) more.code;
      same = ap (λ first. with first entry.skeleton ∷ entries) first ∙ ap (λ skeleton. with p skeleton ∷ entries) skeleton
          ∙ ap (λ rest. with p (skeleton_of body.term) ∷ rest) more.same;
      count = ap (λ n. suc n) more.count;
    }

begun : (bodies : List Body) (found : Option (List Body)) (entries : List Entry) → found ≡ Some bodies → begin_at found entries ≡ true → pointwise nat_eq (firsts bodies) (entry_firsts entries) ≡ true
begun bodies found entries is h = ap (λ found. begin_at found entries) (sym is) ∙ h

kept-there : (bodies : List Body) (found : Option (List Body)) (entries : List Entry) → found ≡ Some bodies → keep_of found entries ≡ true
    → pointwise same_skeleton (skeletons bodies) (entry_skeletons entries) ≡ true
kept-there bodies found entries is h = ap (λ found. keep_of found entries) (sym is) ∙ h

some-bodies : (found : Option (List Body)) (entries : List Entry) → begin_at found entries ≡ true → (bodies : List Body) × (found ≡ Some bodies)
some-bodies None entries h = never h
some-bodies (Some bodies) entries h = (bodies, refl)

module _ (code : List Op) (entries : List Entry) (shape : Shape) (valid : is_valid code entries shape ≡ true) where
  abbrev short : Bool
  short = nat_le (length code) longest

  abbrev begins : Bool
  begins = begin_at (bodies_of code) entries

  abbrev keeps : Bool
  keeps = keep_of (bodies_of code) entries

  abbrev stands : Bool
  stands = variables_stand code entries

  abbrev few_params : Bool
  few_params = list_all (λ (entry : Entry). few entry.params) entries

  at_shape : (short && begins && keeps && stands && few_params ≡ true) × (shape_there (length entries) shape ≡ true)
  at_shape = and_parts (short && begins && keeps && stands && few_params) (shape_there (length entries) shape) valid

  at_keeps : (short && begins ≡ true) × (keeps ≡ true)
  at_keeps =
      and_parts (short && begins) keeps
      (and_parts (short && begins && keeps) stands (and_parts (short && begins && keeps && stands) few_params at_shape.0).0).0

  at_begins : begins ≡ true
  at_begins = (and_parts short begins at_keeps.0).1

  pub decls-of : (decls : List Decl) × IsCodeOf decls code entries × (shape_there (length decls) shape ≡ true)
  decls-of =
      let found = some-bodies (bodies_of code) entries at_begins in
      let bodies = found.0 in
      let told = bodies-are code bodies found.1 in
      let all = decls-are bodies entries 0 told.1 (begun bodies (bodies_of code) entries found.1 at_begins) (kept-there bodies (bodies_of code) entries found.1 at_keeps.1) in
      (decls_with bodies entries, record { code_is = sym told.0 ∙ all.code; entries_are = all.same }, ap (λ n. shape_there n shape) (sym all.count) ∙ at_shape.1)
