-- The record types of the source of a description without violations are declared.
use Rattle.std.proofs.Common.{◌≡◌, ◌∙◌, sym, ap, refl, subst, arith, ℕ, zero, suc, ◌+◌, ◌<◌, ◌≤◌, Bool, true, false, not, cond, nat_lt, List, [], ◌∷◌, map, fold, length, take, position, Option, Some, None, slice_get, le-leb, ltb-true}
use Rattle.std.specs.List.{list_any, enumerate_from, position_or_len}
use Rattle.std.proofs.lemmas.List.{length-map}
use Rattle.std.proofs.lemmas.Bool.{not-false}
use Rattle.pads_module.specs.Counts.{few}
use Rattle.pads_ast.specs.declared.decl.Ast.{Ast}
use Rattle.pads_ast.specs.declared.decl.Decl.{Decl as WrittenDecl}
use Rattle.pads_ast.specs.declared.decl.DeclBody.{DeclBody as WrittenBody}
use Rattle.pads_ast.specs.declared.decl.DeclBody.TheVariants as written_body
use Rattle.pads_ast.specs.declared.decl.DeclMark.{DeclMark}
use Rattle.pads_ast.specs.declared.decl.DeclMark.TheVariants as mark
use Rattle.pads_ast.specs.declared.decl.Part.{Part as WrittenPart}
use Rattle.pads_ast.specs.declared.decl.Part.TheVariants as written_part
use Rattle.pads_ast.specs.declared.types.Type.{«Type»}
use Rattle.pads_resolution.specs.declared.decl.Source.{Source}
use Rattle.pads_resolution.specs.Numbers.{short, number_of}
use Rattle.pads_resolution.specs.Resolution.{named_number, listed_record, list_record, plain_source, parts_source, shaped_source, source_by, source_after, source_of, decl_at, resolved}
use Rattle.pads_rules.specs.Faults.{breaks}
use Rattle.pads_rules.specs.Pieces.{Site, sites, sight}
use Rattle.pads_rules.specs.Resolving.{Sight, seen_from, declared}
use Rattle.pads_rules.specs.Texts.{same_text}
use Rattle.pads_ast.specs.Trees.{is_precord}
use Rattle.pads_rules.specs.Violations.{violations}
use Rattle.pads_rules.specs.declared.declared.Declared.{Declared}
use Rattle.pads_rules.specs.declared.rule.Rule.TheVariants as rule
use Rattle.law_descriptions.specs.WellSorted.{Each, IfThere}
use Rattle.law_descriptions.proofs.Outlines.{env-length}
use Rattle.pads_rules.proofs.Faultless.{not-when}
use Rattle.law_descriptions.proofs.Free.{some_record_type}
use Rattle.law_descriptions.proofs.AcceptedLists.{get-there}
use Rattle.law_descriptions.proofs.AcceptedTypes.{few as few-here}

short-below : (k l : ℕ) → k < l → short k < l
short-below k l less = omega arith

module _ (l : ℕ) (some : 0 < l) where
  -- a number of a declaration that is there
  place-below : {A : Type 0} (p : A → Bool) (xs : List A) → length xs ≤ l → number_of (position p xs) < l
  place-below p xs within = by (nat_lt (position_or_len p xs) (length xs)) refl
    where
      by : (b : Bool) → nat_lt (position_or_len p xs) (length xs) ≡ b → number_of (cond b (Some (position_or_len p xs)) None) < l
      by true is = let h = ltb-true (position_or_len p xs) (length xs) is in short-below (position_or_len p xs) l (omega arith)
      by false is = some

  named-below : (types : Sight) (t : «Type») → length types.types ≤ l → named_number types t < l
  unfolding named_number
  named-below types t within = place-below (λ declared. same_text declared.name t.name.text) types.types within

  abbrev IsThere : Source → Type 0
  IsThere source = (source.«record» < l) × IfThere (λ number. number < l) source.header

  abbrev IsSite : Site → Type 0
  IsSite site = (length site.env ≤ l) × (site.number < l)

  listed-below : (types : Sight) (inner : WrittenBody) → length types.types ≤ l → listed_record types inner < l
  listed-below types (written_body.Array d) within = named-below types d.of within
  listed-below types (written_body.Struct d) within = some
  listed-below types (written_body.Union d) within = some
  listed-below types (written_body.Enum d) within = some
  listed-below types (written_body.Typedef d) within = some
  listed-below types (written_body.Opt d) within = some

  list-below : (site : Site) (list : ℕ) → IsSite site → list_record site list < l
  unfolding list_record
  list-below site list h = by (slice_get site.decls list)
    where
      found : Option WrittenDecl → ℕ
      found None = 0
      found (Some d) = listed_record (seen_from site.env list) d.body

      by : (o : Option WrittenDecl) → found o < l
      by None = some
      by (Some d) = listed-below (seen_from site.env list) d.body h.0

  parts-there : (site : Site) (parts : List WrittenPart) → IsSite site → IsThere (parts_source site parts)
  parts-there site (written_part.Field header ∷ written_part.Field list ∷ []) h =
      (list-below site (named_number (sight site) list.of) h, named-below (sight site) header.of h.0)
  parts-there site _ h = (some, tt)

  shaped-there : (site : Site) (inner : WrittenBody) → IsSite site → IsThere (shaped_source site inner)
  shaped-there site (written_body.Struct d) h = parts-there site d.parts h
  shaped-there site (written_body.Array d) h = (named-below (sight site) d.of h.0, tt)
  shaped-there site (written_body.Union d) h = (some, tt)
  shaped-there site (written_body.Enum d) h = (some, tt)
  shaped-there site (written_body.Typedef d) h = (some, tt)
  shaped-there site (written_body.Opt d) h = (some, tt)

  by-mark : (m : Option DeclMark) (source : Source) (site : Site) → IsSite site → IsThere source → IsThere (source_by m source site)
  by-mark None source site h is = is
  by-mark (Some mark.Precord) source site h is = (short-below site.number l h.1, tt)
  by-mark (Some mark.Psource) source site h is = shaped-there site site.decl.body h
  by-mark (Some mark.Precursive) source site h is = is

  folded-there : (all : List Site) (source : Source) → Each IsSite all → IsThere source → IsThere (fold source_after source all)
  unfolding source_after
  folded-there [] source each is = is
  folded-there (site ∷ all) source each is = folded-there all (source_by site.decl.mark source site) each.1 (by-mark site.decl.mark source site each.0 is)

  each-site : (decls : List WrittenDecl) (xs : List WrittenDecl) (from : ℕ) → length (declared decls) ≤ l → from + length xs ≤ l
      → Each IsSite (map (λ (numbered : ℕ × WrittenDecl). record { decls = decls; env = declared decls; number = numbered.0; decl = numbered.1 }) (enumerate_from from xs))
  each-site decls [] from within fits = tt
  each-site decls (x ∷ xs) from within fits = ((within, omega arith), each-site decls xs (from + 1) within (omega arith))

any-there : {A : Type 0} (p : A → Bool) (xs : List A) → list_any p xs ≡ true → 0 < length xs
any-there p [] h = cc
any-there p (x ∷ xs) h = omega arith

module _ (tree : Ast) (none : violations tree ≡ []) where
  pub some-decl : 0 < length tree.decls
  some-decl =
      let marked = list_any (λ (d : WrittenDecl). is_precord d.mark) tree.decls in
      any-there (λ (d : WrittenDecl). is_precord d.mark) tree.decls (not-false marked (not-when (not marked) (breaks rule.NoRecordType tree.end) (some_record_type tree none)))

  source-there : IsThere (length tree.decls) some-decl (source_of (sites tree.decls))
  unfolding source_of
  source-there =
      let l = length tree.decls in
      let within : length (declared tree.decls) ≤ l = let h = env-length tree.decls in omega (arith, h) in
      folded-there l some-decl (sites tree.decls) (plain_source 0) (each-site l some-decl tree.decls tree.decls 0 within (omega arith)) (some-decl, tt)

  few-by : (l : ℕ) → length tree.decls ≡ l → l ≤ 4096
  few-by zero is = omega arith
  few-by (suc m) is = let d = get-there tree.decls m (omega arith) in let h = few-here tree none m d.0 d.1 in omega arith

  long-sites : (xs : List WrittenDecl) (from : ℕ) → length (enumerate_from from xs) ≡ length xs
  long-sites [] from = refl
  long-sites (x ∷ xs) from = ap (λ n. suc n) (long-sites xs (from + 1))

  made-length : length (map decl_at (sites tree.decls)) ≡ length tree.decls
  made-length = length-map (sites tree.decls) decl_at ∙ length-map (enumerate_from 0 tree.decls) _ ∙ long-sites tree.decls 0

pub tree-few : (tree : Ast) → violations tree ≡ [] → few (resolved tree).decls ≡ true
unfolding resolved
tree-few tree none = let h = few-by tree none (length tree.decls) refl in le-leb (length (map decl_at (sites tree.decls))) 65535 (omega (arith, made-length tree none))

pub tree-source : (tree : Ast) → violations tree ≡ [] → (resolved tree).source.«record» < length (resolved tree).decls
unfolding resolved
tree-source tree none = subst (λ l. (source_of (sites tree.decls)).«record» < l) (sym (made-length tree none)) (source-there tree none).0

pub tree-header : (tree : Ast) → violations tree ≡ [] → IfThere (λ number. number < length (resolved tree).decls) (resolved tree).source.header
unfolding resolved
tree-header tree none = subst (λ l. IfThere (λ number. number < l) (source_of (sites tree.decls)).header) (sym (made-length tree none)) (source-there tree none).1
