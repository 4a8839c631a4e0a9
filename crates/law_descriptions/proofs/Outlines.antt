-- The declared types of a tree without violations are what they are by each other's sorts: where the sort of a type
-- leads to another's, it is that one's.
use Rattle.std.proofs.Common.{◌≡◌, ◌∙◌, sym, ap, ap₂, refl, subst, arith, ℕ, zero, suc, ◌+◌, ◌<◌, ◌≤◌, ◌⊎◌, inl, inr, ⊎_elim, Bool, cond, true, false, ◌||◌, not, ◌&&◌, min, nat_lt, if◌then◌else◌, List, [], ◌∷◌, map, flat_map, length, position, Option, Some, None, option_map, is_none, slice_get}
use Rattle.std.specs.Prelude.{⊤}
use Rattle.std.specs.List.{enumerate_from, position_or_len}
use Rattle.std.proofs.lemmas.Bool.{ltb-true}
use Rattle.pads_ast.specs.declared.decl.Decl.{Decl}
use Rattle.pads_ast.specs.declared.decl.DeclBody.{DeclBody}
use Rattle.pads_ast.specs.declared.decl.DeclBody.TheVariants as decl
use Rattle.pads_ast.specs.declared.decl.DeclMark.{DeclMark}
use Rattle.pads_ast.specs.declared.decl.Part.{Part}
use Rattle.pads_ast.specs.declared.name.Name.{Name}
use Rattle.pads_ast.specs.declared.types.Branch.{Branch}
use Rattle.pads_ast.specs.declared.types.Param.{Param}
use Rattle.pads_ast.specs.declared.types.Type.{«Type»}
use Rattle.pads_ast.specs.Trees.{is_empty, written, name_of, params_of, named_part, branches_of, is_precord, is_precursive}
use Rattle.pads_base_names.specs.declared.meaning.BaseName.{BaseName}
use Rattle.pads_base_names.specs.Names.{base_name}
use Rattle.pads_rules.specs.DeclRules.{may_recur}
use Rattle.pads_rules.specs.Resolving.{Sight, Meaning, Known, Undeclared, seen_from, is_precursive_type, may_be_named, first_of, if_may, named_number, type_at, named_type, of_declared, unless_base, meaning, meaning_sort, behind_popt, type_sort, is_precord_type, plain_meaning, is_record_list_body, is_record_list, named, branch_named, fields, content_in, sort_in, wrap, lead_to, popts, type_lead, lead_in, or_unknown, lead_at, sort_after, outline, by_number, unsorted, lead_of, leads, outlines, declare, declared}
use Rattle.pads_rules.specs.Sorts.{optional, optional_by, base_sort}
use Rattle.pads_rules.specs.Texts.{same_text}
use Rattle.pads_rules.specs.declared.declared.Content.{Content}
use Rattle.pads_rules.specs.declared.declared.Content.TheVariants as content
use Rattle.pads_rules.specs.declared.declared.Declared.{Declared}
use Rattle.pads_rules.specs.declared.declared.Named.{Named}
use Rattle.pads_rules.specs.declared.expr_sort.ExprSort.{ExprSort}
use Rattle.pads_rules.specs.declared.expr_sort.ExprSort.TheVariants as expr_sort
use Rattle.pads_rules.specs.declared.lead.Lead.{Lead}
use Rattle.pads_rules.specs.declared.lead.Lead.TheVariants as lead
use Rattle.law_descriptions.proofs.AcceptedLists.{numbered-there}
use Rattle.law_descriptions.proofs.Lists.{there-mapped, mapped-there}
use Rattle.law_calculus.proofs.Bases.{there-below}
use Rattle.pads_calc.proofs.Choices.{slice_get-map}

-- declarations by number
pub by-number-at : {A : Type 0} (f : ℕ → Decl → A) (decls : List Decl) (n : ℕ) (d : Decl) → slice_get decls n ≡ Some d → slice_get (by_number f decls) n ≡ Some (f n d)
by-number-at f decls n d there =
    let number : 0 + n ≡ n = omega arith in
    there-mapped (λ (numbered : ℕ × Decl). f numbered.0 numbered.1) (enumerate_from 0 decls) n (0 + n, d) (numbered-there decls 0 n d there)
    ∙ ap (λ (m : ℕ). Some (f m d)) number

length-numbered : {A : Type 0} (xs : List A) (from : ℕ) → length (enumerate_from from xs) ≡ length xs
length-numbered [] from = refl
length-numbered (x ∷ xs) from = ap (λ n. suc n) (length-numbered xs (from + 1))

long-map : {A B : Type 0} (f : A → B) (xs : List A) → length (map f xs) ≡ length xs
long-map f [] = refl
long-map f (x ∷ xs) = ap (λ n. suc n) (long-map f xs)

pub by-number-length : {A : Type 0} (f : ℕ → Decl → A) (decls : List Decl) → length (by_number f decls) ≡ length decls
by-number-length f decls = long-map (λ (numbered : ℕ × Decl). f numbered.0 numbered.1) (enumerate_from 0 decls) ∙ length-numbered decls 0

mapped-numbers : {A B : Type 0} (f : ℕ → Decl → A) (g : A → B) (h : Decl → B) → ((n : ℕ) (d : Decl) → g (f n d) ≡ h d) → (decls : List Decl) (from : ℕ)
    → map g (map (λ (numbered : ℕ × Decl). f numbered.0 numbered.1) (enumerate_from from decls)) ≡ map h decls
mapped-numbers f g h same [] from = refl
mapped-numbers f g h same (d ∷ decls) from =
    ap (λ first. first ∷ map g (map (λ (numbered : ℕ × Decl). f numbered.0 numbered.1) (enumerate_from (from + 1) decls))) (same from d)
    ∙ ap (λ rest. h d ∷ rest) (mapped-numbers f g h same decls (from + 1))

map-twice : {A B C : Type 0} (f : A → B) (g : B → C) (xs : List A) → map g (map f xs) ≡ map (λ x. g (f x)) xs
map-twice f g [] = refl
map-twice f g (x ∷ xs) = ap (λ rest. g (f x) ∷ rest) (map-twice f g xs)

map-same : {A B : Type 0} (f g : A → B) → ((x : A) → f x ≡ g x) → (xs : List A) → map f xs ≡ map g xs
map-same f g same [] = refl
map-same f g same (x ∷ xs) = ap (λ first. first ∷ map f xs) (same x) ∙ ap (λ rest. g x ∷ rest) (map-same f g same xs)

-- what a type name asks of types: their names and marks
abbrev Face : Type 0
Face = List ℕ × Option DeclMark

abbrev face : Declared → Face
face declared = (declared.name, declared.mark)

abbrev decl_face : Decl → Face
decl_face d = ((name_of d.body).text, d.mark)

abbrev faces : List Declared → List Face
faces types = map face types

outlines-faces : (decls : List Decl) → faces (outlines decls) ≡ map decl_face decls
unfolding outlines
outlines-faces decls = mapped-numbers (λ number d. outline (sort_after (leads decls) (suc (length decls)) (lead_of decls number d)) d) face decl_face (λ n d. refl) decls 0

unsorted-faces : (decls : List Decl) → faces (unsorted decls) ≡ map decl_face decls
unfolding unsorted
unsorted-faces decls = map-twice (outline expr_sort.Unknown) face decls

declared-faces : (decls : List Decl) → faces (declared decls) ≡ map decl_face decls
unfolding declared
declared-faces decls = mapped-numbers (λ number d. declare (seen_from (outlines decls) number) d) face decl_face (λ n d. refl) decls 0

front-mapped : {A B : Type 0} (f : A → B) (p : B → Bool) (xs : List A) → position_or_len p (map f xs) ≡ position_or_len (λ x. p (f x)) xs
front-mapped f p [] = refl
front-mapped f p (x ∷ xs) = ap (λ n. cond (not (p (f x))) (1 + n) 0) (front-mapped f p xs)

position-mapped : {A B : Type 0} (f : A → B) (p : B → Bool) (xs : List A) → position p (map f xs) ≡ position (λ x. p (f x)) xs
position-mapped f p xs = ap₂ (λ (k l : ℕ). cond (nat_lt k l) (Some k) None) (front-mapped f p xs) (long-map f xs)

-- by what stands there first
first-face : (types : List Declared) (name : List ℕ) → first_of types name ≡ position (λ (f : Face). same_text f.0 name) (faces types)
first-face types name = sym (position-mapped face (λ (f : Face). same_text f.0 name) types)

abbrev recurs_face : Option Face → Bool
recurs_face (Some f) = is_precursive f.1
recurs_face None = false

recurs-by : (o : Option Declared) → is_precursive_type o ≡ recurs_face (option_map face o)
recurs-by (Some x) = refl
recurs-by None = refl

module _ (xs ys : List Declared) (same : faces xs ≡ faces ys) (n : ℕ) where
  recurs-same : (k : ℕ) → is_precursive_type (slice_get xs k) ≡ is_precursive_type (slice_get ys k)
  recurs-same k =
      recurs-by (slice_get xs k) ∙ ap recurs_face (sym (slice_get-map face xs k) ∙ ap (λ fs. slice_get fs k) same ∙ slice_get-map face ys k) ∙ sym (recurs-by (slice_get ys k))

  may-same : (o : Option ℕ) → if_may (seen_from xs n) o ≡ if_may (seen_from ys n) o
  may-same (Some k) = ap (λ b. if nat_lt k n || b then Some k else None) (recurs-same k)
  may-same None = refl

  pub number-same : (name : List ℕ) → named_number (seen_from xs n) name ≡ named_number (seen_from ys n) name
  number-same name =
      ap (if_may (seen_from xs n)) (first-face xs name ∙ ap (position (λ (f : Face). same_text f.0 name)) same ∙ sym (first-face ys name))
      ∙ may-same (first_of ys name)

-- A name's number, where it has one: that of a type of this name that may be named.
may-number : (sight : Sight) (o : Option ℕ) (k : ℕ) → if_may sight o ≡ Some k → (o ≡ Some k) × (may_be_named sight k ≡ true)
may-number sight None k is = cc
may-number sight (Some m) k is = by (may_be_named sight m) refl is
  where
    by : (b : Bool) → may_be_named sight m ≡ b → (if b then Some m else None) ≡ Some k → (Some m ≡ Some k) × (may_be_named sight k ≡ true)
    by true may is = (is, (let same : m ≡ k = cc in subst (λ k. may_be_named sight k ≡ true) same may))
    by false may is = cc

-- a position is that of an item
position-there : {A : Type 0} (p : A → Bool) (xs : List A) (k : ℕ) → position p xs ≡ Some k → k < length xs
position-there p xs k is = by (nat_lt (position_or_len p xs) (length xs)) refl is
  where
    by : (b : Bool) → nat_lt (position_or_len p xs) (length xs) ≡ b → cond b (Some (position_or_len p xs)) None ≡ Some k → k < length xs
    by true less is = let same : position_or_len p xs ≡ k = cc in let h = ltb-true (position_or_len p xs) (length xs) less in omega (arith, same, h)
    by false less is = cc

decl-there : (xs : List Decl) (k : ℕ) → k < length xs → (d : Decl) × (slice_get xs k ≡ Some d)
decl-there [] k less = absurd (omega arith)
decl-there (d ∷ ds) zero less = (d, refl)
decl-there (d ∷ ds) (suc k) less = decl-there ds k (omega (arith, less))

beyond : {A : Type 0} (xs : List A) (k : ℕ) → length xs ≤ k → slice_get xs k ≡ None
beyond [] k above = refl
beyond (x ∷ xs) zero above = absurd (omega (arith, above))
beyond (x ∷ xs) (suc k) above = beyond xs k (omega (arith, above))

none-above : {A : Type 0} (xs : List A) (k : ℕ) → slice_get xs k ≡ None → length xs ≤ k
none-above [] k none = omega arith
none-above (x ∷ xs) zero none = cc
none-above (x ∷ xs) (suc k) none = let h = none-above xs k none in omega (arith, h)

-- Declarations of which those that are marked `Precursive` tell their sort themselves.
abbrev pub Recur : List Decl → Type 0
Recur decls = (k : ℕ) (d : Decl) → slice_get decls k ≡ Some d → is_precursive d.mark ≡ true → may_recur d.body ≡ true

-- a type that is named from a declaration is an earlier one, or marked `Precursive`
pub record Names (decls : List Decl) (n k : ℕ) : Type 0 where
  pub d : Decl
  pub there : slice_get decls k ≡ Some d
  pub fine : (k < n) ⊎ (is_precursive d.mark ≡ true)

module _ (decls : List Decl) (own : Recur decls) where
  abbrev size : ℕ
  size = length decls

  abbrev here : ℕ → Lead → ExprSort
  here steps l = sort_after (leads decls) steps l

  abbrev bare_sight : ℕ → Sight
  bare_sight n = seen_from (unsorted decls) n

  abbrev outlined : ℕ → Sight
  outlined n = seen_from (outlines decls) n

  lead-there : (k : ℕ) (d : Decl) → slice_get decls k ≡ Some d → lead_at (leads decls) k ≡ lead_of decls k d
  unfolding leads
  lead-there k d there = ap or_unknown (by-number-at (lead_of decls) decls k d there)

  -- what tells its sort itself
  own-lead : (sight : Sight) (inner : DeclBody) → may_recur inner ≡ true → (sort : ExprSort) × (lead_in sight inner ≡ lead.Ends sort)
  own-lead sight (decl.Struct d) h = (_, refl)
  own-lead sight (decl.Union d) h = (_, refl)
  own-lead sight (decl.Array d) h = (_, refl)
  own-lead sight (decl.Enum d) h = cc
  own-lead sight (decl.Typedef d) h = cc
  own-lead sight (decl.Opt d) h = cc

  unsorted-at : (k : ℕ) (d : Decl) → slice_get decls k ≡ Some d → slice_get (unsorted decls) k ≡ Some (outline expr_sort.Unknown d)
  unfolding unsorted
  unsorted-at k d there = there-mapped (outline expr_sort.Unknown) decls k d there

  unsorted-length : length (unsorted decls) ≡ length decls
  unfolding unsorted
  unsorted-length = long-map (outline expr_sort.Unknown) decls

  may-fine : (n k : ℕ) (d : Decl) → slice_get decls k ≡ Some d → may_be_named (bare_sight n) k ≡ true → (k < n) ⊎ (is_precursive d.mark ≡ true)
  may-fine n k d there may = by (nat_lt k n) refl may
    where
      by : (b : Bool) → nat_lt k n ≡ b → (b || is_precursive_type (slice_get (unsorted decls) k)) ≡ true → (k < n) ⊎ (is_precursive d.mark ≡ true)
      by true less may = inl (ltb-true k n less)
      by false less may = inr (sym (ap is_precursive_type (unsorted-at k d there)) ∙ may)

  pub names-fine : (n : ℕ) (name : List ℕ) (k : ℕ) → named_number (bare_sight n) name ≡ Some k → Names decls n k
  names-fine n name k is =
      let number = may-number (bare_sight n) (first_of (unsorted decls) name) k is in
      let within : k < length decls = let h = position-there (λ declared. same_text declared.name name) (unsorted decls) k number.0 in omega (arith, h, unsorted-length) in
      let d = decl-there decls k within in
      record { d = d.0; there = d.1; fine = may-fine n k d.0 d.1 number.1 }

  -- where a lead goes on, it goes to such a type
  abbrev Fine : ℕ → Lead → Type 0
  Fine n (lead.Ends sort) = ⊤
  Fine n (lead.Leads count to) = Names decls n to

  wrap-fine : (n count : ℕ) (l : Lead) → Fine n l → Fine n (wrap count l)
  wrap-fine n count (lead.Ends sort) h = tt
  wrap-fine n count (lead.Leads inner to) h = h

  to-fine : (n : ℕ) (b : Option BaseName) (o : Option ℕ) → ((k : ℕ) → o ≡ Some k → Names decls n k) → Fine n (lead_to b o)
  to-fine n (Some base) o h = tt
  to-fine n None (Some k) h = h k refl
  to-fine n None None h = tt

  type-fine : (n : ℕ) (t : «Type») → Fine n (type_lead (bare_sight n) t)
  type-fine n t =
      wrap-fine n (popts t.optional) (lead_to (base_name t.name.text) (named_number (bare_sight n) t.name.text))
      (to-fine n (base_name t.name.text) (named_number (bare_sight n) t.name.text) (names-fine n t.name.text))

  body-fine : (n : ℕ) (inner : DeclBody) → Fine n (lead_in (bare_sight n) inner)
  body-fine n (decl.Struct d) = tt
  body-fine n (decl.Union d) = tt
  body-fine n (decl.Array d) = tt
  body-fine n (decl.Enum d) = tt
  body-fine n (decl.Typedef d) = type-fine n d.of
  body-fine n (decl.Opt d) = wrap-fine n 1 (type_lead (bare_sight n) d.of) (type-fine n d.of)

  ends : (sort : ExprSort) (steps : ℕ) → here steps (lead.Ends sort) ≡ sort
  ends sort zero = refl
  ends sort (suc steps) = refl

  -- So the way from a type ends in as many steps as there are earlier types, and one.
  steady-below : (m n : ℕ) → n < m → (l : Lead) → Fine n l → (a b : ℕ) → n < a → n < b → here a l ≡ here b l
  steady-below zero n less l h a b more too = absurd (omega (arith, less))
  steady-below (suc m) n less (lead.Ends sort) h a b more too = ends sort a ∙ sym (ends sort b)
  steady-below (suc m) n less (lead.Leads count to) h zero b more too = absurd (omega (arith, more))
  steady-below (suc m) n less (lead.Leads count to) h (suc a) zero more too = absurd (omega (arith, too))
  steady-below (suc m) n less (lead.Leads count to) h (suc a) (suc b) more too =
      let is = lead-there to h.d h.there in
      ap (optional_by count)
      (ap (here a) is
      ∙ ⊎_elim (λ k. steady-below m to (omega (arith, less, k)) (lead_of decls to h.d) (body-fine to (h.d).body) a b (omega (arith, k, more)) (omega (arith, k, too)))
      (λ o. (let e = own-lead (bare_sight to) (h.d).body (own to h.d h.there o) in ap (here a) e.1 ∙ ends e.0 a ∙ sym (ends e.0 b) ∙ sym (ap (here b) e.1))) h.fine
      ∙ sym (ap (here b) is))

  -- what a name means, by where its type leads
  abbrev chosen : Option BaseName → Option ℕ → ExprSort
  chosen (Some base) number = base_sort base
  chosen None (Some k) = here size (lead_at (leads decls) k)
  chosen None None = expr_sort.Unknown

  type-lead-is : (o : Option ℕ) (b : Option BaseName) (number : Option ℕ) → here (suc size) (wrap (popts o) (lead_to b number)) ≡ behind_popt o (chosen b number)
  unfolding optional_by
  type-lead-is (Some place) (Some base) number = refl
  type-lead-is (Some place) None (Some k) = refl
  type-lead-is (Some place) None None = refl
  type-lead-is None (Some base) number = refl
  type-lead-is None None (Some k) = refl
  type-lead-is None None None = refl

  opt-lead-is : (o : Option ℕ) (b : Option BaseName) (number : Option ℕ) → here (suc size) (wrap 1 (wrap (popts o) (lead_to b number))) ≡ optional (behind_popt o (chosen b number))
  unfolding optional_by
  opt-lead-is (Some place) (Some base) number = refl
  opt-lead-is (Some place) None (Some k) = refl
  opt-lead-is (Some place) None None = refl
  opt-lead-is None (Some base) number = refl
  opt-lead-is None None (Some k) = refl
  opt-lead-is None None None = refl

  outline-at : (k : ℕ) (d : Decl) → slice_get decls k ≡ Some d → slice_get (outlines decls) k ≡ Some (outline (here (suc size) (lead_of decls k d)) d)
  unfolding outlines
  outline-at k d there = by-number-at (λ number d. outline (sort_after (leads decls) (suc (length decls)) (lead_of decls number d)) d) decls k d there

  outlined-number : (n : ℕ) (name : List ℕ) → named_number (outlined n) name ≡ named_number (bare_sight n) name
  outlined-number n name = number-same (outlines decls) (unsorted decls) (outlines-faces decls ∙ sym (unsorted-faces decls)) n name

  meaning-is : (n : ℕ) (b : Option BaseName) (number : Option ℕ) → ((k : ℕ) → number ≡ Some k → Names decls n k)
      → meaning_sort (unless_base b (type_at (outlines decls) number)) ≡ chosen b number
  meaning-is n (Some base) number h = refl
  meaning-is n None None h = refl
  meaning-is n None (Some k) h =
      let x = h k refl in
      let within = there-below decls k x.d x.there in
      ap (λ o. meaning_sort (of_declared o)) (outline-at k x.d x.there)
      ∙ steady-below (suc k) k (omega arith) (lead_of decls k x.d) (body-fine k (x.d).body) (suc size) size (omega (arith, within)) (omega (arith, within))
      ∙ sym (ap (here size) (lead-there k x.d x.there))

  type-is : (n : ℕ) (t : «Type») → type_sort (outlined n) t ≡ behind_popt t.optional (chosen (base_name t.name.text) (named_number (bare_sight n) t.name.text))
  unfolding meaning
  type-is n t =
      ap (behind_popt t.optional)
      (ap (λ number. meaning_sort (unless_base (base_name t.name.text) (type_at (outlines decls) number))) (outlined-number n t.name.text)
      ∙ meaning-is n (base_name t.name.text) (named_number (bare_sight n) t.name.text) (names-fine n t.name.text))

  sort-is : (n : ℕ) (inner : DeclBody) → sort_in (outlined n) inner ≡ here (suc size) (lead_in (bare_sight n) inner)
  sort-is n (decl.Struct d) = refl
  sort-is n (decl.Union d) = refl
  sort-is n (decl.Array d) = refl
  sort-is n (decl.Enum d) = refl
  sort-is n (decl.Typedef d) = type-is n d.of ∙ sym (type-lead-is d.of.optional (base_name d.of.name.text) (named_number (bare_sight n) d.of.name.text))
  sort-is n (decl.Opt d) = ap optional (type-is n d.of) ∙ sym (opt-lead-is d.of.optional (base_name d.of.name.text) (named_number (bare_sight n) d.of.name.text))

  -- So the declared types have the sorts of their outlines.
  abbrev sees : ℕ → Sight
  sees n = seen_from (declared decls) n

  declared-at : (k : ℕ) (d : Decl) → slice_get decls k ≡ Some d → slice_get (declared decls) k ≡ Some (declare (outlined k) d)
  unfolding declared
  declared-at k d there = by-number-at (λ number d. declare (seen_from (outlines decls) number) d) decls k d there

  abbrev sort_of : Declared → ExprSort
  sort_of x = x.sort

  lengths : (length (outlines decls) ≡ length decls) × (length (declared decls) ≡ length decls)
  unfolding outlines declared
  lengths = (
    by-number-length (λ number d. outline (sort_after (leads decls) (suc (length decls)) (lead_of decls number d)) d) decls,
    by-number-length (λ number d. declare (seen_from (outlines decls) number) d) decls,
  )

  sorts-by : (k : ℕ) (found : Option Decl) → slice_get decls k ≡ found → option_map sort_of (slice_get (outlines decls) k) ≡ option_map sort_of (slice_get (declared decls) k)
  sorts-by k (Some d) there =
      ap (option_map sort_of) (outline-at k d there) ∙ ap (λ sort. Some sort) (sym (sort-is k d.body)) ∙ sym (ap (option_map sort_of) (declared-at k d there))
  sorts-by k None there =
      let above = none-above decls k there in
      ap (option_map sort_of) (beyond (outlines decls) k (omega (arith, lengths.0, above))) ∙ sym (ap (option_map sort_of) (beyond (declared decls) k (omega (arith, lengths.1, above))))

  types-by : (number : Option ℕ) → option_map sort_of (type_at (outlines decls) number) ≡ option_map sort_of (type_at (declared decls) number)
  types-by (Some k) = sorts-by k (slice_get decls k) refl
  types-by None = refl

  abbrev sort_by : Option BaseName → Option ExprSort → ExprSort
  sort_by (Some base) sort = base_sort base
  sort_by None (Some sort) = sort
  sort_by None None = expr_sort.Unknown

  meaning-by : (b : Option BaseName) (o : Option Declared) → meaning_sort (unless_base b o) ≡ sort_by b (option_map sort_of o)
  meaning-by (Some base) o = refl
  meaning-by None (Some x) = refl
  meaning-by None None = refl

  declared-number : (n : ℕ) (name : List ℕ) → named_number (outlined n) name ≡ named_number (sees n) name
  declared-number n name = number-same (outlines decls) (declared decls) (outlines-faces decls ∙ sym (declared-faces decls)) n name

  type-same : (n : ℕ) (t : «Type») → type_sort (outlined n) t ≡ type_sort (sees n) t
  unfolding meaning
  type-same n t =
      let b = base_name t.name.text in
      let number = named_number (sees n) t.name.text in
      ap (behind_popt t.optional)
      (ap (λ number. meaning_sort (unless_base b (type_at (outlines decls) number))) (declared-number n t.name.text)
      ∙ meaning-by b (type_at (outlines decls) number) ∙ ap (sort_by b) (types-by number) ∙ sym (meaning-by b (type_at (declared decls) number)))

  -- and their marks
  abbrev by_mark : Option BaseName → Option Face → Bool
  by_mark (Some base) f = false
  by_mark None (Some f) = is_precord f.1
  by_mark None None = false

  mark-by : (b : Option BaseName) (o : Option Declared) → is_precord_type (unless_base b o) ≡ by_mark b (option_map face o)
  mark-by (Some base) o = refl
  mark-by None (Some x) = refl
  mark-by None None = refl

  faces-at : (number : Option ℕ) → option_map face (type_at (outlines decls) number) ≡ option_map face (type_at (declared decls) number)
  faces-at (Some k) =
      sym (slice_get-map face (outlines decls) k) ∙ ap (λ fs. slice_get fs k) (outlines-faces decls ∙ sym (declared-faces decls)) ∙ slice_get-map face (declared decls) k
  faces-at None = refl

  records-same : (n : ℕ) (name : List ℕ) → is_precord_type (meaning (outlined n) name) ≡ is_precord_type (meaning (sees n) name)
  unfolding meaning
  records-same n name =
      let b = base_name name in
      let number = named_number (sees n) name in
      ap (λ number. is_precord_type (unless_base b (type_at (outlines decls) number))) (declared-number n name)
      ∙ mark-by b (type_at (outlines decls) number) ∙ ap (by_mark b) (faces-at number) ∙ sym (mark-by b (type_at (declared decls) number))

  plain-same : (n : ℕ) (t : «Type») → is_precord_type (plain_meaning (outlined n) t) ≡ is_precord_type (plain_meaning (sees n) t)
  plain-same n t = by t.optional
    where
      behind : Option ℕ → Meaning → Meaning
      behind (Some place) m = Undeclared
      behind None m = m

      by : (o : Option ℕ) → is_precord_type (behind o (meaning (outlined n) t.name.text)) ≡ is_precord_type (behind o (meaning (sees n) t.name.text))
      by (Some place) = refl
      by None = records-same n t.name.text

  list-same : (n : ℕ) (inner : DeclBody) → is_record_list_body (outlined n) inner ≡ is_record_list_body (sees n) inner
  list-same n (decl.Array d) =
      ap (λ b. is_empty (written d.params) && is_none d.size && is_empty d.options && is_none d.condition && b) (plain-same n d.of)
  list-same n (decl.Struct d) = refl
  list-same n (decl.Union d) = refl
  list-same n (decl.Enum d) = refl
  list-same n (decl.Typedef d) = refl
  list-same n (decl.Opt d) = refl

  sort-same : (n : ℕ) (inner : DeclBody) → sort_in (outlined n) inner ≡ sort_in (sees n) inner
  sort-same n (decl.Struct d) = refl
  sort-same n (decl.Union d) = refl
  sort-same n (decl.Array d) = refl
  sort-same n (decl.Enum d) = refl
  sort-same n (decl.Typedef d) = type-same n d.of
  sort-same n (decl.Opt d) = ap optional (type-same n d.of)

  abbrev with_sort : List ℕ → ExprSort → Named
  with_sort text sort = record { text = text; sort = sort }

  content-same : (n : ℕ) (inner : DeclBody) → content_in (outlined n) inner ≡ content_in (sees n) inner
  content-same n (decl.Struct d) = ap content.Fields (map-same (named (outlined n)) (named (sees n)) (λ (both : Name × «Type»). ap (with_sort both.0.text) (type-same n both.1)) (flat_map named_part d.parts))
  content-same n (decl.Union d) =
      ap content.Branches (map-same (branch_named (outlined n)) (branch_named (sees n)) (λ (branch : Branch). ap (with_sort branch.name.text) (type-same n branch.of)) (branches_of d.body))
  content-same n (decl.Array d) = ap content.Element (type-same n d.of)
  content-same n (decl.Enum d) = refl
  content-same n (decl.Typedef d) = refl
  content-same n (decl.Opt d) = refl

  abbrev made_of : Decl → Bool → List ExprSort → ExprSort → Content → Declared
  made_of d list params sort inner = record { name = (name_of d.body).text; mark = d.mark; record_list = list; params = params; sort = sort; content = inner }

  declare-same : (n : ℕ) (d : Decl) → declare (outlined n) d ≡ declare (sees n) d
  declare-same n d =
      let list = λ (x : Bool). not (is_precord d.mark || is_precursive d.mark) && x in
      let params = λ (sight : Sight). map (λ (param : Param). type_sort sight param.of) (params_of d.body) in
      ap (λ x. made_of d (list x) (params (outlined n)) (sort_in (outlined n) d.body) (content_in (outlined n) d.body)) (list-same n d.body)
      ∙ ap (λ x. made_of d (list (is_record_list_body (sees n) d.body)) x (sort_in (outlined n) d.body) (content_in (outlined n) d.body))
      (map-same (λ (param : Param). type_sort (outlined n) param.of) (λ (param : Param). type_sort (sees n) param.of) (λ (param : Param). type-same n param.of) (params_of d.body))
      ∙ ap (λ x. made_of d (list (is_record_list_body (sees n) d.body)) (params (sees n)) x (content_in (outlined n) d.body)) (sort-same n d.body)
      ∙ ap (made_of d (list (is_record_list_body (sees n) d.body)) (params (sees n)) (sort_in (sees n) d.body)) (content-same n d.body)

  -- A declared type is what its declaration declares among the declared types.
  pub env-at : (n : ℕ) (d : Decl) → slice_get decls n ≡ Some d → slice_get (declared decls) n ≡ Some (declare (sees n) d)
  env-at n d there = declared-at n d there ∙ ap (λ x. Some x) (declare-same n d)

pub env-length : (decls : List Decl) → length (declared decls) ≡ length decls
unfolding declared
env-length decls = by-number-length (λ number d. declare (seen_from (outlines decls) number) d) decls

-- A name that has a meaning is that of a base type, or of a type that may be named.
pub declared-names : (decls : List Decl) → Recur decls → (n : ℕ) (name : List ℕ) (k : ℕ) → named_number (seen_from (declared decls) n) name ≡ Some k → Names decls n k
declared-names decls own n name k is =
    names-fine decls own n name k (number-same (unsorted decls) (declared decls) (unsorted-faces decls ∙ sym (declared-faces decls)) n name ∙ is)

-- and that type's number is that of the first of its name
pub first-named : (sight : Sight) (name : List ℕ) (k : ℕ) → named_number sight name ≡ Some k → first_of sight.types name ≡ Some k
first-named sight name k is = (may-number sight (first_of sight.types name) k is).0
