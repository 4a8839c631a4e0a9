-- What it says that nothing comes again.
use Rattle.std.proofs.Common.{◌≡◌, ◌∙◌, sym, ap, refl, subst, arith, ℕ, zero, suc, ◌+◌, ◌<◌, ◌≤◌, Bool, true, false, ◌||◌, if◌then◌else◌, nat_lt, List, [], ◌∷◌, ◌++◌, map, length, length-append, Option, Some, None, option_map, slice_get, ltb-true, ltb-false}
use Rattle.std.specs.List.{list_any}
use Rattle.std.proofs.lemmas.List.{length-map, map-append}
use Rattle.std.proofs.lemmas.List.Folds.{list_any-append}
use Rattle.std.proofs.lemmas.Bool.{or_parts}
use Rattle.pads_ast.specs.declared.decl.Label.{Label as WrittenLabel}
use Rattle.pads_ast.specs.declared.name.Name.{Name}
use Rattle.pads_ast.specs.declared.name.Word.{Word}
use Rattle.pads_bases.specs.Enums.{SpellingsDiffer}
use Rattle.pads_bases.specs.declared.enums.Label.{Label as Spelled}
use Rattle.pads_resolution.specs.declared.decl.Label.{Label}
use Rattle.pads_resolution.specs.Bodies.{label_of as made_label}
use Rattle.pads_rules.specs.DeclRules.{same_name, spelling_or, spelling_of, same_spelling}
use Rattle.pads_rules.specs.Faults.{breaks, when, again}
use Rattle.pads_ast.specs.NameTokens.{Names as Texts}
use Rattle.pads_rules.specs.DifferentNames.{with_name, with_names}
use Rattle.pads_rules.specs.Texts.{same_text, is_among}
use Rattle.pads_ast.specs.Trees.{points_of}
use Rattle.pads_rules.specs.declared.fault.CheckFault.{CheckFault}
use Rattle.pads_rules.specs.declared.rule.Rule.TheVariants as rule
use Rattle.pads_rules.proofs.SameTexts.{is-same}
use Rattle.pads_trans.specs.Terms as trans
use Rattle.pads_trans.specs.Terms.{label_of}
use Rattle.law_descriptions.proofs.Lists.{mapped-there}
use Rattle.pads_rules.proofs.Faultless.{none-left, none-right, not-when}

module _ {A : Type 0} (same : A → A → Bool) (fault : A → CheckFault) where
  before-apart : (before xs : List A) (k : ℕ) (x : A) → again same fault before xs ≡ [] → slice_get xs k ≡ Some x → list_any (same x) before ≡ false
  before-apart before [] k x free there = cc
  before-apart before (first ∷ xs) zero x free there =
      let is : first ≡ x = cc in
      subst (λ x. list_any (same x) before ≡ false) is (not-when (list_any (same first) before) (fault first) (none-left (when (list_any (same first) before) (fault first)) (again same fault (before ++ first ∷ []) xs) free))
  before-apart before (first ∷ xs) (suc k) x free there =
      let h = before-apart (before ++ first ∷ []) xs k x (none-right (when (list_any (same first) before) (fault first)) (again same fault (before ++ first ∷ []) xs) free) there in
      (or_parts (list_any (same x) before) (list_any (same x) (first ∷ [])) (sym (list_any-append (same x) before (first ∷ [])) ∙ h)).0

  pub apart : (before xs : List A) (k j : ℕ) (x y : A) → again same fault before xs ≡ [] → slice_get xs k ≡ Some x → slice_get xs j ≡ Some y → j < k → same x y ≡ false
  apart before [] k j x y free there other less = cc
  apart before (first ∷ xs) zero j x y free there other less = absurd (omega arith)
  apart before (first ∷ xs) (suc k) zero x y free there other less =
      let is : first ≡ y = cc in
      let rest = none-right (when (list_any (same first) before) (fault first)) (again same fault (before ++ first ∷ []) xs) free in
      let h = before-apart (before ++ first ∷ []) xs k x rest there in
      let last = (or_parts (list_any (same x) before) (list_any (same x) (first ∷ [])) (sym (list_any-append (same x) before (first ∷ [])) ∙ h)).1 in
      subst (λ y. same x y ≡ false) is (or_parts (same x first) false last).0
  apart before (first ∷ xs) (suc k) (suc j) x y free there other less =
      apart (before ++ first ∷ []) xs k j x y (none-right (when (list_any (same first) before) (fault first)) (again same fault (before ++ first ∷ []) xs) free) there other (omega arith)

-- labels
spelled-by : (name : Name) (o : Option Word) → trans.spelling_of name.text (option_map points_of o) ≡ (spelling_or name o).0
spelled-by name None = refl
spelled-by name (Some word) = refl

spelled-is : (l : WrittenLabel) → (label_of (made_label l)).spelling ≡ (spelling_of l).0
unfolding made_label
spelled-is l = spelled-by l.name l.spelling

never-same : (a b : WrittenLabel) → same_spelling a b ≡ false → (spelling_of a).0 ≡ (spelling_of b).0 → ⊥
never-same a b h is = let e = sym (is-same (spelling_of a).0 (spelling_of b).0 is) ∙ h in cc

pub spellings-differ : (labels : List WrittenLabel) (fault : WrittenLabel → CheckFault) → again same_spelling fault [] labels ≡ [] → SpellingsDiffer (map label_of (map made_label labels))
spellings-differ labels fault free j k one other there also same =
    let a' = mapped-there label_of (map made_label labels) j one there in
    let a = mapped-there made_label labels j a'.0 a'.1 in
    let b' = mapped-there label_of (map made_label labels) k other also in
    let b = mapped-there made_label labels k b'.0 b'.1 in
    let one_is : one.spelling ≡ (spelling_of a.0).0 = ap (λ (l : Spelled). l.spelling) (sym a'.2) ∙ ap (λ (l : Label). (label_of l).spelling) (sym a.2) ∙ spelled-is a.0 in
    let other_is : other.spelling ≡ (spelling_of b.0).0 = ap (λ (l : Spelled). l.spelling) (sym b'.2) ∙ ap (λ (l : Label). (label_of l).spelling) (sym b.2) ∙ spelled-is b.0 in
    by a.0 b.0 a.1 b.1 (sym one_is ∙ same ∙ other_is) (nat_lt j k) (nat_lt k j) refl refl
  where
    by : (a b : WrittenLabel) → slice_get labels j ≡ Some a → slice_get labels k ≡ Some b → (spelling_of a).0 ≡ (spelling_of b).0 → (less more : Bool) → nat_lt j k ≡ less → nat_lt k j ≡ more → j ≡ k
    by a b one two is true more less_is more_is = absurd (never-same b a (apart same_spelling fault [] labels k j b a free two one (ltb-true j k less_is)) (sym is))
    by a b one two is false true less_is more_is = absurd (never-same a b (apart same_spelling fault [] labels j k a b free one two (ltb-true k j more_is)) is)
    by a b one two is false false less_is more_is = let x = ltb-false j k less_is in let y = ltb-false k j more_is in omega arith

-- names that differ are counted one by one
abbrev texts_of : List Name → Texts
texts_of xs = map (λ (x : Name). x.text) xs

any-mapped : (x : Name) (before : List Name) → list_any (same_text x.text) (texts_of before) ≡ list_any (same_name x) before
any-mapped x [] = refl
any-mapped x (y ∷ before) = ap (λ b. same_text x.text y.text || b) (any-mapped x before)

kept-one : (names : Texts) (name : List ℕ) (b : Bool) → length names ≤ length (if b then names else names ++ name ∷ [])
kept-one names name true = omega arith
kept-one names name false = omega (arith, length-append names (name ∷ []))

kept-length : (more names : Texts) → length names ≤ length (with_names names more)
kept-length [] names = omega arith
kept-length (name ∷ more) names = let h = kept-one names name (is_among names name) in let k = kept-length more (with_name names name) in omega (arith, h, k)

new-one : (names : Texts) (name : List ℕ) → is_among names name ≡ false → with_name names name ≡ names ++ name ∷ []
new-one names name h = ap (λ b. if b then names else names ++ name ∷ []) h

pub counted-names : (xs before rest : List Name) (more : Texts) → again same_name (λ (x : Name). breaks rule.NameAgain x.at) before (xs ++ rest) ≡ [] → length before + length xs ≤ length (with_names (texts_of before) (texts_of xs ++ more))
counted-names [] before rest more free = let h = kept-length more (texts_of before) in omega (arith, h, length-map before (λ (x : Name). x.text))
counted-names (x ∷ xs) before rest more free =
    let fault = λ (x : Name). breaks rule.NameAgain x.at in
    let fresh = not-when (list_any (same_name x) before) (fault x) (none-left (when (list_any (same_name x) before) (fault x)) (again same_name fault (before ++ x ∷ []) (xs ++ rest)) free) in
    let later = none-right (when (list_any (same_name x) before) (fault x)) (again same_name fault (before ++ x ∷ []) (xs ++ rest)) free in
    let one : with_name (texts_of before) x.text ≡ texts_of (before ++ x ∷ []) = new-one (texts_of before) x.text (any-mapped x before ∙ fresh) ∙ sym (map-append (λ (x : Name). x.text) before (x ∷ [])) in
    let h = counted-names xs (before ++ x ∷ []) rest more later in
    subst (λ names. length before + suc (length xs) ≤ length (with_names names (texts_of xs ++ more))) (sym one) (omega (arith, h, length-append before (x ∷ [])))
