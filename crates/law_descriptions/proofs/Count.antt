-- A description without violations gives few names: its different name tokens, and `@`, `some` and `none`.
use Rattle.std.proofs.Common.{◌≡◌, ◌∙◌, sym, ap, refl, subst, arith, ℕ, zero, suc, ◌+◌, ◌<◌, ◌≤◌, Bool, true, false, cond, ◌||◌, if◌then◌else◌, nat_eq, nat_le, nat_lt, List, [], ◌∷◌, ◌++◌, map, flat_map, length, length-append, Some, None, le-leb, ltb-false}
use Rattle.std.specs.List.{enumerate_from, position_or_len}
use Rattle.std.proofs.lemmas.List.{take_all}
use Rattle.std.proofs.lemmas.List.Folds.{list_any-append}
use Rattle.std.proofs.lemmas.Bool.{or_left, or_right, or_parts}
use lib.Pointwise.{pointwise}
use Rattle.pads_ast.specs.declared.decl.Ast.{Ast}
use Rattle.pads_ast.specs.declared.decl.Decl.{Decl as WrittenDecl}
use Rattle.pads_resolution.specs.Resolution.{decl_at, resolved}
use Rattle.pads_rules.specs.declared.rule.Rule.TheVariants as rule
use Rattle.pads_rules.specs.DeclRules.{part_count, scope_count, token_count, decl_name}
use Rattle.pads_rules.specs.Faults.{breaks}
use Rattle.pads_rules.specs.DifferentNames as tokens
use Rattle.pads_ast.specs.NameTokens.{names_in_decl}
use Rattle.pads_rules.specs.DifferentNames.{count_of_different}
use Rattle.pads_rules.specs.Pieces.{sites}
use Rattle.pads_rules.specs.Texts as texts
use Rattle.pads_rules.specs.Texts.{same_text}
use Rattle.pads_rules.specs.Violations.{violations}
use Rattle.pads_trans.specs.Met.{in_decl, names_of}
use Rattle.pads_trans.specs.Names.{Name, at_sign, some_name, none_name, names_at, with_name, with_names}
use Rattle.law_descriptions.specs.WellSorted.{Each}
use Rattle.law_descriptions.proofs.Lists.{each-left, each-right, each-weaker}
use Rattle.law_descriptions.proofs.SortedNames.{is_among, first-there, same-name, own-name}
use Rattle.law_descriptions.proofs.Environment.{site_of}
use Rattle.pads_rules.proofs.Faultless.{not-when}
use Rattle.law_descriptions.proofs.Given.{each-both, decl-given}
use Rattle.law_descriptions.proofs.AcceptedLists.{get-there}
use Rattle.law_descriptions.proofs.Source.{some-decl}
use Rattle.law_descriptions.proofs.AcceptedTypes.{free as free-site}

-- what the rules let through has a number of 16 bits
pub few-enough : (count : ℕ) → count ≤ 4096 → nat_le count 65535 ≡ true
few-enough count within = le-leb count 65535 (omega arith)

kept-last : (names : List Name) (name other : Name) → is_among names other ≡ true → is_among (names ++ name ∷ []) other ≡ true
kept-last names name other among =
    list_any-append (pointwise nat_eq other) names (name ∷ []) ∙ or_left (is_among names other) (is_among (name ∷ []) other) among

there-last : (names : List Name) (name other : Name) → pointwise nat_eq other name ≡ true → is_among (names ++ name ∷ []) other ≡ true
there-last names name other is =
    list_any-append (pointwise nat_eq other) names (name ∷ [])
    ∙ or_right (is_among names other) (is_among (name ∷ []) other) (ap (λ b. b || false) is)

-- some names but for one
without : Name → List Name → List Name
without name [] = []
without name (x ∷ xs) = if pointwise nat_eq name x then xs else x ∷ without name xs

shorter : (name : Name) (xs : List Name) → is_among xs name ≡ true → length (without name xs) + 1 ≡ length xs
unfolding without
shorter name [] among = cc
shorter name (x ∷ xs) among = by (pointwise nat_eq name x) among (shorter name xs)
  where
    by : (b : Bool) → (b || is_among xs name) ≡ true → (is_among xs name ≡ true → length (without name xs) + 1 ≡ length xs) → length (if b then xs else x ∷ without name xs) + 1 ≡ suc (length xs)
    by true among rest = omega arith
    by false among rest = let h = rest among in omega (arith, h)

still-there : (name other : Name) → pointwise nat_eq other name ≡ false → (xs : List Name) → is_among xs other ≡ true → is_among (without name xs) other ≡ true
unfolding without
still-there name other differ [] among = cc
still-there name other differ (x ∷ xs) among = by (pointwise nat_eq name x) refl (still-there name other differ xs)
  where
    later : (b : Bool) → (b || is_among xs other) ≡ true → (is_among xs other ≡ true → is_among (without name xs) other ≡ true) → (b || is_among (without name xs) other) ≡ true
    later true among rest = refl
    later false among rest = rest among

    by : (b : Bool) → pointwise nat_eq name x ≡ b → (is_among xs other ≡ true → is_among (without name xs) other ≡ true) → is_among (if b then xs else x ∷ without name xs) other ≡ true
    by true is rest =
        let other_is : pointwise nat_eq other x ≡ false = ap (pointwise nat_eq other) (sym (same-name name x is)) ∙ differ in
        sym (ap (λ b. b || is_among xs other) other_is) ∙ among
    by false is rest = later (pointwise nat_eq other x) among rest

-- a name that is met
with-is : (names : List Name) (name : Name) → with_name names name ≡ cond (is_among names name) names (names ++ name ∷ [])
unfolding with_name
with-is names name = ap (λ b. names_at names name (cond b (Some (position_or_len (pointwise nat_eq name) names)) None)) (first-there (pointwise nat_eq name) names) ∙ by (is_among names name)
  where
    by : (b : Bool) → names_at names name (cond b (Some (position_or_len (pointwise nat_eq name) names)) None) ≡ cond b names (names ++ name ∷ [])
    by true = refl
    by false = refl

-- a name that was met, or is of some that may be met
abbrev Within : List Name → List Name → Name → Type 0
Within names bound name = (is_among names name || is_among bound name) ≡ true

moved : (names : List Name) (x : Name) (bound : List Name) (name : Name) → Within names bound name → Within (names ++ x ∷ []) (without x bound) name
moved names x bound name within = by (pointwise nat_eq name x) refl
  where
    other : (b : Bool) → is_among names name ≡ b → pointwise nat_eq name x ≡ false → Within (names ++ x ∷ []) (without x bound) name
    other true met differ = or_left (is_among (names ++ x ∷ []) name) (is_among (without x bound) name) (kept-last names x name met)
    other false met differ =
        let among : is_among bound name ≡ true = sym (ap (λ b. b || is_among bound name) met) ∙ within in
        or_right (is_among (names ++ x ∷ []) name) (is_among (without x bound) name) (still-there x name differ bound among)

    by : (b : Bool) → pointwise nat_eq name x ≡ b → Within (names ++ x ∷ []) (without x bound) name
    by true is = or_left (is_among (names ++ x ∷ []) name) (is_among (without x bound) name) (there-last names x name is)
    by false is = other (is_among names name) refl is

-- there are no more different names than those that may be met
counted : (more names bound : List Name) → Each (Within names bound) more → length (with_names names more) ≤ length names + length bound
counted [] names bound each = omega arith
counted (x ∷ more) names bound each =
    subst (λ (met : List Name). length (with_names met more) ≤ length names + length bound) (sym (with-is names x)) (by (is_among names x) refl (counted more))
  where
    by : (b : Bool) → is_among names x ≡ b → ((names bound : List Name) → Each (Within names bound) more → length (with_names names more) ≤ length names + length bound)
        → length (with_names (cond b names (names ++ x ∷ [])) more) ≤ length names + length bound
    by true is rest = rest names bound each.1
    by false is rest =
        let among : is_among bound x ≡ true = sym (ap (λ b. b || is_among bound x) is) ∙ each.0 in
        let less = shorter x bound among in
        let h = rest (names ++ x ∷ []) (without x bound) (each-weaker (Within names bound) (Within (names ++ x ∷ []) (without x bound)) (moved names x bound) more each.1) in
        omega (arith, less, h, length-append names (x ∷ []))

-- the name tokens, as they are counted
token-kept : (names : List Name) (token name : Name) → is_among names name ≡ true → is_among (tokens.with_name names token) name ≡ true
token-kept names token name among = by (texts.is_among names token)
  where
    by : (b : Bool) → is_among (if b then names else names ++ token ∷ []) name ≡ true
    by true = among
    by false = kept-last names token name among

token-met : (names : List Name) (token : Name) → is_among (tokens.with_name names token) token ≡ true
unfolding same_text
token-met names token = by (texts.is_among names token) refl
  where
    by : (b : Bool) → is_among names token ≡ b → is_among (if b then names else names ++ token ∷ []) token ≡ true
    by true is = is
    by false is = there-last names token token (own-name token)

tokens-kept : (more names : List Name) (name : Name) → is_among names name ≡ true → is_among (tokens.with_names names more) name ≡ true
tokens-kept [] names name among = among
tokens-kept (token ∷ more) names name among = tokens-kept more (tokens.with_name names token) name (token-kept names token name among)

tokens-met : (more names : List Name) → Each (λ name. is_among (tokens.with_names names more) name ≡ true) more
tokens-met [] names = tt
tokens-met (token ∷ more) names = (tokens-kept more (tokens.with_name names token) token (token-met names token), tokens-met more (tokens.with_name names token))

-- the names that are given
module _ (found : List Name) where
  abbrev bound : List Name
  bound = at_sign ∷ some_name ∷ none_name ∷ found

  abbrev IsBound : Name → Type 0
  IsBound = Within [] bound

  bound-found : (name : Name) → is_among found name ≡ true → IsBound name
  bound-found name among =
      or_right (pointwise nat_eq name at_sign) _ (or_right (pointwise nat_eq name some_name) _ (or_right (pointwise nat_eq name none_name) (is_among found name) among))

  sites-given : (decls xs : List WrittenDecl) (from : ℕ) → Each IsBound (flat_map (λ (d : WrittenDecl). names_in_decl d.body) xs)
      → Each IsBound (flat_map in_decl (map decl_at (map (λ (numbered : ℕ × WrittenDecl). site_of decls numbered.0 numbered.1) (enumerate_from from xs))))
  sites-given decls [] from written = tt
  sites-given decls (x ∷ xs) from written =
      let rest = flat_map (λ (d : WrittenDecl). names_in_decl d.body) xs in
      each-both IsBound (in_decl (decl_at (site_of decls from x))) _
      (decl-given IsBound refl refl refl (site_of decls from x) (each-left IsBound (names_in_decl x.body) rest written))
      (sites-given decls xs (from + 1) (each-right IsBound (names_in_decl x.body) rest written))

module _ (tree : Ast) (none : violations tree ≡ []) where
  abbrev written : List Name
  written = flat_map (λ (d : WrittenDecl). names_in_decl d.body) tree.decls

  few-tokens : count_of_different written ≤ 65000
  few-tokens = by (length tree.decls) refl
    where
      by : (l : ℕ) → length tree.decls ≡ l → count_of_different written ≤ 65000
      by zero is = let some = some-decl tree none in absurd (omega arith)
      by (suc m) is =
          let d = get-there tree.decls m (omega arith) in
          let site = site_of tree.decls m d.0 in
          let few = ltb-false 65000 (token_count site)
          (or_parts (nat_le 4096 m || nat_lt 4096 (part_count (d.0).body) || nat_lt 4096 (scope_count (d.0).body)) (nat_lt 65000 (token_count site))
          (not-when _ (breaks rule.Limit (decl_name site).at) (free-site tree none m d.0 d.1).counted)).1 in
          subst (λ (decls : List WrittenDecl). count_of_different (flat_map (λ (d : WrittenDecl). names_in_decl d.body) decls) ≤ 65000) (take_all (suc m) tree.decls (omega arith)) few

  pub few-names : length (names_of (resolved tree)) < 65535
  unfolding names_of resolved
  few-names =
      let found = tokens.with_names [] written in
      let each = sites-given found tree.decls tree.decls 0 (each-weaker _ (IsBound found) (bound-found found) written (tokens-met written [])) in
      let h = counted (flat_map in_decl (map decl_at (sites tree.decls))) [] (bound found) each in
      let few = few-tokens in
      omega (arith, h, few)
