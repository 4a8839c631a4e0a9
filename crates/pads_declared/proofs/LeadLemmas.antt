-- Ways from type to type: what several steps at once do is what they do one by one.
use Rattle.std.proofs.Common.{◌≡◌, ◌∙◌, sym, ap, refl, ℕ, zero, suc, ◌+◌, ◌-◌, ◌/◌, ◌%◌, ◌^◌, ◌<◌, min, List, [], ◌∷◌, length, map, Option, Some, None, option_map, slice_get, arith}
use Rattle.std.proofs.lemmas.Option.{slice_get-map}
use Rattle.std.proofs.lemmas.Simd.{map-map}
use Rattle.std.specs.List.{enumerate_from}
use Rattle.std.proofs.lemmas.List.FromFn.{length-enumerate_from}
use Rattle.std.proofs.lemmas.List.{length-map}
use Rattle.pads_ast.specs.declared.decl.Decl.{Decl}
use Rattle.pads_rules.specs.declared.declared.Declared.{Declared}
use Rattle.pads_rules.specs.declared.sort.Form.{Form}
use Rattle.pads_rules.specs.declared.expr_sort.ExprSort.{ExprSort}
use Rattle.pads_rules.specs.declared.expr_sort.ExprSort.TheVariants as expr_sort
use Rattle.pads_rules.specs.declared.lead.Lead.{Lead}
use Rattle.pads_rules.specs.declared.lead.Lead.TheVariants as lead
use Rattle.pads_rules.specs.Resolving.{wrap, or_unknown, lead_at, sort_after, outline, unsorted, lead_of, leads, outlines}
use Rattle.pads_rules.specs.Sorts.{optional, optional_by}
use Rattle.pads_declared.specs.Leads.{onward, all_onward, jumped, settled, leads_among, sorted_by}

-- an unknown sort, and that of nothing, take no `Popt`
pub optional-unknown : (count : ℕ) → optional_by count expr_sort.Unknown ≡ expr_sort.Unknown
unfolding optional_by
optional-unknown zero = refl
optional-unknown (suc count) = ap optional (optional-unknown count)

pub optional-nothing : (count : ℕ) → optional_by count expr_sort.Nothing ≡ expr_sort.Nothing
unfolding optional_by
optional-nothing zero = refl
optional-nothing (suc count) = ap optional (optional-nothing count)

abbrev known : ℕ → Form → ExprSort
known count form = expr_sort.Known (record { optional = count; form = form })

-- the count with so many more
abbrev more : ℕ → ℕ → ℕ
more zero base = base
more (suc count) base = min (base + suc count) (2 ^ 64 - 1)

more-next : (count base : ℕ) → min (more count base + 1) (2 ^ 64 - 1) ≡ more (suc count) base
more-next zero base = grind arith
more-next (suc count) base = grind arith

optional-more : (count base : ℕ) (form : Form) → optional_by count (known base form) ≡ known (more count base) form
unfolding optional_by
optional-more zero base form = refl
optional-more (suc count) base form = ap optional (optional-more count base form) ∙ ap (λ n. known n form) (more-next count base)

more-none : (count base : ℕ) → count ≡ 0 → more count base ≡ base
more-none zero base is = refl
more-none (suc count) base is = cc

more-some : (count base : ℕ) → 0 < count → more count base ≡ min (base + count) (2 ^ 64 - 1)
more-some zero base less = absurd (omega (arith, less))
more-some (suc count) base less = refl

more-twice : (n m base : ℕ) → more n (more m base) ≡ more (min (n + m) (2 ^ 64 - 1)) base
more-twice zero zero base = refl
more-twice zero (suc m) base = sym (more-some (min (zero + suc m) (2 ^ 64 - 1)) base (grind arith) ∙ grind arith)
more-twice (suc n) zero base = sym (more-some (min (suc n + zero) (2 ^ 64 - 1)) base (grind arith) ∙ grind arith)
more-twice (suc n) (suc m) base = sym (more-some (min (suc n + suc m) (2 ^ 64 - 1)) base (grind arith) ∙ grind arith)

pub optional-none : (count : ℕ) (sort : ExprSort) → count ≡ 0 → sort ≡ optional_by count sort
unfolding optional_by
optional-none zero sort is = refl
optional-none (suc count) sort is = cc

pub optional-known : (count base : ℕ) (form : Form) → (count ≡ 0 → ⊥) → known (min (base + count) (2 ^ 64 - 1)) form ≡ optional_by count (known base form)
optional-known count base form some = sym (optional-more count base form ∙ ap (λ n. known n form) (more-some count base (omega (arith, some))))

optional-twice : (n m : ℕ) (sort : ExprSort) → optional_by (min (n + m) (2 ^ 64 - 1)) sort ≡ optional_by n (optional_by m sort)
optional-twice n m expr_sort.Unknown = optional-unknown _ ∙ sym (ap (optional_by n) (optional-unknown m) ∙ optional-unknown n)
optional-twice n m expr_sort.Nothing = optional-nothing _ ∙ sym (ap (optional_by n) (optional-nothing m) ∙ optional-nothing n)
optional-twice n m (expr_sort.Known s) =
    optional-more (min (n + m) (2 ^ 64 - 1)) s.optional s.form ∙ ap (λ c. known c s.form) (sym (more-twice n m s.optional))
    ∙ sym (ap (optional_by n) (optional-more m s.optional s.form) ∙ optional-more n (more m s.optional) s.form)

capped-across : (n m k : ℕ) → min (min (n + m) (2 ^ 64 - 1) + k) (2 ^ 64 - 1) ≡ min (n + min (m + k) (2 ^ 64 - 1)) (2 ^ 64 - 1)
capped-across n m k = grind arith

wrap-twice : (n m : ℕ) (l : Lead) → wrap (min (n + m) (2 ^ 64 - 1)) l ≡ wrap n (wrap m l)
wrap-twice n m (lead.Ends sort) = ap lead.Ends (optional-twice n m sort)
wrap-twice n m (lead.Leads k to) = ap (λ c. lead.Leads c to) (capped-across n m k)

wrap-unknown : (n : ℕ) → wrap n (lead.Ends expr_sort.Unknown) ≡ lead.Ends expr_sort.Unknown
wrap-unknown n = ap lead.Ends (optional-unknown n)

onward-wrap : (leads : List Lead) (n : ℕ) (l : Lead) → onward leads (wrap n l) ≡ wrap n (onward leads l)
onward-wrap leads n (lead.Ends sort) = refl
onward-wrap leads n (lead.Leads m to) = wrap-twice n m (lead_at leads to)

onward-none : (far : List Lead) (o : Option Lead) → or_unknown (option_map (onward far) o) ≡ onward far (or_unknown o)
onward-none far None = refl
onward-none far (Some l) = refl

onward-at : (far near : List Lead) (i : ℕ) → lead_at (all_onward far near) i ≡ onward far (lead_at near i)
unfolding all_onward
onward-at far near i = ap or_unknown (slice_get-map (onward far) near i) ∙ onward-none far (slice_get near i)

onward-far : (far near : List Lead) (l : Lead) → onward far (onward near l) ≡ onward (all_onward far near) l
onward-far far near (lead.Ends sort) = refl
onward-far far near (lead.Leads n to) = onward-wrap far n (lead_at near to) ∙ ap (wrap n) (sym (onward-at far near to))

map-same : {A B : Type 0} (f g : A → B) → ((x : A) → f x ≡ g x) → (xs : List A) → map f xs ≡ map g xs
map-same f g same [] = refl
map-same f g same (x ∷ xs) = ap (λ y. y ∷ map f xs) (same x) ∙ ap (λ ys. g x ∷ ys) (map-same f g same xs)

onward-all : (far mid near : List Lead) → all_onward far (all_onward mid near) ≡ all_onward (all_onward far mid) near
unfolding all_onward
onward-all far mid near = map-map (onward far) (onward mid) near ∙ map-same _ _ (onward-far far mid) near

same-count : (b : ℕ) → b ≡ 0 + b
same-count b = omega arith

next-count : (a b : ℕ) → suc (a + b) ≡ suc a + b
next-count a b = omega arith

-- so many steps behind so many others
pub jumped-both : (near : List Lead) (a b : ℕ) → all_onward (jumped near b) (jumped near a) ≡ jumped near (suc (a + b))
unfolding jumped
jumped-both near zero b = ap (λ n. jumped near (suc n)) (same-count b)
jumped-both near (suc a) b =
    onward-all (jumped near b) (jumped near a) near ∙ ap (λ far. all_onward far near) (jumped-both near a b)
    ∙ ap (λ n. jumped near (suc n)) (next-count a b)

settled-wrap : (n : ℕ) (l : Lead) → settled (wrap n l) ≡ optional_by n (settled l)
settled-wrap n (lead.Ends sort) = refl
settled-wrap n (lead.Leads k to) = sym (optional-unknown n)

settled-now : (near : List Lead) (l : Lead) → sort_after near 0 l ≡ settled l
settled-now near (lead.Ends sort) = refl
settled-now near (lead.Leads n to) = refl

-- the sort behind some steps
pub sort-jumped : (near : List Lead) (steps : ℕ) (l : Lead) → settled (onward (jumped near steps) l) ≡ sort_after near (suc steps) l
unfolding jumped
sort-jumped near steps (lead.Ends sort) = refl
sort-jumped near zero (lead.Leads n to) = settled-wrap n (lead_at near to) ∙ ap (optional_by n) (sym (settled-now near (lead_at near to)))
sort-jumped near (suc steps) (lead.Leads n to) =
    settled-wrap n (lead_at (all_onward (jumped near steps) near) to)
    ∙ ap (λ l. optional_by n (settled l)) (onward-at (jumped near steps) near to)
    ∙ ap (optional_by n) (sort-jumped near steps (lead_at near to))

pub jumped-none : (near : List Lead) (n : ℕ) → n ≡ 0 → near ≡ jumped near n
unfolding jumped
jumped-none near zero is = refl
jumped-none near (suc n) is = cc

less-one : (n : ℕ) → suc n - 1 ≡ n
less-one n = omega arith

pub jumped-next : (near : List Lead) (n : ℕ) → (n ≡ 0 → ⊥) → all_onward (jumped near (n - 1)) near ≡ jumped near n
unfolding jumped
jumped-next near zero some = absurd (some refl)
jumped-next near (suc n) some = ap (λ k. all_onward (jumped near k) near) (less-one n)

two-halves : (n : ℕ) → (n % 2 ≡ 0 → ⊥) → suc (n / 2 + n / 2) ≡ n
two-halves n odd = omega (arith, odd)

pub jumped-half : (near : List Lead) (n : ℕ) → (n % 2 ≡ 0 → ⊥) → all_onward (jumped near (n / 2)) (jumped near (n / 2)) ≡ jumped near n
jumped-half near n odd = jumped-both near (n / 2) (n / 2) ∙ ap (jumped near) (two-halves n odd)

leads-length : (decls : List Decl) → length (leads decls) ≡ length decls
unfolding leads
leads-length decls = length-map (enumerate_from 0 decls) _ ∙ length-enumerate_from 0 decls

-- the types with the sorts at the end of the doubled steps are the outlines
pub outlines-sorted : (decls : List Decl) → sorted_by (unsorted decls) (jumped (leads decls) (length (leads decls))) decls ≡ outlines decls
unfolding sorted_by outlines
outlines-sorted decls =
    map-same _ _
    (λ numbered.
    ap (λ sort. outline sort numbered.1)
    (sort-jumped (leads decls) (length (leads decls)) (lead_of decls numbered.0 numbered.1)
    ∙ ap (λ n. sort_after (leads decls) (suc n) (lead_of decls numbered.0 numbered.1)) (leads-length decls)))
    (enumerate_from 0 decls)

leads-same : (decls : List Decl) → leads_among (unsorted decls) decls ≡ leads decls
unfolding leads_among leads
leads-same decls = refl

pub outlines-from : (decls : List Decl) (bare : List Declared) (near far : List Lead) (steps : ℕ) → bare ≡ unsorted decls → near ≡ leads_among bare decls → steps ≡ length near → far ≡ jumped near steps
    → sorted_by bare far decls ≡ outlines decls
outlines-from decls bare near far steps is led so_many jumps =
    let all : near ≡ leads decls = led ∙ ap (λ types. leads_among types decls) is ∙ leads-same decls in
    let whole : far ≡ jumped (leads decls) (length (leads decls)) = jumps ∙ ap (jumped near) so_many ∙ ap (λ ways. jumped ways (length ways)) all in
    ap (λ types. sorted_by types far decls) is ∙ ap (λ ways. sorted_by (unsorted decls) ways decls) whole ∙ outlines-sorted decls

pub ruleset counted = (optional-none, optional-unknown, optional-nothing)

pub ruleset steps = (jumped-none, jumped-next, jumped-half)
