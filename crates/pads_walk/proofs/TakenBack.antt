-- The parts of a struct, whose values come back from the environment one by one, the latest first.
use Rattle.std.proofs.Common.{◌≡◌, ℕ, suc, List, [], ◌∷◌, ◌++◌, set, length, get_or, Option, Some, None, is_some, true, refl, sym, ap, ◌∙◌, arith, append_assoc}
use Rattle.std.proofs.lemmas.List.{append-nil, length_push, get_or_at, set_at}
use Rattle.pads_calc.specs.declared.term.Part.{Part}
use Rattle.pads_calc.specs.Structs.{bind}
use Rattle.pads_expr.specs.Value.{Pairs}
use Rattle.pads_value.specs.declared.value.Val.{Val}
use Rattle.pads_value.specs.declared.value.Val.TheVariants as val
use Rattle.pads_walk.specs.Fields.{Done, kept, parts_of, values_of, kept_of, env_of, AreDone}

pub length-parts : (done : List Done) → length (parts_of done) ≡ length done
length-parts [] = refl
length-parts (d ∷ done) = length_push (parts_of done) d.part ∙ omega (arith, length-parts done)

length-kept : (done : List Done) → length (kept_of done) ≡ length done
length-kept [] = refl
length-kept (d ∷ done) = length_push (kept_of done) (kept d.part.name d.value) ∙ omega (arith, length-kept done)

-- the values of the first `at` parts are still in the environment, and those behind have come back
pub record Stage (whole : List Val) (outer : Pairs) (at : ℕ) (parts : List Part) (values : List Val) (env : Pairs) : Type 0 where
  pub left : List Done
  pub behind : List Part
  pub back : List Val
  pub size : length left ≡ at
  pub parts_are : parts ≡ parts_of left ++ behind
  pub values_are : values ≡ kept_of left ++ back
  pub env_is : env ≡ env_of left outer
  pub whole_is : whole ≡ values_of left ++ back

pub stage-start : (done : List Done) (outer : Pairs) (parts : List Part) (values : List Val) (env : Pairs) → AreDone done outer parts values env
    → Stage (values_of done) outer (length parts) parts values env
stage-start done outer parts values env h = record {
  left = done;
  behind = [];
  back = [];
  size = sym (length-parts done) ∙ ap length (sym h.parts_are);
  parts_are = h.parts_are ∙ sym (append-nil (parts_of done));
  values_are = h.values_are ∙ sym (append-nil (kept_of done));
  env_is = h.env_is;
  whole_is = sym (append-nil (values_of done));
}

-- what putting back the value of a part does
abbrev pub PutsBack : Part → ℕ → List Val → List Val → Pairs → Pairs → Type 0
PutsBack part at values values' env env' =
    (value : Val) (outer : Pairs) (front rest : List Val) → env ≡ bind part.name value outer → values ≡ front ++ kept part.name value ∷ rest → length front ≡ at
    → (values' ≡ front ++ value ∷ rest) × (env' ≡ outer)

stage-next' : (whole : List Val) (outer : Pairs) (at : ℕ) (part : Part) (parts : List Part) (values values' : List Val) (env env' : Pairs) (left : List Done) (behind : List Part) (back : List Val)
    → length left ≡ suc at → parts ≡ parts_of left ++ behind → values ≡ kept_of left ++ back → env ≡ env_of left outer → whole ≡ values_of left ++ back
    → part ≡ get_or parts at part → PutsBack part at values values' env env' → Stage whole outer at parts values' env'
stage-next' whole outer at part parts values values' env env' [] behind back size parts_are values_are env_is whole_is here puts = cc
stage-next' whole outer at part parts values values' env env' (d ∷ left) behind back size parts_are values_are env_is whole_is here puts =
    let size' : length left ≡ at = omega (arith, size) in
    let parts' : parts ≡ parts_of left ++ d.part ∷ behind = parts_are ∙ append_assoc (parts_of left) (d.part ∷ []) behind in
    let this : part ≡ d.part = here ∙ ap (λ ps. get_or ps at part) parts' ∙ get_or_at (parts_of left) d.part behind part at (length-parts left ∙ size') in
    let values'' : values ≡ kept_of left ++ kept d.part.name d.value ∷ back = values_are ∙ append_assoc (kept_of left) (kept d.part.name d.value ∷ []) back in
    let put = puts d.value (env_of left outer) (kept_of left) back (env_is ∙ ap (λ (p : Part). bind p.name d.value (env_of left outer)) (sym this))
    (values'' ∙ ap (λ (p : Part). kept_of left ++ kept p.name d.value ∷ back) (sym this)) (length-kept left ∙ size') in
    record {
      left = left;
      behind = d.part ∷ behind;
      back = d.value ∷ back;
      size = size';
      parts_are = parts';
      values_are = put.0;
      env_is = put.1;
      whole_is = whole_is ∙ append_assoc (values_of left) (d.value ∷ []) back;
    }

pub stage-next : (whole : List Val) (outer : Pairs) (next at : ℕ) (part : Part) (parts : List Part) (values values' : List Val) (env env' : Pairs)
    → next ≡ suc at → Stage whole outer next parts values env → part ≡ get_or parts at part → PutsBack part at values values' env env' → Stage whole outer at parts values' env'
stage-next whole outer next at part parts values values' env env' one h here puts =
    stage-next' whole outer at part parts values values' env env' h.left h.behind h.back (h.size ∙ one) h.parts_are h.values_are h.env_is h.whole_is here puts

stage-end' : (whole : List Val) (outer : Pairs) (values : List Val) (env : Pairs) (left : List Done) (back : List Val)
    → length left ≡ 0 → values ≡ kept_of left ++ back → env ≡ env_of left outer → whole ≡ values_of left ++ back → (values ≡ whole) × (env ≡ outer)
stage-end' whole outer values env [] back size values_are env_is whole_is = (values_are ∙ sym whole_is, env_is)
stage-end' whole outer values env (d ∷ left) back size values_are env_is whole_is = cc

pub stage-end : (whole : List Val) (outer : Pairs) (parts : List Part) (values : List Val) (env : Pairs) → Stage whole outer 0 parts values env
    → (values ≡ whole) × (env ≡ outer)
stage-end whole outer parts values env h = stage-end' whole outer values env h.left h.back h.size h.values_are h.env_is h.whole_is

abbrev latest : Val → Pairs → Val
latest default [] = default
latest default (pair ∷ pairs) = pair.1

-- what came from the environment is the value that was put there
pub put-back : (name : Option ℕ) (n : ℕ) (v value : Val) (outer env env' : Pairs) (items front rest : List Val) (at : ℕ) → is_some name ≡ true
    → env ≡ (n, v) ∷ env' → env ≡ bind name value outer → items ≡ front ++ kept name value ∷ rest → length front ≡ at
    → (set items at v ≡ front ++ value ∷ rest) × (env' ≡ outer)
put-back None n v value outer env env' items front rest at some popped bound items_are size = cc
put-back (Some m) n v value outer env env' items front rest at some popped bound items_are size =
    let both : (n, v) ∷ env' ≡ (m, value) ∷ outer = sym popped ∙ bound in
    let same : v ≡ value = ap (latest v) both in
    let below : env' ≡ outer = cc in
    (rw same (ap (λ xs. set xs at value) items_are ∙ set_at front val.Missing rest value at size), below)
