-- How far a write of several calls has come.
use Rattle.std.proofs.Common.{◌≡◌, ℕ, ◌+◌, ◌-◌, ◌≤◌, List, Option, length, take, drop, refl, ap, subst, ◌∙◌, length-drop, arith}
use Rattle.std.proofs.Math.Seq.{take-add}
use Rattle.std.proofs.lemmas.List.{drop-drop, take_all, take_rest}
use Rattle.std.specs.Io.KnownBytes.{Appends, Keeps}
use Rattle.std.proofs.KnownBytes.{Appends-nil, Appends-trans, Appends-kept}
use Rattle.pads_io.specs.Transfer.{AppendsPrefix}

-- the first `count` of all bytes were appended, and `rest` is what is left of them
pub record Partly (old new : Option (List ℕ)) (all rest : List ℕ) : Type 0 where
  pub count : ℕ
  pub taken : Appends old new (take count all)
  pub left : rest ≡ drop count all

pub Partly-none : (known : Option (List ℕ)) (all : List ℕ) → Partly known known all all
Partly-none known all = record { count = 0; taken = Appends-nil known; left = refl }

-- one call more: `&rest[k..]` is left
pub Partly-more : (old mid new : Option (List ℕ)) (all rest : List ℕ) (k : ℕ)
    → Partly old mid all rest → Appends mid new (take k rest) → Partly old new all (take (length rest - k) (drop k rest))
Partly-more old mid new all rest k p q =
    let step : Appends mid new (take k (drop p.count all)) = subst (λ r. Appends mid new (take k r)) p.left q in
    record {
      count = p.count + k;
      taken = rw take-add (Appends-trans old mid new _ _ p.taken step);
      left = take_rest rest k ∙ ap (drop k) p.left ∙ drop-drop k p.count all;
    }

pub Partly-kept : (old mid new : Option (List ℕ)) (all rest : List ℕ) → Partly old mid all rest → Keeps mid new → Partly old new all rest
Partly-kept old mid new all rest p q = record { count = p.count; taken = Appends-kept old mid new _ p.taken q; left = p.left }

-- nothing is left: all bytes were appended
pub Partly-all : (old new : Option (List ℕ)) (all rest : List ℕ) → Partly old new all rest → length rest ≡ 0 → Appends old new all
Partly-all old new all rest p none =
    let long : length all ≤ p.count = omega (arith, ap length p.left, length-drop p.count all) in
    subst (Appends old new) (take_all p.count all long) p.taken

pub Partly-prefix : (old new : Option (List ℕ)) (all rest : List ℕ) → Partly old new all rest → AppendsPrefix old new all
Partly-prefix old new all rest p = (p.count, p.taken)
