-- Readings that follow one another: what is kept of those so far, and what the rest adds.
use Rattle.std.proofs.Common.{◌≡◌, ℕ, suc, ◌+◌, ◌-◌, ◌<◌, ◌≤◌, ◌∙◌, List, [], ◌∷◌, ◌++◌, map, length, drop, get_or, Option, None, Some, Bool, true, refl, sym, ap, arith, append_assoc}
use Rattle.std.specs.List.{list_all}
use Rattle.std.proofs.lemmas.List.Folds.{list_all_at}
use Rattle.std.proofs.lemmas.Bool.{true_from_ne_false}
use Rattle.pads_value.specs.declared.descriptor.Pd.{Pd}
use Rattle.pads_value.specs.declared.value.Val.{Val}
use Rattle.pads_value.specs.declared.value.Val.TheVariants as val
use Rattle.pads_expr.specs.Value.{Pairs}
use Rattle.pads_calc.specs.declared.term.Part.{Part}
use Rattle.pads_calc.specs.declared.reading.Reading.{Reading}
use Rattle.pads_calc.specs.Calculus.{Caller, read, part_reader}
use Rattle.pads_calc.specs.Readings.{Subject, node, values, pds, end_of}
use Rattle.pads_calc.specs.Structs.{bind, in_turn, struct_of}
use Rattle.pads_calc.proofs.Lists.{drop-next}

-- `whole` from `i` on is what is kept, up to `place`, and then `rest`
pub record Follows (whole : List Reading) (i : ℕ) (kept : List Val) (kids : List Pd) (place : ℕ) (rest : List Reading) : Type 0 where
  pub values_are : values whole ≡ kept ++ values rest
  pub pds_are : pds whole ≡ kids ++ pds rest
  pub end_is : end_of i whole ≡ end_of place rest

pub follows-start : (whole : List Reading) (i : ℕ) → Follows whole i [] [] i whole
follows-start whole i = record { values_are = refl; pds_are = refl; end_is = refl }

pub follows-push : (whole : List Reading) (i : ℕ) (kept : List Val) (kids : List Pd) (place : ℕ) (r : Reading) (rest : List Reading) →
    Follows whole i kept kids place (r ∷ rest) → Follows whole i (kept ++ r.value ∷ []) (kids ++ r.pd ∷ []) r.place rest
follows-push whole i kept kids place r rest h = record {
  values_are = h.values_are ∙ sym (append_assoc kept (r.value ∷ []) (values rest));
  pds_are = h.pds_are ∙ sym (append_assoc kids (r.pd ∷ []) (pds rest));
  end_is = h.end_is;
}

pub append-none : {A : Type 0} (xs : List A) → xs ++ [] ≡ xs
append-none [] = refl
append-none (x ∷ xs) = ap (λ rest. x ∷ rest) (append-none xs)

pub follows-struct : (origin : ℕ) (whole : List Reading) (i : ℕ) (kept : List Val) (kids : List Pd) (place : ℕ) →
    Follows whole i kept kids place [] → struct_of origin whole i ≡ node origin None (val.Tuple kept) i place kids
follows-struct origin whole i kept kids place h =
    rw (h.values_are, h.pds_are, h.end_is, append-none kept, append-none kids) refl

-- a longer environment over another
pub record Extends (outer inner : Pairs) : Type 0 where
  pub longer : length outer ≤ length inner
  pub same : drop (length inner - length outer) inner ≡ outer

pub extends-refl : (env : Pairs) → Extends env env
extends-refl env =
    let none : length env - length env ≡ 0 = omega arith in
    record { longer = omega arith; same = rw none refl }

pub extends-bind : (outer inner : Pairs) (name : Option ℕ) (value : Val) → Extends outer inner → Extends outer (bind name value inner)
extends-bind outer inner None value h = h
extends-bind outer inner (Some name) value h =
    let more : suc (length inner) - length outer ≡ suc (length inner - length outer) = omega (arith, h.longer) in
    record { longer = omega (arith, h.longer); same = rw more h.same }

module _ (subject : Subject) (call : Caller) where
  -- the next part of a struct
  pub parts-next : (parts : List Part) (n : ℕ) (part : Part) (env : Pairs) (place : ℕ) → n < length parts → part ≡ get_or parts n part →
      let r = read subject call part.term env place in
      in_turn (map (part_reader subject call) (drop n parts)) env place
      ≡ r ∷ in_turn (map (part_reader subject call) (drop (n + 1) parts)) (bind part.name r.value env) r.place
  parts-next parts n part env place more here =
      ap (λ rest. in_turn (map (part_reader subject call) rest) env place)
      (drop-next parts n part more ∙ ap (λ first. first ∷ drop (n + 1) parts) (sym here))

-- what holds of all items holds of each
pub all-at : {A : Type 0} (f : A → Bool) (xs : List A) (n : ℕ) (x : A) → list_all f xs ≡ true → n < length xs → x ≡ get_or xs n x → f x ≡ true
all-at f xs n x all more here = true_from_ne_false (f x) (λ bad. let none = list_all_at f xs n x more (sym (ap f here) ∙ bad) in cc)
