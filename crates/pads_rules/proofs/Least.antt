-- The least violation of a list does not depend on the order in which the list has them.
use Rattle.std.proofs.Common.{◌≡◌, ℕ, ◌∙◌, sym, ap, refl, Bool, true, false, if◌then◌else◌, List, [], ◌∷◌, ◌++◌, Option, Some, None, map, flat_map, append_assoc, arith}
use Rattle.pads_rules.specs.declared.fault.CheckFault.{CheckFault}
use Rattle.pads_rules.specs.declared.rule.Rule.{Rule}
use Rattle.pads_rules.specs.Faults.{breaks, is_before, lesser, least, each}
use Rattle.pads_rules.specs.Rules.{number}
use Rattle.pads_rules.proofs.RuleNumbers.{one-rule}

same-place : (a b : CheckFault) → is_before a b ≡ false → is_before b a ≡ false → a.at ≡ b.at
same-place a b p q = grind arith

same-number : (a b : CheckFault) → is_before a b ≡ false → is_before b a ≡ false → number a.rule ≡ number b.rule
same-number a b p q = grind arith

same-parts : (r s : Rule) (at place : ℕ) → r ≡ s → at ≡ place → breaks r at ≡ breaks s place
same-parts r s at place e f = cc

-- Two violations of which none is told before the other are the same.
same-fault : (a b : CheckFault) → is_before a b ≡ false → is_before b a ≡ false → a ≡ b
same-fault a b p q = same-parts a.rule b.rule a.at b.at (one-rule a.rule b.rule (same-number a b p q)) (same-place a b p q)

not-both : (a b : CheckFault) → is_before a b ≡ true → is_before b a ≡ false
not-both a b p = grind arith

before-trans : (a b c : CheckFault) → is_before a b ≡ true → is_before b c ≡ true → is_before a c ≡ true
before-trans a b c p q = grind arith

before-or : (a b c : CheckFault) → is_before a b ≡ false → is_before b c ≡ false → is_before a c ≡ false
before-or a b c p q = grind arith

pub lesser-none : (a : Option CheckFault) → lesser a None ≡ a
unfolding lesser
lesser-none None = refl
lesser-none (Some a) = refl

-- the least of two that are there
pick : CheckFault → CheckFault → CheckFault
pick a b = if is_before b a then b else a

lesser-some : (a b : CheckFault) → lesser (Some a) (Some b) ≡ (if is_before b a then Some b else Some a)
unfolding lesser
lesser-some a b = refl

pub lesser_comm : (a b : Option CheckFault) → lesser a b ≡ lesser b a
unfolding lesser
lesser_comm None None = refl
lesser_comm None (Some b) = refl
lesser_comm (Some a) None = refl
lesser_comm (Some a) (Some b) = by_order (is_before b a) (is_before a b) refl refl
  where
    by_order : (t u : Bool) → is_before b a ≡ t → is_before a b ≡ u → (if t then Some b else Some a) ≡ (if u then Some a else Some b)
    by_order true true p q = let never = not-both b a p in cc
    by_order true false p q = refl
    by_order false true p q = refl
    by_order false false p q = ap (λ x. Some x) (same-fault a b q p)

pub lesser_assoc : (a b c : Option CheckFault) → lesser (lesser a b) c ≡ lesser a (lesser b c)
unfolding lesser
lesser_assoc None b c = refl
lesser_assoc (Some a) None c = refl
lesser_assoc (Some a) (Some b) None = lesser-none (lesser (Some a) (Some b))
lesser_assoc (Some a) (Some b) (Some c) = grind (arith, same-fault, not-both, before-trans, before-or)

pub least-append : (xs ys : List CheckFault) → least (xs ++ ys) ≡ lesser (least xs) (least ys)
unfolding lesser
least-append [] ys = refl
least-append (x ∷ xs) ys = ap (lesser (Some x)) (least-append xs ys) ∙ sym (lesser_assoc (Some x) (least xs) (least ys))

-- Four lists of violations, two and two, in another order.
pub lesser-across : (a b c d : Option CheckFault) → lesser (lesser a b) (lesser c d) ≡ lesser (lesser a c) (lesser b d)
lesser-across a b c d =
    lesser_assoc a b (lesser c d)
    ∙ ap (lesser a) (sym (lesser_assoc b c d) ∙ ap (λ x. lesser x d) (lesser_comm b c) ∙ lesser_assoc c b d)
    ∙ sym (lesser_assoc a c (lesser b d))

-- Two rules on some things, one rule after the other, or thing by thing.
pub together : {A : Type 0} (f g : A → List CheckFault) (xs : List A) →
    lesser (least (each f xs)) (least (each g xs)) ≡ least (each (λ x. f x ++ g x) xs)
unfolding lesser
together f g [] = refl
together f g (x ∷ xs) =
    rw (least-append (f x) (each f xs), least-append (g x) (each g xs), least-append (f x ++ g x) (each (λ y. f y ++ g y) xs), least-append (f x) (g x))
    (lesser-across (least (f x)) (least (each f xs)) (least (g x)) (least (each g xs)) ∙ ap (lesser (lesser (least (f x)) (least (g x)))) (together f g xs))

-- The violations of some things and some more.
pub each-append : {A : Type 0} (f : A → List CheckFault) (xs ys : List A) → each f (xs ++ ys) ≡ each f xs ++ each f ys
each-append f [] ys = refl
each-append f (x ∷ xs) ys = ap (λ zs. f x ++ zs) (each-append f xs ys) ∙ sym (append_assoc (f x) (each f xs) (each f ys))

-- The violations of what some things are made of.
pub each-flat_map : {A B : Type 0} (f : B → List CheckFault) (g : A → List B) (xs : List A) →
    each f (flat_map g xs) ≡ each (λ x. each f (g x)) xs
each-flat_map f g [] = refl
each-flat_map f g (x ∷ xs) = each-append f (g x) (flat_map g xs) ∙ ap (λ zs. each f (g x) ++ zs) (each-flat_map f g xs)

pub each-map : {A B : Type 0} (f : B → List CheckFault) (g : A → B) (xs : List A) → each f (map g xs) ≡ each (λ x. f (g x)) xs
each-map f g [] = refl
each-map f g (x ∷ xs) = ap (λ zs. f (g x) ++ zs) (each-map f g xs)

-- There is a least violation exactly where there is any.
pub none-least : (xs : List CheckFault) → None ≡ least xs → xs ≡ []
unfolding lesser
none-least [] e = refl
none-least (x ∷ xs) e = by_rest (least xs) e
  where
    by_rest : (rest : Option CheckFault) → None ≡ lesser (Some x) rest → (x ∷ xs) ≡ []
    by_rest None e = cc
    by_rest (Some y) e = by_order (is_before y x) refl e
      where
        by_order : (t : Bool) → is_before y x ≡ t → None ≡ (if t then Some y else Some x) → (x ∷ xs) ≡ []
        by_order true q e = cc
        by_order false q e = cc

pub least-none : (xs : List CheckFault) → xs ≡ [] → least xs ≡ None
least-none xs e = rw e refl
