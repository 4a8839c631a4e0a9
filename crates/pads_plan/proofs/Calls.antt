-- Where calls lead.
use Rattle.std.proofs.Common.{◌≡◌, sym, ap, refl, ℕ, zero, suc, ◌-◌, ◌<◌, ◌++◌, ◌∷◌, Bool, true, false, List, [], Option, Some, None, slice_get, nat_eq, arith, if◌then◌else◌}
use Rattle.std.proofs.lemmas.Option.{none-some, cond_some}
use Rattle.std.specs.List.{list_any}
use Rattle.pads_calc.specs.declared.decl.Decl.{Decl}
use Rattle.pads_plan.specs.Expansion.{bare, caller, called, expand}
use Rattle.pads_sums.specs.declared.form.PartForm.TheVariants as form
use Rattle.pads_plan.specs.Pending.{callee_of, parts_at}

pub callee_none : (decls : List Decl) (left number : ℕ) (way : List ℕ) → left ≡ 0 → callee_of decls left number way ≡ None
callee_none decls zero number way none = refl
callee_none decls (suc left) number way none = absurd (omega (arith, none))

pub callee_met : (decls : List Decl) (left number : ℕ) (way : List ℕ) → list_any (nat_eq number) way ≡ true → callee_of decls left number way ≡ None
callee_met decls zero number way met = refl
callee_met decls (suc left) number way met = rw met refl

pub callee_found : (decls : List Decl) (left number : ℕ) (way : List ℕ) → 0 < left → list_any (nat_eq number) way ≡ false
    → callee_of decls left number way ≡ slice_get decls number
callee_found decls zero number way some met = absurd (omega (arith, some))
callee_found decls (suc left) number way some met = rw met refl

-- a call that leads nowhere is a part with nothing below it
met-listed : (names : List (List ℕ)) (decls : List Decl) (left number : ℕ) (way : List ℕ) (decl : Option Decl) (met : Bool)
    → list_any (nat_eq number) way ≡ met
    → (if met then None else decl) ≡ None
    → called (expand names (caller names decls left)) number decl way ≡ bare form.Bare way
met-listed names decls left number way None met is none = refl
met-listed names decls left number way (Some decl) true is none = rw is refl
met-listed names decls left number way (Some decl) false is none = absurd (none-some decl (sym none))

pub nowhere_listed : (names : List (List ℕ)) (decls : List Decl) (left number : ℕ) (way : List ℕ)
    → callee_of decls left number way ≡ None → caller names decls left number way ≡ bare form.Bare way
unfolding caller
nowhere_listed names decls zero number way none = refl
nowhere_listed names decls (suc left) number way none = met-listed names decls left number way (slice_get decls number) (list_any (nat_eq number) way) refl none

called-listed : (names : List (List ℕ)) (decls : List Decl) (left number : ℕ) (way : List ℕ) (found : Option Decl) (decl : Decl) (met : Bool)
    → list_any (nat_eq number) way ≡ met
    → (if met then None else found) ≡ Some decl
    → called (expand names (caller names decls left)) number found way ≡ parts_at decls names left decl.body (way ++ number ∷ [])
called-listed names decls left number way None decl true is some = absurd (none-some decl some)
called-listed names decls left number way None decl false is some = absurd (none-some decl some)
called-listed names decls left number way (Some found) decl true is some = absurd (none-some decl some)
called-listed names decls left number way (Some found) decl false is some =
    rw is (ap (λ (decl : Decl). parts_at decls names left decl.body (way ++ number ∷ [])) (cond_some true found decl some).1)

pub call_listed_below : (names : List (List ℕ)) (decls : List Decl) (left number : ℕ) (way : List ℕ) (decl : Decl)
    → callee_of decls left number way ≡ Some decl
    → caller names decls left number way ≡ parts_at decls names (left - 1) decl.body (way ++ number ∷ [])
unfolding caller
call_listed_below names decls zero number way decl some = absurd (none-some decl some)
call_listed_below names decls (suc left) number way decl some =
    let less : suc left - 1 ≡ left = omega arith in
    rw less (called-listed names decls left number way (slice_get decls number) decl (list_any (nat_eq number) way) refl some)
