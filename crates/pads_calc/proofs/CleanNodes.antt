-- Which nodes are clean: those without a cause of their own over clean kids.
use Rattle.std.proofs.Common.{◌≡◌, ◌∙◌, ap, refl, ℕ, List, [], Bool, true, false, if◌then◌else◌, Option, None, Some}
use Rattle.pads_value.specs.Header.{head, all_clean, is_clean, is_ok_class, class_of, count_of, cause_of, with_cause}
use Rattle.pads_value.specs.declared.cause.Cause.{Cause}
use Rattle.pads_value.specs.declared.descriptor.Class.TheVariants as class
use Rattle.pads_value.specs.declared.descriptor.Own.{Own}
use Rattle.pads_value.specs.declared.descriptor.Pd.{Pd, Pd-F, out-roll-Pd}
use Rattle.pads_value.specs.declared.descriptor.Span.{Span}
use Rattle.pads_value.specs.declared.value.Val.{Val}
use Rattle.pads_value.specs.declared.value.Val.TheVariants as val
use Rattle.pads_calc.specs.declared.reading.Reading.{Reading}
use Rattle.pads_calc.specs.Readings.{node, fails, faulty, is_ok}

abbrev headed : Option Own → Span → List Pd → Pd-F Pd
headed own span kids = record { nerr = count_of own kids; class = class_of own kids; cause = cause_of own; span = span; kids = kids }

head-is : (own : Option Own) (span : Span) (kids : List Pd) → is_clean (head own span kids) ≡ is_ok_class (class_of own kids)
head-is own span kids = ap (λ (node : Pd-F Pd). is_ok_class node.class) (out-roll-Pd (headed own span kids))

by-kids : (b : Bool) → is_ok_class (if b then class.Ok else class.Err) ≡ b
by-kids true = refl
by-kids false = refl

by-failing : (b : Bool) → is_ok_class (if b then class.Fail else class.Err) ≡ false
by-failing true = refl
by-failing false = refl

-- without a cause of its own a node is clean where its kids are
pub clean-node : (origin : ℕ) (value : Val) (begin place : ℕ) (kids : List Pd) → is_ok (node origin None value begin place kids) ≡ all_clean kids
clean-node origin value begin place kids = head-is None _ kids ∙ by-kids (all_clean kids)

-- with one it never is
pub own-unclean : (origin : ℕ) (own : Own) (value : Val) (begin place : ℕ) (kids : List Pd) → is_ok (node origin (Some own) value begin place kids) ≡ false
own-unclean origin own value begin place kids = head-is (Some own) _ kids ∙ by-failing own.fails

pub fails-unclean : (origin : ℕ) (cause : Cause) (i : ℕ) → is_ok (fails origin cause i) ≡ false
fails-unclean origin cause i = own-unclean origin (record { cause = cause; fails = true }) val.Missing i i []

pub faulty-unclean : (origin : ℕ) (cause : Cause) (begin place : ℕ) → is_ok (faulty origin cause begin place) ≡ false
faulty-unclean origin cause begin place = own-unclean origin (record { cause = cause; fails = false }) val.Missing begin place []

pub caused-unclean : (cause : Cause) (begin : ℕ) (r : Reading) → is_ok (record r { pd = with_cause cause begin r.pd }) ≡ false
caused-unclean cause begin r = ap (λ (node : Pd-F Pd). is_ok_class node.class) (out-roll-Pd _)

-- a node that is clean has no cause of its own
pub clean-own : (origin : ℕ) (own : Option Own) (value : Val) (begin place : ℕ) (kids : List Pd)
    → is_ok (node origin own value begin place kids) ≡ true → (own ≡ None) × (all_clean kids ≡ true)
clean-own origin None value begin place kids ok =
    let same = clean-node origin value begin place kids in (refl, cc)
clean-own origin (Some own) value begin place kids ok =
    let never = own-unclean origin own value begin place kids in absurd cc
