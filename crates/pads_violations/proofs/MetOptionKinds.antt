-- The kinds of array options that were met.
use Rattle.std.proofs.Common.{◌≡◌, ◌∙◌, sym, ap, refl, ℕ, ◌+◌, ◌<◌, Bool, true, false, ◌||◌, List, [], ◌∷◌, length, take, get_or}
use Rattle.std.specs.List.{list_any}
use Rattle.std.proofs.lemmas.List.Folds.{list_any-append}
use Rattle.std.proofs.Math.Bool.{or-false}
use Rattle.pads_ast.specs.declared.decl.ArrayOption.{ArrayOption}
use Rattle.pads_ast.specs.declared.decl.ArrayOption.TheVariants as array_option
use Rattle.pads_rules.specs.DeclRules.{same_option}
use Rattle.pads_violations.specs.declared.repeats.Kinds.{Kinds}
use Rattle.pads_violations.specs.OptionKinds.{has_kind, with_kind}
use Rattle.pads_declared.proofs.Lists.{taken}

-- Some kinds are those of some options, and no others.
abbrev pub HasKinds : Kinds → List ArrayOption → Type 0
HasKinds kinds options = (o : ArrayOption) → has_kind kinds o ≡ list_any (same_option o) options

or-true : (b : Bool) → true ≡ (b || true)
or-true true = refl
or-true false = refl

with-more : (kinds : Kinds) (o x : ArrayOption) → has_kind (with_kind kinds x) o ≡ (has_kind kinds o || same_option o x)
with-more kinds (array_option.Psep at a) (array_option.Psep bt b) = or-true kinds.separator
with-more kinds (array_option.Psep at a) (array_option.Pterm bt b) = sym (or-false kinds.separator)
with-more kinds (array_option.Psep at a) (array_option.Plast bt b) = sym (or-false kinds.separator)
with-more kinds (array_option.Pterm at a) (array_option.Psep bt b) = sym (or-false kinds.terminator)
with-more kinds (array_option.Pterm at a) (array_option.Pterm bt b) = or-true kinds.terminator
with-more kinds (array_option.Pterm at a) (array_option.Plast bt b) = sym (or-false kinds.terminator)
with-more kinds (array_option.Plast at a) (array_option.Psep bt b) = sym (or-false kinds.last)
with-more kinds (array_option.Plast at a) (array_option.Pterm bt b) = sym (or-false kinds.last)
with-more kinds (array_option.Plast at a) (array_option.Plast bt b) = or-true kinds.last

pub kinds-none : (o : ArrayOption) → has_kind (record { separator = false; terminator = false; last = false }) o ≡ false
kinds-none (array_option.Psep at a) = refl
kinds-none (array_option.Pterm at a) = refl
kinds-none (array_option.Plast at a) = refl

pub kinds-more : (kinds new : Kinds) (xs : List ArrayOption) (i : ℕ) (x : ArrayOption) → i < length xs → x ≡ get_or xs i x → new ≡ with_kind kinds x
    → HasKinds kinds (take i xs) → HasKinds new (take (i + 1) xs)
kinds-more kinds new xs i x there is added has o =
    ap (λ ks. has_kind ks o) added ∙ with-more kinds o x ∙ ap (λ b. b || same_option o x) (has o)
    ∙ sym (ap (list_any (same_option o)) (taken xs i x there is) ∙ list_any-append (same_option o) (take i xs) (x ∷ []) ∙ ap (λ b. list_any (same_option o) (take i xs) || b) (or-false (same_option o x)))
