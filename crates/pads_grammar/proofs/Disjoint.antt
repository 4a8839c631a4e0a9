-- Two sets of kinds are apart where a test over all kinds says so.
use Rattle.std.proofs.Common.{◌≡◌, ◌∙◌, sym, ap, Bool, true, false, ◌&&◌, ◌||◌, not, List, [], ◌∷◌, refl}
use Rattle.std.proofs.lemmas.Bool.{and_parts}
use Rattle.pads_lex.specs.declared.token.Keyword.TheVariants.{Pstruct}
use Rattle.pads_lex.specs.declared.token.Mark.TheVariants.{Comma}
use Rattle.pads_grammar.specs.declared.kind.Kind.{Kind}
use Rattle.pads_grammar.specs.declared.kind.Kind.TheVariants as kind
use Rattle.pads_grammar.specs.Kinds.{is, all_kinds}
use Rattle.pads_grammar.specs.Grammar.{Apart}
use Rattle.pads_grammar.proofs.Parts.{is-same}

abbrev pub all_of : (Kind → Bool) → List Kind → Bool
all_of f [] = true
all_of f (k ∷ ks) = f k && all_of f ks

-- One of these kinds is that one.
abbrev has : Kind → List Kind → Bool
has j [] = false
has j (k ∷ ks) = is k j || has j ks

-- Each kind is one of all kinds.
there : (j : Kind) → has j all_kinds ≡ true
there (kind.Keyword Pstruct) = refl
there (kind.Mark Comma) = refl
there _ = refl

holds : (f : Kind → Bool) (j : Kind) (ks : List Kind) → all_of f ks ≡ true → has j ks ≡ true → f j ≡ true
holds f j [] h e = cc
holds f j (k ∷ ks) h e =
    let parts = and_parts (f k) (all_of f ks) h in
    go (is k j) refl parts.0 (λ more. holds f j ks parts.1 more) e
  where
    go : (b : Bool) → is k j ≡ b → f k ≡ true → (has j ks ≡ true → f j ≡ true) → (b || has j ks) ≡ true → f j ≡ true
    go true same here behind e = sym (ap f (is-same k j same)) ∙ here
    go false same here behind e = behind e

separate : (a b : Bool) → not (a && b) ≡ true → a ≡ true → b ≡ false
separate true true h e = cc
separate true false h e = refl
separate false b h e = cc

pub apart_by : (I F : Kind → Bool) → all_of (λ j. not (I j && F j)) all_kinds ≡ true → Apart I F
apart_by I F h j e = separate (I j) (F j) (holds (λ j. not (I j && F j)) j all_kinds h (there j)) e

-- What a test over all kinds says of each.
pub every_kind : (f : Kind → Bool) → all_of f all_kinds ≡ true → (j : Kind) → f j ≡ true
every_kind f h j = holds f j all_kinds h (there j)

implies : (a b : Bool) → (not a || b) ≡ true → a ≡ true → b ≡ true
implies true b h e = h
implies false b h e = cc

pub within_by : (I J : Kind → Bool) → all_of (λ j. not (I j) || J j) all_kinds ≡ true → (j : Kind) → I j ≡ true → J j ≡ true
within_by I J h j e = implies (I j) (J j) (every_kind (λ j. not (I j) || J j) h j) e
