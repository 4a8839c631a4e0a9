-- What holds of all that a grammar makes of tokens whose names are spelled as names.
use Rattle.std.proofs.Common.{◌≡◌, subst, ℕ, true, List, [], ◌∷◌, ◌++◌, Option, Some, None, ◌⊎◌, inl, inr}
use Rattle.std.specs.List.{AllByRecursion as Each}
use Rattle.std.specs.Prelude.{⊤, IfSome}
use Rattle.pads_lex.specs.Answers.{HasSpelledNames}
use Rattle.pads_lex.specs.Spelling.{is_name}
use Rattle.pads_lex.specs.declared.token.TokenKind.TheVariants as token_kind
use Rattle.pads_lex.specs.declared.token.Mark.{Mark}
use Rattle.pads_lex.specs.declared.token.Token.{Token}
use Rattle.pads_grammar.specs.declared.kind.Kind.{Kind}
use Rattle.pads_grammar.specs.Kinds.{Tokens, kind_of}
use Rattle.pads_grammar.specs.Grammar.{Grammar, Derives, Split, Maybe, Many, Rest, token, mark, pair, apply, either, optional, many, rest_of, ◌<*◌, ◌*>◌}
use Rattle.pads_grammar.specs.Lists.{listed}

-- A token that is a name is spelled as one.
abbrev pub IsFine : Token → Type 0
IsFine t = (word : List ℕ) → t.kind ≡ token_kind.Name word → is_name word ≡ true

pub names-left : (front back : Tokens) → HasSpelledNames (front ++ back) → HasSpelledNames front
names-left [] back all = tt
names-left (t ∷ front) back all = (all.0, names-left front back all.1)

names-right : (front back : Tokens) → HasSpelledNames (front ++ back) → HasSpelledNames back
names-right [] back all = all
names-right (t ∷ front) back all = names-right front back all.1

-- what holds of what may be left out
abbrev pub IfThere : {A : Type 0} → (A → Type 0) → Option A → Type 0
IfThere P o = IfSome o P

-- What a grammar makes of such tokens has the property.
pub record Keeps {A : Type 0} (g : Grammar A) (P : A → Type 0) : Type 0 where
  pub kept : (a : A) (ts : Tokens) → Derives g a ts → HasSpelledNames ts → P a

split-kept : {P Q : Tokens → Type 0} (X Y : Type 0) (ts : Tokens) → Split P Q ts → HasSpelledNames ts → ((front : Tokens) → P front → HasSpelledNames front → X) → ((back : Tokens) → Q back → HasSpelledNames back → Y) → X × Y
split-kept X Y ts split fine one other =
    let both = subst HasSpelledNames split.whole fine in
    (one split.front split.first (names-left split.front split.back both), other split.back split.second (names-right split.front split.back both))

pub keeps-token : {A : Type 0} (P : A → Type 0) (k : Kind) (take : Token → A) → ((t : Token) → kind_of t.kind ≡ k → IsFine t → P (take t)) → Keeps (token k take) P
keeps-token P k take each = record {
  kept = λ a ts is fine.
      let alone = subst HasSpelledNames is.alone fine in
      subst P is.taken (each is.token is.kind alone.0);
}

-- where nothing is asked of what is made
pub keeps-any : {A : Type 0} (g : Grammar A) → Keeps g (λ a. ⊤)
keeps-any g = record { kept = λ a ts is fine. tt }

pub keeps-pair : {A B : Type 0} {g : Grammar A} {h : Grammar B} {P : A → Type 0} {Q : B → Type 0} → Keeps g P → Keeps h Q → Keeps (pair g h) (λ both. P both.0 × Q both.1)
keeps-pair {P} {Q} one other = record { kept = λ both ts is fine. split-kept (P both.0) (Q both.1) ts is fine (λ front. one.kept both.0 front) (λ back. other.kept both.1 back) }

pub keeps-apply : {A B : Type 0} {g : Grammar A} {P : A → Type 0} (Q : B → Type 0) (f : A → B) → Keeps g P → ((a : A) → P a → Q (f a)) → Keeps (apply f g) Q
keeps-apply Q f part made = record { kept = λ b ts is fine. subst Q is.is (made is.value (part.kept is.value ts is.derived fine)) }

pub keeps-first : {A B : Type 0} {g : Grammar A} {P : A → Type 0} (h : Grammar B) → Keeps g P → Keeps (g <* h) P
keeps-first {P} h part = keeps-apply P (λ both. both.0) (keeps-pair part (keeps-any h)) (λ both fine. fine.0)

pub keeps-second : {A B : Type 0} {h : Grammar B} {Q : B → Type 0} (g : Grammar A) → Keeps h Q → Keeps (g *> h) Q
keeps-second {Q} g part = keeps-apply Q (λ both. both.1) (keeps-pair (keeps-any g) part) (λ both fine. fine.1)

pub keeps-either : {A : Type 0} {g h : Grammar A} {P : A → Type 0} → Keeps g P → Keeps h P → Keeps (either g h) P
keeps-either {g} {h} {P} one other = record { kept = λ a ts is fine. go a ts is fine }
  where
    go : (a : _) (ts : Tokens) → Derives g a ts ⊎ Derives h a ts → HasSpelledNames ts → P a
    go a ts (inl is) fine = one.kept a ts is fine
    go a ts (inr is) fine = other.kept a ts is fine

pub keeps-optional : {A : Type 0} {g : Grammar A} {P : A → Type 0} → Keeps g P → Keeps (optional g) (IfThere P)
keeps-optional {g} {P} part = record { kept = go }
  where
    go : (o : Option _) (ts : Tokens) → Maybe (Derives g) o ts → HasSpelledNames ts → IfThere P o
    go None ts is fine = tt
    go (Some a) ts is fine = part.kept a ts is fine

pub keeps-many : {A : Type 0} {g : Grammar A} {P : A → Type 0} → Keeps g P → Keeps (many g) (Each P)
keeps-many {g} {P} part = record { kept = go }
  where
    go : (xs : List _) (ts : Tokens) → Many (Derives g) xs ts → HasSpelledNames ts → Each P xs
    go [] ts is fine = tt
    go (x ∷ xs) ts is fine = split-kept (P x) (Each P xs) ts is fine (λ front. part.kept x front) (λ back. go xs back)

pub keeps-rest_of : {A : Type 0} {g : Grammar A} {P : A → Type 0} (k : Kind) → Keeps g P → Keeps (rest_of k g) (Each P)
keeps-rest_of {g} {P} k part = record { kept = go }
  where
    go : (xs : List _) (ts : Tokens) → Rest k (Derives g) xs ts → HasSpelledNames ts → Each P xs
    go [] ts is fine = tt
    go (x ∷ xs) ts is fine =
        let behind = subst HasSpelledNames is.whole fine in
        split-kept (P x) (Each P xs) is.back is.second (names-right is.front is.back behind) (λ front. part.kept x front) (λ back. go xs back)

pub keeps-listed : {A : Type 0} {g : Grammar A} {P : A → Type 0} (separator : Mark) → Keeps g P → Keeps (listed separator g) (Each P)
keeps-listed {P} separator part = keeps-apply (Each P) (λ both. both.0 ∷ both.1) (keeps-pair part (keeps-many (keeps-second (mark separator) part))) (λ both fine. fine)
