-- Tokens of the same kinds derive alike: only what is taken of them may differ.
use Rattle.std.proofs.Common.{◌≡◌, ◌∙◌, sym, ap, refl, subst, [], ◌∷◌, ◌++◌, Some, None, inl, inr}
use Rattle.std.specs.Prelude.{⊤}
use Rattle.pads_lex.specs.declared.token.Token.{Token}
use Rattle.pads_grammar.specs.declared.kind.Kind.{Kind}
use Rattle.pads_grammar.specs.Kinds.{Tokens, kind_of}
use Rattle.pads_grammar.specs.Grammar.{Grammar, token, pair, apply, either, optional, many, rest_of, Rule, Derives, IsToken, Many, Rest}

abbrev pub Alike : Tokens → Tokens → Type 0
Alike [] [] = ⊤
Alike [] (u ∷ us) = ⊥
Alike (t ∷ ts) [] = ⊥
Alike (t ∷ ts) (u ∷ us) = (kind_of t.kind ≡ kind_of u.kind) × Alike ts us

pub itself : (ts : Tokens) → Alike ts ts
itself [] = tt
itself (t ∷ ts) = (refl, itself ts)

pub behind : (us ts vs : Tokens) → Alike ts vs → Alike (us ++ ts) (us ++ vs)
behind [] ts vs h = h
behind (u ∷ us) ts vs h = (refl, behind us ts vs h)

nothing : (us : Tokens) → Alike [] us → us ≡ []
nothing [] h = refl
nothing (u ∷ us) h = absurd h

pub one : (t : Token) (us : Tokens) → Alike (t ∷ []) us → (u : Token) × (us ≡ u ∷ []) × (kind_of t.kind ≡ kind_of u.kind)
one t [] h = absurd h
one t (u ∷ us) h = (u, ap (λ vs. u ∷ vs) (nothing us h.1), h.0)

-- Two fronts and two backs.
pub record Cut (xs ys us : Tokens) : Type 0 where
  pub front : Tokens
  pub back : Tokens
  pub whole : us ≡ front ++ back
  pub first : Alike xs front
  pub second : Alike ys back

pub cut : (xs ys us : Tokens) → Alike (xs ++ ys) us → Cut xs ys us
cut [] ys us h = record { front = []; back = us; whole = refl; first = tt; second = h }
cut (x ∷ xs) ys [] h = absurd h
cut (x ∷ xs) ys (u ∷ us) h =
    let rest = cut xs ys us h.1 in
    record { front = u ∷ rest.front; back = rest.back; whole = ap (λ vs. u ∷ vs) rest.whole; first = (h.0, rest.first); second = rest.second }

-- What is derived of tokens of some kinds is derived of all tokens of these kinds, but for what is taken of them.
abbrev Retakes : {A : Type 0} → Rule A → Type 0
Retakes {A} P = (a : A) (ts us : Tokens) → P a ts → Alike ts us → (b : A) × P b us

token-retaken : {A : Type 0} (k : Kind) (take : Token → A) → Retakes (IsToken k take)
token-retaken k take a ts us d h =
    let o = one d.token us (subst (λ (vs : Tokens). Alike vs us) d.alone h) in
    (take o.0, record { token = o.0; alone = o.1; kind = sym o.2 ∙ d.kind; taken = refl })

many-retaken : {A : Type 0} (P : Rule A) → Retakes P → Retakes (Many P)
many-retaken P part [] ts us d h = ([], nothing us (subst (λ (vs : Tokens). Alike vs us) d h))
many-retaken P part (x ∷ xs) ts us d h =
    let c = cut d.front d.back us (subst (λ (vs : Tokens). Alike vs us) d.whole h) in
    let y = part x d.front c.front d.first c.first in
    let ys = many-retaken P part xs d.back c.back d.second c.second in
    (y.0 ∷ ys.0, record { front = c.front; back = c.back; whole = c.whole; first = y.1; second = ys.1 })

mark-retaken : (k : Kind) (ts us : Tokens) → ((t : Token) × IsToken k (λ s. s) t ts) → Alike ts us → (u : Token) × IsToken k (λ s. s) u us
mark-retaken k ts us d h = token-retaken k (λ s. s) d.0 ts us d.1 h

rest-retaken : {A : Type 0} (k : Kind) (P : Rule A) → Retakes P → Retakes (Rest k P)
rest-retaken k P part [] ts us (inl d) h = ([], inl (nothing us (subst (λ (vs : Tokens). Alike vs us) d h)))
rest-retaken k P part [] ts us (inr d) h = ([], inr (mark-retaken k ts us d h))
rest-retaken k P part (x ∷ xs) ts us d h =
    let c = cut d.front d.back us (subst (λ (vs : Tokens). Alike vs us) d.whole h) in
    let e = d.second in
    let b = cut e.front e.back c.back (subst (λ (vs : Tokens). Alike vs c.back) e.whole c.second) in
    let y = part x e.front b.front e.first b.first in
    let ys = rest-retaken k P part xs e.back b.back e.second b.second in (
      y.0 ∷ ys.0,
      record {
        front = c.front;
        back = c.back;
        whole = c.whole;
        first = mark-retaken k d.front c.front d.first c.first;
        second = record { front = b.front; back = b.back; whole = b.whole; first = y.1; second = ys.1 };
      },
    )

pub retaken : {A : Type 0} (g : Grammar A) (a : A) (ts us : Tokens) → Derives g a ts → Alike ts us → (b : A) × Derives g b us
retaken (token k take) a ts us d h = token-retaken k take a ts us d h
retaken (pair g h) a ts us d same =
    let c = cut d.front d.back us (subst (λ (vs : Tokens). Alike vs us) d.whole same) in
    let x = retaken g a.0 d.front c.front d.first c.first in
    let y = retaken h a.1 d.back c.back d.second c.second in
    ((x.0, y.0), record { front = c.front; back = c.back; whole = c.whole; first = x.1; second = y.1 })
retaken (apply f g) a ts us d h =
    let x = retaken g d.value ts us d.derived h in
    (f x.0, record { value = x.0; is = refl; derived = x.1 })
retaken (either g h) a ts us (inl d) same = let x = retaken g a ts us d same in (x.0, inl x.1)
retaken (either g h) a ts us (inr d) same = let x = retaken h a ts us d same in (x.0, inr x.1)
retaken (optional g) None ts us d h = (None, nothing us (subst (λ (vs : Tokens). Alike vs us) d h))
retaken (optional g) (Some a) ts us d h = let x = retaken g a ts us d h in (Some x.0, x.1)
retaken (many g) xs ts us d h = many-retaken (Derives g) (retaken g) xs ts us d h
retaken (rest_of k g) xs ts us d h = rest-retaken k (Derives g) (retaken g) xs ts us d h
