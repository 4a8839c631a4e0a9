-- Tokens derive at most one path, have at most one first fault, and never both. What the grammar says of the tokens
-- before a number that is no index, or before the end token, decides which.
use Rattle.std.proofs.Common.{◌≡◌, ◌∙◌, sym, ap, refl, subst, arith, ◌⊎◌, inl, inr, ℕ, suc, ◌+◌, ◌-◌, ◌<◌, ◌≤◌, Bool, true, false, not, ◌&&◌, [], ◌∷◌, ◌++◌, append_assoc, length, take, drop, get_or, map, Ok, Err, pos, negsuc, cond}
use Rattle.std.proofs.lemmas.Bool.{cases_lt, and_parts, and_from}
use Rattle.std.proofs.lemmas.List.{take-append-drop, take_all, take-append-le, take-take, take_at, length-append}
use Rattle.std.proofs.Math.Seq.{drop-cons}
use Rattle.pads_lex.specs.Answers.{EndsLast}
use Rattle.pads_lex.specs.declared.token.Token.{Token}
use Rattle.pads_lex.specs.declared.token.TokenKind.{TokenKind}
use Rattle.pads_lex.specs.declared.token.TokenKind.TheVariants as token_kind
use Rattle.pads_grammar.specs.declared.kind.Kind.TheVariants as kind
use Rattle.pads_grammar.specs.Kinds.{Tokens, is, kind_of, sample}
use Rattle.pads_grammar.specs.Grammar.{Outcome, reads}
use Rattle.pads_grammar.specs.Whole.{Begins, IsFirstFault}
use Rattle.pads_grammar.proofs.WholeLaws.{whole_read, fault_met}
use Rattle.pads_syntax.proofs.Stops.{Ends, last_kind, fewer_found, fewer_met, completed, stopped_at, stopped_behind, left_behind}
use Rattle.pads_syntax.proofs.TreeLaws as trees
use Rattle.pads_syntax.specs.Answers.{past_end}
use Rattle.pads_syntax_path.specs.Indexes.{is_large, none_large}
use Rattle.pads_syntax_path.specs.Paths.{path}
use Rattle.pads_syntax_path.specs.Trees.{before_end, IsPath, BeginsPath, IsPathFault}
use Rattle.pads_syntax_path.specs.Answers.{Reaches}
use Rattle.pads_syntax_path.specs.declared.path.Path.{Path}
use Rattle.pads_syntax_path.proofs.Alike.{Alike, behind, cut, one, retaken}
use Rattle.pads_syntax_path.proofs.PathDecides.{path_ok}

-- numbers that are indexes
pub both_small : (us vs : Tokens) → none_large us ≡ true → none_large vs ≡ true → none_large (us ++ vs) ≡ true
both_small [] vs one other = other
both_small (u ∷ us) vs one other =
    let parts = and_parts (not (is_large u.kind)) (none_large us) one in
    and_from (not (is_large u.kind)) (none_large (us ++ vs)) parts.0 (both_small us vs parts.1 other)

front_small : (us vs : Tokens) → none_large (us ++ vs) ≡ true → none_large us ≡ true
front_small [] vs h = refl
front_small (u ∷ us) vs h =
    let parts = and_parts (not (is_large u.kind)) (none_large (us ++ vs)) h in
    and_from (not (is_large u.kind)) (none_large us) parts.0 (front_small us vs parts.1)

large_in : (us : Tokens) (t : Token) (vs : Tokens) → is_large t.kind ≡ true → none_large (us ++ t ∷ vs) ≡ true → ⊥
large_in [] t vs large h = let e : not (is_large t.kind) ≡ true = (and_parts (not (is_large t.kind)) (none_large vs) h).0 in let f : false ≡ true = sym (ap not large) ∙ e in cc
large_in (u ∷ us) t vs large h = large_in us t vs large (and_parts (not (is_large u.kind)) (none_large (us ++ t ∷ vs)) h).1

-- a token of the same kind that is an index, where it is a number
abbrev tame_by : Bool → Token → Token
tame_by true t = sample kind.Number
tame_by false t = t

abbrev tame : Token → Token
tame t = tame_by (is_large t.kind) t

large_kind : (t : Token) → is_large t.kind ≡ true → kind_of t.kind ≡ kind.Number
large_kind t large = go t.kind large
  where
    go : (k : TokenKind) → is_large k ≡ true → kind_of k ≡ kind.Number
    go (token_kind.Number (pos n)) h = refl
    go (token_kind.Number (negsuc n)) h = cc
    go _ h = cc

tame_kind : (t : Token) → kind_of t.kind ≡ kind_of (tame t).kind
tame_kind t = go (is_large t.kind) refl
  where
    go : (b : Bool) → is_large t.kind ≡ b → kind_of t.kind ≡ kind_of (tame_by b t).kind
    go true large = large_kind t large
    go false large = refl

tame_small : (t : Token) → not (is_large (tame t).kind) ≡ true
tame_small t = go (is_large t.kind) refl
  where
    go : (b : Bool) → is_large t.kind ≡ b → not (is_large (tame_by b t).kind) ≡ true
    go true large = refl
    go false large = ap not large

all_alike : (ts : Tokens) → Alike ts (map tame ts)
all_alike [] = tt
all_alike (t ∷ ts) = (tame_kind t, all_alike ts)

all_small : (ts : Tokens) → none_large (map tame ts) ≡ true
all_small [] = refl
all_small (t ∷ ts) = and_from (not (is_large (tame t).kind)) (none_large (map tame ts)) (tame_small t) (all_small ts)

-- What begins the tokens of a path of the grammar begins those of a path.
begins_small : (us : Tokens) → none_large us ≡ true → Begins path before_end us → BeginsPath us
begins_small us small b =
    let w = b.derived in
    let c = cut w.front (w.end ∷ []) (us ++ map tame b.back) (subst (λ (ts : Tokens). Alike ts (us ++ map tame b.back)) w.whole (behind us b.back (map tame b.back) (all_alike b.back))) in
    let e = one w.end c.back c.second in
    let x = retaken path w.value w.front c.front w.derived c.first in
    record {
      tree = x.0;
      back = map tame b.back;
      derived = (
        record { front = c.front; «end» = e.0; value = x.0; whole = c.whole ∙ ap (λ ts. c.front ++ ts) e.1; last = sym e.2 ∙ w.last; derived = x.1; made = refl },
        both_small us (map tame b.back) small (all_small b.back),
      );
    }

forget : (us : Tokens) → BeginsPath us → Begins path before_end us
forget us b = record { tree = b.tree; back = b.back; derived = b.derived.0 }

take_small : (n : ℕ) (us : Tokens) → none_large us ≡ true → none_large (take n us) ≡ true
take_small n us h = front_small (take n us) (drop n us) (ap none_large (take-append-drop n us) ∙ h)

kept_fault : (ts : Tokens) (n : ℕ) → none_large ts ≡ true → IsFirstFault path before_end ts n → IsPathFault ts n
kept_fault ts n small f = record { within = f.within; before = begins_small (take n ts) (take_small n ts small) f.before; stops = λ b. f.stops (forget (take (n + 1) ts) b) }

-- A number that is no index, behind what begins a path's tokens.
large_fault : (us : Tokens) (t : Token) (more : Tokens) → is_large t.kind ≡ true → BeginsPath us → IsPathFault (us ++ t ∷ more) (length us)
large_fault us t more large b = record {
  within = omega (arith, length-append us (t ∷ more));
  before = subst BeginsPath (sym (take_at us (t ∷ more) (length us) refl)) b;
  stops = λ c.
      let d = subst BeginsPath next c in
      large_in us t [] large (front_small (us ++ t ∷ []) d.back d.derived.1);
}
  where
    next : take (length us + 1) (us ++ t ∷ more) ≡ us ++ t ∷ []
    next = ap (take (length us + 1)) (sym (append_assoc us (t ∷ []) more)) ∙ take_at (us ++ t ∷ []) more (length us + 1) (length-append us (t ∷ []))

-- The first fault of the tokens before it, with an end token behind them.
moved_fault : (us : Tokens) (t e : Token) (more : Tokens) (n : ℕ) → none_large us ≡ true → is_large t.kind ≡ true → IsFirstFault path before_end (us ++ e ∷ []) n → IsPathFault (us ++ t ∷ more) n
moved_fault us t e more n small large f = go (cases_lt n (length us))
  where
    go : (n < length us) ⊎ (length us ≤ n) → IsPathFault (us ++ t ∷ more) n
    go (inl less) =
        let here = take-append-le n us (e ∷ []) (omega arith) in
        let next = take-append-le (n + 1) us (e ∷ []) (omega arith) in
        record {
          within = omega (arith, length-append us (t ∷ more));
          before = subst BeginsPath (sym (take-append-le n us (t ∷ more) (omega arith))) (begins_small (take n us) (take_small n us small) (subst (λ (ts : Tokens). Begins path before_end ts) here f.before));
          stops = λ b. f.stops (subst (λ (ts : Tokens). Begins path before_end ts) (sym next) (forget (take (n + 1) us) (subst BeginsPath (take-append-le (n + 1) us (t ∷ more) (omega arith)) b)));
        }
    go (inr least) =
        let within = f.within in
        let same : length us ≡ n = omega (arith, length-append us (e ∷ [])) in
        let before = subst (λ (ts : Tokens). Begins path before_end ts) (take_at us (e ∷ []) n same) f.before in
        subst (IsPathFault (us ++ t ∷ more)) same (large_fault us t more large (begins_small us small before))

abbrev an_end : Token
an_end = sample kind.End

-- What was read to its end is a path with an end token behind it.
path_read : (us : Tokens) (a : Path) → none_large us ≡ true → reads path us ≡ Ok (a, []) → BeginsPath us
path_read us a small e = record { tree = a; back = an_end ∷ []; derived = (whole_read path before_end path_ok us an_end a refl e, both_small us (an_end ∷ []) small refl) }

ends : (ts us : Tokens) (r : Reaches ts us) → (r.more ≡ []) × (r.next.kind ≡ token_kind.End) → Ends ts us r.next
ends ts us r stop = record { whole = r.whole ∙ ap (λ more. us ++ r.next ∷ more) stop.0; last = stop.1 }

ends_small : (ts us : Tokens) (r : Reaches ts us) → (r.more ≡ []) × (r.next.kind ≡ token_kind.End) → none_large ts ≡ true
ends_small ts us r stop =
    ap none_large (ends ts us r stop).whole
    ∙ both_small us (r.next ∷ []) r.small (ap (λ k. not (is_large k) && true) stop.1)

ends_length : (ts us : Tokens) (r : Reaches ts us) → r.more ≡ [] → length us + 1 ≡ length ts
ends_length ts us r none = sym (ap length (r.whole ∙ ap (λ more. us ++ r.next ∷ more) none) ∙ length-append us (r.next ∷ []))

-- Of tokens that are read up to there.
module _ (ts us : Tokens) (r : Reaches ts us) where
  no_more : length us + 1 ≡ length ts → r.more ≡ []
  no_more h = go r.more (ap length r.whole ∙ length-append us (r.next ∷ r.more))
    where
      go : (more : Tokens) → length ts ≡ length us + suc (length more) → more ≡ []
      go [] e = refl
      go (t ∷ more) e = absurd (omega arith)

  -- All was read, up to the end token.
  pub is_path : (a : Path) (left : Tokens) → EndsLast ts → reads path us ≡ Ok (a, left) → length left ≡ 0 → length us + 1 ≡ length ts → IsPath a ts
  is_path a left last e none long = go r.stop
    where
      end : r.next.kind ≡ token_kind.End
      end = last_kind ts us r.next last (r.whole ∙ ap (λ more. us ++ r.next ∷ more) (no_more long))

      by : (r.more ≡ []) × (r.next.kind ≡ token_kind.End) → IsPath a ts
      by stop = (completed path before_end path_ok ts us r.next left a (ends ts us r stop) e none, ends_small ts us r stop)

      go : (is_large r.next.kind ≡ true) ⊎ ((r.more ≡ []) × (r.next.kind ≡ token_kind.End)) → IsPath a ts
      go (inl large) = by (no_more long, end)
      go (inr stop) = by stop

  -- Something was left, or the end token isn't next.
  pub fault_left : (a : Path) (left : Tokens) (n : ℕ) → reads path us ≡ Ok (a, left) → (length left ≡ 0 → length us + 1 ≡ length ts → ⊥) → n + length (past_end left) ≡ length us → IsPathFault ts n
  fault_left a left n e some count = go r.stop
    where
      large_by : is_large r.next.kind ≡ true → (left : Tokens) → reads path us ≡ Ok (a, left) → n + length (past_end left) ≡ length us → IsPathFault (us ++ r.next ∷ r.more) n
      large_by large [] e count =
          let same : length us ≡ n = omega arith in
          subst (IsPathFault (us ++ r.next ∷ r.more)) same (large_fault us r.next r.more large (path_read us a r.small e))
      large_by large (t ∷ left) e count =
          let same : length us - length (past_end (t ∷ left)) ≡ n = omega arith in
          moved_fault us r.next an_end r.more n r.small large
          (subst (IsFirstFault path before_end (us ++ an_end ∷ [])) same (left_behind path before_end path_ok us an_end (t ∷ left) a refl e (λ none. omega (arith, none))))

      go : (is_large r.next.kind ≡ true) ⊎ ((r.more ≡ []) × (r.next.kind ≡ token_kind.End)) → IsPathFault ts n
      go (inl large) = subst (λ (vs : Tokens). IsPathFault vs n) (sym r.whole) (large_by large left e count)
      go (inr stop) =
          let long = ends_length ts us r stop.0 in
          kept_fault ts n (ends_small ts us r stop)
          (stopped_behind path before_end path_ok ts us r.next left a n (ends ts us r stop) e (λ none. some none long) (omega arith))

  -- The reader met a fault.
  pub fault_met_at : (left : Tokens) (n : ℕ) → reads path us ≡ Err left → n + length left ≡ length us → IsPathFault ts n
  fault_met_at left n e count = go r.stop
    where
      go : (is_large r.next.kind ≡ true) ⊎ ((r.more ≡ []) × (r.next.kind ≡ token_kind.End)) → IsPathFault ts n
      go (inl large) =
          let same : length us - length left ≡ n = omega arith in
          subst (λ (vs : Tokens). IsPathFault vs n) (sym r.whole)
          (moved_fault us r.next an_end r.more n r.small large (subst (IsFirstFault path before_end (us ++ an_end ∷ [])) same (fault_met path before_end path_ok us an_end left refl e)))
      go (inr stop) =
          let long = ends_length ts us r stop.0 in
          kept_fault ts n (ends_small ts us r stop) (stopped_at path before_end path_ok ts us r.next left n (ends ts us r stop) e (omega arith))

  pub shorter_than : length us < length ts
  shorter_than = let n = ap length r.whole ∙ length-append us (r.next ∷ r.more) in omega arith

-- Fewer are left than there are.
pub found_within : (us left : Tokens) (a : Path) → reads path us ≡ Ok (a, left) → length left ≤ length us
found_within us left a e =
    let n = fewer_found path before_end path_ok (us ++ an_end ∷ []) us an_end left a (record { whole = refl; last = refl }) e in
    omega (arith, length-append us (an_end ∷ []), n)

pub met_within : (us left : Tokens) → reads path us ≡ Err left → length left ≤ length us
met_within us left e =
    let n = fewer_met path before_end path_ok (us ++ an_end ∷ []) us an_end left (record { whole = refl; last = refl }) e in
    omega (arith, length-append us (an_end ∷ []), n)

pub behind_within : (left : Tokens) → length (past_end left) ≤ length left
behind_within [] = omega arith
behind_within (t ∷ left) = go (is kind.End (kind_of t.kind))
  where
    go : (b : Bool) → length (cond b left (t ∷ left)) ≤ suc (length left)
    go true = omega arith
    go false = omega arith

-- One path, one fault, and never both.
pub one_path : (ts : Tokens) (tree other : Path) → IsPath tree ts → IsPath other ts → tree ≡ other
one_path ts tree other v w = trees.one path before_end path_ok ts tree other v.0 w.0

shorter : (ts : Tokens) (m n : ℕ) → m ≤ n → BeginsPath (take n ts) → BeginsPath (take m ts)
shorter ts m n h b = record {
  tree = b.tree;
  back = drop m (take n ts) ++ b.back;
  derived = subst (IsPath b.tree) (sym whole) b.derived;
}
  where
    whole : take m ts ++ (drop m (take n ts) ++ b.back) ≡ take n ts ++ b.back
    whole = sym (append_assoc (take m ts) (drop m (take n ts)) b.back)
        ∙ ap (λ us. us ++ b.back) (ap (λ us. us ++ drop m (take n ts)) (sym (take-take m n ts h)) ∙ take-append-drop m (take n ts))

no_later : (ts : Tokens) (m n : ℕ) → m < n → IsPathFault ts m → IsPathFault ts n → ⊥
no_later ts m n h f k = f.stops (shorter ts (m + 1) n (omega arith) k.before)

pub one_fault : (ts : Tokens) (m n : ℕ) → IsPathFault ts m → IsPathFault ts n → m ≡ n
one_fault ts m n f k = go (cases_lt m n)
  where
    equal : n ≤ m → (n < m) ⊎ (m ≤ n) → m ≡ n
    equal h (inl l) = absurd (no_later ts n m l k f)
    equal h (inr l) = omega arith

    go : (m < n) ⊎ (n ≤ m) → m ≡ n
    go (inl l) = absurd (no_later ts m n l f k)
    go (inr l) = equal l (cases_lt n m)

pub not_both : (ts : Tokens) (tree : Path) (at : ℕ) → IsPath tree ts → IsPathFault ts at → ⊥
not_both ts tree at is f = f.stops (record { tree = tree; back = drop (at + 1) ts; derived = subst (IsPath tree) (sym (take-append-drop (at + 1) ts)) is })

-- Each list whose last token is an end token is read up to some token.
reach_more : (t : Token) (ts us : Tokens) → is_large t.kind ≡ false → Reaches ts us → Reaches (t ∷ ts) (t ∷ us)
reach_more t ts us fits r = record { next = r.next; more = r.more; whole = ap (λ vs. t ∷ vs) r.whole; small = and_from (not (is_large t.kind)) (none_large us) (ap not fits) r.small; stop = r.stop }

reached : (ts : Tokens) → EndsLast ts → (us : Tokens) × Reaches ts us
reached [] h = absurd h
reached (t ∷ []) h = ([], record { next = t; more = []; whole = refl; small = refl; stop = inr (refl, h) })
reached (t ∷ next ∷ ts) h =
    let rest = reached (next ∷ ts) h in
    go (is_large t.kind) refl rest.0 rest.1
  where
    go : (b : Bool) → is_large t.kind ≡ b → (us : Tokens) → Reaches (next ∷ ts) us → (us : Tokens) × Reaches (t ∷ next ∷ ts) us
    go true large us r = ([], record { next = t; more = next ∷ ts; whole = refl; small = refl; stop = inl large })
    go false fits us r = (t ∷ us, reach_more t (next ∷ ts) us fits r)

-- what a search for a number that is no index comes to
pub reach_large : (ts front : Tokens) (e t : Token) (n : ℕ) → ts ≡ front ++ e ∷ [] → n < length front → t ≡ get_or front n t → none_large (take n front) ≡ true → is_large t.kind ≡ true → Reaches ts (take n front)
reach_large ts front e t n whole less is small large =
    let here : front ≡ take n front ++ t ∷ drop (suc n) front =
    sym (take-append-drop n front) ∙ ap (λ us. take n front ++ us) (drop-cons front n t less ∙ ap (λ u. u ∷ drop (suc n) front) (sym is)) in
    record {
      next = t;
      more = drop (suc n) front ++ e ∷ [];
      whole = whole ∙ ap (λ us. us ++ e ∷ []) here ∙ append_assoc (take n front) (t ∷ drop (suc n) front) (e ∷ []);
      small = small;
      stop = inl large;
    }

pub reach_end : (ts front : Tokens) (e : Token) (n : ℕ) → ts ≡ front ++ e ∷ [] → EndsLast ts → length front ≤ n → none_large (take n front) ≡ true → Reaches ts front
reach_end ts front e n whole last all small = record {
  next = e;
  more = [];
  whole = whole;
  small = ap none_large (sym (take_all n front all)) ∙ small;
  stop = inr (refl, last_kind ts front e last whole);
}

abbrev Either : Tokens → Type 0
Either ts = ((tree : Path) × IsPath tree ts) ⊎ ((at : ℕ) × IsPathFault ts at)

read_to : (ts us : Tokens) (r : Reaches ts us) → EndsLast ts → (a : Path) (left : Tokens) → reads path us ≡ Ok (a, left) → (length us + 1 < length ts) ⊎ (length ts ≤ length us + 1) → Either ts
read_to ts us r last a [] e (inr long) =
    let short = shorter_than ts us r in
    inl (a, is_path ts us r a [] last e refl (omega arith))
read_to ts us r last a [] e (inl short) = inr (length us, fault_left ts us r a [] (length us) e (λ none long. omega arith) (omega arith))
read_to ts us r last a (t ∷ left) e _ =
    let within = found_within us (t ∷ left) a e in
    let behind = behind_within (t ∷ left) in
    inr (length us - length (past_end (t ∷ left)), fault_left ts us r a (t ∷ left) (length us - length (past_end (t ∷ left))) e (λ none long. omega (arith, none)) (omega arith))

read_by : (ts us : Tokens) (r : Reaches ts us) → EndsLast ts → (o : Outcome Path) → reads path us ≡ o → Either ts
read_by ts us r last (Err left) e =
    let within = met_within us left e in
    inr (length us - length left, fault_met_at ts us r left (length us - length left) e (omega arith))
read_by ts us r last (Ok read) e = read_to ts us r last read.0 read.1 e (cases_lt (length us + 1) (length ts))

pub path_or_fault : (ts : Tokens) → EndsLast ts → Either ts
path_or_fault ts last = let r = reached ts last in read_by ts r.0 r.1 last (reads path r.0) refl
