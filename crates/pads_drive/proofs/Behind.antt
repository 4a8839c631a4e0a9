-- How far bytes lie ahead of the frames that they complete.
use Rattle.std.proofs.Common.{◌≡◌, ℕ, zero, suc, ◌+◌, ◌-◌, ◌≤◌, Bool, true, false, ◌||◌, leb, ltb, List, [], ◌∷◌, ◌++◌, length, take, drop, refl, sym, ap, subst, ◌∙◌, ◌⊎◌, inl, inr, arith}
use Rattle.std.proofs.lemmas.Bool.{cases_Bool, and_parts, leb-true, leb-false, ltb-false, false≢true}
use Rattle.std.proofs.lemmas.List.{length-append, length-take, length-drop, take-append-le, take-append-drop}
use Rattle.std.proofs.Math.Seq.{take-length}
use Rattle.pads_value.specs.Cuts.{Cut}
use Rattle.pads_value.specs.Marks.{bytes_of}
use Rattle.pads_value.specs.declared.frame.Mark.{Mark}
use Rattle.pads_value.specs.declared.frame.Mark.TheVariants as mark
use Rattle.pads_frame.specs.declared.discipline.Discipline.{Discipline}
use Rattle.pads_frame.specs.declared.discipline.Discipline.TheVariants.{Term, Fixed, Rdw, Whole}
use Rattle.pads_frame.specs.declared.discipline.Extent.{Extent}
use Rattle.pads_frame.specs.Cutting.{cuts, closed, records}
use Rattle.pads_frame.specs.Extents.{extent, has_record, has_word, mark_of, run, word_length}
use Rattle.pads_frame.specs.Fits.{FitsLimit}
use Rattle.pads_frame.specs.Placed.{cut_at, size_of}
use Rattle.pads_frame.proofs.CuttingLemmas.{cuts_nil}
use Rattle.pads_frame.proofs.ExtentLemmas.{extent_grows, extent_within, rdw_broken, rdw_closed, rdw_record, record_from, same_word}
use Rattle.pads_frame.proofs.Owing.{cut_grows, long_mark}
use Rattle.pads_frame.proofs.Runs.{run_le, run-append_open}
use Rattle.pads_drive.specs.Ahead.{BeginsWith, all_have_bytes, has_bytes, spread}

-- a frame of a mark by its length has its bytes where it isn't too long
kept_mark : (max n : ℕ) → has_bytes (mark_of max n) ≡ true → n ≤ max
kept_mark max n h = elim (cases_Bool (leb n max)) [
  | inl l ↦ leb-true n max l
  | inr l ↦ absurd (false≢true (sym (ap has_bytes (long_mark max n (leb-false n max l))) ∙ h))
]

no_broken : has_bytes mark.Broken ≡ true → ⊥
no_broken h = false≢true h

-- A frame in work whose bytes will be there has few bytes so far.
open_rdw : (max : ℕ) (xs ys : List ℕ) → has_record xs ≡ false → has_bytes (extent Rdw max (xs ++ ys)).mark ≡ true → 4 ≤ length xs → length xs ≤ max + 4
open_rdw max xs ys none h four =
    elim (cases_Bool (has_record (xs ++ ys))) [
      | inl r ↦ go r (kept_mark max (word_length (xs ++ ys) - 4) (subst (λ (e : Extent). has_bytes e.mark ≡ true) (rdw_record max (xs ++ ys) r) h))
      | inr r ↦ absurd (no_broken (subst (λ (e : Extent). has_bytes e.mark ≡ true) (rdw_broken max (xs ++ ys) r) h))
    ]
  where
    long : length (xs ++ ys) ≡ length xs + length ys
    long = length-append xs ys

    same : (word_length (xs ++ ys) ≡ word_length xs) × (has_word (xs ++ ys) ≡ has_word xs)
    same = same_word (xs ++ ys) xs (omega (arith, long)) four (take-append-le 4 xs ys four)

    go : has_record (xs ++ ys) ≡ true → word_length (xs ++ ys) - 4 ≤ max → length xs ≤ max + 4
    go r small =
        let word = and_parts (has_word (xs ++ ys)) (leb (word_length (xs ++ ys)) (length (xs ++ ys))) r in
        elim (cases_Bool (leb (word_length xs) (length xs))) [
          | inl l ↦ absurd (false≢true (sym none ∙ record_from xs (sym same.1 ∙ word.0) (leb-true (word_length xs) (length xs) l)))
          | inr l ↦ omega (arith, same.0, leb-false (word_length xs) (length xs) l)
        ]

open_short : (d : Discipline) (max : ℕ) (xs ys : List ℕ) → FitsLimit d max → (extent d max xs).closed ≡ false → has_bytes (extent d max (xs ++ ys)).mark ≡ true → length xs ≤ max + 4
open_short (Term t) max xs ys fits undone h =
    let all : run t xs ≡ length xs = omega (arith, run_le t xs, ltb-false (run t xs) (length xs) undone) in
    let more = run-append_open t xs ys all in
    omega (arith, more, kept_mark max (run t (xs ++ ys)) h)
open_short (Fixed n) max xs ys fits undone h = omega (arith, fits.1, leb-false n (length xs) undone)
open_short Rdw max xs ys fits undone h =
    elim (cases_Bool (leb 4 (length xs))) [
      | inl l ↦ open_rdw max xs ys (sym (rdw_closed max xs) ∙ undone) h (leb-true 4 (length xs) l)
      | inr l ↦ omega (arith, leb-false 4 (length xs) l)
    ]
open_short Whole max xs ys fits undone h = omega (arith, length-append xs ys, kept_mark max (length (xs ++ ys)) h)

-- Beside a frame stand a descriptor word or a terminator.
edges : (d : Discipline) (max : ℕ) (xs : List ℕ) → (extent d max xs).lead + (extent d max xs).terminator ≤ 4
edges (Term t) max xs = elim (cases_Bool (ltb (run t xs) (length xs))) [ inl h ↦ rw h (omega arith) | inr h ↦ rw h (omega arith) ]
edges (Fixed n) max xs = omega arith
edges Rdw max xs = elim (cases_Bool (has_record xs)) [ inl h ↦ rw (rdw_record max xs h) (omega arith) | inr h ↦ rw (rdw_broken max xs h) (omega arith) ]
edges Whole max xs = omega arith

all_bytes : (m : Mark) (n : ℕ) → has_bytes m ≡ true → bytes_of m n ≡ n
all_bytes mark.Plain n h = refl
all_bytes mark.Short n h = refl
all_bytes mark.Long n h = absurd (false≢true h)
all_bytes mark.Broken n h = absurd (false≢true h)

-- A frame takes up little more than its bytes.
size_small : (d : Discipline) (max at : ℕ) (xs : List ℕ) → has_bytes (extent d max xs).mark ≡ true → size_of (extent d max xs) ≤ length (cut_at at xs (extent d max xs)).bytes + 4
size_small d max at xs h =
    let e = extent d max xs in
    let n = all_bytes e.mark e.len h in
    let w = extent_within d max xs in
    let l : length (take (bytes_of e.mark e.len) (drop e.lead xs)) ≡ e.len = rw n (length-take e.len (drop e.lead xs) ∙ omega (arith, length-drop e.lead xs, w.0)) in
    omega (arith, l, edges d max xs)

or-true : (b : Bool) → (b || true) ≡ true
or-true true = refl
or-true false = refl

or-false : (b c : Bool) → b ≡ c → (b || false) ≡ c
or-false true c h = h
or-false false c h = h

spread_front : (part whole : List Cut) → BeginsWith whole part → spread part ≤ spread whole
spread_front [] whole f = omega arith
spread_front (x ∷ part) whole f = go (λ w h. spread_front part w h) whole f.1
  where
    go : ((w : List Cut) → BeginsWith w part → spread part ≤ spread w) → (w : List Cut) → w ≡ (x ∷ part) ++ f.0 → spread (x ∷ part) ≤ spread w
    go more [] e = absurd (cc)
    go more (y ∷ w) e =
        let same : y ≡ x = cc in
        let rest : w ≡ part ++ f.0 = cc in
        let i = more w (f.0, rest) in
        rw same (omega (arith, i))

-- Where one list is written in two ways, one front is the front of the other.
fronts : (a x b y : List Cut) → a ++ x ≡ b ++ y → BeginsWith b a ⊎ ((c : List Cut) × (a ≡ b ++ c) × BeginsWith y c)
fronts [] x b y e = inl (b, refl)
fronts (p ∷ a) x [] y e = inr (p ∷ a, refl, (x, sym e))
fronts (p ∷ a) x (q ∷ b) y e =
    let same : p ≡ q = cc in
    let rest : a ++ x ≡ b ++ y = cc in
    elim (fronts a x b y rest) [
      | inl f ↦ inl (f.0, rw same (ap (λ l. q ∷ l) f.1))
      | inr f ↦ inr (f.0, rw same (ap (λ l. q ∷ l) f.1), f.2)
    ]

module _ (d : Discipline) (max : ℕ) (fits : FitsLimit d max) where
  step : (ended : Bool) (at b : ℕ) (xs : List ℕ) → ((extent d max (b ∷ xs)).closed || ended) ≡ true
      → cuts d max ended at 0 (b ∷ xs) ≡ cut_at at (b ∷ xs) (extent d max (b ∷ xs)) ∷ cuts d max ended (at + 1) (size_of (extent d max (b ∷ xs)) - 1) xs
  unfolding cuts
  step ended at b xs c = rw c refl

  stuck : (at b : ℕ) (xs : List ℕ) → (extent d max (b ∷ xs)).closed ≡ false → cuts d max false at 0 (b ∷ xs) ≡ []
  unfolding cuts
  stuck at b xs c = rw (or-false (extent d max (b ∷ xs)).closed false c) refl

  skipped : (ended : Bool) (at skip b : ℕ) (xs : List ℕ) → cuts d max ended at (suc skip) (b ∷ xs) ≡ cuts d max ended (at + 1) skip xs
  unfolding cuts
  skipped ended at skip b xs = refl

  -- what is known of the first frame, of the whole input
  first_parts : (at b : ℕ) (zs : List ℕ) → all_have_bytes (cuts d max true at 0 (b ∷ zs)) ≡ true
      → (has_bytes (extent d max (b ∷ zs)).mark ≡ true) × (all_have_bytes (cuts d max true (at + 1) (size_of (extent d max (b ∷ zs)) - 1) zs) ≡ true)
  first_parts at b zs h =
      and_parts (has_bytes (extent d max (b ∷ zs)).mark) (all_have_bytes (cuts d max true (at + 1) (size_of (extent d max (b ∷ zs)) - 1) zs))
      (sym (ap all_have_bytes (step true at b zs (or-true (extent d max (b ∷ zs)).closed))) ∙ h)

  -- the same where bytes close it
  closed_parts : (at b : ℕ) (xs ys : List ℕ) → (extent d max (b ∷ xs)).closed ≡ true → all_have_bytes (cuts d max true at 0 (b ∷ (xs ++ ys))) ≡ true
      → (has_bytes (extent d max (b ∷ xs)).mark ≡ true) × (all_have_bytes (cuts d max true (at + 1) (size_of (extent d max (b ∷ xs)) - 1) (xs ++ ys)) ≡ true)
  closed_parts at b xs ys c h =
      let same : extent d max (b ∷ (xs ++ ys)) ≡ extent d max (b ∷ xs) = extent_grows d max (b ∷ xs) ys c in
      let p = first_parts at b (xs ++ ys) h in (
        subst (λ (e : Extent). has_bytes e.mark ≡ true) same p.0,
        subst (λ (e : Extent). all_have_bytes (cuts d max true (at + 1) (size_of e - 1) (xs ++ ys)) ≡ true) same p.1,
      )

  -- Bytes lie little ahead of the frames that they complete.
  spread_covers : (at skip : ℕ) (xs ys : List ℕ) → all_have_bytes (cuts d max true at skip (xs ++ ys)) ≡ true → length xs ≤ skip + (spread (cuts d max false at skip xs) + (max + 4))
  spread_covers at skip [] ys h = omega arith
  spread_covers at (suc skip) (b ∷ xs) ys h =
      let i = spread_covers (at + 1) skip xs ys (sym (ap all_have_bytes (skipped true at skip b (xs ++ ys))) ∙ h) in
      rw (skipped false at skip b xs) (omega (arith, i))
  spread_covers at zero (b ∷ xs) ys h = elim (cases_Bool (extent d max (b ∷ xs)).closed) [
    | inl c ↦ closes (λ k. spread_covers (at + 1) (size_of (extent d max (b ∷ xs)) - 1) xs ys k) c (closed_parts at b xs ys c h)
    | inr c ↦ let few = open_short d max (b ∷ xs) ys fits c (first_parts at b (xs ++ ys) h).0 in rw (stuck at b xs c) (omega (arith, few))
  ]
    where
      closes : (all_have_bytes (cuts d max true (at + 1) (size_of (extent d max (b ∷ xs)) - 1) (xs ++ ys)) ≡ true
          → length xs ≤ (size_of (extent d max (b ∷ xs)) - 1) + (spread (cuts d max false (at + 1) (size_of (extent d max (b ∷ xs)) - 1) xs) + (max + 4)))
          → (extent d max (b ∷ xs)).closed ≡ true → (has_bytes (extent d max (b ∷ xs)).mark ≡ true) × (all_have_bytes (cuts d max true (at + 1) (size_of (extent d max (b ∷ xs)) - 1) (xs ++ ys)) ≡ true)
          → length (b ∷ xs) ≤ 0 + (spread (cuts d max false at 0 (b ∷ xs)) + (max + 4))
      closes more c p =
          let i = more p.1 in
          let s = size_small d max at (b ∷ xs) p.0 in
          rw (step false at b xs (or-false (extent d max (b ∷ xs)).closed true c)) (omega (arith, i, s))

  -- The first bytes complete the frames that are done, or fewer, and lack no more than the others take up.
  pub record Behind (at skip : ℕ) (xs : List ℕ) (done hand : List Cut) : Type 0 where
    pub n : ℕ
    pub front : BeginsWith done (cuts d max false at skip (take n xs))
    pub near : length xs ≤ n + (spread hand + (max + 4))

  -- a front of the bytes completes the frame or doesn't
  one_more : (at b n : ℕ) (xs : List ℕ) (f : Cut) (done : List Cut) → (extent d max (b ∷ xs)).closed ≡ true → cut_at at (b ∷ xs) (extent d max (b ∷ xs)) ≡ f
      → BeginsWith done (cuts d max false (at + 1) (size_of (extent d max (b ∷ xs)) - 1) (take n xs)) → BeginsWith (f ∷ done) (cuts d max false at 0 (b ∷ take n xs))
  one_more at b n xs f done c is front = elim (cases_Bool (extent d max (b ∷ take n xs)).closed) [
    | inl k ↦ closes k
    | inr k ↦ (f ∷ done, rw (stuck at b (take n xs) k) refl)
  ]
    where
      whole : b ∷ take n xs ++ drop n xs ≡ b ∷ xs
      whole = ap (λ l. b ∷ l) (take-append-drop n xs)

      closes : (extent d max (b ∷ take n xs)).closed ≡ true → BeginsWith (f ∷ done) (cuts d max false at 0 (b ∷ take n xs))
      closes k =
          let same : extent d max (b ∷ xs) ≡ extent d max (b ∷ take n xs) = ap (extent d max) (sym whole) ∙ extent_grows d max (b ∷ take n xs) (drop n xs) k in
          let cut : cut_at at (b ∷ xs) (extent d max (b ∷ xs)) ≡ cut_at at (b ∷ take n xs) (extent d max (b ∷ take n xs)) =
          ap (λ l. cut_at at l (extent d max (b ∷ xs))) (sym whole) ∙ ap (λ (e : Extent). cut_at at (b ∷ take n xs ++ drop n xs) e) same
          ∙ cut_grows at (b ∷ take n xs) (drop n xs) (extent d max (b ∷ take n xs)) (extent_within d max (b ∷ take n xs)).0 in
          let others = subst (λ (e : Extent). BeginsWith done (cuts d max false (at + 1) (size_of e - 1) (take n xs))) same front in
          (others.0, rw (step false at b (take n xs) (or-false (extent d max (b ∷ take n xs)).closed true k), ← cut, is) (ap (λ l. f ∷ l) others.1))

  behind : (at skip : ℕ) (xs ys : List ℕ) (done hand : List Cut) → all_have_bytes (cuts d max true at skip (xs ++ ys)) ≡ true → cuts d max false at skip xs ≡ done ++ hand
      → Behind at skip xs done hand
  behind at skip [] ys done hand h e = record { n = 0; front = (done, rw (cuts_nil d max false at skip) refl); near = omega arith }
  behind at (suc skip) (b ∷ xs) ys done hand h e =
      let i = behind (at + 1) skip xs ys done hand (sym (ap all_have_bytes (skipped true at skip b (xs ++ ys))) ∙ h) (sym (skipped false at skip b xs) ∙ e) in
      record { n = suc i.n; front = rw (skipped false at skip b (take i.n xs)) i.front; near = omega (arith, i.near) }
  behind at zero (b ∷ xs) ys [] hand h e =
      let near = spread_covers at 0 (b ∷ xs) ys h in
      record { n = 0; front = ([], cuts_nil' at); near = rw e at near }
    where
      cuts_nil' : (at : ℕ) → [] ≡ cuts d max false at 0 [] ++ []
      cuts_nil' at = rw (cuts_nil d max false at 0) refl
  behind at zero (b ∷ xs) ys (f ∷ done) hand h e = elim (cases_Bool (extent d max (b ∷ xs)).closed) [
    | inl c ↦ closes (λ k rest. behind (at + 1) (size_of (extent d max (b ∷ xs)) - 1) xs ys done hand k rest) c (closed_parts at b xs ys c h) (sym (step false at b xs (or-false (extent d max (b ∷ xs)).closed true c)) ∙ e)
    | inr c ↦ absurd (nothing (sym (stuck at b xs c) ∙ e))
  ]
    where
      nothing : [] ≡ (f ∷ done) ++ hand → ⊥
      nothing e = cc

      closes : (all_have_bytes (cuts d max true (at + 1) (size_of (extent d max (b ∷ xs)) - 1) (xs ++ ys)) ≡ true → cuts d max false (at + 1) (size_of (extent d max (b ∷ xs)) - 1) xs ≡ done ++ hand
          → Behind (at + 1) (size_of (extent d max (b ∷ xs)) - 1) xs done hand)
          → (extent d max (b ∷ xs)).closed ≡ true → (has_bytes (extent d max (b ∷ xs)).mark ≡ true) × (all_have_bytes (cuts d max true (at + 1) (size_of (extent d max (b ∷ xs)) - 1) (xs ++ ys)) ≡ true)
          → cut_at at (b ∷ xs) (extent d max (b ∷ xs)) ∷ cuts d max false (at + 1) (size_of (extent d max (b ∷ xs)) - 1) xs ≡ (f ∷ done) ++ hand → Behind at 0 (b ∷ xs) (f ∷ done) hand
      closes more c p both =
          let is : cut_at at (b ∷ xs) (extent d max (b ∷ xs)) ≡ f = cc in
          let rest : cuts d max false (at + 1) (size_of (extent d max (b ∷ xs)) - 1) xs ≡ done ++ hand = cc in
          let i = more p.1 rest in
          record { n = suc i.n; front = one_more at b i.n xs f done c is i.front; near = omega (arith, i.near) }

  pub close : (bytes more : List ℕ) (done hand : List Cut) → all_have_bytes (records d max (bytes ++ more)) ≡ true → BeginsWith (done ++ hand) (closed d max bytes)
      → (n : ℕ) × BeginsWith done (closed d max (take n bytes)) × (length bytes ≤ n + (spread hand + (max + 4)))
  close bytes more done hand h f = elim (fronts (closed d max bytes) f.0 done hand (sym f.1)) [
    | inl g ↦ (length bytes, rw (take-length bytes) g, omega arith)
    | inr g ↦
        let b = behind 0 0 bytes more done g.0 h g.1 in
        let s = spread_front g.0 hand g.2 in
        (b.n, b.front, omega (arith, b.near, s))
  ]

  -- The frames that bytes complete are the first of the whole input.
  pub front_so_far : (at skip : ℕ) (xs ys : List ℕ) → BeginsWith (cuts d max true at skip (xs ++ ys)) (cuts d max false at skip xs)
  front_so_far at skip [] ys = (cuts d max true at skip ys, rw (cuts_nil d max false at skip) refl)
  front_so_far at (suc skip) (b ∷ xs) ys =
      let i = front_so_far (at + 1) skip xs ys in
      (i.0, skipped true at skip b (xs ++ ys) ∙ i.1 ∙ ap (λ l. l ++ i.0) (sym (skipped false at skip b xs)))
  front_so_far at zero (b ∷ xs) ys = elim (cases_Bool (extent d max (b ∷ xs)).closed) [
    | inl c ↦ closes (front_so_far (at + 1) (size_of (extent d max (b ∷ xs)) - 1) xs ys) c
    | inr c ↦ (cuts d max true at 0 (b ∷ (xs ++ ys)), rw (stuck at b xs c) refl)
  ]
    where
      closes : BeginsWith (cuts d max true (at + 1) (size_of (extent d max (b ∷ xs)) - 1) (xs ++ ys)) (cuts d max false (at + 1) (size_of (extent d max (b ∷ xs)) - 1) xs)
          → (extent d max (b ∷ xs)).closed ≡ true → BeginsWith (cuts d max true at 0 (b ∷ (xs ++ ys))) (cuts d max false at 0 (b ∷ xs))
      closes i c =
          let same : extent d max (b ∷ (xs ++ ys)) ≡ extent d max (b ∷ xs) = extent_grows d max (b ∷ xs) ys c in
          let cut = cut_grows at (b ∷ xs) ys (extent d max (b ∷ xs)) (extent_within d max (b ∷ xs)).0 in
          let one = step true at b (xs ++ ys) (or-true (extent d max (b ∷ (xs ++ ys))).closed) in
          let two : cut_at at (b ∷ (xs ++ ys)) (extent d max (b ∷ (xs ++ ys))) ∷ cuts d max true (at + 1) (size_of (extent d max (b ∷ (xs ++ ys))) - 1) (xs ++ ys)
          ≡ cut_at at (b ∷ xs) (extent d max (b ∷ xs)) ∷ cuts d max true (at + 1) (size_of (extent d max (b ∷ xs)) - 1) (xs ++ ys) = rw (same, cut) refl in
          let three = step false at b xs (or-false (extent d max (b ∷ xs)).closed true c) in
          (i.0, one ∙ two ∙ ap (λ l. cut_at at (b ∷ xs) (extent d max (b ∷ xs)) ∷ l) i.1 ∙ ap (λ l. l ++ i.0) (sym three))
