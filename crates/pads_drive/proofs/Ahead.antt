-- Reading is little ahead of what is done.
use Rattle.std.proofs.Common.{◌≡◌, ℕ, ◌+◌, ◌≤◌, min, true, List, [], ◌∷◌, ◌++◌, length, take, refl, sym, ap, subst, ◌∙◌, append_assoc, arith}
use Rattle.std.proofs.lemmas.List.{length-append, take-append-le, take_min}
use Rattle.pads_value.specs.Cuts.{Cut}
use Rattle.pads_frame.specs.Cutting.{closed, records}
use Rattle.pads_frame.specs.Fits.{FitsLimit}
use Rattle.pads_frame.specs.declared.discipline.Discipline.{Discipline}
use Rattle.pads_drive.specs.Ahead.{BeginsWith, IsBatch, all_have_bytes, most_ahead}
use Rattle.pads_drive.proofs.Behind.{close, front_so_far}
use Rattle.pads_drive.proofs.Small.{batch_small}

-- Of two fronts of one list the shorter is a front of the longer.
shorter_front : (a x b y : List Cut) → a ++ x ≡ b ++ y → length a ≤ length b → BeginsWith b a
shorter_front [] x b y e h = (b, refl)
shorter_front (p ∷ a) x [] y e h = absurd (omega arith)
shorter_front (p ∷ a) x (q ∷ b) y e h =
    let same : p ≡ q = cc in
    let rest : a ++ x ≡ b ++ y = cc in
    let i = shorter_front a x b y rest (omega arith) in
    (i.0, rw same (ap (λ l. q ∷ l) i.1))

pub little_ahead : (d : Discipline) (max : ℕ) (seen piece more : List ℕ) (done hand others : List Cut) → FitsLimit d max → all_have_bytes (records d max (seen ++ piece ++ more)) ≡ true
    → records d max (seen ++ piece ++ more) ≡ done ++ hand ++ others → length (closed d max seen) ≤ length done + length hand → IsBatch hand → length piece ≤ 4096
    → (n : ℕ) × BeginsWith done (closed d max (take n (seen ++ piece))) × (length (seen ++ piece) ≤ n + most_ahead max)
little_ahead d max seen piece more done hand others fits whole e met batch few =
    let input : seen ++ piece ++ more ≡ seen ++ (piece ++ more) = append_assoc seen piece more in
    let front = front_so_far d max fits 0 0 seen (piece ++ more) in
    let same : closed d max seen ++ front.0 ≡ (done ++ hand) ++ others =
    sym front.1 ∙ ap (records d max) (sym input) ∙ e in
    let begins = shorter_front (closed d max seen) front.0 (done ++ hand) others same (omega (arith, met, length-append done hand)) in
    let near = close d max fits seen (piece ++ more) done hand (subst (λ l. all_have_bytes (records d max l) ≡ true) input whole) begins in
    let small = batch_small d max (seen ++ piece ++ more) done hand others fits e batch in
    let n = min near.0 (length seen) in
    let taken : take (min near.0 (length seen)) (seen ++ piece) ≡ take near.0 seen =
    take-append-le (min near.0 (length seen)) seen piece (omega arith) ∙ take_min near.0 seen in (
      n,
      subst (λ l. BeginsWith done (closed d max l)) (sym taken) near.1,
      omega (arith, near.2, small, few, length-append seen piece),
    )
