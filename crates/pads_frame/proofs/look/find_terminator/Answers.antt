use Rattle.std.proofs.Common.{◌≡◌, ℕ, ◌+◌, ◌-◌, ◌<◌, ◌≤◌, List, length, take, drop, sym, ap, ◌∙◌, arith}
use Rattle.std.proofs.lemmas.List.{take-append-drop, take_rest, length-drop, length-take-le}
use Rattle.memchr.specs.Find.{NoneBefore, Nowhere, Passes, is_byte}
use Rattle.pads_frame.specs.Extents.{run}
use Rattle.pads_frame.proofs.Runs.{run_none, run_first, run-append_open}
use Rattle.pads_frame.proofs.look.find_terminator.Goals as goal

-- the run goes on behind the bytes that were searched
run_from : (t n : ℕ) (held : List ℕ) → n ≤ length held → run t (take n held) ≡ n → run t held ≡ n + run t (take (length held - n) (drop n held))
run_from t n held l h =
    let k = length-take-le n held l in
    let e = take_rest held n in
    ap (run t) (sym (take-append-drop n held)) ∙ run-append_open t (take n held) (drop n held) (h ∙ sym k) ∙ ap (λ (m : ℕ). m + run t (drop n held)) k
    ∙ ap (λ (l : List ℕ). n + run t l) (sym e)

found_at : (t n : ℕ) (held : List ℕ) (k : ℕ) → n ≤ length held → run t (take n held) ≡ n → NoneBefore (Passes (is_byte t) (take (length held - n) (drop n held))) 0 (length (take (length held - n) (drop n held))) k
    → Passes (is_byte t) (take (length held - n) (drop n held)) k → (run t held ≡ n + k) × (n + k < length held)
found_at t n held k l h none here =
    let r = run_first t (take (length held - n) (drop n held)) k none.high (λ j b. none.before j (omega arith) b) here in
    let e = ap length (take_rest held n) ∙ length-drop n held in
    (run_from t n held l h ∙ ap (λ (m : ℕ). n + m) r, omega (arith, none.high))

found_nowhere : (t n : ℕ) (held : List ℕ) → n ≤ length held → run t (take n held) ≡ n → Nowhere (Passes (is_byte t) (take (length held - n) (drop n held))) 0 (length (take (length held - n) (drop n held)))
    → run t held ≡ length held
found_nowhere t n held l h none =
    let r = run_none t (take (length held - n) (drop n held)) (λ j b. none j (omega arith) b) in
    let e = ap length (take_rest held n) ∙ length-drop n held in
    run_from t n held l h ∙ omega arith

pub returns-in-Some : goal.returns-in-Some
returns-in-Some c = found_at c.args.terminator c.args.searched c.args.held.now c.in-Some.place c.requires.within c.requires.none_before c.in-Some.ensures.0 c.in-Some.ensures.1

pub returns-in-None : goal.returns-in-None
returns-in-None c = found_nowhere c.args.terminator c.args.searched c.args.held.now c.requires.within c.requires.none_before c.in-None.ensures
