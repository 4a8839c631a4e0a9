-- What is owed once bytes came.
use Rattle.std.proofs.Common.{◌≡◌, ℕ, ◌+◌, Bool, List, [], ◌++◌, sym, ap, ◌∙◌, arith}
use Rattle.std.proofs.lemmas.List.{append_assoc}
use Rattle.pads_frame.specs.declared.discipline.Discipline.{Discipline}
use Rattle.pads_frame.specs.Cutting.{cuts}
use Rattle.pads_frame.specs.Feed.{holding}
use Rattle.pads_frame.specs.State.{State, MayPass, Owes, new_state, rest, text_of}
use Rattle.pads_frame.proofs.TextLemmas.{text_append, text_none}
use Rattle.pads_frame.proofs.Tiling.{cuts_moved}

pub owed_held : (s : State) (bytes : List ℕ) → MayPass s.discipline s.max s.passed s.held → (ended : Bool) (more : List ℕ) → rest ended (holding s bytes) more ≡ rest ended s (bytes ++ more)
owed_held s bytes m ended more =
    let e = text_append s.discipline s.max s.passed s.held bytes m in
    ap (λ (l : List ℕ). cuts s.discipline s.max ended s.first 0 (l ++ more)) e ∙ ap (λ (l : List ℕ). cuts s.discipline s.max ended s.first 0 l) (append_assoc (text_of s) bytes more)

-- what a new framer owes
pub owed_new : (d : Discipline) (max start : ℕ) (s : State) → s ≡ new_state d max start → Owes d max start s
owed_new d max start s e ended more =
    let z : start + 0 ≡ start = omega arith in
    rw e (ap (λ (l : List ℕ). cuts d max ended start 0 (l ++ more)) (text_none d []) ∙ ap (λ (n : ℕ). cuts d max ended n 0 more) (sym z) ∙ cuts_moved d max ended start 0 0 more)
