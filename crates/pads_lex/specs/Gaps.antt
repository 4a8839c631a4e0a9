-- How the comment at the front of a text is read.
use Rattle.std.specs.Prelude.{ℕ, ◌+◌, Bool, List, [], ◌∷◌, Option, Some, None, ◌==◌, ◌&&◌, if◌then◌else◌}
use Rattle.pads_lex.specs.Bytes.{is_on_line}
use Rattle.pads_lex.specs.Runs.{run}
use Rattle.pads_lex.specs.declared.step.Step.{Step}
use Rattle.pads_lex.specs.declared.step.Step.TheVariants as step
use Rattle.pads_lex.specs.declared.fault.LexKind.TheVariants as fault

abbrev pub one_more : Option ℕ → Option ℕ
one_more None = None
one_more (Some n) = Some (n + 1)

-- the two bytes that end a comment
unfoldable pub is_close : ℕ → ℕ → Bool
is_close first second = first == 0x2A && second == 0x2F

-- how many bytes there are up to the next `*/`, which is counted
abbrev pub close_length : List ℕ → Option ℕ
close_length [] = None
close_length (a ∷ []) = None
close_length (a ∷ b ∷ z) = if is_close a b then Some 2 else one_more (close_length (b ∷ z))

abbrev pub to_close : Option ℕ → Step
to_close None = step.Fault fault.OpenComment 0
to_close (Some n) = step.Gap (n + 2)

-- the comment whose bytes behind its `/*` these are
unfoldable pub block_comment : List ℕ → Step
block_comment body = to_close (close_length body)

-- the comment behind a `/`
abbrev pub behind_slash : ℕ → List ℕ → Option Step
behind_slash b body =
    if b == 0x2A then Some (block_comment body)
    else if b == 0x2F then Some (step.Gap (run is_on_line body + 2))
    else if b == 0x2D then Some (step.Gap (run is_on_line body + 2))
    else None

-- the comment that begins at the front of a text
unfoldable pub comment : List ℕ → Option Step
comment [] = None
comment (a ∷ []) = None
comment (a ∷ b ∷ body) = if a == 0x2F then behind_slash b body else None
