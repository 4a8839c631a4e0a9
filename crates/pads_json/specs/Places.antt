-- Places of nodes below the body of a record: the body is `$`, a named part or a branch goes by its name,
-- the unnamed part number p by `#p`, element e by `[e]` behind its array's place. Names stand behind a
-- dot, but for those directly below the body, which stand alone.
use Rattle.std.specs.Prelude.{ℕ, List, [], ◌∷◌, ◌++◌, codes, decimal, encode_utf8_all}
use Rattle.pads_forms.specs.Steps.{Step, named, unnamed, element, step_seen}
use Rattle.pads_json.specs.declared.place.Place.{Place, Place-F, fold-Place}

abbrev pub word : Step → List ℕ
word (named name) = encode_utf8_all name
word (unnamed number) = codes "#" ++ decimal number
word (element number) = codes "[" ++ decimal number ++ codes "]"

-- what stands before a word directly below the body
abbrev pub first : Step → List ℕ
first (named name) = []
first (unnamed number) = []
first (element number) = codes "$"

-- what stands before a word below another node
abbrev pub later : Step → List ℕ
later (named name) = codes "."
later (unnamed number) = codes "."
later (element number) = []

-- the text of the place to which steps lead from the body, the last step first
abbrev pub place_text : List Step → List ℕ
place_text [] = codes "$"
place_text (step ∷ []) = first step ++ word step
place_text (step ∷ above ∷ steps) = place_text (above ∷ steps) ++ (later step ++ word step)

-- the steps that the code has gone
abbrev pub steps_step : Place-F (List Step) → List Step
steps_step Place-F.Body = []
steps_step (Place-F.Below above step) = step_seen step ∷ above.now

abbrev pub steps : Place → List Step
steps = fold-Place (List Step) steps_step
