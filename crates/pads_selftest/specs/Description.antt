-- The description of the records that are made for a self-test.
use Rattle.std.specs.Prelude.{ℕ, List, [], ◌∷◌, ◌++◌, codes}

-- a line of a text
abbrev pub line : List ℕ → List ℕ
line words = words ++ 10 ∷ []

abbrev pub description : List ℕ
description =
    line (codes "Pstruct event_t { Pstring(:'|':) state; '|'; Puint32 tstamp; };")
    ++ line (codes "Parray events_t { event_t[] : Psep('|') && Pterm(Peor); };")
    ++ line (codes "Precord Pstruct order_t { Puint32 num; '|'; Popt Puint32 tn; '|'; events_t events; };")
