-- The names in scope of resolving as the rules see them.
use Rattle.std.specs.Prelude.{ℕ, List, map}
use Rattle.pads_rules.specs.declared.declared.Named.{Named}
use Rattle.pads_rules.specs.Judging as judging
use Rattle.pads_resolution.specs.declared.visible.Visible.{Visible}
use Rattle.pads_resolution.specs.Scopes.{NameScope}

-- A name with its sort, without what it stands for.
abbrev pub as_named : Visible → Named
as_named visible = record { text = visible.text; sort = visible.known.sort }

-- The same names, and those of this and the later fields of a struct.
abbrev pub judging_scope : NameScope → List (List ℕ) → judging.Scope
judging_scope scope later = record { visible = map as_named scope; later = later }
