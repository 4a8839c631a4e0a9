-- Files in memory, by name.
use Rattle.std.specs.Prelude.{ℕ, List, [], Option, Some, find, unwrap_or}
use Rattle.std.specs.Option.{option_map}
use Rattle.std.specs.Str.{bytes_eq}
use Rattle.pads_io.specs.declared.named.NamedFile.{NamedFile}
use Rattle.pads_io.specs.declared.schedule.Schedule.{Schedule}

-- the bytes of the first file of this name
abbrev pub bytes_at : List NamedFile → List ℕ → Option (List ℕ)
bytes_at named name = option_map (λ file. file.bytes) (find (λ file. bytes_eq file.name name) named)

-- the same, where a name that isn't there is an empty file
abbrev pub bytes_or_empty : List NamedFile → List ℕ → List ℕ
bytes_or_empty named name = unwrap_or (bytes_at named name) []

-- so the content of every name is known there
abbrev pub content_or_empty : List NamedFile → List ℕ → Option (List ℕ)
content_or_empty named name = Some (bytes_or_empty named name)

-- files that fail at listed calls
pub record FailingFiles : Type 0 where
  pub named : List NamedFile
  pub schedule : Schedule
