use Rattle.std.proofs.Common.{◌≡◌, ℕ, ◌-◌, List, Option, Some, IfSome, length}
use Rattle.pads_io.specs.Calls.{Many, ReadAt}
use Rattle.pads_tool.specs.FileReads.{DueRead, due_at}
use Rattle.pads_tool.proofs.Told.{IsFront}
use Rattle.pads_tool.proofs.files.read_description.Given as goal

-- what was read is the front of the file, which stays as it was, each read was due, and no failure was counted
pub record ReadSoFar {F : Type 0} (reads : F → ReadAt → F → Type 0) (files files' : F) (content content' : List ℕ → Option (List ℕ)) (name text : List ℕ) (before now : ℕ) : Type 0 where
  pub told : IfSome (content name) (IsFront text)
  pub stays : content' ≡ content
  pub calls : Many (DueRead reads name) (Some 0, files) (due_at (length text), files')
  pub kept : now ≡ before

abbrev pub invariant-pieces : goal.invariant-pieces
invariant-pieces g l =
    let content = g.F.Files.content in
    let faults = g.F.Files.faults in
    ReadSoFar g.F.Files.reads l.initial.files l.files (content l.initial.files) (content l.files) l.name l.text (faults l.initial.files) (faults l.files)

abbrev pub decreases-pieces : goal.decreases-pieces
decreases-pieces g l = 1048577 - length l.text
