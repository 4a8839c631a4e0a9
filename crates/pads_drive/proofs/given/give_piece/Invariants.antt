use Rattle.std.proofs.Common.{◌≡◌, ◌+◌, ℕ, List, map, take}
use Rattle.pads_value.specs.Cuts.{cut_of_kept}
use Rattle.pads_drive.specs.Outputs.{Work, rows_of}
use Rattle.pads_drive.specs.declared.output.Output.{Output}
use Rattle.pads_drive.proofs.Sharing.{HasGiven}
use Rattle.pads_drive.proofs.given.give_piece.Given as goal

-- the reader is one of the command's, and the rows so far are given
pub record GivesSoFar {Command Row Tally Share Reader : Type 0} (work : Command → Work Row Tally) (share_of : Command → List Row → Share) (suits : Command → Reader → Type 0)
    (command : Command) (reader : Reader) (first_no number index : ℕ) (rows : List Row) (output : Output) (share : Share) : Type 0 where
  pub suits_still : suits command reader
  pub counted : number ≡ first_no + index
  pub given : HasGiven (work command) (share_of command) rows output share

abbrev pub invariant-frames : goal.invariant-frames
invariant-frames g l =
    let c = g.C.Command in
    GivesSoFar c.work c.share_of c.suits l.command l.reader l.first_no l.number l.kept-index
    (rows_of (c.work l.command) l.first_no (map cut_of_kept (take l.kept-index l.frames))) l.output l.share
