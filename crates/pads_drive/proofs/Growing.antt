-- How sinks grow over several writes.
use Rattle.std.proofs.Common.{ℕ, ◌+◌, List, ◌++◌, Option, length, take, sym, subst}
use Rattle.std.proofs.Math.Seq.{take-length, take-append-add}
use Rattle.std.specs.Io.KnownBytes.{Appends}
use Rattle.std.proofs.KnownBytes.{Appends-trans}
use Rattle.pads_io.specs.Transfer.{AppendsPrefix}

pub Appends-prefix : (old new : Option (List ℕ)) (bytes : List ℕ) → Appends old new bytes → AppendsPrefix old new bytes
Appends-prefix old new bytes p = (length bytes, subst (Appends old new) (sym (take-length bytes)) p)

-- a prefix of what comes after all of what came before
pub AppendsPrefix-after : (old mid new : Option (List ℕ)) (before after : List ℕ) → Appends old mid before → AppendsPrefix mid new after → AppendsPrefix old new (before ++ after)
AppendsPrefix-after old mid new before after p q =
    (length before + q.0, subst (Appends old new) (sym (take-append-add before after q.0)) (Appends-trans old mid new before (take q.0 after) p q.1))
