-- Which sink is blamed, over several calls.
use Rattle.std.proofs.Common.{◌≡◌, ℕ, Result, Ok}
use Rattle.pads_drive.specs.declared.stop.Stop.{Stop}
use Rattle.pads_drive.specs.Stopping.{HasSinkCause}

pub cause-weaker : {T : Type 0} (a a' b b' : ℕ) (P Q : Type 0) (r : Result T Stop) → (Q → P) → HasSinkCause a a' b b' P r → HasSinkCause a a' b b' Q r
cause-weaker a a' b b' P Q r f p = record {
  out_later = p.out_later;
  notes_later = p.notes_later;
  out_kept = p.out_kept;
  notes_kept = p.notes_kept;
  out_failed = p.out_failed;
  notes_failed = p.notes_failed;
  notes_wanted = λ q. p.notes_wanted (f q);
}

-- where nothing is blamed, nothing was counted
pub none-counted : {T : Type 0} (a a' b b' : ℕ) (P : Type 0) (v : T) → HasSinkCause a a' b b' P (Ok v) → (a' ≡ a) × (b' ≡ b)
none-counted a a' b b' P v p = (p.out_kept (λ e. cc), p.notes_kept (λ e. cc))
