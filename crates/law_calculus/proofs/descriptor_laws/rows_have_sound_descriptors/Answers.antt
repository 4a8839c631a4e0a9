use Rattle.law_calculus.proofs.SoundRows.{sound-row_counts, sound-row_spans, sound-row_span}
use Rattle.law_calculus.proofs.descriptor_laws.rows_have_sound_descriptors.Goals as goal

pub returns : goal.returns
returns c = record { counts = sound-row_counts; spans = sound-row_spans; extent = sound-row_span }
