use Rattle.law_calculus.proofs.SoundTerms.{sound-meaning}
use Rattle.law_calculus.proofs.descriptor_laws.readings_have_sound_descriptors.Goals as goal

pub returns : goal.returns
returns c = record {
  counts = λ subject decls depth t env i. (sound-meaning subject decls depth t env i).counts;
  spans = λ subject decls depth t env i. (sound-meaning subject decls depth t env i).spans;
  extent = λ subject decls depth t env i. (sound-meaning subject decls depth t env i).span;
  within = λ subject decls depth t env i inside. (
    (sound-meaning subject decls depth t env i).forth,
    (sound-meaning subject decls depth t env i).within inside,
  );
}
