use Rattle.law_images.proofs.Answering.{answers}
use Rattle.law_images.proofs.laws.valid_image_answers.Goals as goal

pub returns : goal.returns
returns c = record { answers = λ code entries shape valid number cut. answers code entries shape valid number cut }
