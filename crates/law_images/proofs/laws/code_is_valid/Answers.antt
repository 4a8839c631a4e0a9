use Rattle.law_images.proofs.ValidCode.{valid-code}
use Rattle.law_images.proofs.laws.code_is_valid.Goals as goal

pub returns : goal.returns
returns c = record { valid = λ decls names shape counted scoped less. valid-code decls names shape counted scoped less }
