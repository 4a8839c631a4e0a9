-- The measure of a reader or writer that follows terms: calls that may still be nested, each worth more than any body, and then the term.
use Rattle.std.proofs.Common.{◌≡◌, ◌≢◌, ℕ, zero, suc, ◌+◌, ◌-◌, ◌*◌, ◌<◌, List, Some, slice_get, refl, arith}
use denote.Param.Weighed.{most}
use Rattle.pads_calc.specs.declared.decl.Decl.{Decl}
use Rattle.pads_calc.specs.declared.term.Term.{size-Term}
use Rattle.pads_calc.proofs.Sizes.{most-there}

abbrev body_size : Decl → ℕ
body_size decl = 4 * size-Term decl.body

-- more than the size of any body
unfoldable pub weight : List Decl → ℕ
weight decls = most body_size decls + 1

pub weight-call : (decls : List Decl) (n : ℕ) (decl : Decl) (depth : ℕ) → depth ≢ 0 → slice_get decls n ≡ Some decl →
    (depth - 1) * weight decls + 4 * size-Term decl.body < depth * weight decls
unfolding weight
weight-call decls n decl zero some there = absurd (some refl)
weight-call decls n decl (suc depth) some there =
    let less : suc depth - 1 ≡ depth = omega arith in
    let one : body_size decl < most body_size decls + 1 = omega (arith, most-there body_size decls n decl there) in
    rw less (omega (arith, one))

-- what is smaller than a term weighs less, on the way to it too
pub under : (calls part whole t way : ℕ) → way < 4 → calls + 4 * whole ≡ t → part < whole → calls + (4 * part + way) < t
under calls part whole t way few is smaller = omega (arith, few, is, smaller)
