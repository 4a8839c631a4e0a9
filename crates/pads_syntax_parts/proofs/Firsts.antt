-- What begins a literal, a condition, a constraint of a typedef, a branch and a part.
use Rattle.std.proofs.Common.{◌≡◌, Bool, false, ◌||◌, refl}
use Rattle.pads_grammar.specs.declared.kind.Kind.{Kind}
use Rattle.pads_lex.specs.declared.token.Keyword.TheVariants.{Pcompute, Peor, Popt, Pwhere}
use Rattle.pads_lex.specs.declared.token.Mark.TheVariants.{Colon}
use Rattle.pads_grammar.specs.declared.kind.Kind.TheVariants as kind
use Rattle.pads_grammar.specs.Kinds.{is}
use Rattle.pads_grammar.specs.Grammar.{nullable, begins}
use Rattle.pads_grammar.proofs.Disjoint.{every_kind}
use Rattle.pads_syntax_parts.specs.Types.{type_use, branch, literal}
use Rattle.pads_syntax_parts.specs.Parts.{part, condition, refinement}
use Rattle.pads_syntax_parts.proofs.Outermost.{alike, agree}

pub begins-literal : (j : Kind) → begins literal j ≡ (is kind.Char j || (is kind.Text j || is (kind.Keyword Peor) j))
unfolding literal
begins-literal j = agree (begins literal j) (is kind.Char j || (is kind.Text j || is (kind.Keyword Peor) j)) (every_kind (λ i. alike (begins literal i) (is kind.Char i || (is kind.Text i || is (kind.Keyword Peor) i))) refl j)

pub solid-literal : nullable literal ≡ false
unfolding literal
solid-literal = refl

pub begins-condition : (j : Kind) → begins condition j ≡ is (kind.Keyword Pwhere) j
unfolding condition
begins-condition j = agree (begins condition j) (is (kind.Keyword Pwhere) j) (every_kind (λ i. alike (begins condition i) (is (kind.Keyword Pwhere) i)) refl j)

pub begins-refinement : (j : Kind) → begins refinement j ≡ is (kind.Mark Colon) j
unfolding refinement
begins-refinement j = agree (begins refinement j) (is (kind.Mark Colon) j) (every_kind (λ i. alike (begins refinement i) (is (kind.Mark Colon) i)) refl j)

abbrev first-branch : Kind → Bool
first-branch j = is (kind.Keyword Popt) j || is kind.Name j

pub begins_branch : (j : Kind) → begins branch j ≡ (is (kind.Keyword Popt) j || is kind.Name j)
unfolding branch type_use
begins_branch j = agree (begins branch j) (first-branch j) (every_kind (λ i. alike (begins branch i) (first-branch i)) refl j)

abbrev first-part : Kind → Bool
first-part j = is kind.Char j || (is kind.Text j || (is (kind.Keyword Peor) j || (is (kind.Keyword Pcompute) j || (is (kind.Keyword Popt) j || is kind.Name j))))

pub begins_part : (j : Kind) → begins part j ≡ (is kind.Char j || (is kind.Text j || (is (kind.Keyword Peor) j || (is (kind.Keyword Pcompute) j || (is (kind.Keyword Popt) j || is kind.Name j)))))
unfolding part literal branch type_use
begins_part j = agree (begins part j) (first-part j) (every_kind (λ i. alike (begins part i) (first-part i)) refl j)

pub ruleset firsts = (begins-literal, solid-literal, begins-condition, begins-refinement)
