-- What begins a step of a path, and the laws of the loop over steps.
use Rattle.std.proofs.Common.{◌≡◌, Bool, false, ◌||◌, Ok, List, ◌++◌, refl}
use Rattle.pads_lex.specs.declared.token.Mark.TheVariants.{Dot, OpenBracket}
use Rattle.pads_grammar.specs.declared.kind.Kind.{Kind}
use Rattle.pads_grammar.specs.declared.kind.Kind.TheVariants as kind
use Rattle.pads_grammar.specs.Kinds.{Tokens, is}
use Rattle.pads_grammar.specs.Grammar.{nullable, begins, many, reads, then_read}
use Rattle.pads_grammar.proofs.Disjoint.{every_kind}
use Rattle.pads_grammar.proofs.ListLoops.{many_goes, many_ends, many_fails, many_shorter}
use Rattle.pads_grammar.proofs.Loops.{Whole}
use Rattle.pads_syntax_parts.proofs.LoopForms.{Goes, Ends, Fails, Refuses, refuses, Shortens}
use Rattle.pads_syntax_parts.proofs.Outermost.{alike, agree}
use Rattle.pads_syntax_path.specs.Paths.{step}
use Rattle.pads_syntax_path.specs.declared.path.PathStep.{PathStep}

abbrev first-step : Kind → Bool
first-step j = is (kind.Mark Dot) j || is (kind.Mark OpenBracket) j

pub begins_step : (j : Kind) → begins step j ≡ (is (kind.Mark Dot) j || is (kind.Mark OpenBracket) j)
unfolding step
begins_step j = agree (begins step j) (first-step j) (every_kind (λ i. alike (begins step i) (first-step i)) refl j)

step_solid : nullable step ≡ false
unfolding step
step_solid = refl

step_quiet : begins step kind.End ≡ false
unfolding step
step_quiet = refl

-- Some steps, and those that are read behind them.
pub steps_begin : (first : List PathStep) (ts : Tokens) → Whole step (then_read (reads (many step) ts) (λ more rest. Ok (first ++ more, rest))) first ts
steps_begin first ts = refl

pub steps_go : Goes step
steps_go = many_goes step step_solid step_quiet

pub steps_end : Ends step
steps_end = many_ends step step_solid step_quiet

pub steps_fail : Fails step
steps_fail = many_fails step step_solid step_quiet

pub steps_refuse : Refuses step
steps_refuse = refuses step steps_fail

pub steps_shorten : Shortens step
steps_shorten = many_shorter step step_solid step_quiet

pub ruleset step_loop = (steps_begin, steps_end, steps_fail)
