-- The laws of the loops over parts, branches and options.
use Rattle.std.proofs.Common.{◌≡◌, false, refl}
use Rattle.pads_lex.specs.declared.token.Mark.TheVariants.{And}
use Rattle.pads_grammar.specs.declared.kind.Kind.TheVariants as kind
use Rattle.pads_grammar.specs.Grammar.{nullable, begins}
use Rattle.pads_grammar.proofs.ListLoops.{many_begins, many_goes, many_ends, many_fails, many_shorter}
use Rattle.pads_syntax_parts.specs.Types.{type_use, branch, literal}
use Rattle.pads_syntax_parts.specs.Parts.{part, array_option}
use Rattle.pads_syntax_parts.proofs.LoopForms.{Begins, Goes, Ends, Fails, Refuses, refuses, Shortens, ListBegins, ListFault, ListGoes, ListEnds, ListFails, ListShortens, list_begins, list_fault, list_goes, list_ends, list_fails, list_shortens}

part_solid : nullable part ≡ false
unfolding part literal branch type_use
part_solid = refl

part_quiet : begins part kind.End ≡ false
unfolding part literal branch type_use
part_quiet = refl

pub parts_begin : Begins part
parts_begin = many_begins part part_solid part_quiet

pub parts_go : Goes part
parts_go = many_goes part part_solid part_quiet

pub parts_end : Ends part
parts_end = many_ends part part_solid part_quiet

pub parts_fail : Fails part
parts_fail = many_fails part part_solid part_quiet

pub parts_refuse : Refuses part
parts_refuse = refuses part parts_fail

pub parts_shorten : Shortens part
parts_shorten = many_shorter part part_solid part_quiet

pub ruleset part_loop = (parts_begin, parts_end, parts_fail)

branch_solid : nullable branch ≡ false
unfolding branch type_use
branch_solid = refl

branch_quiet : begins branch kind.End ≡ false
unfolding branch type_use
branch_quiet = refl

pub branches_begin : Begins branch
branches_begin = many_begins branch branch_solid branch_quiet

pub branches_go : Goes branch
branches_go = many_goes branch branch_solid branch_quiet

pub branches_end : Ends branch
branches_end = many_ends branch branch_solid branch_quiet

pub branches_fail : Fails branch
branches_fail = many_fails branch branch_solid branch_quiet

pub branches_refuse : Refuses branch
branches_refuse = refuses branch branches_fail

pub branches_shorten : Shortens branch
branches_shorten = many_shorter branch branch_solid branch_quiet

pub ruleset branch_loop = (branches_begin, branches_end, branches_fail)

pub options_begin : ListBegins And array_option
options_begin = list_begins And array_option

pub options_fault : ListFault And array_option
options_fault = list_fault And array_option

pub options_go : ListGoes And array_option
options_go = list_goes And array_option

pub options_end : ListEnds And array_option
options_end = list_ends And array_option

pub options_fail : ListFails And array_option
options_fail = list_fails And array_option

pub options_shorten : ListShortens And array_option
options_shorten = list_shortens And array_option

pub ruleset option_loop = (options_begin, options_fault, options_end, options_fail)
