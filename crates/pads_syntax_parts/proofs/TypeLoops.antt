-- The laws of the loops over arguments and parameters.
use Rattle.pads_lex.specs.declared.token.Mark.TheVariants.{Comma}
use Rattle.pads_syntax_parts.specs.Types.{arg, param}
use Rattle.pads_syntax_parts.proofs.LoopForms.{ListBegins, ListFault, ListGoes, ListEnds, ListFails, ListShortens, list_begins, list_fault, list_goes, list_ends, list_fails, list_shortens}

pub args_begin : ListBegins Comma arg
args_begin = list_begins Comma arg

pub args_fault : ListFault Comma arg
args_fault = list_fault Comma arg

pub args_go : ListGoes Comma arg
args_go = list_goes Comma arg

pub args_end : ListEnds Comma arg
args_end = list_ends Comma arg

pub args_fail : ListFails Comma arg
args_fail = list_fails Comma arg

pub args_shorten : ListShortens Comma arg
args_shorten = list_shortens Comma arg

pub ruleset arg_loop = (args_begin, args_fault, args_end, args_fail)

pub params_begin : ListBegins Comma param
params_begin = list_begins Comma param

pub params_fault : ListFault Comma param
params_fault = list_fault Comma param

pub params_go : ListGoes Comma param
params_go = list_goes Comma param

pub params_end : ListEnds Comma param
params_end = list_ends Comma param

pub params_fail : ListFails Comma param
params_fail = list_fails Comma param

pub params_shorten : ListShortens Comma param
params_shorten = list_shortens Comma param

pub ruleset param_loop = (params_begin, params_fault, params_end, params_fail)
