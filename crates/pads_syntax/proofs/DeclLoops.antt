-- The laws of the loops over cases and declarations.
use Rattle.std.proofs.Common.{◌≡◌, false, refl}
use Rattle.pads_grammar.specs.declared.kind.Kind.TheVariants as kind
use Rattle.pads_grammar.specs.Grammar.{nullable, begins}
use Rattle.pads_grammar.proofs.ListLoops.{many_begins, many_goes, many_ends, many_fails, many_shorter}
use Rattle.pads_syntax_parts.proofs.LoopForms.{Begins, Goes, Ends, Fails, Refuses, refuses, Shortens}
use Rattle.pads_syntax.specs.Switches.{case_rule}
use Rattle.pads_syntax.specs.Declarations.{struct_decl, union_decl, array_decl, enum_decl, typedef_decl, opt_decl, decl_body, other_body, marked, decl}

case_rule_solid : nullable case_rule ≡ false
unfolding case_rule
case_rule_solid = refl

case_rule_quiet : begins case_rule kind.End ≡ false
unfolding case_rule
case_rule_quiet = refl

pub cases_begin : Begins case_rule
cases_begin = many_begins case_rule case_rule_solid case_rule_quiet

pub cases_go : Goes case_rule
cases_go = many_goes case_rule case_rule_solid case_rule_quiet

pub cases_end : Ends case_rule
cases_end = many_ends case_rule case_rule_solid case_rule_quiet

pub cases_fail : Fails case_rule
cases_fail = many_fails case_rule case_rule_solid case_rule_quiet

pub cases_refuse : Refuses case_rule
cases_refuse = refuses case_rule cases_fail

pub cases_shorten : Shortens case_rule
cases_shorten = many_shorter case_rule case_rule_solid case_rule_quiet

pub ruleset case_loop = (cases_begin, cases_end, cases_fail)

decl_solid : nullable decl ≡ false
unfolding decl marked decl_body other_body struct_decl union_decl array_decl enum_decl typedef_decl opt_decl
decl_solid = refl

decl_quiet : begins decl kind.End ≡ false
unfolding decl marked decl_body other_body struct_decl union_decl array_decl enum_decl typedef_decl opt_decl
decl_quiet = refl

pub decls_begin : Begins decl
decls_begin = many_begins decl decl_solid decl_quiet

pub decls_go : Goes decl
decls_go = many_goes decl decl_solid decl_quiet

pub decls_end : Ends decl
decls_end = many_ends decl decl_solid decl_quiet

pub decls_fail : Fails decl
decls_fail = many_fails decl decl_solid decl_quiet

pub decls_refuse : Refuses decl
decls_refuse = refuses decl decls_fail

pub decls_shorten : Shortens decl
decls_shorten = many_shorter decl decl_solid decl_quiet

pub ruleset decl_loop = (decls_begin, decls_end, decls_fail)
