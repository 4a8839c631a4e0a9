-- The least violation of the rules that something comes again.
use Rattle.std.specs.Prelude.{List, [], Option}
use Rattle.pads_ast.specs.declared.decl.ArrayOption.{ArrayOption}
use Rattle.pads_ast.specs.declared.decl.Label.{Label}
use Rattle.pads_ast.specs.declared.name.Name.{Name}
use Rattle.pads_rules.specs.declared.fault.CheckFault.{CheckFault}
use Rattle.pads_rules.specs.declared.rule.Rule.TheVariants as rule
use Rattle.pads_rules.specs.DeclRules.{same_name, same_option, option_place, same_spelling, spelling_of}
use Rattle.pads_rules.specs.Faults.{breaks, again, least}

unfoldable pub names_again_told : List Name → Option CheckFault
names_again_told names = least (again same_name (λ name. breaks rule.NameAgain name.at) [] names)

unfoldable pub options_again_told : List ArrayOption → Option CheckFault
options_again_told options = least (again same_option (λ option. breaks rule.NameAgain (option_place option)) [] options)

unfoldable pub spellings_again_told : List Label → Option CheckFault
spellings_again_told labels = least (again same_spelling (λ label. breaks rule.SpellingAgain (spelling_of label).1) [] labels)
