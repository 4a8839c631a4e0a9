-- What is told of the declarations of a description.
use Rattle.std.specs.Prelude.{ℕ, List, [], take, flat_map, Option}
use Rattle.pads_ast.specs.declared.decl.Ast.{Ast}
use Rattle.pads_ast.specs.declared.decl.Decl.{Decl}
use Rattle.pads_rules.specs.declared.fault.CheckFault.{CheckFault}
use Rattle.pads_rules.specs.Faults.{least, each}
use Rattle.pads_ast.specs.NameTokens.{Names, names_in_decl}
use Rattle.pads_rules.specs.Pieces.{Site, sites}
use Rattle.pads_rules.specs.Violations.{no_record_type}
use Rattle.pads_rules.specs.SiteFaults.{site_faults}
use Rattle.pads_counts.specs.Met.{met}

-- The violations at a declaration, its pieces included.
unfoldable pub faults_at : Site → List CheckFault
faults_at site = site_faults site

unfoldable pub site_told : Site → Option CheckFault
site_told site = least (faults_at site)

-- All rules about declarations.
unfoldable pub decls_told : List Decl → Option CheckFault
decls_told decls = least (each faults_at (sites decls))

-- Rule 23.
unfoldable pub record_told : Ast → Option CheckFault
record_told tree = least (no_record_type tree)

-- The different names of so many declarations.
unfoldable pub names_up_to : List Decl → ℕ → Names
names_up_to decls number = met [] (flat_map (λ d. names_in_decl d.body) (take number decls))
