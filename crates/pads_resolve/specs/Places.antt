-- The places of declarations.
use Rattle.std.specs.Prelude.{ℕ, List, map}
use Rattle.std.specs.List.{enumerate_from}
use Rattle.pads_ast.specs.declared.decl.Decl.{Decl}
use Rattle.pads_rules.specs.declared.declared.Declared.{Declared}
use Rattle.pads_rules.specs.Pieces.{Site}

-- By the declarations of the whole description and its declared types.
module _ (decls : List Decl) (env : List Declared) where
  abbrev pub place_of : ℕ × Decl → Site
  place_of numbered = record { decls = decls; env = env; number = numbered.0; decl = numbered.1 }

  -- The places of some declarations, the first of which has a number.
  abbrev pub sites_from : ℕ → List Decl → List Site
  sites_from number some = map place_of (enumerate_from number some)

  -- The places of all declarations.
  abbrev pub sites_among : List Site
  sites_among = sites_from 0 decls
