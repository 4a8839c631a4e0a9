-- The translation of a description: its module, in which a search goes as far as any may.
use Rattle.std.specs.Prelude.{Bool, ◌&&◌, nat_lt, List, [], length, map}
use Rattle.pads_module.specs.Modules.{Contents, made_of, is_formed}
use Rattle.pads_calc.specs.declared.decl.Shape.{Shape}
use Rattle.pads_calc.specs.Rows.{farthest}
use Rattle.pads_code.specs.declared.Coding.{Coding}
use Rattle.pads_resolution.specs.declared.decl.Description.{Description}
use Rattle.pads_resolution.specs.declared.decl.Source.{Source}
use Rattle.pads_trans.specs.Terms.{decl_of}
use Rattle.pads_trans.specs.Met.{names_of}
use Rattle.pads_trans.specs.Names.{Name, with_names}

abbrev pub shape_of : Source → Shape
shape_of source = record { head = source.header; each = source.record }

abbrev pub module_by : List Name → Description → Coding → Contents
module_by names description ambient =
    made_of (map (decl_of names ambient) description.decls) names (shape_of description.source) farthest

-- The same with the names that a table of them holds.
abbrev pub module_by_table : List Name → Description → Coding → Contents
module_by_table names description ambient =
    made_of (map (decl_of names ambient) description.decls) (with_names [] names) (shape_of description.source) farthest

-- The module of a description in a coding.
abbrev pub module_of : Description → Coding → Contents
module_of description ambient = module_by (names_of description) description ambient

-- It is well formed and has fewer than 65,535 names.
abbrev pub is_module : Contents → Bool
is_module m = nat_lt (length m.names) 65535 && is_formed m
