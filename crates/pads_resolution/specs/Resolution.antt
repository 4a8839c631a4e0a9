-- What a description resolves to: its declarations, and the record types of its sources.
use Rattle.std.specs.Prelude.{ℕ, ◌||◌, if◌then◌else◌, List, [], ◌∷◌, map, fold, Option, Some, None, slice_get}
use Rattle.pads_ast.specs.declared.decl.Ast.{Ast}
use Rattle.pads_ast.specs.declared.decl.Decl.{Decl as WrittenDecl}
use Rattle.pads_ast.specs.declared.decl.DeclBody.{DeclBody as WrittenBody}
use Rattle.pads_ast.specs.declared.decl.DeclBody.TheVariants as written_body
use Rattle.pads_ast.specs.declared.decl.DeclMark.{DeclMark}
use Rattle.pads_ast.specs.declared.decl.DeclMark.TheVariants as mark
use Rattle.pads_ast.specs.declared.decl.Part.{Part as WrittenPart}
use Rattle.pads_ast.specs.declared.decl.Part.TheVariants as written_part
use Rattle.pads_ast.specs.declared.types.Type.{«Type»}
use Rattle.pads_resolution.specs.declared.decl.Decl.{Decl}
use Rattle.pads_resolution.specs.declared.decl.Description.{Description}
use Rattle.pads_resolution.specs.declared.decl.Role.{Role}
use Rattle.pads_resolution.specs.declared.decl.Role.TheVariants as role
use Rattle.pads_resolution.specs.declared.decl.Source.{Source}
use Rattle.pads_rules.specs.Pieces.{Site, sites, sight}
use Rattle.pads_rules.specs.Resolving.{Sight, is_record_list, param_named}
use Rattle.pads_ast.specs.Trees.{name_of, params_of, is_precord, is_psource}
use Rattle.pads_resolution.specs.Bodies.{body_at}
use Rattle.pads_resolution.specs.Numbers.{short, number_of, declared_number}
use Rattle.pads_resolution.specs.Scopes.{NameScope, variable}
use Rattle.pads_resolution.specs.Types.{param_of}

-- What a declaration is for.
unfoldable pub role_of : Site → Role
role_of site =
    if is_precord site.decl.mark then role.Precord
    else if is_psource site.decl.mark || is_record_list (sight site) site.decl then role.Source
    else role.Part

-- The parameters of a declaration as variables.
unfoldable pub params_scope : Site → NameScope
params_scope site = map (λ param. variable (param_named (sight site) param)) (params_of site.decl.body)

unfoldable pub decl_at : Site → Decl
decl_at site = record {
  role = role_of site;
  name = (name_of site.decl.body).text;
  params = map (param_of (sight site)) (params_of site.decl.body);
  body = body_at site (params_scope site) site.decl.body;
}

-- The number of the declaration that a type names.
unfoldable pub named_number : Sight → «Type» → ℕ
named_number types t = number_of (declared_number types.types t.name.text)

-- The record type of a record list.
abbrev pub listed_record : Sight → WrittenBody → ℕ
listed_record types (written_body.Array d) = named_number types d.of
listed_record types (written_body.Struct d) = 0
listed_record types (written_body.Union d) = 0
listed_record types (written_body.Enum d) = 0
listed_record types (written_body.Typedef d) = 0
listed_record types (written_body.Opt d) = 0

-- The record type of a declared record list, by the list's number.
unfoldable pub list_record : Site → ℕ → ℕ
list_record site list = found (slice_get site.decls list)
  where
    found : Option WrittenDecl → ℕ
    found None = 0
    found (Some d) = listed_record (record { types = site.env; number = list }) d.body

-- A source of records of one type, without a header.
abbrev pub plain_source : ℕ → Source
plain_source record_type = record { header = None; «record» = record_type }

-- A source with a header: the type of the first field is the header's, that of the second lists the other records.
abbrev pub headed_source : Site → «Type» → «Type» → Source
headed_source site header list = record {
  header = Some (named_number (sight site) header);
  «record» = list_record site (named_number (sight site) list);
}

abbrev pub parts_source : Site → List WrittenPart → Source
parts_source site (written_part.Field header ∷ written_part.Field list ∷ []) = headed_source site header.of list.of
parts_source site _ = plain_source 0

-- The source that a `Psource` declaration shapes: a record list, or a struct of a header and a record list.
abbrev pub shaped_source : Site → WrittenBody → Source
shaped_source site (written_body.Struct d) = parts_source site d.parts
shaped_source site (written_body.Array d) = plain_source (named_number (sight site) d.of)
shaped_source site (written_body.Union d) = plain_source 0
shaped_source site (written_body.Enum d) = plain_source 0
shaped_source site (written_body.Typedef d) = plain_source 0
shaped_source site (written_body.Opt d) = plain_source 0

-- The source behind a declaration: a `Precord` declaration is the type of all records so far, a `Psource` one says
-- it by its shape, any other leaves it.
abbrev pub source_by : Option DeclMark → Source → Site → Source
source_by None source site = source
source_by (Some mark.Precord) source site = plain_source (short site.number)
source_by (Some mark.Psource) source site = shaped_source site site.decl.body
source_by (Some mark.Precursive) source site = source

unfoldable pub source_after : Source → Site → Source
source_after source site = source_by site.decl.mark source site

-- The source of a description: the last `Precord` declaration's, or that of the `Psource` declaration, which is the
-- last of all.
unfoldable pub source_of : List Site → Source
source_of all = fold source_after (plain_source 0) all

unfoldable pub resolved : Ast → Description
resolved tree = record { decls = map decl_at (sites tree.decls); source = source_of (sites tree.decls) }
