use Rattle.std.proofs.Common.{◌∙◌, ap, length}
use Rattle.pads_piece_rules.specs.Told.{stands}
use Rattle.pads_ast.specs.NameTokens.{names_in_decl}
use Rattle.pads_counts.specs.Met.{met}
use Rattle.pads_violations.proofs.DescriptionLaws.{names-more, names-counted, site-joined}
use Rattle.pads_violations.proofs.description.at_site.Goals as goal

pub too_much-requires : goal.too_much-requires
too_much-requires c = record {
  names =
      c.len.ensures.length
      ∙ ap length
      (c.in_ok-meet_decl.ensures.met ∙ ap (λ names. met names (names_in_decl c.args.site.now.decl.now.body)) c.requires.names
      ∙ names-more c.args.site.now.decls.now c.args.site.now.number c.args.site.now.decl.now c.requires.stands)
      ∙ names-counted (stands c.args.site.now);
}

pub returns : goal.returns
returns c = record {
  told = rw (c.lesser.ensures.least, c.in_ok-rules.ensures.told, c.in_ok-counts.ensures.told) (site-joined (stands c.args.site.now));
  met =
      c.in_ok-meet_decl.ensures.met ∙ ap (λ names. met names (names_in_decl c.args.site.now.decl.now.body)) c.requires.names
      ∙ names-more c.args.site.now.decls.now c.args.site.now.number c.args.site.now.decl.now c.requires.stands;
}
