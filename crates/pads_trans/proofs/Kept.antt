-- Each declaration that is translated keeps the values of its own body.
use Rattle.std.proofs.Common.{◌≡◌, refl, true, List, [], ◌∷◌, map}
use Rattle.std.proofs.lemmas.Bool.{and_from}
use Rattle.pads_calc.specs.Skeletons.{KeepsAll, all_set}
use Rattle.pads_code.specs.declared.Coding.{Coding}
use Rattle.pads_trans.specs.Terms.{decl_of}
use Rattle.pads_trans.specs.Names.{Name}
use Rattle.pads_resolution.specs.declared.decl.Decl.{Decl}

is-set : (names : List Name) (ambient : Coding) (decl : Decl) → (decl_of names ambient decl).set ≡ true
unfolding decl_of
is-set names ambient decl = refl

pub translated-kept : (names : List Name) (ambient : Coding) (decls : List Decl) → KeepsAll (map (decl_of names ambient) decls)
translated-kept names ambient [] = refl
translated-kept names ambient (decl ∷ decls) =
    and_from (decl_of names ambient decl).set (all_set (map (decl_of names ambient) decls)) (is-set names ambient decl) (translated-kept names ambient decls)
