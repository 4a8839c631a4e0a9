use Rattle.std.proofs.Common.{◌≡◌, ◌++◌, map, drop}
use Rattle.std.specs.Option.{option_copied}
use Rattle.pads_json.specs.Faults.{faults, kids_faults, kids_told, listed}
use Rattle.pads_forms.specs.Forms.{form_seen}
use Rattle.pads_json.specs.Places.{steps}
use Rattle.pads_json.proofs.faults.+faults.Given as goal

-- what is written already, then the rest, is the whole
abbrev pub invariant-write_kids-kids : goal.invariant-write_kids-kids
invariant-write_kids-kids l =
    let decls = l.terms.decls.now in
    let names = l.terms.names.now in
    l.out ++ listed (kids_faults decls names (steps l.place) (option_copied l.value) (form_seen l.form) l.i (map (faults decls names) (drop l.i l.kids)))
    ≡ l.fn.out ++ listed (kids_told decls names (steps l.place) (option_copied l.value) (form_seen l.form) l.kids)
