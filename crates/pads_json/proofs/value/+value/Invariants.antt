use Rattle.std.proofs.Common.{◌≡◌, ◌++◌, ◌∷◌, [], false, map, drop, List, ℕ}
use Rattle.serde_json.specs.View.{items_of}
use Rattle.serde_json.specs.Written.{items_text, members_text}
use Rattle.pads_json.specs.Members.{members_at, numbers_of, part_told}
use Rattle.pads_json.specs.Values.{Shown, shown}
use Rattle.pads_json.proofs.value.+value.Given as goal

-- what is written already, then the rest, is the whole
abbrev pub invariant-write_elements-elements : goal.invariant-write_elements-elements
invariant-write_elements-elements l =
    let told = map (λ (value : Shown). value l.depth l.elem) in
    let values = map (shown l.terms.bare.decls.now l.terms.keys.now) l.values in
    l.out ++ items_text l.later (items_of (told (drop l.element-index values))) ≡ (l.fn.out ++ 91 ∷ []) ++ items_text false (items_of (told values))

-- what is written already, then the rest, is the whole
abbrev pub invariant-write_members-members : goal.invariant-write_members-members
invariant-write_members-members l =
    let members = λ (numbers : List ℕ). members_at (part_told l.terms.bare.decls.now l.terms.keys.now l.depth l.parts l.values) (numbers_of l.terms.keys.now l.parts numbers) in
    l.out ++ members_text l.later (members (drop l.number-index l.numbers)) ≡ (l.fn.out ++ 123 ∷ []) ++ members_text false (members l.numbers)
