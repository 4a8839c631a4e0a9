-- The value of the option `--mask`: the mode of all declarations, and behind it those of named ones, as
-- `both,entry_t:check,auth_t:none`.
use Rattle.std.specs.Prelude.{ℕ, Bool, true, false, not, ◌&&◌, ◌==◌, if◌then◌else◌, List, [], ◌∷◌, Option, Some, None, codes, option_and_then, option_map}
use Rattle.std.specs.List.{filter_map, list_any}
use Rattle.std.specs.Str.{bytes_eq}
use Rattle.pads_lex.specs.Spelling.{is_name}
use Rattle.pads_erase.specs.declared.mask.Mask.{Mask}
use Rattle.pads_erase.specs.declared.mask.NamedMode.{NamedMode}
use Rattle.pads_erase.specs.declared.mode.Mode.{Mode}
use Rattle.pads_erase.specs.declared.mode.Mode.TheVariants as mode

-- A byte in front of pieces: the mark begins one more, and any other byte stands in the first.
abbrev pub in_front : (mark byte : ℕ) → List (List ℕ) → List (List ℕ)
in_front mark byte [] = []
in_front mark byte (piece ∷ more) = if byte == mark then [] ∷ piece ∷ more else (byte ∷ piece) ∷ more

-- what stands between the marks of a text: one piece, and one more for each mark
abbrev pub pieces : (mark : ℕ) → List ℕ → List (List ℕ)
pieces mark [] = [] ∷ []
pieces mark (byte ∷ text) = in_front mark byte (pieces mark text)

-- the pieces behind a mark, where it is there
abbrev pub pieces_behind : (mark : ℕ) → Option (List ℕ) → List (List ℕ)
pieces_behind mark None = []
pieces_behind mark (Some text) = pieces mark text

-- the mode of this name
abbrev pub mode_of : List ℕ → Option Mode
mode_of name =
    if bytes_eq name (codes "both") then Some mode.Both
    else if bytes_eq name (codes "check") then Some mode.Check
    else if bytes_eq name (codes "set") then Some mode.Set
    else if bytes_eq name (codes "none") then Some mode.None
    else None

-- The declaration has a name of the language.
abbrev pub named_mode : (name mode : List ℕ) → Option NamedMode
named_mode name mode = if is_name name then option_map (λ mode. record { name = name; mode = mode }) (mode_of mode) else None

abbrev pub item_with : List (List ℕ) → Option NamedMode
item_with [] = None
item_with (name ∷ []) = None
item_with (name ∷ mode ∷ []) = named_mode name mode
item_with (name ∷ mode ∷ other ∷ more) = None

-- an item: a declaration's name, a colon and its mode
abbrev pub item_of : List ℕ → Option NamedMode
item_of text = item_with (pieces 58 text)

abbrev pub is_named : List ℕ → Option NamedMode → Bool
is_named name None = false
is_named name (Some one) = bytes_eq one.name name

-- One of these texts is an item of this name.
abbrev pub comes_again : List ℕ → List (List ℕ) → Bool
comes_again name texts = list_any (λ text. is_named name (item_of text)) texts

-- It is an item whose name comes in none of the texts behind it.
abbrev pub stands_before : Option NamedMode → List (List ℕ) → Bool
stands_before None texts = false
stands_before (Some one) texts = not (comes_again one.name texts)

-- Each of these texts is an item, and no name comes twice.
abbrev pub are_items : List (List ℕ) → Bool
are_items [] = true
are_items (text ∷ texts) = stands_before (item_of text) texts && are_items texts

-- a mask of these items
abbrev pub masking : Mode → List (List ℕ) → Mask
masking all texts = record { all = all; named = filter_map item_of texts }

abbrev pub mask_with : List (List ℕ) → Option Mask
mask_with [] = None
mask_with (all ∷ texts) = if are_items texts then option_map (λ all. masking all texts) (mode_of all) else None

-- The mode of all declarations, and behind each comma an item.
abbrev pub mask_of : List ℕ → Option Mask
mask_of text = mask_with (pieces 44 text)
