-- The image of a module: the code of its declarations in their order, each ended by a Return.
use Rattle.std.specs.Prelude.{◌≡◌, ℕ, ◌+◌, List, [], ◌∷◌, ◌++◌}
use Rattle.pads_calc.specs.declared.decl.Decl.{Decl}
use Rattle.pads_calc.specs.Skeletons.{skeleton_of}
use Rattle.pads_image.specs.declared.entry.Entry.{Entry}
use Rattle.pads_image.specs.declared.op.Op.{Op}
use Rattle.pads_image.specs.declared.op.Op.TheVariants as op
use Rattle.pads_image.specs.Blocks.{layout}

-- how many instructions a declaration has
abbrev pub decl_length : Decl → ℕ
decl_length decl = (layout decl.body).size + 1

abbrev pub length_of : List Decl → ℕ
length_of [] = 0
length_of (decl ∷ decls) = decl_length decl + length_of decls

-- the code of declarations from an address on
abbrev pub code_from : List Decl → ℕ → List Op
code_from [] p = []
code_from (decl ∷ decls) p = (layout decl.body).code p ++ op.Return ∷ code_from decls (p + decl_length decl)

abbrev pub entries_from : List Decl → ℕ → List Entry
entries_from [] p = []
entries_from (decl ∷ decls) p = (record { first = p; params = decl.params; set = decl.set; skeleton = skeleton_of decl.body }) ∷ entries_from decls (p + decl_length decl)

abbrev pub code_of : List Decl → List Op
code_of decls = code_from decls 0

abbrev pub entries_of : List Decl → List Entry
entries_of decls = entries_from decls 0

-- this is the code of the declarations, with their entries
pub record IsCodeOf (decls : List Decl) (code : List Op) (entries : List Entry) : Type 0 where
  pub code_is : code ≡ code_of decls
  pub entries_are : entries ≡ entries_of decls
