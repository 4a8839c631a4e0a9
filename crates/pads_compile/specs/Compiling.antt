-- What compiling gives: the image of the module, or that it has too many instructions.
use Rattle.std.specs.Prelude.{◌≡◌, ℕ, ◌<◌, ◌≤◌, List, Result, Ok, Err}
use Rattle.pads_calc.specs.declared.decl.Decl.{Decl}
use Rattle.pads_calc.specs.declared.decl.Shape.{Shape}
use Rattle.pads_image.specs.declared.entry.Entry.{Entry}
use Rattle.pads_image.specs.declared.image.Image.{Image}
use Rattle.pads_image.specs.declared.op.Op.{Op}
use Rattle.pads_image.specs.Code.{code_of, entries_of, length_of}
use Rattle.pads_image.specs.Validity.{longest}
use Rattle.pads_value.specs.Header.{capped}
use Rattle.pads_value.specs.declared.memory.Refusal.{Refusal}
use Rattle.pads_value.specs.declared.memory.Refusal.TheVariants as refusal
use Rattle.pads_compile.specs.declared.compiling.TooLarge.{TooLarge}

-- this is the code of the declarations
pub record IsCode (decls : List Decl) (code : List Op) (entries : List Entry) : Type 0 where
  pub code_is : code ≡ code_of decls
  pub entries_are : entries ≡ entries_of decls

-- the image of the declarations, with their shape and their bound on searches
pub record IsImageOf (decls : List Decl) (shape : Shape) (scan : ℕ) (image : Image) : Type 0 where
  pub code_is : image.code ≡ code_of decls
  pub entries_are : image.entries ≡ entries_of decls
  pub shape_is : image.shape ≡ shape
  pub scan_is : image.scan ≡ scan
  pub fits : length_of decls ≤ longest

-- the image comes exactly where its instructions aren't too many
abbrev pub Compiles : List Decl → Shape → ℕ → Result Image (Refusal TooLarge) → Type 0
Compiles decls shape scan (Ok image) = IsImageOf decls shape scan image
Compiles decls shape scan (Err (refusal.Fault fault)) = (longest < length_of decls) × (fault.length ≡ capped (length_of decls))
Compiles decls shape scan (Err refusal.Memory) = Unit {0}
