-- What a value is, where something is made of the values inside of it: its number, text and label stay.
use Rattle.std.proofs.Common.{◌≡◌, refl}
use Rattle.pads_value.specs.declared.value.Val.{Val-F, map-Val}
use Rattle.pads_forms.specs.Shapes.{num_in, text_in, label_in}

pub num_mapped : {A B : Type 0} (f : A → B) (x : Val-F A) → num_in (map-Val A B f x) ≡ num_in x
num_mapped f Val-F.Unit = refl
num_mapped f Val-F.Missing = refl
num_mapped f (Val-F.Num number) = refl
num_mapped f (Val-F.Text text) = refl
num_mapped f (Val-F.Enum label) = refl
num_mapped f (Val-F.Tuple parts) = refl
num_mapped f (Val-F.Branch number inner) = refl
num_mapped f (Val-F.Array elements) = refl

pub text_mapped : {A B : Type 0} (f : A → B) (x : Val-F A) → text_in (map-Val A B f x) ≡ text_in x
text_mapped f Val-F.Unit = refl
text_mapped f Val-F.Missing = refl
text_mapped f (Val-F.Num number) = refl
text_mapped f (Val-F.Text text) = refl
text_mapped f (Val-F.Enum label) = refl
text_mapped f (Val-F.Tuple parts) = refl
text_mapped f (Val-F.Branch number inner) = refl
text_mapped f (Val-F.Array elements) = refl

pub label_mapped : {A B : Type 0} (f : A → B) (x : Val-F A) → label_in (map-Val A B f x) ≡ label_in x
label_mapped f Val-F.Unit = refl
label_mapped f Val-F.Missing = refl
label_mapped f (Val-F.Num number) = refl
label_mapped f (Val-F.Text text) = refl
label_mapped f (Val-F.Enum label) = refl
label_mapped f (Val-F.Tuple parts) = refl
label_mapped f (Val-F.Branch number inner) = refl
label_mapped f (Val-F.Array elements) = refl
