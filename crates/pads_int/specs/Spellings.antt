-- The canonical spelling of an integer: plain decimal, with `-` for a negative number. In a field, zeros
-- stand between the sign and the digits.
use Rattle.std.specs.Prelude.{ℕ, ℤ, pos, negsuc, Bool, not, ◌&&◌, nat_le, int_lt, if◌then◌else◌, List, ◌∷◌, ◌++◌, map, length, replicate, Option, Some, None, ◌-◌, suc}
use Rattle.std.specs.Int.RustNames.{unsigned_abs}
use Rattle.std.specs.Fmt.{decimal, signed_decimal}
use Rattle.pads_code.specs.declared.Coding.{Coding}
use Rattle.pads_code.specs.CodePage.{byte_of}
use Rattle.pads_int.specs.declared.kind.Kind.{Kind}
use Rattle.pads_int.specs.Kinds.{in_range}
use Rattle.pads_int.specs.Readings.{minus}

-- the widest field that is spelled
abbrev pub widest : ℕ
widest = 16777216

-- none where the kind doesn't have the number
unfoldable pub int_spelling : Kind → Coding → ℤ → Option (List ℕ)
int_spelling kind coding v =
    if in_range kind v then Some (map (byte_of coding) (signed_decimal v)) else None

-- the digits behind so many zeros that they fill the width
abbrev pub padded : ℕ → List ℕ → List ℕ
padded width digits = replicate (width - length digits) 48 ++ digits

abbrev pub signed_padded : ℕ → ℤ → List ℕ
signed_padded width (pos n) = padded width (decimal n)
signed_padded width (negsuc n) = minus ∷ padded (width - 1) (decimal (suc n))

-- the fields that are spelled have from 1 to `widest` bytes
abbrev pub is_field_width : ℤ → Bool
is_field_width width = not (int_lt width (pos 1)) && not (int_lt (pos widest) width)

-- none where there is no such field, the kind doesn't have the number, or it doesn't fit
unfoldable pub int_fw_spelling : Kind → Coding → ℤ → ℤ → Option (List ℕ)
int_fw_spelling kind coding width v =
    let size = unsigned_abs width in
    if is_field_width width && (in_range kind v && nat_le (length (signed_decimal v)) size)
    then Some (map (byte_of coding) (signed_padded size v))
    else None
