-- A field as it is put together: the sign, the zeros, the digits, each in the coding.
use Rattle.std.specs.Prelude.{ℕ, ℤ, pos, negsuc, List, ◌++◌, ◌-◌, map, replicate, length, take, drop}
use Rattle.pads_code.specs.declared.Coding.{Coding}
use Rattle.pads_code.specs.CodePage.{byte_of}

-- how many characters of the number's text are its sign
abbrev pub sign_of : ℤ → ℕ
sign_of (pos n) = 0
sign_of (negsuc n) = 1

abbrev pub filled : Coding → ℕ → ℕ → List ℕ → List ℕ
filled coding size sign text =
    (map (byte_of coding) (take sign text) ++ replicate (size - length text) (byte_of coding 48)) ++ map (byte_of coding) (drop sign text)
