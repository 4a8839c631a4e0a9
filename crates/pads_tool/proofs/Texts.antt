-- From a text that was read to the content of its file.
use Rattle.std.proofs.Common.{◌∙◌, ◌+◌, ◌≡◌, ◌≤◌, ap, length, length-append, ℕ, List, Option, None, Some, IfSome, subst, arith}
use Rattle.std.specs.Io.KnownBytes.{Consumes}
use Rattle.pads_tool.specs.Texts.{IsTextIn}

pub if-known : {A : Type 0} (P Q : A → Type 0) (o : Option A) → ((x : A) → P x → Q x) → IfSome o P → IfSome o Q
if-known P Q None f h = tt
if-known P Q (Some x) f h = f x h

pub if-both : {A : Type 0} (P Q R : A → Type 0) (o : Option A) → ((x : A) → P x → Q x → R x) → IfSome o P → IfSome o Q → IfSome o R
if-both P Q R None f h k = tt
if-both P Q R (Some x) f h k = f x h k

-- what is said of the text is true of the file
pub of-text : (P : List ℕ → Type 0) (content : Option (List ℕ)) (text : List ℕ) → IsTextIn content text → P text → IfSome content P
of-text P None text same p = tt
of-text P (Some bytes) text same p = subst P same p

-- What was read is no longer than the whole.
pub within : (input : List ℕ) (left' : Option (List ℕ)) (bytes : List ℕ) → Consumes (Some input) left' bytes → length bytes ≤ length input
within input None bytes c = absurd c
within input (Some xs) bytes c = let whole : length input ≡ length bytes + length xs = ap length c ∙ length-append bytes xs in omega (arith, whole)
