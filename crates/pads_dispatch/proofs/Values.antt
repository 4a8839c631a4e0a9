-- The number, text or label that a value is, and that only such a value is.
use Rattle.std.proofs.Common.{◌≡◌, ◌∙◌, ℕ, ℤ, List, Some, None, ap, sym}
use Rattle.pads_value.specs.declared.value.Val.{Val, Val-F, out-Val, roll-Val, out-roll-Val, roll-out-Val}
use Rattle.pads_value.specs.declared.value.Val.TheVariants as val
use Rattle.pads_dispatch.specs.Spellings.{number_in, text_in, label_in, number_of, text_of, label_of}

out-Num : (n : ℤ) → out-Val (val.Num n) ≡ Val-F.Num n
out-Num n = ap out-Val (sym (val.rolls-Num n)) ∙ out-roll-Val (Val-F.Num n)

out-Text : (text : (List ℕ)) → out-Val (val.Text text) ≡ Val-F.Text text
out-Text text = ap out-Val (sym (val.rolls-Text text)) ∙ out-roll-Val (Val-F.Text text)

out-Enum : (n : ℕ) → out-Val (val.Enum n) ≡ Val-F.Enum n
out-Enum n = ap out-Val (sym (val.rolls-Enum n)) ∙ out-roll-Val (Val-F.Enum n)

pub number_of-Num : (n : ℤ) → number_of (val.Num n) ≡ Some n
unfolding number_of
number_of-Num n = ap number_in (out-Num n)

pub number_of-Text : (text : (List ℕ)) → number_of (val.Text text) ≡ None
unfolding number_of
number_of-Text text = ap number_in (out-Text text)

pub number_of-Enum : (n : ℕ) → number_of (val.Enum n) ≡ None
unfolding number_of
number_of-Enum n = ap number_in (out-Enum n)

pub text_of-Num : (n : ℤ) → text_of (val.Num n) ≡ None
unfolding text_of
text_of-Num n = ap text_in (out-Num n)

pub text_of-Text : (text : (List ℕ)) → text_of (val.Text text) ≡ Some text
unfolding text_of
text_of-Text text = ap text_in (out-Text text)

pub text_of-Enum : (n : ℕ) → text_of (val.Enum n) ≡ None
unfolding text_of
text_of-Enum n = ap text_in (out-Enum n)

pub label_of-Num : (n : ℤ) → label_of (val.Num n) ≡ None
unfolding label_of
label_of-Num n = ap label_in (out-Num n)

pub label_of-Text : (text : (List ℕ)) → label_of (val.Text text) ≡ None
unfolding label_of
label_of-Text text = ap label_in (out-Text text)

pub label_of-Enum : (n : ℕ) → label_of (val.Enum n) ≡ Some n
unfolding label_of
label_of-Enum n = ap label_in (out-Enum n)

in-Num : (layer : Val-F Val) (n : ℤ) → number_in layer ≡ Some n → layer ≡ Val-F.Num n
in-Num Val-F.Unit n e = cc
in-Num Val-F.Missing n e = cc
in-Num (Val-F.Num other) n e = cc
in-Num (Val-F.Text other) n e = cc
in-Num (Val-F.Enum other) n e = cc
in-Num (Val-F.Tuple parts) n e = cc
in-Num (Val-F.Branch number inner) n e = cc
in-Num (Val-F.Array elements) n e = cc

-- a value with such a content is made of it
pub is-Num : (v : Val) (n : ℤ) → number_of v ≡ Some n → v ≡ val.Num n
unfolding number_of
is-Num v n e = sym (roll-out-Val v) ∙ ap roll-Val (in-Num (out-Val v) n e) ∙ val.rolls-Num n

in-Text : (layer : Val-F Val) (text : (List ℕ)) → text_in layer ≡ Some text → layer ≡ Val-F.Text text
in-Text Val-F.Unit text e = cc
in-Text Val-F.Missing text e = cc
in-Text (Val-F.Num other) text e = cc
in-Text (Val-F.Text other) text e = cc
in-Text (Val-F.Enum other) text e = cc
in-Text (Val-F.Tuple parts) text e = cc
in-Text (Val-F.Branch number inner) text e = cc
in-Text (Val-F.Array elements) text e = cc

-- a value with such a content is made of it
pub is-Text : (v : Val) (text : (List ℕ)) → text_of v ≡ Some text → v ≡ val.Text text
unfolding text_of
is-Text v text e = sym (roll-out-Val v) ∙ ap roll-Val (in-Text (out-Val v) text e) ∙ val.rolls-Text text

in-Enum : (layer : Val-F Val) (n : ℕ) → label_in layer ≡ Some n → layer ≡ Val-F.Enum n
in-Enum Val-F.Unit n e = cc
in-Enum Val-F.Missing n e = cc
in-Enum (Val-F.Num other) n e = cc
in-Enum (Val-F.Text other) n e = cc
in-Enum (Val-F.Enum other) n e = cc
in-Enum (Val-F.Tuple parts) n e = cc
in-Enum (Val-F.Branch number inner) n e = cc
in-Enum (Val-F.Array elements) n e = cc

-- a value with such a content is made of it
pub is-Enum : (v : Val) (n : ℕ) → label_of v ≡ Some n → v ≡ val.Enum n
unfolding label_of
is-Enum v n e = sym (roll-out-Val v) ∙ ap roll-Val (in-Enum (out-Val v) n e) ∙ val.rolls-Enum n

pub ruleset numbers = (number_of-Num, text_of-Num, label_of-Num)

pub ruleset texts = (number_of-Text, text_of-Text, label_of-Text)

pub ruleset labels = (number_of-Enum, text_of-Enum, label_of-Enum)
