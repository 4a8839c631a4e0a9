-- What holds of each word of a table holds of each word that is found there.
use Rattle.std.proofs.Common.{◌≡◌, ℕ, Bool, true, false, cond, List, [], ◌∷◌, length, Option, Some, None, ◌⊎◌, inl, inr, refl, ap, ◌∙◌}
use Rattle.std.specs.Prelude.{◌==◌, ◌&&◌, not}
use Rattle.std.specs.List.{list_all}
use Rattle.std.specs.Option.{option_or}
use Rattle.std.proofs.lemmas.Bool.{and_parts, eqb-true}
use Rattle.std.proofs.lemmas.Slice.Eq.{bytes_eq-Decides}
use Rattle.pads_lex.specs.Bytes.{is_blank, is_letter, is_digit}
use Rattle.pads_lex.specs.Words.{double_marks, single_marks}
use Rattle.pads_value.specs.Words.{is_word, find_word}
use Rattle.pads_lex.specs.Spelling.{mark_of}
use Rattle.pads_lex.specs.declared.token.Mark.{Mark}
use Rattle.pads_lex.proofs.ByteLemmas.{is_quote}

same_text : (word text : List ℕ) → is_word word text ≡ true → word ≡ text
unfolding is_word
same_text word text is = (bytes_eq-Decides word text).0 is

pub found_passes : {A : Type 0} (test : List ℕ → Bool) (table : List (List ℕ × A)) (word : List ℕ) (found : A) → list_all (λ e. test e.0) table ≡ true → find_word word table ≡ Some found → test word ≡ true
found_passes test [] word found all is = cc
found_passes test ((text, entry) ∷ table) word found all is =
    let parts = and_parts (test text) (list_all (λ e. test e.0) table) all in
    go (is_word word text) refl parts.0 (λ h. found_passes test table word found parts.1 h) is
  where
    go : (t : Bool) → is_word word text ≡ t → test text ≡ true → (find_word word table ≡ Some found → test word ≡ true) → cond t (Some entry) (find_word word table) ≡ Some found → test word ≡ true
    go true same here more is = ap test (same_text word text same) ∙ here
    go false same here more is = more is

-- a byte that no name, number, literal or blank begins with
abbrev pub begins_mark : ℕ → Bool
begins_mark b = not (is_blank b) && (not (is_letter b) && (not (is_digit b) && not (is_quote b)))

abbrev pub front_begins : List ℕ → Bool
front_begins [] = false
front_begins (b ∷ w) = begins_mark b

abbrev pub has_length : ℕ → List ℕ → Bool
has_length n word = length word == n

doubles_begin : list_all (λ e. front_begins e.0) double_marks ≡ true
unfolding is_blank is_letter is_digit
doubles_begin = refl

singles_begin : list_all (λ e. front_begins e.0) single_marks ≡ true
unfolding is_blank is_letter is_digit
singles_begin = refl

doubles_length : list_all (λ e. has_length 2 e.0) double_marks ≡ true
doubles_length = refl

singles_length : list_all (λ e. has_length 1 e.0) single_marks ≡ true
singles_length = refl

pub either_found : {A : Type 0} (a b : Option A) (found : A) → option_or a b ≡ Some found → (a ≡ Some found) ⊎ ((a ≡ None) × (b ≡ Some found))
either_found (Some x) b found e = inl e
either_found None b found e = inr (refl, e)

pub mark_begins : (word : List ℕ) (found : Mark) → mark_of word ≡ Some found → front_begins word ≡ true
mark_begins word found e = go (either_found _ _ found e)
  where
    go : ((find_word word double_marks ≡ Some found) ⊎ ((find_word word double_marks ≡ None) × (find_word word single_marks ≡ Some found))) → front_begins word ≡ true
    go (inl h) = found_passes front_begins double_marks word found doubles_begin h
    go (inr h) = found_passes front_begins single_marks word found singles_begin h.1

pub double_length : (word : List ℕ) (found : Mark) → find_word word double_marks ≡ Some found → length word ≡ 2
double_length word found e = eqb-true _ _ (found_passes (has_length 2) double_marks word found doubles_length e)

pub single_length : (word : List ℕ) (found : Mark) → find_word word single_marks ≡ Some found → length word ≡ 1
single_length word found e = eqb-true _ _ (found_passes (has_length 1) single_marks word found singles_length e)
