-- Rows of the cutting, computed: the bytes of an input, and its frames.
use Rattle.std.proofs.Common.{◌≡◌, ℕ, None, Some, List, [], ◌∷◌, ◌++◌, refl}
use Rattle.std.specs.Prelude.{codes, length}
use Rattle.pads_value.specs.declared.frame.Mark.{Mark}
use Rattle.pads_value.specs.declared.frame.Mark.TheVariants.{Plain, Short, Long, Broken}
use Rattle.pads_value.specs.Cuts.{Cut}
use Rattle.pads_frame.specs.declared.discipline.Discipline.TheVariants.{Term, Fixed, Rdw, Whole}
use Rattle.pads_frame.specs.Cutting.{cuts, records, closed}
use Rattle.pads_frame.specs.Framed.{framed}
use Rattle.pads_frame.specs.OnlyFrame.{only}

abbrev frame : ℕ → ℕ → List ℕ → Mark → Cut
frame first end bytes mark = record { first = first; end = end; bytes = bytes; mark = mark }

newline : List ℕ
newline = 10 ∷ []

-- ---- a terminator byte

no_line : records (Term 10) 16 [] ≡ []
unfolding cuts
no_line = refl

-- 3,7 and 300,4
two_lines : records (Term 10) 16 (codes "3,7" ++ newline ++ codes "300,4" ++ newline) ≡ frame 0 3 (codes "3,7") Plain ∷ frame 4 9 (codes "300,4") Plain ∷ []
unfolding cuts newline
two_lines = refl

-- a last line without a newline
last_line : records (Term 10) 16 (codes "3,7" ++ newline ++ codes ",5") ≡ frame 0 3 (codes "3,7") Plain ∷ frame 4 6 (codes ",5") Plain ∷ []
unfolding cuts newline
last_line = refl

-- that isn't closed while the input may go on
last_line_open : closed (Term 10) 16 (codes "3,7" ++ newline ++ codes ",5") ≡ frame 0 3 (codes "3,7") Plain ∷ []
unfolding cuts newline
last_line_open = refl

-- an empty line, and a line longer than the limit
long_line : records (Term 10) 2 (newline ++ codes "123" ++ newline ++ codes "45" ++ newline) ≡ frame 0 0 [] Plain ∷ frame 1 4 [] Long ∷ frame 5 7 (codes "45") Plain ∷ []
unfolding cuts newline
long_line = refl

-- ---- blocks of a fixed length

no_block : records (Fixed 4) 16 [] ≡ []
unfolding cuts
no_block = refl

blocks : records (Fixed 4) 16 (codes "00010002") ≡ frame 0 4 (codes "0001") Plain ∷ frame 4 8 (codes "0002") Plain ∷ []
unfolding cuts
blocks = refl

short_block : records (Fixed 4) 16 (codes "000100") ≡ frame 0 4 (codes "0001") Plain ∷ frame 4 6 (codes "00") Short ∷ []
unfolding cuts
short_block = refl

-- ---- records behind a descriptor word

no_word : records Rdw 16 [] ≡ []
unfolding cuts
no_word = refl

-- a record of three bytes, an empty one, and one longer than the limit
word_records : records Rdw 4 ((0 ∷ 7 ∷ 0 ∷ 0 ∷ []) ++ codes "3,7" ++ (0 ∷ 4 ∷ 0 ∷ 0 ∷ []) ++ (0 ∷ 9 ∷ 0 ∷ 0 ∷ []) ++ codes "300,4") ≡
    frame 4 7 (codes "3,7") Plain ∷ frame 11 11 [] Plain ∷ frame 15 20 [] Long ∷ []
unfolding cuts
word_records = refl

-- a length whose bytes aren't all there, a length below 4, a third byte that isn't zero, and too few bytes for a word
word_announces_more : records Rdw 16 ((0 ∷ 7 ∷ 0 ∷ 0 ∷ []) ++ codes "3,") ≡ frame 0 6 [] Broken ∷ []
unfolding cuts
word_announces_more = refl

word_too_small : records Rdw 16 ((0 ∷ 3 ∷ 0 ∷ 0 ∷ []) ++ codes "3,7") ≡ frame 0 7 [] Broken ∷ []
unfolding cuts
word_too_small = refl

word_not_zero : records Rdw 16 ((0 ∷ 7 ∷ 1 ∷ 0 ∷ []) ++ codes "3,7") ≡ frame 0 7 [] Broken ∷ []
unfolding cuts
word_not_zero = refl

word_cut_off : records Rdw 16 ((0 ∷ 5 ∷ 0 ∷ 0 ∷ []) ++ codes "1" ++ (0 ∷ 7 ∷ [])) ≡ frame 4 5 (codes "1") Plain ∷ frame 5 7 [] Broken ∷ []
unfolding cuts
word_cut_off = refl

-- the digits 0007 are a word whose last bytes aren't zero
digits_are_no_word : records Rdw 16 (codes "0007") ≡ frame 0 4 [] Broken ∷ []
unfolding cuts
digits_are_no_word = refl

-- ---- the whole input

no_input : records Whole 16 [] ≡ []
unfolding cuts
no_input = refl

whole_input : records Whole 5 (codes "300,4") ≡ frame 0 5 (codes "300,4") Plain ∷ []
unfolding cuts
whole_input = refl

whole_too_long : records Whole 4 (codes "300,4") ≡ frame 0 5 [] Long ∷ []
unfolding cuts
whole_too_long = refl

-- ---- the one frame of an input

-- with its newline, and without; the empty line of a newline alone
one_line : only (records (Term 10) 16 (codes "3,7" ++ newline)) ≡ Some (frame 0 3 (codes "3,7") Plain)
unfolding cuts newline
one_line = refl

one_open_line : only (records (Term 10) 16 (codes "3,7")) ≡ Some (frame 0 3 (codes "3,7") Plain)
unfolding cuts newline
one_open_line = refl

one_empty_line : only (records (Term 10) 16 newline) ≡ Some (frame 0 0 [] Plain)
unfolding cuts newline
one_empty_line = refl

-- a second record, and none
not_one_line : only (records (Term 10) 16 (codes "3,7" ++ newline ++ codes "1")) ≡ None
unfolding cuts newline
not_one_line = refl

not_any_line : only (records (Term 10) 16 []) ≡ None
unfolding cuts
not_any_line = refl

-- ---- a record as an input of its own

a_line : framed (Term 10) (codes "3,7") ≡ Some (codes "3,7" ++ newline)
unfolding newline
a_line = refl

a_block : framed (Fixed 4) (codes "0001") ≡ Some (codes "0001")
a_block = refl

a_whole : framed Whole (codes "3,7") ≡ Some (codes "3,7")
a_whole = refl

-- 61 0A 62 63 behind the length 0008
behind_a_word : framed Rdw (97 ∷ 10 ∷ 98 ∷ 99 ∷ []) ≡ Some (0 ∷ 8 ∷ 0 ∷ 0 ∷ 97 ∷ 10 ∷ 98 ∷ 99 ∷ [])
behind_a_word = refl

-- the longest record behind a word, and one byte more
longest_behind_word : (bytes : List ℕ) → length bytes ≡ 65531 → framed Rdw bytes ≡ Some (255 ∷ 255 ∷ 0 ∷ 0 ∷ bytes)
longest_behind_word bytes is = rw is refl

too_long_for_a_word : (bytes : List ℕ) → length bytes ≡ 65532 → framed Rdw bytes ≡ None
too_long_for_a_word bytes is = rw is refl
