-- The constants that were met, as a set of them has them.
use Rattle.std.proofs.Common.{◌≡◌, ◌∙◌, sym, ap, refl, ℕ, ◌+◌, ◌<◌, ℤ, Bool, true, false, ◌||◌, if◌then◌else◌, List, [], ◌∷◌, ◌++◌, length, take, get_or}
use Rattle.std.specs.List.{list_any}
use Rattle.std.specs.Ordering.{int_eq}
use Rattle.std.proofs.lemmas.List.Folds.{list_any-append}
use Rattle.std.proofs.lemmas.Bool.Decides.{Decides-int_eq}
use Rattle.std.proofs.Math.Bool.{or-false}
use Rattle.indexmap.specs.IndexSet.{insert_key}
use Rattle.pads_ast.specs.declared.decl.Case.{Case}
use Rattle.pads_ast.specs.declared.types.Const.{Const}
use Rattle.pads_ast.specs.declared.types.Const.TheVariants as const
use Rattle.pads_ast.specs.declared.name.Word.{Word}
use Rattle.pads_rules.specs.PieceRules.{signed, same_const}
use Rattle.pads_rules.specs.DifferentNames.{with_name}
use Rattle.pads_rules.specs.Texts.{is_among}
use Rattle.pads_ast.specs.Trees.{points_of}
use Rattle.pads_piece_rules.specs.declared.const_set.ConstSet.{ConstSet}
use Rattle.pads_piece_rules.specs.ConstSets.{has_const, AddsConst}
use Rattle.pads_piece_rules.proofs.MetNames.{with-name}
use Rattle.pads_declared.proofs.Lists.{taken}

known : (keys : List ℤ) (key k : ℤ) (s : Bool) → list_any (int_eq key) keys ≡ true → int_eq k key ≡ s → list_any (int_eq k) keys ≡ (list_any (int_eq k) keys || s)
known keys key k false there same = sym (or-false (list_any (int_eq k) keys))
known keys key k true there same =
    let e = ap (λ n. list_any (int_eq n) keys) ((Decides-int_eq k key).0 same) ∙ there in e ∙ sym (ap (λ b. b || true) e)

with-by : (keys : List ℤ) (key k : ℤ) (b : Bool) → list_any (int_eq key) keys ≡ b → list_any (int_eq k) (if b then keys else keys ++ key ∷ []) ≡ (list_any (int_eq k) keys || int_eq k key)
with-by keys key k true there = known keys key k (int_eq k key) there refl
with-by keys key k false there = list_any-append (int_eq k) keys (key ∷ []) ∙ ap (λ b. list_any (int_eq k) keys || b) (or-false (int_eq k key))

pub number-added : (old new : ConstSet) (negative : Bool) (value at : ℕ) (key : ℤ) → key ≡ signed negative value → new.numbers.keys ≡ insert_key int_eq old.numbers.keys key → new.words ≡ old.words
    → AddsConst old (const.Number negative value at) new
number-added old new negative value at key number added words (const.Number n v a) =
    ap (list_any (int_eq (signed n v))) (added ∙ ap (insert_key int_eq old.numbers.keys) number)
    ∙ with-by old.numbers.keys (signed negative value) (signed n v) (list_any (int_eq (signed negative value)) old.numbers.keys) refl
number-added old new negative value at key number added words (const.Word w) =
    ap (λ ws. is_among ws (points_of w)) words ∙ sym (or-false (is_among old.words (points_of w)))

pub word-added : (old new : ConstSet) (word : Word) → new.words ≡ with_name old.words (points_of word) → new.numbers.keys ≡ old.numbers.keys → AddsConst old (const.Word word) new
word-added old new word added numbers (const.Number n v a) =
    ap (list_any (int_eq (signed n v))) numbers ∙ sym (or-false (list_any (int_eq (signed n v)) old.numbers.keys))
word-added old new word added numbers (const.Word w) =
    ap (λ ws. is_among ws (points_of w)) added ∙ with-name old.words (points_of word) (points_of w)

-- A set has the constants of some cases, and no others.
abbrev pub HasKeys : ConstSet → List Case → Type 0
HasKeys set cases = (key : Const) → has_const set key ≡ list_any (λ (case : Case). same_const key case.key) cases

pub keys-more : (set new : ConstSet) (cases : List Case) (i : ℕ) (x : Case) → i < length cases → x ≡ get_or cases i x → AddsConst set x.key new
    → HasKeys set (take i cases) → HasKeys new (take (i + 1) cases)
keys-more set new cases i x there is added has key =
    let p = λ (case : Case). same_const key case.key in
    added key ∙ ap (λ b. b || p x) (has key)
    ∙ sym (ap (list_any p) (taken cases i x there is) ∙ list_any-append p (take i cases) (x ∷ []) ∙ ap (λ b. list_any p (take i cases) || b) (or-false (p x)))
