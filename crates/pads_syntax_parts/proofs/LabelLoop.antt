-- The laws of the loop over labels.
use Rattle.std.proofs.Common.{◌≡◌, ℕ, ◌<◌, Bool, true, false, Ok, Err, List, [], ◌∷◌, ◌++◌, length, refl}
use Rattle.pads_grammar.specs.declared.kind.Kind.{Kind}
use Rattle.pads_lex.specs.declared.token.Mark.TheVariants.{Comma}
use Rattle.pads_grammar.specs.declared.kind.Kind.TheVariants as kind
use Rattle.pads_grammar.specs.Kinds.{Tokens, is, peek}
use Rattle.pads_grammar.specs.Grammar.{rest_of, Outcome, then_read, read_token, reads, nullable, begins}
use Rattle.pads_grammar.proofs.RestLoops.{RestWhole, rest_goes, rest_ends, rest_ends_behind, rest_fails}
use Rattle.pads_grammar.proofs.ListLoops.{listed_shorter}
use Rattle.pads_grammar.specs.Reads.{Reads}
use Rattle.pads_grammar.specs.declared.cursor.Unexpected.{Unexpected}
use Rattle.pads_value.specs.declared.memory.Refusal.{Refusal}
use Rattle.pads_value.specs.declared.memory.Refusal.TheVariants as refusal
use Rattle.pads_ast.specs.declared.decl.Label.{Label}
use Rattle.pads_syntax_parts.specs.Parts.{label, labels}

label_solid : nullable label ≡ false
unfolding label
label_solid = refl

label_begins : (j : Kind) (b : Bool) → is kind.Name j ≡ b → begins label j ≡ b
unfolding label
label_begins j true h = rw h refl
label_begins j false h = rw h refl

pub labels_begin : (ts mid : Tokens) (l : Label) → reads label ts ≡ Ok (l, mid) → RestWhole (kind.Mark Comma) label (reads labels ts) (l ∷ []) mid
unfolding labels
labels_begin ts mid l e = rw e (go (reads (rest_of (kind.Mark Comma) label) mid))
  where
    go : (r : Outcome (List Label)) → then_read {A = Label × List Label} {B = List Label} (then_read {A = List Label} {B = Label × List Label} r (λ b rest. Ok ((l, b), rest))) (λ p rest. Ok (p.0 ∷ p.1, rest)) ≡ then_read r (λ more rest. Ok ((l ∷ []) ++ more, rest))
    go (Ok read) = refl
    go (Err rest) = refl

pub labels_fault : (ts rest : Tokens) → reads label ts ≡ Err rest → reads labels ts ≡ Err rest
unfolding labels
labels_fault ts rest e = rw e refl

pub labels_go : (whole : Outcome (List Label)) (done : List Label) (ts us : Tokens) (at : ℕ) (l : Label) (mid : Tokens) → is (kind.Mark Comma) (peek ts) ≡ true → read_token (kind.Mark Comma) (λ t. t.begin) ts ≡ Ok (at, us) → is kind.Name (peek us) ≡ true → reads label us ≡ Ok (l, mid) → RestWhole (kind.Mark Comma) label whole done ts → RestWhole (kind.Mark Comma) label whole (done ++ l ∷ []) mid
labels_go whole done ts us at l mid h m b e w = rest_goes (kind.Mark Comma) label label_solid refl whole done ts us at l mid h m (label_begins (peek us) true b) e w

pub labels_end : (whole : Outcome (List Label)) (done : List Label) (ts : Tokens) → is (kind.Mark Comma) (peek ts) ≡ false → RestWhole (kind.Mark Comma) label whole done ts → whole ≡ Ok (done, ts)
labels_end whole done ts h w = rest_ends (kind.Mark Comma) label label_solid refl whole done ts h w

pub labels_end_behind : (whole : Outcome (List Label)) (done : List Label) (ts us : Tokens) (at : ℕ) → is (kind.Mark Comma) (peek ts) ≡ true → read_token (kind.Mark Comma) (λ t. t.begin) ts ≡ Ok (at, us) → is kind.Name (peek us) ≡ false → RestWhole (kind.Mark Comma) label whole done ts → whole ≡ Ok (done, us)
labels_end_behind whole done ts us at h m b w = rest_ends_behind (kind.Mark Comma) label label_solid refl whole done ts us at h m (label_begins (peek us) false b) w

pub labels_fail : (whole : Outcome (List Label)) (done : List Label) (ts us rest : Tokens) (at : ℕ) → is (kind.Mark Comma) (peek ts) ≡ true → read_token (kind.Mark Comma) (λ t. t.begin) ts ≡ Ok (at, us) → is kind.Name (peek us) ≡ true → reads label us ≡ Err rest → RestWhole (kind.Mark Comma) label whole done ts → whole ≡ Err rest
labels_fail whole done ts us rest at h m b e w = rest_fails (kind.Mark Comma) label label_solid refl whole done ts us rest at h m (label_begins (peek us) true b) e w

pub labels_refuse : (whole : Outcome (List Label)) (done : List Label) (ts us rest : Tokens) (at : ℕ) (e : Refusal Unexpected) → is (kind.Mark Comma) (peek ts) ≡ true → read_token (kind.Mark Comma) (λ t. t.begin) ts ≡ Ok (at, us) → is kind.Name (peek us) ≡ true → Reads (reads label us) (Err e) rest → RestWhole (kind.Mark Comma) label whole done ts → Reads whole (Err e) rest
labels_refuse whole done ts us rest at (refusal.Fault unexpected) h m b e w = labels_fail whole done ts us rest at h m b e w
labels_refuse whole done ts us rest at refusal.Memory h m b e w = tt

pub labels_shorten : (ts mid rest : Tokens) (at : ℕ) (l : Label) → read_token (kind.Mark Comma) (λ t. t.begin) ts ≡ Ok (at, mid) → reads label mid ≡ Ok (l, rest) → length rest < length ts
labels_shorten = listed_shorter Comma label

pub ruleset label_loop = (labels_begin, labels_fault, labels_end, labels_end_behind, labels_fail)
