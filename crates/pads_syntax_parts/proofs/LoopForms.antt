-- The laws of a loop over a repetition and of one over a list with a token between each two items, as
-- statements about a grammar.
use Rattle.std.proofs.Common.{◌≡◌, ◌<◌, Bool, true, false, Ok, Err, List, [], ◌∷◌, ◌++◌, length, refl}
use Rattle.pads_lex.specs.declared.token.Mark.{Mark}
use Rattle.pads_grammar.specs.declared.kind.Kind.{Kind}
use Rattle.pads_grammar.specs.declared.kind.Kind.TheVariants as kind
use Rattle.pads_grammar.specs.Kinds.{Tokens, is, peek}
use Rattle.pads_grammar.specs.Grammar.{Grammar, many, Outcome, reads, begins, ◌*>◌, mark}
use Rattle.pads_grammar.specs.Lists.{listed}
use Rattle.pads_grammar.specs.Reads.{Reads}
use Rattle.pads_grammar.specs.declared.cursor.Unexpected.{Unexpected}
use Rattle.pads_value.specs.declared.memory.Refusal.{Refusal}
use Rattle.pads_value.specs.declared.memory.Refusal.TheVariants as refusal
use Rattle.pads_grammar.proofs.Loops.{Whole, loop_goes, loop_fails, shorter}
use Rattle.pads_grammar.proofs.ListLoops.{listed_begins, listed_fault, listed_ends}

module _ {A : Type 0} (g : Grammar A) where
  abbrev pub Begins : Type 0
  Begins = (ts : Tokens) → Whole g (reads (many g) ts) [] ts

  abbrev pub Goes : Type 0
  Goes = (whole : Outcome (List A)) (done : List A) (ts rest : Tokens) (a : A) → begins g (peek ts) ≡ true → reads g ts ≡ Ok (a, rest) → Whole g whole done ts → Whole g whole (done ++ a ∷ []) rest

  abbrev pub Ends : Type 0
  Ends = (whole : Outcome (List A)) (done : List A) (ts : Tokens) → begins g (peek ts) ≡ false → Whole g whole done ts → whole ≡ Ok (done, ts)

  abbrev pub Fails : Type 0
  Fails = (whole : Outcome (List A)) (done : List A) (ts rest : Tokens) → begins g (peek ts) ≡ true → reads g ts ≡ Err rest → Whole g whole done ts → whole ≡ Err rest

  -- The same at each refusal of the item's reader, as the code's clause has it.
  abbrev pub Refuses : Type 0
  Refuses = (whole : Outcome (List A)) (done : List A) (ts rest : Tokens) (e : Refusal Unexpected) → begins g (peek ts) ≡ true → Reads (reads g ts) (Err e) rest → Whole g whole done ts → Reads whole (Err e) rest

  pub refuses : Fails → Refuses
  refuses fails whole done ts rest (refusal.Fault unexpected) b h w = fails whole done ts rest b h w
  refuses fails whole done ts rest refusal.Memory b h w = tt

  abbrev pub Shortens : Type 0
  Shortens = (ts rest : Tokens) (a : A) → reads g ts ≡ Ok (a, rest) → length rest < length ts

-- Where an item follows a mark: one more item, which that mark tells of.
module _ {A : Type 0} (separator : Mark) (item : Grammar A) where
  abbrev pub ListBegins : Type 0
  ListBegins = (ts mid : Tokens) (a : A) → reads item ts ≡ Ok (a, mid) → Whole (mark separator *> item) (reads (listed separator item) ts) (a ∷ []) mid

  abbrev pub ListFault : Type 0
  ListFault = (ts rest : Tokens) → reads item ts ≡ Err rest → reads (listed separator item) ts ≡ Err rest

  abbrev pub ListGoes : Type 0
  ListGoes = (whole : Outcome (List A)) (done : List A) (ts rest : Tokens) (a : A) → is (kind.Mark separator) (peek ts) ≡ true → reads (mark separator *> item) ts ≡ Ok (a, rest) → Whole (mark separator *> item) whole done ts → Whole (mark separator *> item) whole (done ++ a ∷ []) rest

  abbrev pub ListEnds : Type 0
  ListEnds = (whole : Outcome (List A)) (done : List A) (ts : Tokens) → is (kind.Mark separator) (peek ts) ≡ false → Whole (mark separator *> item) whole done ts → whole ≡ Ok (done, ts)

  abbrev pub ListFails : Type 0
  ListFails = (whole : Outcome (List A)) (done : List A) (ts rest : Tokens) → is (kind.Mark separator) (peek ts) ≡ true → reads (mark separator *> item) ts ≡ Err rest → Whole (mark separator *> item) whole done ts → whole ≡ Err rest

  abbrev pub ListShortens : Type 0
  ListShortens = (ts rest : Tokens) (a : A) → reads (mark separator *> item) ts ≡ Ok (a, rest) → length rest < length ts

  begins_next : (j : Kind) (b : Bool) → is (kind.Mark separator) j ≡ b → begins (mark separator *> item) j ≡ b
  begins_next j true h = rw h refl
  begins_next j false h = rw h refl

  pub list_begins : ListBegins
  list_begins = listed_begins separator item

  pub list_fault : ListFault
  list_fault = listed_fault separator item

  pub list_goes : ListGoes
  list_goes whole done ts rest a b h w = loop_goes (mark separator *> item) whole done ts a rest refl (begins_next kind.End false refl) (begins_next (peek ts) true b) h w

  pub list_ends : ListEnds
  list_ends = listed_ends separator item

  pub list_fails : ListFails
  list_fails whole done ts rest b h w = loop_fails (mark separator *> item) whole done ts rest (begins_next kind.End false refl) (begins_next (peek ts) true b) h w

  pub list_shortens : ListShortens
  list_shortens ts rest a h = shorter (mark separator *> item) ts a rest refl h
