-- What holds of readings and spellings of numbers, texts or labels holds of them as values.
use Rattle.std.proofs.Common.{◌≡◌, ◌∙◌, ℕ, ◌≤◌, List, length, Option, Some, None, refl, sym, ap}
use Rattle.std.specs.Option.{IsSomeAnd, option_and_then}
use Rattle.pads_value.specs.declared.value.Val.{Val}
use Rattle.pads_value.specs.declared.reading.Read.{Read}
use Rattle.pads_value.specs.declared.reading.Read.TheVariants.{Good, Soft, Hard}
use Rattle.pads_dispatch.specs.Readings.{as_value}
use Rattle.pads_dispatch.specs.Texts.{Spelled}

module _ {X : Type 0} (value : X → Val) where
  record Content (r : Read X) (n : ℕ) (v : Val) : Type 0 where
    content : X
    reads : r ≡ Good n content
    is : v ≡ value content

  content_of : (r : Read X) (n : ℕ) (v : Val) → as_value value r ≡ Good n v → Content r n v
  content_of (Good m x) n v e = record { content = x; reads = cc; is = cc }
  content_of (Soft m c) n v e = absurd cc
  content_of (Hard c) n v e = absurd cc

  pub lift_within : (r : Read X) (n : ℕ) (v : Val) (P : Type 0) → ((x : X) → r ≡ Good n x → P) → as_value value r ≡ Good n v → P
  lift_within r n v P h e = let found = content_of r n v e in h found.content found.reads

  pub lift_spelled : (Spells : X → List ℕ → Type 0) (r : Read X) (n : ℕ) (v : Val) (bytes : List ℕ)
      → ((x : X) → r ≡ Good n x → Spells x bytes) → as_value value r ≡ Good n v → Spelled value Spells v bytes
  lift_spelled Spells r n v bytes h e =
      let found = content_of r n v e in
      record { content = found.content; is = found.is; spelled = h found.content found.reads }

  pub lift_reads_back : (Spells : X → List ℕ → Type 0) (r : Read X) (n : ℕ) (v : Val) (bytes : List ℕ)
      → ((x : X) → Spells x bytes → r ≡ Good n x) → Spelled value Spells v bytes → as_value value r ≡ Good n v
  lift_reads_back Spells r n v bytes h spelled =
      ap (as_value value) (h spelled.content spelled.spelled) ∙ ap (Good n) (sym spelled.is)

  pub lift_canonical : (of : Val → Option X) (spelling : X → Option (List ℕ)) → ((x : X) → of (value x) ≡ Some x) → (r : Read X) (n : ℕ) (v : Val)
      → ((x : X) → r ≡ Good n x → IsSomeAnd (spelling x) (λ s. length s ≤ n)) → as_value value r ≡ Good n v → IsSomeAnd (option_and_then spelling (of v)) (λ s. length s ≤ n)
  lift_canonical of spelling of_is r n v h e =
      let found = content_of r n v e in
      rw (found.is, of_is found.content) (h found.content found.reads)

  pub lift_canonical_reads_back : (of : Val → Option X) (spelling : X → Option (List ℕ)) → ((v : Val) (x : X) → of v ≡ Some x → v ≡ value x) → (r : Read X) (n : ℕ) (v : Val) (s : List ℕ)
      → ((x : X) → v ≡ value x → spelling x ≡ Some s → r ≡ Good n x) → option_and_then spelling (of v) ≡ Some s → as_value value r ≡ Good n v
  lift_canonical_reads_back of spelling is_of r n v s h e = by_content (of v) refl e
    where
      by_content : (found : Option X) → of v ≡ found → option_and_then spelling found ≡ Some s → as_value value r ≡ Good n v
      by_content None is given = absurd cc
      by_content (Some x) is given = ap (as_value value) (h x (is_of v x is) given) ∙ ap (Good n) (sym (is_of v x is))
