-- Lines piece by piece.
use Rattle.std.proofs.Common.{◌≡◌, ◌∙◌, sym, ap, ap₂, refl, ℕ, ◌<◌, ◌≤◌, false, List, [], ◌∷◌, ◌++◌, length, drop, get_or, Option, None, Some, arith, codes, decimal, length-append}
use Rattle.std.specs.Prelude.{IfNone, IfSome}
use Rattle.std.proofs.lemmas.List.{append-nil, append_assoc}
use Rattle.serde_json.specs.Data.{Data, number, unsigned, string, array, object, member, no_members}
use Rattle.serde_json.specs.View.{items_of}
use Rattle.serde_json.specs.Written.{compact_text, items_text}
use Rattle.pads_value.specs.declared.cause.Cause.{Cause}
use Rattle.pads_value.specs.declared.descriptor.Class.{Class}
use Rattle.pads_value.specs.declared.descriptor.Class.TheVariants as class
use Rattle.pads_value.specs.declared.descriptor.Pd.{Pd, out-Pd}
use Rattle.pads_value.specs.declared.descriptor.Span.{Span}
use Rattle.pads_value.specs.declared.row.Row.{Row}
use Rattle.pads_calc.specs.declared.decl.Decl.{Decl}
use Rattle.pads_calc.specs.declared.term.Term.{Term}
use Rattle.json.specs.Print.{escape, escape_byte}
use Rattle.pads_json.specs.Faults.{span_shown, listed, fault, own_fault, fault_head, fault_tail}
use Rattle.pads_calc.specs.Rows.{deepest}
use Rattle.pads_json.specs.Lines.{class_name, row_data, row_faults, row_text, head_text, counts_text, later_key}
use Rattle.pads_json.specs.NodeLines.{node_data, node_head}
use Rattle.pads_json.specs.Values.{shown}

pub listed_append : (ds es : List Data) → listed (ds ++ es) ≡ listed ds ++ listed es
listed_append [] es = refl
listed_append (d ∷ ds) es = ap (λ rest. (compact_text d ++ 44 ∷ []) ++ rest) (listed_append ds es) ∙ sym (append_assoc (compact_text d ++ 44 ∷ []) (listed ds) (listed es))

-- the text of one fault
pub fault_written : (place : List ℕ) (cause : Cause) (span : Span) → listed (fault place cause span ∷ []) ≡ fault_head ++ (escape place ++ fault_tail cause span)
unfolding escape_byte
fault_written place cause span = search (append_assoc, append-nil)

pub own_told : (place old head placed new : List ℕ) (cause : Cause) (span : Span)
    → head ≡ old ++ fault_head → placed ≡ head ++ escape place → new ≡ placed ++ fault_tail cause span
    → new ≡ old ++ listed (own_fault place (Some cause) span)
own_told place old head placed new cause span h p n = rw (fault_written place cause span, n, p, h) (append_assoc (old ++ fault_head) (escape place) (fault_tail cause span) ∙ append_assoc old fault_head (escape place ++ fault_tail cause span))

pub own_at_point : (old head placed new : List ℕ) (cause : Cause) (span : Span)
    → head ≡ old ++ fault_head → placed ≡ head ++ escape (codes ".") → new ≡ placed ++ fault_tail cause span
    → new ≡ old ++ listed (own_fault (codes ".") (Some cause) span)
own_at_point old head placed new cause span h p n = own_told (codes ".") old head placed new cause span h p n

-- ---- the array of faults

-- with commas between them
joined : Data → List Data → List ℕ
joined d [] = compact_text d
joined d (e ∷ es) = compact_text d ++ (44 ∷ joined e es)

listed-joined : (d : Data) (ds : List Data) → listed (d ∷ ds) ≡ joined d ds ++ 44 ∷ []
unfolding joined
listed-joined d [] = append-nil (compact_text d ++ 44 ∷ [])
listed-joined d (e ∷ es) =
    append_assoc (compact_text d) (44 ∷ []) (listed (e ∷ es))
    ∙ ap (λ rest. compact_text d ++ 44 ∷ rest) (listed-joined e es)
    ∙ sym (append_assoc (compact_text d) (44 ∷ joined e es) (44 ∷ []))

items-joined : (d : Data) (ds : List Data) → items_text false (items_of (d ∷ ds)) ≡ joined d ds ++ 93 ∷ []
unfolding joined
items-joined d [] = refl
items-joined d (e ∷ es) = ap (λ rest. compact_text d ++ 44 ∷ rest) (items-joined e es) ∙ sym (append_assoc (compact_text d) (44 ∷ joined e es) (93 ∷ []))

init-same : (a b : List ℕ) (x y : ℕ) → a ++ x ∷ [] ≡ b ++ y ∷ [] → a ≡ b
init-same [] [] x y e = refl
init-same [] (z ∷ b) x y e = absurd (omega (arith, ap length e, length-append b (y ∷ [])))
init-same (z ∷ a) [] x y e = absurd (omega (arith, ap length e, length-append a (x ∷ [])))
init-same (z ∷ a) (w ∷ b) x y e = ap₂ (λ (first : ℕ) (rest : List ℕ). first ∷ rest) (ap (λ (l : List ℕ). get_or l 0 0) e) (init-same a b x y (ap (λ (l : List ℕ). drop 1 l) e))

-- what is left of a list that isn't empty
pub popped : (r : Option ℕ) (old new : List ℕ) → IfSome r (λ item. old ≡ new ++ item ∷ []) → IfNone r (old ≡ []) → 0 < length old → (last : ℕ) × (old ≡ new ++ last ∷ [])
popped None old new some none more = absurd (omega (arith, more, ap length none))
popped (Some last) old new some none more = (last, some)

-- the last comma makes way for the bracket
pub some_closed : (front : List ℕ) (ds : List Data) (shorter : List ℕ) (last : ℕ) → front ++ listed ds ≡ shorter ++ last ∷ [] → length front < length (front ++ listed ds)
    → shorter ++ 93 ∷ [] ≡ front ++ items_text false (items_of ds)
some_closed front [] shorter last e h = absurd (omega (arith, h, length-append front []))
some_closed front (d ∷ ds) shorter last e h =
    let cut : front ++ joined d ds ≡ shorter =
    init-same (front ++ joined d ds) shorter 44 last
    (append_assoc front (joined d ds) (44 ∷ []) ∙ ap (λ rest. front ++ rest) (sym (listed-joined d ds)) ∙ e) in
    ap (λ text. text ++ 93 ∷ []) (sym cut) ∙ append_assoc front (joined d ds) (93 ∷ []) ∙ ap (λ rest. front ++ rest) (sym (items-joined d ds))

pub none_closed : (front : List ℕ) (ds : List Data) → length (front ++ listed ds) ≤ length front → (front ++ listed ds) ++ 93 ∷ [] ≡ front ++ items_text false (items_of ds)
none_closed front [] h = append_assoc front [] (93 ∷ [])
none_closed front (d ∷ ds) h =
    absurd (omega (arith, h, length-append front (listed (d ∷ ds)), length-append (compact_text d ++ 44 ∷ []) (listed ds), length-append (compact_text d) (44 ∷ [])))

-- ---- the line

object-written : (class : Class) (faults span value : Data) (nerr next record_number : ℕ)
    → (123 ∷ 34 ∷ (codes "class" ++ 34 ∷ 58 ∷ 34 ∷ (class_name class ++ 34 ∷ (later_key (codes "faults") ++ compact_text faults))))
    ++ ((later_key (codes "nerr") ++ (decimal nerr ++ (later_key (codes "next") ++ (decimal next ++ (later_key (codes "record") ++ (decimal record_number ++ (later_key (codes "span") ++ compact_text span)))))))
    ++ (later_key (codes "value") ++ (compact_text value ++ 125 ∷ [])))
    ≡ compact_text (object (member (codes "class") (string (class_name class)) (member (codes "faults") faults (member (codes "nerr") (number (unsigned nerr))
    (member (codes "next") (number (unsigned next)) (member (codes "record") (number (unsigned record_number)) (member (codes "span") span (member (codes "value") value no_members))))))))
unfolding escape_byte
object-written class.Ok faults span value nerr next record_number = simp append_assoc refl
object-written class.Err faults span value nerr next record_number = simp append_assoc refl
object-written class.Fail faults span value nerr next record_number = simp append_assoc refl

text-written : (decls : List Decl) (names : List (List ℕ)) (body : Term) (row : Row) → row_text decls names body row ≡ compact_text (row_data decls names body row)
text-written decls names body row =
    object-written (out-Pd row.pd).class (array (items_of (row_faults decls names body row.value row.pd))) (span_shown (out-Pd row.pd).span) (shown decls names row.value deepest body)
    (out-Pd row.pd).nerr row.next row.number

-- one piece after another
pub row_written : (decls : List Decl) (names : List (List ℕ)) (body : Term) (row : Row) (old head counts key value : List ℕ)
    → head ≡ old ++ head_text (out-Pd row.pd).class (row_faults decls names body row.value row.pd)
    → counts ≡ head ++ counts_text row
    → key ≡ counts ++ later_key (codes "value")
    → value ≡ key ++ compact_text (shown decls names row.value deepest body)
    → value ++ 125 ∷ [] ≡ old ++ compact_text (row_data decls names body row)
row_written decls names body row old head counts key value h c k v =
    let shown-text = compact_text (shown decls names row.value deepest body) in
    let text = head_text (out-Pd row.pd).class (row_faults decls names body row.value row.pd) in
    rw (v, k, c, h) (
    append_assoc (((old ++ text) ++ counts_text row) ++ later_key (codes "value")) shown-text (125 ∷ [])
    ∙ append_assoc ((old ++ text) ++ counts_text row) (later_key (codes "value")) (shown-text ++ 125 ∷ [])
    ∙ append_assoc (old ++ text) (counts_text row) (later_key (codes "value") ++ (shown-text ++ 125 ∷ []))
    ∙ append_assoc old text (counts_text row ++ (later_key (codes "value") ++ (shown-text ++ 125 ∷ [])))
    ∙ ap (λ (text : List ℕ). old ++ text) (text-written decls names body row)
    )

-- ---- the line of a node

node-object : (class : Class) (span value : Data) (nerr record_number : ℕ)
    → (123 ∷ 34 ∷ (codes "class" ++ 34 ∷ 58 ∷ 34 ∷ (class_name class ++ 34 ∷ (later_key (codes "nerr") ++ (decimal nerr
    ++ (later_key (codes "record") ++ (decimal record_number ++ (later_key (codes "span") ++ compact_text span))))))))
    ++ (later_key (codes "value") ++ (compact_text value ++ 125 ∷ []))
    ≡ compact_text (object (member (codes "class") (string (class_name class)) (member (codes "nerr") (number (unsigned nerr))
    (member (codes "record") (number (unsigned record_number)) (member (codes "span") span (member (codes "value") value no_members))))))
unfolding escape_byte
node-object class.Ok span value nerr record_number = simp append_assoc refl
node-object class.Err span value nerr record_number = simp append_assoc refl
node-object class.Fail span value nerr record_number = simp append_assoc refl

-- one piece after another
pub node_written : (record_number : ℕ) (pd : Pd) (shown : Data) (old head key value : List ℕ)
    → head ≡ old ++ node_head record_number pd
    → key ≡ head ++ later_key (codes "value")
    → value ≡ key ++ compact_text shown
    → value ++ 125 ∷ [] ≡ old ++ compact_text (node_data record_number pd shown)
node_written record_number pd shown old head key value h k v =
    let text = node_head record_number pd in
    rw (v, k, h) (
    append_assoc ((old ++ text) ++ later_key (codes "value")) (compact_text shown) (125 ∷ [])
    ∙ append_assoc (old ++ text) (later_key (codes "value")) (compact_text shown ++ 125 ∷ [])
    ∙ append_assoc old text (later_key (codes "value") ++ (compact_text shown ++ 125 ∷ []))
    ∙ ap (λ (text : List ℕ). old ++ text) (node-object (out-Pd pd).class (span_shown (out-Pd pd).span) shown (out-Pd pd).nerr record_number)
    )
