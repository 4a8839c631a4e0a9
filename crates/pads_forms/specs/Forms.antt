-- The form of a value: what a term is behind constraints, searches and calls, which leave a value and
-- the kids of its descriptor as they are. A term whose value isn't kept has a descriptor all the same.
use Rattle.std.specs.Prelude.{ℕ, zero, suc, Bool, List, Option, Some, None, option_and_then, unwrap_or, slice_get, if◌then◌else◌, ⊤}
use Rattle.pads_calc.specs.declared.decl.Decl.{Decl}
use Rattle.pads_calc.specs.declared.term.Arm.{Arm, Arm-F}
use Rattle.pads_calc.specs.declared.term.Case.{Case, Case-F}
use Rattle.pads_calc.specs.declared.term.Part.{Part, Part-F}
use Rattle.pads_calc.specs.declared.term.Seq.{Seq, Seq-F}
use Rattle.pads_calc.specs.declared.term.Term.{Term, Term-F, out-Term, para-Term}
use Rattle.pads_forms.specs.declared.form.Form.{Form as CodeForm}

-- the term inside one that is passed through, as far in as that goes; none for any other term
module _ (absorbs : Bool) where
  abbrev pub inside : Term-F (Term × Option Term) (Arm × ⊤) (Case × ⊤) (Part × ⊤) (Seq × ⊤) → Option Term
  inside Term-F.Unit = None
  inside (Term-F.Base base args) = None
  inside (Term-F.Lit literal) = None
  inside Term-F.Eor = None
  inside (Term-F.Struct parts) = None
  inside (Term-F.Alt arms) = None
  inside (Term-F.Switch e cases) = None
  inside (Term-F.Guard inner binder condition) = Some (unwrap_or inner.1 inner.0)
  inside (Term-F.Seq s) = None
  inside (Term-F.Call number args) = None
  inside (Term-F.Compute e form) = None
  inside (Term-F.Absorb inner) = if absorbs then Some (unwrap_or inner.1 inner.0) else None
  inside (Term-F.Scan inner) = Some (unwrap_or inner.1 inner.0)

abbrev pub no_arm : Arm-F (Term × Option Term) (Arm × ⊤) (Case × ⊤) (Part × ⊤) (Seq × ⊤) → ⊤
no_arm arm = tt

abbrev pub no_case : Case-F (Term × Option Term) (Arm × ⊤) (Case × ⊤) (Part × ⊤) (Seq × ⊤) → ⊤
no_case case = tt

abbrev pub no_part : Part-F (Term × Option Term) (Arm × ⊤) (Case × ⊤) (Part × ⊤) (Seq × ⊤) → ⊤
no_part part = tt

abbrev pub no_seq : Seq-F (Term × Option Term) (Arm × ⊤) (Case × ⊤) (Part × ⊤) (Seq × ⊤) → ⊤
no_seq s = tt

-- what a term is behind constraints and searches, and behind absorbing too where `absorbs`
unfoldable pub through : Bool → Term → Term
through absorbs t = unwrap_or (para-Term (Option Term) ⊤ ⊤ ⊤ ⊤ (inside absorbs) no_arm no_case no_part no_seq t) t

-- a form, and how deep calls may still be nested in it
pub record Form : Type 0 where
  pub depth : ℕ
  pub term : Term

abbrev pub called : Term-F Term Arm Case Part Seq → Option ℕ
called Term-F.Unit = None
called (Term-F.Base base args) = None
called (Term-F.Lit literal) = None
called Term-F.Eor = None
called (Term-F.Struct parts) = None
called (Term-F.Alt arms) = None
called (Term-F.Switch e cases) = None
called (Term-F.Guard inner binder condition) = None
called (Term-F.Seq s) = None
called (Term-F.Call number args) = Some number
called (Term-F.Compute e form) = None
called (Term-F.Absorb inner) = None
called (Term-F.Scan inner) = None

abbrev pub unless_called : Option ℕ → Form → (ℕ → Option Form) → Option Form
unless_called None here follow = Some here
unless_called (Some number) here follow = follow number

-- The form of a term's values behind that. Calls are followed so deep; there is no form where they go
-- deeper.
unfoldable pub form_from : List Decl → Bool → ℕ → Term → Option Form
form_from decls absorbs zero t = unless_called (called (out-Term t)) (record { depth = 0; term = t }) (λ number. None)
form_from decls absorbs (suc depth) t =
    unless_called (called (out-Term t)) (record { depth = suc depth; term = t })
    (λ number. option_and_then (λ decl. form_from decls absorbs depth (through absorbs decl.body)) (slice_get decls number))

abbrev pub form_at : List Decl → Bool → ℕ → Term → Option Form
form_at decls absorbs depth t = form_from decls absorbs depth (through absorbs t)

-- the form that the code has found
abbrev pub form_seen : CodeForm → Form
form_seen found = record { depth = found.depth; term = found.term.now }
