-- The terms directly in a term.
use Rattle.std.specs.Prelude.{List, [], ◌∷◌, ◌++◌, map, Option, Some, None}
use Rattle.pads_calc.specs.declared.term.Arm.{Arm}
use Rattle.pads_calc.specs.declared.term.Case.{Case}
use Rattle.pads_calc.specs.declared.term.Part.{Part}
use Rattle.pads_calc.specs.declared.term.Seq.{Seq}
use Rattle.pads_calc.specs.declared.term.Term.{Term, Term-F}

abbrev pub if_there : Option Term → List Term
if_there None = []
if_there (Some t) = t ∷ []

abbrev pub terms_in : Term-F Term Arm Case Part Seq → List Term
terms_in Term-F.Unit = []
terms_in (Term-F.Base base args) = []
terms_in (Term-F.Lit literal) = []
terms_in Term-F.Eor = []
terms_in (Term-F.Struct parts) = map (λ part. part.term) parts
terms_in (Term-F.Alt arms) = map (λ arm. arm.term) arms
terms_in (Term-F.Switch e cases) = map (λ case. case.arm.term) cases
terms_in (Term-F.Guard inner binder condition) = inner ∷ []
terms_in (Term-F.Seq s) = s.elem ∷ if_there s.sep ++ if_there s.stop
terms_in (Term-F.Call number args) = []
terms_in (Term-F.Compute e form) = []
terms_in (Term-F.Absorb inner) = inner ∷ []
terms_in (Term-F.Scan inner) = inner ∷ []
