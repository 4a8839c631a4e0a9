-- What operators give of sorts, in the module.
use Rattle.std.proofs.Common.{◌≡◌, ap, refl, subst, ℕ, zero, suc, List, Option, Some}
use Rattle.pads_rules.specs.declared.sort.Form.{Form}
use Rattle.pads_rules.specs.declared.sort.Form.TheVariants as form
use Rattle.pads_rules.specs.declared.sort.Sort.{Sort}
use Rattle.pads_expr.specs.declared.expr.BinOp.{BinOp}
use Rattle.pads_expr.specs.declared.expr.BinOp.TheVariants as operator
use Rattle.law_calculus.specs.Expressions as made
use Rattle.law_calculus.specs.Sorts.{Sort as TermSort, Number, Truth}
use Rattle.law_calculus.proofs.Expressions.{and_then-is}
use Rattle.law_descriptions.specs.Expressions.{of_plain, plainly, of_numbers, of_texts, of_truths, of_forms, binary_sort, number_alone, truth_alone, length_sort, forall_sort}
use Rattle.law_descriptions.specs.Sorts.{num, truth}
use Rattle.law_descriptions.proofs.Means.{FormMeans, MeansBy, Means}

module _ (declared : List TermSort) where
  -- in the module this is a sort of the same values
  abbrev pub Gives : Option TermSort → Sort → Type 0
  Gives o sort = (t : TermSort) × (o ≡ Some t) × Means declared sort t

  gives-num : (sort : Sort) → Some num ≡ Some sort → Gives (Some Number) sort
  gives-num sort is = let same : num ≡ sort = cc in subst (Gives (Some Number)) same (Number, refl, refl)

  gives-truth : (sort : Sort) → Some truth ≡ Some sort → Gives (Some Truth) sort
  gives-truth sort is = let same : truth ≡ sort = cc in subst (Gives (Some Truth)) same (Truth, refl, refl)

  numbers-give : (op : BinOp) (sort : Sort) → of_numbers op ≡ Some sort → Gives (made.of_numbers op) sort
  numbers-give operator.Or sort is = cc
  numbers-give operator.And sort is = cc
  numbers-give operator.Eq sort is = gives-truth sort is
  numbers-give operator.Ne sort is = gives-truth sort is
  numbers-give operator.Lt sort is = gives-truth sort is
  numbers-give operator.Le sort is = gives-truth sort is
  numbers-give operator.Gt sort is = gives-truth sort is
  numbers-give operator.Ge sort is = gives-truth sort is
  numbers-give operator.Add sort is = gives-num sort is
  numbers-give operator.Sub sort is = gives-num sort is
  numbers-give operator.Mul sort is = gives-num sort is
  numbers-give operator.Div sort is = gives-num sort is
  numbers-give operator.Rem sort is = gives-num sort is

  texts-give : (op : BinOp) (sort : Sort) → of_texts op ≡ Some sort → Gives (made.of_texts op) sort
  texts-give operator.Or sort is = cc
  texts-give operator.And sort is = cc
  texts-give operator.Eq sort is = gives-truth sort is
  texts-give operator.Ne sort is = gives-truth sort is
  texts-give operator.Lt sort is = gives-truth sort is
  texts-give operator.Le sort is = gives-truth sort is
  texts-give operator.Gt sort is = gives-truth sort is
  texts-give operator.Ge sort is = gives-truth sort is
  texts-give operator.Add sort is = cc
  texts-give operator.Sub sort is = cc
  texts-give operator.Mul sort is = cc
  texts-give operator.Div sort is = cc
  texts-give operator.Rem sort is = cc

  truths-give : (op : BinOp) (sort : Sort) → of_truths op ≡ Some sort → Gives (made.of_truths op) sort
  truths-give operator.Or sort is = gives-truth sort is
  truths-give operator.And sort is = gives-truth sort is
  truths-give operator.Eq sort is = gives-truth sort is
  truths-give operator.Ne sort is = gives-truth sort is
  truths-give operator.Lt sort is = cc
  truths-give operator.Le sort is = cc
  truths-give operator.Gt sort is = cc
  truths-give operator.Ge sort is = cc
  truths-give operator.Add sort is = cc
  truths-give operator.Sub sort is = cc
  truths-give operator.Mul sort is = cc
  truths-give operator.Div sort is = cc
  truths-give operator.Rem sort is = cc

  forms-give : (op : BinOp) (f g : Form) (a b : TermSort) (sort : Sort) → FormMeans declared f a → FormMeans declared g b → of_forms op f g ≡ Some sort
      → Gives (made.operator_sort op a b) sort
  forms-give op form.Num form.Num a b sort one other is = rw (one, other) (numbers-give op sort is)
  forms-give op form.Text form.Text a b sort one other is = rw (one, other) (texts-give op sort is)
  forms-give op form.Truth form.Truth a b sort one other is = rw (one, other) (truths-give op sort is)
  forms-give op _ _ a b sort one other is = cc

  -- a form that is there stands behind no `Popt`
  pub plain-is : (gives : Form → Option Sort) (n : ℕ) (f : Form) (t : TermSort) (sort : Sort) → MeansBy declared n f t → of_plain gives n f ≡ Some sort
      → FormMeans declared f t × (gives f ≡ Some sort)
  plain-is gives zero f t sort means is = (means, is)
  plain-is gives (suc n) f t sort means is = cc

  pub binary-gives : (op : BinOp) (left right : Sort) (a b : TermSort) (sort : Sort) → Means declared left a → Means declared right b → binary_sort op left right ≡ Some sort
      → Gives (made.operator_sort op a b) sort
  binary-gives op left right a b sort one other is =
      let x = plain-is (λ f. plainly (of_forms op f) right) left.optional left.form a sort one is in
      let y = plain-is (of_forms op left.form) right.optional right.form b sort other x.1 in
      forms-give op left.form right.form a b sort x.0 y.0 y.1

  -- a number or a truth alone
  number-by : (f : Form) (t : TermSort) (sort : Sort) → FormMeans declared f t → number_alone f ≡ Some sort → (t ≡ Number) × (num ≡ sort)
  number-by form.Num t sort means is = (means, cc)
  number-by _ t sort means is = cc

  pub number-is : (operand : Sort) (t : TermSort) (sort : Sort) → Means declared operand t → plainly number_alone operand ≡ Some sort → (t ≡ Number) × (num ≡ sort)
  number-is operand t sort means is =
      let x = plain-is number_alone operand.optional operand.form t sort means is in number-by operand.form t sort x.0 x.1

  truth-by : (f : Form) (t : TermSort) (sort : Sort) → FormMeans declared f t → truth_alone f ≡ Some sort → (t ≡ Truth) × (truth ≡ sort)
  truth-by form.Truth t sort means is = (means, cc)
  truth-by _ t sort means is = cc

  pub truth-is : (operand : Sort) (t : TermSort) (sort : Sort) → Means declared operand t → plainly truth_alone operand ≡ Some sort → (t ≡ Truth) × (truth ≡ sort)
  truth-is operand t sort means is =
      let x = plain-is truth_alone operand.optional operand.form t sort means is in truth-by operand.form t sort x.0 x.1

  pub minus-gives : (operand : Sort) (t : TermSort) (sort : Sort) → Means declared operand t → plainly number_alone operand ≡ Some sort → Gives (made.minus_sort t) sort
  minus-gives operand t sort means is =
      let x = number-is operand t sort means is in rw x.0 (gives-num sort (ap (λ s. Some s) x.1))

  pub not-gives : (operand : Sort) (t : TermSort) (sort : Sort) → Means declared operand t → plainly truth_alone operand ≡ Some sort → Gives (made.negation_sort t) sort
  not-gives operand t sort means is =
      let x = truth-is operand t sort means is in rw x.0 (gives-truth sort (ap (λ s. Some s) x.1))

  length-by : (f : Form) (t : TermSort) (sort : Sort) → FormMeans declared f t → length_sort f ≡ Some sort → Gives (made.length_sort t) sort
  length-by form.Text t sort means is = rw means (gives-num sort is)
  length-by (form.Array n) t sort means is = rw (means.2) (gives-num sort is)
  length-by _ t sort means is = cc

  pub length-gives : (operand : Sort) (t : TermSort) (sort : Sort) → Means declared operand t → plainly length_sort operand ≡ Some sort → Gives (made.length_sort t) sort
  length-gives operand t sort means is =
      let x = plain-is length_sort operand.optional operand.form t sort means is in length-by operand.form t sort x.0 x.1

  pub forall-gives : (low high inner : Sort) (a b c : TermSort) (sort : Sort) → Means declared low a → Means declared high b → Means declared inner c → forall_sort low high inner ≡ Some sort
      → Gives (made.forall_sort a b c) sort
  forall-gives low high inner a b c sort one other each is =
      let x = and_then-is _ (plainly number_alone low) sort is in
      let y = and_then-is _ (plainly number_alone high) sort x.2 in
      let m = number-is low a x.0 one x.1 in
      let n = number-is high b y.0 other y.1 in
      let z = truth-is inner c sort each y.2 in
      rw (m.0, n.0, z.0) (gives-truth sort (ap (λ s. Some s) z.1))
