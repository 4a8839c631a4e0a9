-- Laws of levels, unary expressions and the loops over operators and steps, in the form that the code's
-- proofs use.
use Rattle.std.proofs.Common.{◌≡◌, ℕ, zero, suc, ◌≤◌, ◌<◌, ◌+◌, Bool, true, false, Option, Some, None, Ok, Err, List, [], ◌∷◌, ◌++◌, length, refl, ◌∙◌, arith}
use Rattle.pads_grammar.specs.declared.kind.Kind.{Kind}
use Rattle.pads_grammar.specs.declared.kind.Kind.TheVariants as kind
use Rattle.pads_grammar.specs.Kinds.{Tokens, peek}
use Rattle.pads_grammar.specs.Grammar.{Grammar, Outcome, many, either, reads, nullable, begins}
use Rattle.pads_grammar.proofs.Loops.{Whole, loop_begins, loop_goes, loop_ends, loop_fails, shorter}
use Rattle.pads_ast.specs.declared.expr.Expr.{Expr}
use Rattle.pads_ast.specs.declared.expr.Link.{Link}
use Rattle.pads_ast.specs.declared.expr.Step.{Step}
use Rattle.pads_syntax_expr.specs.declared.level.Level.{Level}
use Rattle.pads_syntax_expr.specs.declared.level.Level.TheVariants as level_form
use Rattle.pads_syntax_expr.specs.Expressions.{operators, link, chained, level, part, rank, unary, sign, signed, posted, below, step}

pub rank_part : (k p : Level) → part k ≡ Some p → rank k ≡ suc (rank p)
rank_part level_form.Unary p h = cc
rank_part level_form.Prod level_form.Unary h = refl
rank_part level_form.Sum level_form.Prod h = refl
rank_part level_form.Rel level_form.Sum h = refl
rank_part level_form.Eq level_form.Rel h = refl
rank_part level_form.And level_form.Eq h = refl
rank_part level_form.Or level_form.And h = refl
rank_part _ p h = cc

pub rank_none : (k : Level) → rank k ≤ 6
rank_none level_form.Unary = omega arith
rank_none level_form.Prod = omega arith
rank_none level_form.Sum = omega arith
rank_none level_form.Rel = omega arith
rank_none level_form.Eq = omega arith
rank_none level_form.And = omega arith
rank_none level_form.Or = omega arith

-- How many levels are open to what may have none.
abbrev pub weight : Option ℕ → ℕ
weight None = 0
weight (Some inner) = inner + 1

pub weight_below : (d : ℕ) → weight (below d) ≡ d
weight_below zero = refl
weight_below (suc d) = omega arith

pub below_some : (d inner : ℕ) → below d ≡ Some inner → d ≡ inner + 1
below_some zero inner h = cc
below_some (suc d) inner h = let e : d ≡ inner = cc in omega arith

pub below_none : (d : ℕ) → below d ≡ None → d ≡ 0
below_none zero h = refl
below_none (suc d) h = cc

pub level_some : (k p : Level) (u : Grammar Expr) (ts : Tokens) → part k ≡ Some p → reads (level k u) ts ≡ reads (chained (level p u) (operators k)) ts
level_some level_form.Unary p u ts h = cc
level_some level_form.Prod level_form.Unary u ts h = refl
level_some level_form.Sum level_form.Prod u ts h = refl
level_some level_form.Rel level_form.Sum u ts h = refl
level_some level_form.Eq level_form.Rel u ts h = refl
level_some level_form.And level_form.Eq u ts h = refl
level_some level_form.Or level_form.And u ts h = refl
level_some _ p u ts h = cc

pub level_none : (k : Level) (u : Grammar Expr) (ts : Tokens) → part k ≡ None → reads (level k u) ts ≡ reads u ts
level_none level_form.Unary u ts h = refl
level_none level_form.Prod u ts h = cc
level_none level_form.Sum u ts h = cc
level_none level_form.Rel u ts h = cc
level_none level_form.Eq u ts h = cc
level_none level_form.And u ts h = cc
level_none level_form.Or u ts h = cc

pub unary_some : (d i : ℕ) (ts : Tokens) → below d ≡ Some i → reads (unary d) ts ≡ reads (either (signed (unary i)) (posted (Some i))) ts
unfolding unary
unary_some zero i ts h = cc
unary_some (suc d) i ts h = let e : d ≡ i = cc in rw e refl

pub unary_none : (d : ℕ) (ts : Tokens) → below d ≡ None → reads (unary d) ts ≡ reads (posted None) ts
unfolding unary
unary_none zero ts h = refl
unary_none (suc d) ts h = cc

module _ (d i : ℕ) (ts : Tokens) (h : below d ≡ Some i) where
  pub unary_plain : begins sign (peek ts) ≡ false → reads (unary d) ts ≡ reads (posted (Some i)) ts
  unary_plain b = unary_some d i ts h ∙ rw b refl

  pub unary_signed : begins sign (peek ts) ≡ true → reads (unary d) ts ≡ reads (signed (unary i)) ts
  unary_signed b = unary_some d i ts h ∙ rw b refl

operators_solid : (k : Level) → nullable (operators k) ≡ false
operators_solid level_form.Unary = refl
operators_solid level_form.Prod = refl
operators_solid level_form.Sum = refl
operators_solid level_form.Rel = refl
operators_solid level_form.Eq = refl
operators_solid level_form.And = refl
operators_solid level_form.Or = refl

operators_end : (k : Level) → begins (operators k) kind.End ≡ false
operators_end level_form.Unary = refl
operators_end level_form.Prod = refl
operators_end level_form.Sum = refl
operators_end level_form.Rel = refl
operators_end level_form.Eq = refl
operators_end level_form.And = refl
operators_end level_form.Or = refl

module _ (k : Level) (u : Grammar Expr) where
  solid : nullable (link (operators k) u) ≡ false
  solid = rw (operators_solid k) refl

  quiet : begins (link (operators k) u) kind.End ≡ false
  quiet = rw (operators_end k, operators_solid k) refl

  pub link_begins : (j : Kind) (b : Bool) → begins (operators k) j ≡ b → begins (link (operators k) u) j ≡ b
  link_begins j true h = rw h refl
  link_begins j false h = rw (h, operators_solid k) refl

  pub links_begin : (ts : Tokens) → Whole (link (operators k) u) (reads (many (link (operators k) u)) ts) [] ts
  links_begin ts = loop_begins (link (operators k) u) ts

  pub links_go : (whole : Outcome (List (Link Expr))) (done : List (Link Expr)) (ts rest : Tokens) (l : Link Expr) → begins (operators k) (peek ts) ≡ true → reads (link (operators k) u) ts ≡ Ok (l, rest) → Whole (link (operators k) u) whole done ts → Whole (link (operators k) u) whole (done ++ l ∷ []) rest
  links_go whole done ts rest l b h w = loop_goes (link (operators k) u) whole done ts l rest solid quiet (link_begins (peek ts) true b) h w

  pub links_end : (whole : Outcome (List (Link Expr))) (done : List (Link Expr)) (ts : Tokens) → begins (operators k) (peek ts) ≡ false → Whole (link (operators k) u) whole done ts → whole ≡ Ok (done, ts)
  links_end whole done ts b w = loop_ends (link (operators k) u) whole done ts (link_begins (peek ts) false b) w

  pub links_fail : (whole : Outcome (List (Link Expr))) (done : List (Link Expr)) (ts rest : Tokens) → begins (operators k) (peek ts) ≡ true → reads (link (operators k) u) ts ≡ Err rest → Whole (link (operators k) u) whole done ts → whole ≡ Err rest
  links_fail whole done ts rest b h w = loop_fails (link (operators k) u) whole done ts rest quiet (link_begins (peek ts) true b) h w

  pub links_shorter : (ts rest : Tokens) (l : Link Expr) → reads (link (operators k) u) ts ≡ Ok (l, rest) → length rest < length ts
  links_shorter ts rest l h = shorter (link (operators k) u) ts l rest solid h

step_solid : (inner : Option ℕ) → nullable (step inner) ≡ false
step_solid None = refl
step_solid (Some inner) = refl

step_end : (inner : Option ℕ) → begins (step inner) kind.End ≡ false
step_end None = refl
step_end (Some inner) = refl

pub steps_begin : (inner : Option ℕ) (ts : Tokens) → Whole (step inner) (reads (many (step inner)) ts) [] ts
steps_begin inner ts = loop_begins (step inner) ts

pub steps_go : (inner : Option ℕ) (whole : Outcome (List (Step Expr))) (done : List (Step Expr)) (ts rest : Tokens) (s : Step Expr) → begins (step inner) (peek ts) ≡ true → reads (step inner) ts ≡ Ok (s, rest) → Whole (step inner) whole done ts → Whole (step inner) whole (done ++ s ∷ []) rest
steps_go inner whole done ts rest s b h w = loop_goes (step inner) whole done ts s rest (step_solid inner) (step_end inner) b h w

pub steps_end : (inner : Option ℕ) (whole : Outcome (List (Step Expr))) (done : List (Step Expr)) (ts : Tokens) → begins (step inner) (peek ts) ≡ false → Whole (step inner) whole done ts → whole ≡ Ok (done, ts)
steps_end inner whole done ts b w = loop_ends (step inner) whole done ts b w

pub steps_fail : (inner : Option ℕ) (whole : Outcome (List (Step Expr))) (done : List (Step Expr)) (ts rest : Tokens) → begins (step inner) (peek ts) ≡ true → reads (step inner) ts ≡ Err rest → Whole (step inner) whole done ts → whole ≡ Err rest
steps_fail inner whole done ts rest b h w = loop_fails (step inner) whole done ts rest (step_end inner) b h w

pub steps_shorter : (inner : Option ℕ) (ts rest : Tokens) (s : Step Expr) → reads (step inner) ts ≡ Ok (s, rest) → length rest < length ts
steps_shorter inner ts rest s h = shorter (step inner) ts s rest (step_solid inner) h

pub ruleset levels = (level_some, level_none, rank_part)

pub ruleset unaries = (unary_none, weight_below, below_some)

pub ruleset link_loop = (links_begin, links_go, links_end, links_fail, links_shorter)

pub ruleset step_loop = (steps_begin, steps_go, steps_end, steps_fail, steps_shorter)
