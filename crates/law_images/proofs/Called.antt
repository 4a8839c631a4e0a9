-- A call at an address where the stacks are in order: it runs to behind it, with what it reads.
use Rattle.std.proofs.Common.{◌≡◌, ◌∙◌, sym, ap, refl, subst, arith, ℕ, zero, suc, ◌+◌, ◌≤◌, List, [], ◌∷◌, drop, length, Some, slice_get}
use Rattle.pads_expr.specs.declared.expr.Expr.{Expr}
use Rattle.pads_calc.specs.declared.decl.Decl.{Decl}
use Rattle.pads_calc.specs.declared.reading.Reading.{Reading}
use Rattle.pads_calc.specs.Calculus.{caller}
use Rattle.pads_calc.specs.Readings.{Subject}
use Rattle.pads_image.specs.declared.entry.Entry.{Entry}
use Rattle.pads_image.specs.declared.op.Op.{Op}
use Rattle.pads_image.specs.declared.op.Op.TheVariants as op
use Rattle.pads_image.specs.Answers.{Reaches}
use Rattle.pads_image.specs.Code.{IsCodeOf, code_of, entries_of}
use Rattle.pads_image.specs.Heights.{Deeper, entries_at}
use Rattle.pads_image.specs.States.{State, base_of, entries, floor_of, seen}
use Rattle.law_images.proofs.Halting.{calls-run, deeper_at}

pub from-there : {A : Type 0} (xs : List A) (p : ℕ) (x : A) → slice_get xs p ≡ Some x → drop p xs ≡ x ∷ drop (suc p) xs
from-there [] p x there = cc
from-there (y ∷ xs) zero x there = let same : y ≡ x = cc in ap (λ y. y ∷ xs) same
from-there (y ∷ xs) (suc p) x there = from-there xs p x there

pub deeper-same : (decls : List Decl) (subject : Subject) (most more depth : ℕ) → deeper_at decls subject most depth ≡ deeper_at decls subject more depth
deeper-same decls subject most more zero = refl
deeper-same decls subject most more (suc depth) = refl

module _ (decls : List Decl) (subject : Subject) (number : ℕ) (args : List Expr) (s : State) where
  pub record Calls : Type 0 where
    pub there : slice_get (code_of decls) s.at_ ≡ Some (op.Call number args)
    pub sane : base_of s.callers ≤ length s.bindings
    pub above : floor_of s.nodes ≤ length s.bindings
    pub within : s.last.place ≤ length subject.bytes

  -- what it reads
  abbrev pub called : Reading
  called = caller subject decls s.depth number args (seen s) s.last.place

  -- behind it
  abbrev pub behind_call : State
  behind_call = record s { at_ = s.at_ + 1; last = called }

  -- how many entries the stacks have meanwhile
  abbrev pub largest : ℕ
  largest = entries s + entries_at (deeper_at decls subject 0 s.depth) (op.Call number args) 0

  pub runs : Calls → Reaches (code_of decls) (entries_of decls) subject largest s behind_call
  runs h =
      calls-run decls subject largest s.depth number args s.at_ (entries s) 0 s (record {
        at_ = refl;
        deep = refl;
        sane = h.sane;
        above = h.above;
        counted = omega arith;
        within = h.within;
        there = record { rest = drop (suc s.at_) (code_of decls); is = from-there (code_of decls) s.at_ (op.Call number args) h.there };
        fits = (omega (arith, ap (λ (deeper : Deeper). entries_at deeper (op.Call number args) 0) (deeper-same decls subject largest 0 s.depth)), tt);
      })

  -- by code that is theirs
  pub runs-by : (code : List Op) (of_entries : List Entry) → IsCodeOf decls code of_entries
      → slice_get code s.at_ ≡ Some (op.Call number args) → base_of s.callers ≤ length s.bindings → floor_of s.nodes ≤ length s.bindings → s.last.place ≤ length subject.bytes
      → Reaches code of_entries subject largest s behind_call
  runs-by code of_entries is there sane above within =
      subst (λ (code : List Op). Reaches code of_entries subject largest s behind_call) (sym is.code_is)
      (subst (λ (es : List Entry). Reaches (code_of decls) es subject largest s behind_call) (sym is.entries_are)
      (runs (record {
        there = ap (λ (code : List Op). slice_get code s.at_) (sym is.code_is) ∙ there;
        sane = sane;
        above = above;
        within = within;
      })))
