-- The reads of a description's file.
use Rattle.std.proofs.Common.{◌≡◌, ◌∙◌, refl, ap, sym, subst, ℕ, ◌+◌, ◌<◌, ◌≤◌, List, Option, None, Some, le-leb, lt-ltb, unwrap_or}
use Rattle.pads_io.specs.Calls.{Many, ReadAt, goes, stays}
use Rattle.pads_orders.specs.Orders.{order_of}
use Rattle.pads_orders.specs.declared.order.Order.{Order}
use Rattle.pads_tool.specs.FileReads.{DueRead, ReadsFor, ReadsItsFile, ReadsOnce, due_at, due_behind, file_of}

due-at : (at : ℕ) → at ≤ 1048576 → due_at at ≡ Some at
due-at at h = rw (le-leb at 1048576 h) refl

due-some : (at n : ℕ) → 0 < n → due_behind at (Some n) ≡ due_at (at + n)
due-some at n h = rw (lt-ltb 0 n h) refl

module _ {F : Type 0} (reads : F → ReadAt → F → Type 0) where
  -- the last read of a file
  pub reads-end : (name : List ℕ) (files now now' : F) (at : ℕ) (count : Option ℕ) → at ≤ 1048576 → Many (DueRead reads name) (Some 0, files) (due_at at, now)
      → reads now (record { name = name; at = at; count = count }) now' → ReadsOnce reads name files now'
  reads-end name files now now' at count within p call = (due_behind at count, goes p (at, count, due-at at within, call, refl))

  -- one that gave some bytes
  pub reads-more : (name : List ℕ) (files now now' : F) (at n : ℕ) → at ≤ 1048576 → 0 < n → Many (DueRead reads name) (Some 0, files) (due_at at, now)
      → reads now (record { name = name; at = at; count = Some n }) now' → Many (DueRead reads name) (Some 0, files) (due_at (at + n), now')
  reads-more name files now now' at n within some p call =
      subst (λ (due : Option ℕ). Many (DueRead reads name) (Some 0, files) (due, now')) (due-some at n some) (goes p (at, Some n, due-at at within, call, refl))

  pub reads-nothing : (file : Option (List ℕ)) (files : F) → ReadsFor reads file files files
  reads-nothing None files = refl
  reads-nothing (Some name) files = (Some 0, stays)

  pub reads-ordered : (words : List (List ℕ)) (asked : Order) (files files' : F) → order_of words ≡ Some asked → ReadsFor reads (file_of asked) files files' → ReadsItsFile reads words files files'
  reads-ordered words asked files files' is p = λ other same.
      subst (λ (order : Order). ReadsFor reads (file_of order) files files') (ap (λ (found : Option Order). unwrap_or found asked) (sym is ∙ same)) p
