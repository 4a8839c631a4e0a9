use Rattle.std.proofs.Common.{◌≡◌, ◌∙◌, sym, ap, ◌<◌, ◌+◌, ◌-◌, ◌*◌, ◌≤◌, List, Some, None, min, map, length, take, slice_get, slice_set, arith}
use Rattle.std.specs.Option.{option_copied}
use Rattle.std.proofs.lemmas.List.{length-map}
use Rattle.pads_value.specs.declared.value.Val.{Val}
use Rattle.pads_value.specs.declared.value.Val.TheVariants as val
use Rattle.pads_erase.specs.declared.skeleton.Skeleton.{size-Skeleton}
use Rattle.pads_erase.specs.Erasing.{each_part, erase}
use Rattle.pads_erase.proofs.Lists.{first_by, next-part, all-parts, mapped-there, next-element}
use Rattle.pads_erase.proofs.Rolls.{erased-zero, erased-nowhere, erased-there}
use Rattle.pads_erase.proofs.Weights.{weight, weight-call}
use Rattle.pads_erase.proofs.erasing.Erasing.+erase.Goals as goal

pub call-returns-then-self-eq0 : goal.call-returns-then-self-eq0
call-returns-then-self-eq0 t c = record { erased = rw (c.if-self-eq0.true) (sym (erased-zero c.args.self.now.keepings.now c.args.number c.args.value)) }

pub call-returns-in_default : goal.call-returns-in_default
call-returns-in_default t c =
    let none : slice_get c.args.self.now.keepings.now c.args.number ≡ None = sym c.kept.ensures.kept ∙ ap option_copied c.in_default.is in
    record { erased = sym (erased-nowhere c.args.self.now.keepings.now c.args.self.now.depth c.args.number c.args.value c.if-self-eq0.false none) }

pub call-skeleton-requires : goal.call-skeleton-requires
call-skeleton-requires t c =
    let there : slice_get c.args.self.now.keepings.now c.args.number ≡ Some c.in-Some.keeping.now = sym c.kept.ensures.kept ∙ ap option_copied c.in-Some.is in
    let is : c.args.self.now.depth * weight c.args.self.now.keepings.now ≡ t = c.decreases in
    let less = weight-call c.args.self.now.keepings.now c.args.number c.in-Some.keeping.now c.args.self.now.depth c.if-self-eq0.false there in
    let falls : (c.args.self.now.depth - 1) * weight c.args.self.now.keepings.now + 4 * size-Skeleton c.in-Some.keeping.now.skeleton < t = omega (arith, less, is) in
    (falls, tt)

pub call-returns : goal.call-returns
call-returns t c =
    let there : slice_get c.args.self.now.keepings.now c.args.number ≡ Some c.in-Some.keeping.now = sym c.kept.ensures.kept ∙ ap option_copied c.in-Some.is in
    record { erased = rw (erased-there c.args.self.now.keepings.now c.args.self.now.depth c.args.number c.in-Some.keeping.now c.args.value c.if-self-eq0.false there) c.skeleton.ensures.erased }

pub elements-loop-at-preserved : goal.elements-loop-at-preserved
elements-loop-at-preserved t c =
    let f = erase c.args.self.now.keepings.now c.args.self.now.depth c.args.self.now.set c.args.element.now in
    let now : c.loop-at.left.items ≡ first_by f c.loop-at.at c.args.values.items = c.loop-at.invariant in
    c.put.ensures.items
    ∙ ap (λ items. slice_set items c.loop-at.at c.in_ok-value.value) (c.take-value.ensures.rest ∙ ap (λ items. slice_set items c.loop-at.at val.Missing) now)
    ∙ ap (slice_set (slice_set (first_by f c.loop-at.at c.args.values.items) c.loop-at.at val.Missing) c.loop-at.at) c.in_ok-value.ensures.erased
    ∙ next-element f c.args.values.items c.loop-at.at c.take-value.result val.Missing (ap (λ (items : List Val). slice_get items c.loop-at.at) (sym now) ∙ c.take-value.ensures.value)

pub parts-returns : goal.parts-returns
parts-returns t c =
    let parts = map (erase c.args.self.now.keepings.now c.args.self.now.depth c.args.self.now.set) c.args.parts.now in
    let count : length parts ≡ length c.args.parts.now = length-map c.args.parts.now _ in
    let over : min (length parts) (length c.args.values.items) ≤ c.loop-at.at = omega (arith, c.loop-at-test.false, c.min-count.ensures, c.len.ensures, count) in
    record { erased = c.loop-at.invariant ∙ all-parts parts c.args.values.items c.loop-at.at over }

pub parts-loop-at-preserved : goal.parts-loop-at-preserved
parts-loop-at-preserved t c =
    let f = erase c.args.self.now.keepings.now c.args.self.now.depth c.args.self.now.set in
    let now : c.loop-at.left.items ≡ each_part (take c.loop-at.at (map f c.args.parts.now)) c.args.values.items = c.loop-at.invariant in
    let there : slice_get (map f c.args.parts.now) c.loop-at.at ≡ Some (f c.index-parts-at.result) = mapped-there f c.args.parts.now c.loop-at.at c.index-parts-at.result (omega (arith, c.loop-at-test.true, c.min-count.ensures)) c.index-parts-at.is in
    c.put.ensures.items
    ∙ ap (λ items. slice_set items c.loop-at.at c.in_ok-value.value) (c.take-value.ensures.rest ∙ ap (λ items. slice_set items c.loop-at.at val.Missing) now)
    ∙ ap (slice_set (slice_set (each_part (take c.loop-at.at (map f c.args.parts.now)) c.args.values.items) c.loop-at.at val.Missing) c.loop-at.at) c.in_ok-value.ensures.erased
    ∙ next-part (map f c.args.parts.now) c.args.values.items c.loop-at.at _ c.take-value.result val.Missing there
    (ap (λ (items : List Val). slice_get items c.loop-at.at) (sym now) ∙ c.take-value.ensures.value)
