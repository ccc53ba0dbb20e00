-- Before turn r the first r functions of the next degree stand, and `saved` is the first term of the one after them. Assumes nothing.
use native.Mathlib.Omega.{arith}
use native.Mathlib.Nat.{add-zero}
use Prim.Native.Nat.{◌+◌, ◌-◌}
use mathlib.Core.Path.{◌≡◌, refl, sym, ◌∙◌}
use lib.ListN.{length, take}
use lib.Seq.{length-take-le}
use Rattle.std.proofs.lemmas.List.{take_rest}
use Rattle.places.proofs.PlaceLaws.{list_of-next}
use Rattle.places.specs.Places.{list_of}
use Rattle.geometry.specs.Doubles.{at}
use Rattle.bspline.specs.Basis.{left_of, right_of, rising}
use Rattle.bspline.proofs.Recurrence.{rising-next, row_next, row_last, not_yet, all_written, left_in, right_in, knots-next}
use Rattle.bspline.proofs.basis.raise.Goals as goal

pub loop-value-init : goal.loop-value-init
unfolding rising list_of
loop-value-init c = (refl, refl, rw add-zero (take_rest c.args.flat.now (c.args.span + 1 - c.args.j)))

pub loop-value-preserved : goal.loop-value-preserved
loop-value-preserved c =
    let args = c.args in
    let flat = args.flat.now in
    let r = c.loop-value.value-index in
    let j = args.j in
    let inv = c.loop-value.invariant in
    let n : length (take j args.values.now) ≡ j = length-take-le j args.values.now (omega arith) in
    let L = left_of flat args.span args.u in
    let R = right_of flat args.span args.u in
    let N = at args.values.now in
    let a = left_in flat args.span _ args.u inv.2 j r 0 (omega arith) in
    let b = right_in flat args.span _ args.u inv.2 r j (omega arith) in
    let x = not_yet _ j args.values.now c.loop-value.value-items r inv.1 (omega arith) in (
      rising-next L R N j r _ _ _ a b x,
      list_of-next r _ (take j args.values.now) _ _ (omega arith) inv.1 (row_next L R N j r _ _ _ a b x _ (omega arith) inv.0),
      knots-next flat _ r inv.2,
    )

pub returns : goal.returns
returns c =
    let j = c.args.j in
    let n : length (take j c.args.values.now) ≡ j = length-take-le j c.args.values.now (omega arith) in
    let e : c.loop-value.value-index ≡ j = omega arith in
    list_of-next j _ _ _ _ (omega arith) (all_written _ j _ _ _ c.loop-value.invariant.1 e (omega arith)) ((rw e at c.loop-value.invariant.0) ∙ sym (row_last _ _ _ j))
