-- Before turn r the first r functions of degree j + 1 stand; `lower` and `upper` are the first terms of function r of degree j and of degree j + 1. Assumes nothing.
use native.Mathlib.Omega.{arith}
use native.Mathlib.Nat.{add-zero}
use Prim.Native.Nat.{ℕ, ◌+◌, ◌-◌}
use mathlib.Core.Path.{◌≡◌, refl, sym, ap, ◌∙◌}
use mathlib.Core.List.{◌++◌}
use lib.ListN.{length, take, drop}
use lib.Seq.{length-take-le}
use Rattle.std.proofs.lemmas.List.{take_rest}
use Rattle.places.proofs.PlaceLaws.{list_of-next}
use Rattle.places.specs.Places.{list_of}
use Rattle.geometry.specs.Doubles.{at}
use Rattle.bspline.specs.Basis.{left_of, right_of, rising, row}
use Rattle.bspline.proofs.Recurrence.{rising-next, row_next, row_last, not_yet, all_written, left_in, right_in, knots-next}
use Rattle.bspline.proofs.basis.raise_twice.Goals as goal

pub loop-value-init : goal.loop-value-init
unfolding rising list_of
loop-value-init c = (refl, refl, refl, rw add-zero (take_rest c.args.flat.now (c.args.span - c.args.j)))

pub loop-value-preserved : goal.loop-value-preserved
loop-value-preserved c =
    let args = c.args in
    let flat = args.flat.now in
    let r = c.loop-value.value-index in
    let j = args.j in
    let inv = c.loop-value.invariant in
    let n : length (take j args.values.now) ≡ j = length-take-le j args.values.now (omega arith) in
    let L = left_of flat args.span args.u in
    let R = right_of flat args.span args.u in
    let N = at args.values.now in
    let a = left_in flat args.span _ args.u inv.3 j r 1 (omega arith) in
    let b = right_in flat args.span _ args.u inv.3 r (j + 1) (omega arith) in
    let d = left_in flat args.span _ args.u inv.3 (j + 1) r 0 (omega arith) in
    let x = not_yet _ j args.values.now c.loop-value.value-items r inv.2 (omega arith) in
    let one = row_next L R N j r _ _ _ a b x _ (omega arith) inv.0 in (
      rising-next L R N j r _ _ _ a b x,
      rising-next L R (row L R N j) (j + 1) r _ _ _ d b one,
      list_of-next r _ (take j args.values.now) _ _ (omega arith) inv.2 (row_next L R (row L R N j) (j + 1) r _ _ _ d b one _ (omega arith) inv.1),
      knots-next flat _ r inv.3,
    )

pub returns : goal.returns
returns c =
    let args = c.args in
    let flat = args.flat.now in
    let j = args.j in
    let inv = c.loop-value.invariant in
    let n : length (take j args.values.now) ≡ j = length-take-le j args.values.now (omega arith) in
    let e : c.loop-value.value-index ≡ j = omega arith in
    let L = left_of flat args.span args.u in
    let R = right_of flat args.span args.u in
    let N = at args.values.now in
    let N' = row L R N j in
    let b = right_in flat args.span _ args.u inv.3 j (j + 1) (omega arith) in
    let d = left_in flat args.span _ args.u inv.3 (j + 1) j 0 (omega arith) in
    let one = (rw e at inv.0) ∙ sym (row_last L R N j) in
    let two : j + 1 + 1 ≡ j + 2 = omega arith in
    list_of-next (j + 1) (row L R N' (j + 1)) args.values.now _ _ (omega arith)
    (list_of-next j (row L R N' (j + 1)) args.values.now _ _ (omega arith) (all_written _ j _ _ _ inv.2 e (omega arith)) (row_next L R N' (j + 1) j _ _ _ d b one _ (omega arith) (rw e at inv.1)))
    (rising-next L R N' (j + 1) j _ _ _ d b one ∙ sym (row_last L R N' (j + 1)))
    ∙ ap (λ (m : ℕ). list_of m (row L R N' (j + 1)) ++ drop m args.values.now) two
