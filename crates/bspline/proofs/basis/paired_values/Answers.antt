-- The invariant: the functions of degree d stand, where j is d + 1, and the degree is d or above it by an even number. Assumes nothing.
use native.Mathlib.Omega.{arith}
use Prim.Native.Nat.{◌+◌, ◌%◌}
use mathlib.Core.Path.{◌≡◌, refl}
use Rattle.bspline.specs.Basis.{basis_at}
use Rattle.bspline.proofs.Recurrence.{raised_twice}
use Rattle.bspline.proofs.basis.paired_values.Goals as goal

pub loop-j-init : goal.loop-j-init
loop-j-init c = (c.args.degree % 2, refl, omega arith, omega arith, c.begin.ensures)

pub loop-j-preserved : goal.loop-j-preserved
unfolding basis_at
loop-j-preserved c =
    let (d, j, most, even, stand) = c.loop-j.invariant in
    (d + 2, omega (arith, j), omega (arith, j), omega (arith, even), raised_twice _ _ d c.args.values.now _ _ stand (rw j at c.raise_twice.ensures))

pub returns : goal.returns
returns c =
    let (d, j, most, even, stand) = c.loop-j.invariant in
    let last : d ≡ c.args.degree = omega (arith, j, most, even) in
    rw last at stand

pub returns-2 : goal.returns-2
unfolding basis_at
returns-2 c =
    let (d, j, most, even, stand) = c.loop-j.invariant in
    let last : d + 2 ≡ c.args.degree = omega (arith, j, most, even) in
    rw last at (raised_twice _ _ d c.args.values.now _ _ stand (rw j at c.raise_twice.ensures))
