-- The function of degree 0 is 1, and `raise` gives the two of degree 1. Assumes nothing.
use native.Mathlib.Omega.{arith}
use Prim.Native.Nat.{◌%◌}
use mathlib.Core.Path.{◌≡◌}
use Rattle.bspline.specs.Basis.{basis_at}
use Rattle.bspline.proofs.Recurrence.{first_stored, raised}
use Rattle.bspline.proofs.basis.begin.Goals as goal

pub returns-then-degree-eq1 : goal.returns-then-degree-eq1
unfolding basis_at
returns-then-degree-eq1 c =
    let e : c.args.degree % 2 ≡ 1 = omega arith in
    rw e (raised _ _ 0 c.args.values.now _ _ (first_stored _ _ c.args.values.now (omega arith)) c.raise.ensures)

pub returns-else-degree-eq1 : goal.returns-else-degree-eq1
unfolding basis_at
returns-else-degree-eq1 c =
    let e : c.args.degree % 2 ≡ 0 = omega arith in
    rw e (first_stored _ _ c.args.values.now (omega arith))
