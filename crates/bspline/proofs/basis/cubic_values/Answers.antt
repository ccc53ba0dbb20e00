-- Each value is the definition's for degree 3, which is worked out. Assumes nothing.
use native.Mathlib.Omega.{arith}
use Rattle.bspline.proofs.Recurrence.{cubic_stored}
use Rattle.bspline.proofs.basis.cubic_values.Goals as goal

pub returns : goal.returns
returns c = cubic_stored _ _ _ _ (omega arith)
