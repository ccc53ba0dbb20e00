-- The last two rows are two turns of the loop for every width, and the rest are the turns that are left. Assumes nothing.
use mathlib.Core.Path.{◌≡◌}
use Prim.Native.Nat.{◌+◌, ◌-◌}
use native.Mathlib.Omega.{arith}
use Rattle.bands.proofs.Rows.{loops}
use Rattle.lu.proofs.narrow.back_narrow.Goals as goal

pub returns : goal.returns
returns c =
    let n : c.args.n ≡ c.args.n - 2 + 1 + 1 = omega arith in
    let last : c.args.n - 1 ≡ c.args.n - 2 + 1 = omega arith in
    grind (arith, loops)
