-- By the law that clearing the rows below the pivot, with what stands after it copied from what stands before them, is a step of elimination. Assumes nothing.
use Prim.Native.Nat.{◌+◌, ◌*◌}
use native.Mathlib.Omega.{arith}
use Rattle.bands.proofs.Rows.{rows-after}
use Rattle.lu.specs.BelowPivot.{after_pivot}
use Rattle.lu.proofs.PivotLaws.{length_pivot-row, eliminate_parts}
use Rattle.lu.proofs.eliminate_pivot.Goals as goal

pub clear_below-requires : goal.clear_below-requires
clear_below-requires c =
    let split = c.split_at_mut-done in
    let a = c.args in
    let count = after_pivot a.h a.n a.k in
    rw (c.copy_row.ensures, c.min.ensures, length_pivot-row a.h a.n a.k split.result.0.now (omega arith) split.ensures.front_len)
    (omega arith, omega (arith, rows-after (2 * a.h + 1) a.k count a.n (omega arith), split.ensures.front_len, split.ensures.back_len))

pub returns : goal.returns
returns c =
    let split = c.split_at_mut-done in
    let a = c.args in
    rw (c.clear_below.ensures, c.copy_row.ensures, c.entry-inverse.ensures, c.both.ensures, c.min.ensures, split.ensures.value)
    (eliminate_parts a.h a.n a.k split.result.0.now (omega arith) split.ensures.front_len split.result.1.now (rw split.ensures.value at c.requires.2))
