-- The poles of a row's values are among those of the matrix. Assumes nothing.
use Prim.Native.Nat.{ℕ, ◌+◌}
use native.Mathlib.Omega.{arith}
use lib.ListN.{get_or}
use Rattle.places.proofs.PlaceLaws.{row_inside}
use Rattle.solving.proofs.squares.normal_matrix.Goals as goal

pub add_row-requires : goal.add_row-requires
add_row-requires c =
    let t = c.args.table.now in
    let k : ℕ = c.loop-k.k in
    rw (c.row.ensures.place.0, c.row.ensures.place.1)
    (omega (arith, row_inside (get_or t.firsts.now k 0 + t.degree) t.poles (t.degree + 1) (c.requires.0.poles k (omega arith))))
