-- The loop's invariant: what the rows that are left make of the matrix is what all of them make of zeros. Assumes nothing.
use mathlib.Core.Path.{◌≡◌}
use lib.ListN.{length}
use Rattle.places.specs.Loops.{each}
use Rattle.tables.specs.Layout.{table_of}
use Rattle.solving.specs.LeastSquares.{normal_matrix}
use Rattle.solving.proofs.SquareLaws.{add_parameter}
use Rattle.solving.proofs.squares.normal_matrix.Given as goal

abbrev pub invariant-loop-k : goal.invariant-loop-k
invariant-loop-k l = each l.k (length l.table.firsts.now) (add_parameter (table_of l.table)) l.band ≡ normal_matrix (table_of l.table) l.table.poles
