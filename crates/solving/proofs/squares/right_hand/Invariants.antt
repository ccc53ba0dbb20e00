-- The loop's invariant: what the points that are left make of the poles is what all of them make of zeros. Assumes nothing.
use mathlib.Core.Path.{◌≡◌}
use lib.ListN.{length}
use Rattle.places.specs.Loops.{each}
use Rattle.knots.specs.OnLines.{on_line}
use Rattle.tables.specs.Layout.{table_of}
use Rattle.solving.specs.LeastSquares.{right_hand}
use Rattle.solving.proofs.SquareLaws.{add_point}
use Rattle.solving.proofs.squares.right_hand.Given as goal

abbrev pub invariant-loop-k : goal.invariant-loop-k
invariant-loop-k l = each l.k (length l.table.firsts.now) (add_point (table_of l.table) (on_line l.fn.line)) l.poles ≡ right_hand (table_of l.table) l.table.poles (on_line l.fn.line)
