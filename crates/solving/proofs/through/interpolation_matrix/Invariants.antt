-- The loop's invariant: what the rows that are left make of the matrix is what all of them make of zeros. Assumes nothing.
use mathlib.Core.Path.{◌≡◌}
use lib.ListN.{length}
use Rattle.places.specs.Loops.{each}
use Rattle.tables.specs.Layout.{table_of}
use Rattle.solving.specs.Interpolation.{interpolation_matrix}
use Rattle.solving.proofs.ThroughLaws.{put_parameter}
use Rattle.solving.proofs.through.interpolation_matrix.Given as goal

abbrev pub invariant-loop-j : goal.invariant-loop-j
invariant-loop-j l = each l.j (length l.table.firsts.now) (put_parameter (table_of l.table)) l.band ≡ interpolation_matrix (table_of l.table)
