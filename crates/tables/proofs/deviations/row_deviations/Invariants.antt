-- The invariant: each column holds the largest square over the first i rows, and the measures are those of their squares. Assumes nothing.
use lib.ListN.{length}
use Rattle.tables.specs.Layout.{table_of}
use Rattle.tables.proofs.GridLaws.{RowsTo, row_square}
use Rattle.tables.proofs.deviations.row_deviations.Given as goal

abbrev pub invariant-loop-i : goal.invariant-loop-i
invariant-loop-i l = RowsTo (row_square l.factor (table_of l.table) l.table.poles l.poles l.points) (length l.table.firsts.now) l.i l.squares l.total
