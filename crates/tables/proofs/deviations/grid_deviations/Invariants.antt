-- The invariant: the first i rows' largest squares stand in their places, and the measures are those of their squares. Assumes nothing.
use Rattle.tables.specs.Layout.{table_of}
use Rattle.tables.proofs.GridLaws.{GridTo}
use Rattle.tables.proofs.deviations.grid_deviations.Given as goal

abbrev pub invariant-loop-i : goal.invariant-loop-i
invariant-loop-i l = GridTo l.factor (table_of l.u) (table_of l.v) l.v.poles l.u.poles l.poles l.points l.fn.squares l.i l.squares l.total
