-- The invariant: the measures are those of the first k squares. Assumes nothing.
use mathlib.Core.Path.{◌≡◌}
use Rattle.places.specs.Places.{list_of}
use Rattle.tables.specs.Measures.{squares_measured}
use Rattle.tables.specs.Squares.{square_beside}
use Rattle.tables.proofs.deviations.Beside.measure_squares.Given as goal

abbrev pub invariant-loop-k : goal.invariant-loop-k
invariant-loop-k l = l.total ≡ squares_measured (list_of l.k (square_beside l.self))
