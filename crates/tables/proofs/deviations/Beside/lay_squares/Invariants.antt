-- The invariant: the first k squares stand in their places, and the measures are theirs. Assumes nothing.
use mathlib.Core.Path.{◌≡◌}
use Rattle.places.specs.Places.{laid, list_of}
use Rattle.tables.specs.Measures.{squares_measured}
use Rattle.tables.specs.Squares.{square_beside}
use Rattle.tables.proofs.deviations.Beside.lay_squares.Given as goal

abbrev pub invariant-loop-k : goal.invariant-loop-k
invariant-loop-k l = (l.squares ≡ laid 0 l.k (square_beside l.self) l.initial.squares) × (l.total ≡ squares_measured (list_of l.k (square_beside l.self)))
