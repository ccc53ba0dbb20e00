-- The invariant: the first k places hold the larger of what stood there and the square, and the measures are those of the squares. Assumes nothing.
use mathlib.Core.Path.{◌≡◌}
use Rattle.places.specs.Places.{laid, list_of}
use Rattle.geometry.specs.Doubles.{at, larger}
use Rattle.tables.specs.Measures.{squares_measured}
use Rattle.tables.specs.Squares.{square_beside}
use Rattle.tables.proofs.deviations.Beside.raise_squares.Given as goal

abbrev pub invariant-loop-k : goal.invariant-loop-k
invariant-loop-k l = (l.squares ≡ laid 0 l.k (λ k. larger (at l.fn.squares k) (square_beside l.self k)) l.fn.squares) × (l.total ≡ squares_measured (list_of l.k (square_beside l.self)))
