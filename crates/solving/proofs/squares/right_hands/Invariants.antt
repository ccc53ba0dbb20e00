-- Before turn r the right-hand sides of the first r lines stand in their places, and the others are as they were. Assumes nothing.
use mathlib.Core.List.{List}
use Prim.Native.Nat.{ℕ}
use lib.Ieee.{Float}
use Rattle.cholesky.proofs.TogetherLaws.{DoneTo}
use Rattle.knots.specs.OnLines.{on_lines}
use Rattle.tables.specs.Layout.{table_of}
use Rattle.solving.specs.LeastSquares.{right_hand}
use Rattle.solving.proofs.squares.right_hands.Given as goal

abbrev pub invariant-loop-r : goal.invariant-loop-r
invariant-loop-r l = DoneTo l.table.poles l.lines.lines (λ (r : ℕ) (x : List Float). right_hand (table_of l.table) l.table.poles (on_lines l.lines r)) l.initial.poles l.poles l.r
