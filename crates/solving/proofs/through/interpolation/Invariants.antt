-- Before turn r the poles of the first r lines stand in their places, and the others are as they were. Assumes nothing.
use mathlib.Core.List.{List}
use Prim.Native.Nat.{ℕ, ◌-◌}
use lib.ListN.{length}
use lib.Ieee.{Float}
use Rattle.cholesky.proofs.TogetherLaws.{DoneTo}
use Rattle.knots.specs.OnLines.{on_lines}
use Rattle.solving.specs.Interpolation.{line_through}
use Rattle.solving.proofs.through.interpolation.Given as goal

abbrev pub invariant-loop-r : goal.invariant-loop-r
invariant-loop-r l =
    DoneTo (length l.table.firsts.now) l.lines.lines (λ (r : ℕ) (x : List Float). line_through (l.table.degree - 1) (length l.table.firsts.now) l.band (on_lines l.lines r)) l.initial.poles l.poles l.r
