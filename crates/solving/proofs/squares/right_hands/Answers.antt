-- Before turn r the right-hand sides of the first r lines stand in their places, and the others are as they were. Assumes nothing.
use mathlib.Core.Path.{◌≡◌}
use mathlib.Core.List.{List}
use Prim.Native.Nat.{ℕ, ◌*◌}
use native.Mathlib.Omega.{arith}
use lib.Ieee.{Float}
use Rattle.cholesky.proofs.TogetherLaws.{done_next}
use Rattle.knots.specs.OnLines.{on_lines}
use Rattle.tables.specs.Layout.{table_of}
use Rattle.solving.specs.LeastSquares.{right_hand}
use Rattle.solving.proofs.SquareLaws.{length-right}
use Rattle.solving.proofs.squares.right_hands.Goals as goal

pub loop-r-preserved : goal.loop-r-preserved
loop-r-preserved c =
    let a = c.args in
    let l = c.loop-r in
    let t = a.table.now in
    let f : ℕ → List Float → List Float = λ r x. right_hand (table_of t) t.poles (on_lines a.lines r) in
    let from : l.r * (3 * t.poles) ≡ 3 * (l.r * t.poles) = omega arith in
    done_next t.poles a.lines.lines f a.poles.now (λ k x e. length-right (table_of t) t.poles (on_lines a.lines k)) (omega (arith, c.requires.places)) l.poles _ l.r l.invariant c.loop-r-test.true
    (rw (c.right_hand.ensures, c.line.ensures.there, from))
