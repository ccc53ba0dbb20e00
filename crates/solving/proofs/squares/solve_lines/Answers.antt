-- The right-hand sides stand one after the other, and the substitution makes the poles of them, of one line or of several. Assumes nothing.
use mathlib.Core.Path.{◌∙◌, ap}
use mathlib.Core.List.{List}
use Prim.Native.Nat.{ℕ}
use native.Mathlib.Omega.{arith}
use lib.Ieee.{Float}
use Rattle.cholesky.specs.Cholesky.{substitute_symmetric_band}
use Rattle.cholesky.proofs.TogetherLaws.{each_then}
use Rattle.knots.specs.OnLines.{on_lines}
use Rattle.tables.specs.Layout.{table_of}
use Rattle.solving.specs.LeastSquares.{right_hand}
use Rattle.solving.proofs.SquareLaws.{lines_fill, one_line}
use Rattle.solving.proofs.squares.solve_lines.Goals as goal

pub returns-then-lines-eq1 : goal.returns-then-lines-eq1
returns-then-lines-eq1 c =
    let a = c.args in
    let t = a.table.now in
    let g : List Float → List Float = substitute_symmetric_band t.degree t.poles a.lower.now in
    let f : ℕ → List Float = λ r. right_hand (table_of t) t.poles (on_lines a.lines r) in
    c.substitute_symmetric_band.ensures
    ∙ ap g (lines_fill t.poles a.lines.lines f a.poles.now _ c.requires.has_squares.places c.right_hands.ensures)
    ∙ one_line a.lines.lines f g (omega arith)

pub returns : goal.returns
returns c =
    let a = c.args in
    let t = a.table.now in
    let f : ℕ → List Float = λ r. substitute_symmetric_band t.degree t.poles a.lower.now (right_hand (table_of t) t.poles (on_lines a.lines r)) in
    lines_fill t.poles a.lines.lines f a.poles.now _ c.requires.has_squares.places (each_then c.right_hands.ensures c.substitute_together.ensures)
