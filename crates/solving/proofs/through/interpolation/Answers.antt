-- Before turn r the poles of the first r lines stand in their places, and the others are as they were. Assumes nothing.
use mathlib.Core.Path.{◌≡◌}
use mathlib.Core.List.{List}
use Prim.Native.Nat.{ℕ, ◌-◌, ◌*◌}
use native.Mathlib.Omega.{arith}
use lib.ListN.{length}
use lib.Ieee.{Float}
use Rattle.cholesky.proofs.TogetherLaws.{done_next}
use Rattle.knots.specs.OnLines.{on_lines}
use Rattle.tables.specs.Layout.{table_of}
use Rattle.solving.specs.Interpolation.{line_through}
use Rattle.solving.proofs.ThroughLaws.{length-line, lines_through}
use Rattle.solving.proofs.through.interpolation.Goals as goal

pub loop-r-preserved : goal.loop-r-preserved
loop-r-preserved c =
    let a = c.args in
    let l = c.loop-r in
    let n : ℕ = length a.table.now.firsts.now in
    let h : ℕ = a.table.now.degree - 1 in
    let band : List Float = c.factor_band.new.band in
    let f : ℕ → List Float → List Float = λ r x. line_through h n band (on_lines a.lines r) in
    let from : l.r * (3 * n) ≡ 3 * (l.r * n) = omega arith in
    done_next n a.lines.lines f a.poles.now (λ k x e. length-line h n band (on_lines a.lines k)) (omega (arith, c.requires.lines.places)) l.poles _ l.r l.invariant c.loop-r-test.true
    (rw (c.interpolated_line.ensures, c.line.ensures.as_many, c.line.ensures.there, c.requires.lines.points, c.count-n.ensures, from))

pub returns : goal.returns
returns c =
    let a = c.args in
    let l = c.loop-r in
    lines_through (table_of a.table.now) a.lines.lines l.r (on_lines a.lines) c.factor_band.new.band a.poles.now l.poles
    (rw (c.factor_band.ensures, c.count-n.ensures, c.interpolation_matrix.ensures)) c.requires.lines.places (omega arith) l.invariant
