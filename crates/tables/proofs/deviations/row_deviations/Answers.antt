-- The invariant: each column holds the largest square over the first i rows, and the measures are those of their squares. Assumes nothing.
use native.Mathlib.Omega.{arith}
use mathlib.Core.Path.{◌≡◌, ap}
use Prim.Native.Nat.{ℕ, ◌+◌, ◌*◌}
use lib.ListN.{length}
use lib.Ieee.{Float}
use Rattle.geometry.specs.Points.{squared_distance, point_at}
use Rattle.tables.specs.BasisTable.{table_point}
use Rattle.tables.specs.Layout.{table_of}
use Rattle.tables.proofs.GridLaws.{both_few, rows_start, rows-turn, rows_done}
use Rattle.tables.proofs.deviations.row_deviations.Goals as goal

pub loop-i-init : goal.loop-i-init
loop-i-init c = rows_start _ _ _ _ _ c.requires.for_squares (c.fill.ensures.after (λ y e. e)) c.none-total.ensures

pub with_all-total-requires : goal.with_all-total-requires
with_all-total-requires c =
    let o = c.loop-i in
    let long : length o.squares ≡ length c.args.table.now.firsts.now = omega (arith, c.requires.for_squares) in
    omega (arith, both_few _ _ c.args.rows o.i _ _ o.total c.raise_squares.result (omega arith) long o.invariant.measures c.raise_squares.ensures.value, c.requires.for_points, c.well_formed)

pub loop-i-preserved : goal.loop-i-preserved
loop-i-preserved c =
    let a = c.args in
    let o = c.loop-i in
    let r = c.raise_squares.ensures in
    let long : length o.squares ≡ length a.table.now.firsts.now = omega (arith, c.requires.for_squares) in
    let same = ap {B = ℕ → Float} (λ w j. squared_distance a.factor (table_point (table_of a.table.now) a.poles.now (o.i * a.table.now.poles) j) (point_at a.points.now (o.i * w + j))) c.count.ensures in
    rows-turn _ _ _ o.i _ o.squares _ o.total c.raise_squares.result _ o.invariant long same r.squares_after r.value c.with_all-total.ensures

pub returns : goal.returns
returns c =
    let a = c.args in
    let z : c.loop-i.i ≡ a.rows = omega arith in
    rows_done a.factor (table_of a.table.now) a.table.now.poles a.poles.now a.points.now a.rows _ _ c.loop-i.total _ c.requires.for_squares (rw z at c.loop-i.invariant) c.rooted.ensures
