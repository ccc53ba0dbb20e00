-- The invariant: the first i rows' largest squares stand in their places, and the measures are those of their squares. Assumes nothing.
use mathlib.Core.Path.{◌≡◌, refl}
use native.Mathlib.Omega.{arith}
use lib.ListN.{length}
use Rattle.tables.specs.BasisTable.{parameter_count}
use Rattle.tables.specs.Layout.{table_of}
use Rattle.tables.proofs.GridLaws.{both_few, grid_start, grid-turn, grid_done}
use Rattle.tables.proofs.deviations.grid_deviations.Goals as goal

pub loop-i-init : goal.loop-i-init
loop-i-init c = grid_start _ _ _ _ _ _ _ _ _ c.none-total.ensures

pub with_all-total-requires : goal.with_all-total-requires
with_all-total-requires c =
    let a = c.args in
    let o = c.loop-i in
    let row = c.measure_squares-measured in
    omega (arith, both_few _ _ (length a.u.now.firsts.now) o.i _ _ o.total row.result (omega arith) refl o.invariant.measures row.ensures, c.requires.for_points, c.well_formed)

pub loop-i-preserved : goal.loop-i-preserved
loop-i-preserved c =
    let o = c.loop-i in
    let row = c.measure_squares-measured in
    grid-turn _ _ _ _ _ _ _ o.i _ _ o.squares c.curve_poles.new.curve o.total row.result _ o.invariant c.curve_poles.ensures c.count.ensures row.ensures c.with_all-total.ensures

pub returns : goal.returns
returns c =
    let a = c.args in
    let u = table_of a.u.now in
    let z : c.loop-i.i ≡ parameter_count u = omega arith in
    grid_done a.factor u (table_of a.v.now) a.v.now.poles a.u.now.poles a.poles.now a.points.now (parameter_count u) a.squares.now _ c.loop-i.total _ refl c.requires.columns.table.poles c.requires.for_squares (rw z at c.loop-i.invariant) c.rooted.ensures
