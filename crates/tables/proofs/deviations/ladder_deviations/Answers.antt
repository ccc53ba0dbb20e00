-- The squares stand in their places. Assumes nothing.
use Rattle.tables.specs.Layout.{table_of}
use Rattle.tables.proofs.MeasureLaws.{ladder_done}
use Rattle.tables.proofs.deviations.ladder_deviations.Goals as goal

pub returns : goal.returns
returns c =
    let a = c.args in
    let laid = c.lay_squares.ensures in
    ladder_done a.factor (table_of a.table.now) a.poles.now a.points.now _ _ c.lay_squares.result c.rooted.result c.requires.for_squares laid.value laid.squares_after c.rooted.ensures
