-- The table of the knots, by its rows. Assumes nothing.
use mathlib.Core.Path.{refl}
use Rattle.tables.proofs.TableLaws.{filled}
use Rattle.tables.proofs.basis_table.TablePlaces.fill.Goals as goal

pub returns-clause-filled : goal.returns-clause-filled
returns-clause-filled c = let e = c.fill_table.ensures in filled _ _ _ _ c.requires refl refl e.firsts_after e.values_after
