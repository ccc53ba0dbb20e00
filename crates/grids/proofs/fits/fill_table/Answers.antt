-- The table of the knots that stand there, and the same fit. Assumes nothing.
use Rattle.std.proofs.Common.{rules}
use Rattle.grids.proofs.FitLaws.{table_stands}
use Rattle.grids.proofs.fits.fill_table.Goals as goal

pub returns : goal.returns
returns c = search (rules, table_stands)
