-- A fit that stands is the one that is told. Assumes nothing.
use Rattle.std.proofs.Common.{rules}
use Rattle.grids.proofs.FitLaws.{hands_direction}
use Rattle.grids.proofs.output.hand_direction.Goals as goal

pub returns : goal.returns
returns c = search (rules, hands_direction)
