-- What the loops over the rows cite. Assumes nothing.
use Rattle.places.proofs.LoopLaws.{while_done, while_on, while_off}
use Rattle.places.proofs.PlaceLaws.{row_inside}
use Rattle.geometry.proofs.Folds.{largest-none, largest-more}

-- one diagonal entry more
pub ruleset diagonals = (largest-none, largest-more, row_inside)

-- a loop that may stop: where it does, a turn, and its end
pub ruleset stops = (while_off, while_on, while_done)
