-- The matrix is made and factored, and where that goes through the lines are solved, and the poles looked through. Assumes nothing.
use Rattle.std.proofs.Common.{rules}
use Rattle.solving.proofs.SquareLaws.{none_squared, some_squared}
use Rattle.solving.proofs.squares.least_squares.Goals as goal

pub returns-in_err-factor_symmetric_band : goal.returns-in_err-factor_symmetric_band
returns-in_err-factor_symmetric_band c = search (rules, none_squared)

pub returns : goal.returns
returns c = some_squared _ _ _ _ _ _ (search rules) c.factor_symmetric_band.ensures _ (search rules) (search rules) _ (search rules)
