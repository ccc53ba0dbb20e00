-- Least squares on the spread knots of the chosen count is the definition's fit. Assumes nothing.
use Rattle.std.proofs.Common.{rules}
use Rattle.making.proofs.MakeLaws.{chosen_fitted}
use Rattle.making.proofs.make_chosen.Goals as goal

pub returns : goal.returns
returns c = search (rules, chosen_fitted, c.in_ok-m.ensures.ok_part)
