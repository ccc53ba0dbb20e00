-- Refinement leaves its fit in the regions. Assumes nothing.
use Rattle.std.proofs.Common.{rules}
use Rattle.making.proofs.MakeLaws.{refined_met}
use Rattle.making.proofs.make_within.Goals as goal

pub returns-in-Some : goal.returns-in-Some
returns-in-Some c = search (rules, refined_met)
