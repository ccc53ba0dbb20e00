-- Demand 3 follows from the call's equations. Assumes nothing.
use Rattle.ladders.proofs.LadderLaws.{approximates-within}
use Rattle.ladders.proofs.approximate_within.Goals as goal

pub returns-clause-call : goal.returns-clause-call
returns-clause-call c = search (approximates-within)
