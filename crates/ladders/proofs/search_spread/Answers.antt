-- Demand 3 follows from the call's equations. Assumes nothing.
use Rattle.ladders.proofs.LadderLaws.{searches-spread}
use Rattle.ladders.proofs.search_spread.Goals as goal

pub returns-clause-call : goal.returns-clause-call
returns-clause-call c = search (searches-spread)
