-- The fit that stands there is the one that is handed out. Assumes nothing.
use Rattle.ladders.proofs.RunLaws.{hands_standing}
use Rattle.ladders.proofs.hand_standing.Goals as goal

pub returns : goal.returns
returns c = search (hands_standing)
