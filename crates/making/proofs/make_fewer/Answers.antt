-- Where the search below finds no fit, what is put back is the one that refinement gave. Assumes nothing.
use Rattle.std.proofs.Common.{rules}
use Rattle.making.proofs.SavedLaws.{fewer_missed, fewer_met}
use Rattle.making.proofs.make_fewer.Goals as goal

pub returns-in-None : goal.returns-in-None
returns-in-None c = search (rules, fewer_missed)

pub returns-in-Some : goal.returns-in-Some
returns-in-Some c = search (rules, fewer_met)
