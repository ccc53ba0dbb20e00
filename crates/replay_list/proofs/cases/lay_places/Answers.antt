-- The places are laid in the part that is lent, and so in the whole. Assumes nothing.
use Rattle.std.proofs.Common.{arith}
use Rattle.replay_list.proofs.Loops.{laid_lent}
use Rattle.replay_list.proofs.cases.lay_places.Goals as goal

pub returns : goal.returns
returns c = laid_lent c.args.case.count c.loop-k.k _ c.args.points.now _ (omega arith) (omega arith) c.loop-k.invariant
