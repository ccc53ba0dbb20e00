-- The invariant: the runs of the knots passed stand in the first places, and as many places are left as the multiplicities that follow need. Assumes nothing.
use lib.ListN.{length}
use Rattle.bspline.proofs.ReaderLaws.{FlatTo}
use Rattle.bspline.proofs.reader.flat_knots.Given as goal

abbrev pub invariant-loop-knot : goal.invariant-loop-knot
invariant-loop-knot l = FlatTo l.knots l.mults l.fn.out l.out l.end (length l.yielded)
