-- The search's states are those of its definition. Assumes nothing.
use Rattle.std.proofs.Common.{◌≡◌}
use Rattle.search.specs.Search.{width}
use Rattle.fitting.proofs.CountLaws.{Searching}
use Rattle.fitting.proofs.counts.fit_with_fewest_poles.Given as goal

abbrev pub invariant-loop-m : goal.invariant-loop-m
invariant-loop-m l = Searching l.job l.tolerance l.last l.s l.at × (l.at.fresh.now ≡ l.fn.at.fresh.now)

abbrev pub decreases-loop-m : goal.decreases-loop-m
decreases-loop-m l = width l.s
