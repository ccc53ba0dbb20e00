-- The invariant: the first k places are laid. Assumes nothing.
use Rattle.std.proofs.Common.{◌≡◌}
use Rattle.places.specs.Places.{laid}
use Rattle.replay_list.specs.Listed.{place_at}
use Rattle.replay_list.proofs.cases.lay_places.Given as goal

abbrev pub invariant-loop-k : goal.invariant-loop-k
invariant-loop-k l = l.x-items ≡ laid 0 l.k (place_at l.case.given.now) l.initial.x-items
