-- The invariant: what `sink_from` makes of the present list from place i down is what it makes of the first list from place k down. Assumes nothing.
use Rattle.std.proofs.Common.{◌≡◌, ◌≤◌, length}
use Rattle.geometry.proofs.SortLaws.{sink_from}
use Rattle.geometry.proofs.order.sink.Given as goal

abbrev pub invariant-loop-i : goal.invariant-loop-i
invariant-loop-i l = (length l.list ≡ length l.initial.list) × ((l.i ≤ l.k) × (sink_from l.i l.v l.list ≡ sink_from l.k l.v l.initial.list))

abbrev pub decreases-loop-i : goal.decreases-loop-i
decreases-loop-i l = l.i
