-- The invariant: the first k places are sorted, and putting the others into them one by one gives the sorted list. Assumes nothing.
use Rattle.std.proofs.Common.{◌≡◌, ◌-◌, ◌≤◌, length, take, drop}
use Rattle.geometry.specs.Order.{sorted_onto, sorted, Ascending}
use Rattle.geometry.proofs.order.sort.Given as goal

abbrev pub invariant-loop-k : goal.invariant-loop-k
invariant-loop-k l = (length l.list ≡ length l.initial.list) × ((l.k ≤ length l.list) × (Ascending (take l.k l.list) × (sorted_onto (take l.k l.list) (drop l.k l.list) ≡ sorted l.initial.list)))

abbrev pub decreases-loop-k : goal.decreases-loop-k
decreases-loop-k l = length l.initial.list - l.k
