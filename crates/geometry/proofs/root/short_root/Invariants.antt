-- `root::short_root` meets its contract. The invariant: q is at least the root. The measure is q. Assumes nothing.
use Rattle.std.proofs.Common.{◌+◌, ◌*◌, ◌^◌, ◌<◌}
use Rattle.geometry.proofs.root.short_root.Given as goal

abbrev pub invariant-loop-q : goal.invariant-loop-q
invariant-loop-q l = (l.m < (l.q + 1) * (l.q + 1)) × (l.q < 2 ^ 29)

abbrev pub decreases-loop-q : goal.decreases-loop-q
decreases-loop-q l = l.q
