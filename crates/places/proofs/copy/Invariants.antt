-- The invariant: the first k places are laid with those of `from`; all of them are `from` itself. Assumes nothing.
use mathlib.Core.Path.{◌≡◌}
use Prim.Native.Nat.{ℕ, ◌-◌, ◌≤◌}
use lib.ListN.{length, get_or}
use lib.Ieee.{nan}
use Rattle.places.specs.Places.{laid}
use Rattle.places.proofs.copy.Given as goal

abbrev pub invariant-loop-k : goal.invariant-loop-k
invariant-loop-k l = (l.k ≤ l.k-end) × (l.k-end ≡ length l.from) × (length l.to ≡ length l.initial.to) × (l.to ≡ laid 0 l.k (λ (j : ℕ). get_or l.from j nan) l.initial.to)

abbrev pub decreases-loop-k : goal.decreases-loop-k
decreases-loop-k l = l.k-end - l.k
