-- Before turn i the rows that are left make of each line what all of them make of the line at the start. Assumes nothing.
use Prim.Native.Nat.{ℕ}
use Rattle.places.specs.Loops.{each}
use Rattle.cholesky.specs.Cholesky.{forward_row}
use Rattle.cholesky.proofs.TogetherLaws.{Toward}
use Rattle.cholesky.proofs.together.forward_together.Given as goal

abbrev pub invariant-loop-i : goal.invariant-loop-i
invariant-loop-i l = Toward l.n l.lines (λ (r : ℕ). each l.i l.n (forward_row l.h l.lower)) (λ (r : ℕ). each 0 l.n (forward_row l.h l.lower)) l.initial.poles l.poles
