-- Before each turn the rows that are left make of each line what all of them make of the line at the start. Assumes nothing.
use Prim.Native.Nat.{ℕ}
use Rattle.places.specs.Loops.{down}
use Rattle.cholesky.specs.Cholesky.{back_row}
use Rattle.cholesky.proofs.TogetherLaws.{Toward}
use Rattle.cholesky.proofs.together.back_together.Given as goal

abbrev pub invariant-loop-i : goal.invariant-loop-i
invariant-loop-i l = Toward l.n l.lines (λ (r : ℕ). down l.i (back_row l.h l.n l.lower)) (λ (r : ℕ). down l.n (back_row l.h l.n l.lower)) l.initial.poles l.poles
