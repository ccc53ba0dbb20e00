-- The loop's invariant: `largest` is the fold over the rows passed. Assumes nothing.
use mathlib.Core.Path.{◌≡◌}
use Rattle.cholesky.specs.Cholesky.{largest_diagonal}
use Rattle.cholesky.proofs.largest_diagonal.Given as goal

abbrev pub invariant-loop-i : goal.invariant-loop-i
invariant-loop-i l = l.largest ≡ largest_diagonal l.h l.i l.lower
