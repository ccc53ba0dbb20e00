-- Before turn r the first r lines are done, and the other lines are as they were. Assumes nothing.
use Prim.Native.Nat.{ℕ}
use Rattle.cholesky.specs.Together.{MakesLine}
use Rattle.cholesky.proofs.TogetherLaws.{DoneTo}
use Rattle.cholesky.proofs.together.each_line.Given as goal

abbrev pub invariant-loop-r : goal.invariant-loop-r
invariant-loop-r g l = (f : _) → MakesLine l.n (goal.F-post g l.step) f → DoneTo l.n l.lines (λ (r : ℕ). f) l.initial.poles l.poles l.r
