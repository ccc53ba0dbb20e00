-- No span that is passed has a width, and the number falls. Assumes nothing.
use Prim.Native.Nat.{◌-◌, ◌≤◌}
use mathlib.Core.Path.{◌≡◌}
use Rattle.bspline.specs.Spans.{last_with, wide}
use Rattle.bspline.proofs.spans.step_back.Given as goal

abbrev pub invariant-loop-span : goal.invariant-loop-span
invariant-loop-span l = (l.lo ≤ l.span) × (l.span ≤ l.from) × (last_with (wide l.flat) l.lo (l.from - l.lo) ≡ last_with (wide l.flat) l.lo (l.span - l.lo))

abbrev pub decreases-loop-span : goal.decreases-loop-span
decreases-loop-span l = l.span
