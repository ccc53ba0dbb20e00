-- What stands there is what the lines passed come to. Assumes nothing.
use Rattle.std.proofs.Common.{◌≡◌, ◌≤◌}
use Rattle.knots.specs.Parameters.{added_lines}
use Rattle.knots.specs.OnLines.{on_lines}
use Rattle.knots.proofs.parameters.add_lines.Given as goal

abbrev pub invariant-loop-r : goal.invariant-loop-r
invariant-loop-r l = (l.used ≤ l.r) × (record { used = l.used; sums = l.sums } ≡ added_lines l.metric l.r l.lines.count (on_lines l.lines))
