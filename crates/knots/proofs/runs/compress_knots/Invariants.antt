-- k runs are listed, and the next starts at `start` and has the values passed from there on. Assumes nothing.
use Rattle.std.proofs.Common.{◌≤◌, ◌<◌, length}
use Rattle.knots.proofs.RunLaws.{Closed, RunsTo}
use Rattle.knots.proofs.runs.compress_knots.Given as goal

abbrev pub invariant-loop-i : goal.invariant-loop-i
invariant-loop-i l =
    (l.k ≤ l.start) × (l.start < l.i) × (l.start ≤ length l.flat) × Closed l.flat l.initial.knots l.knots l.initial.mults l.mults l.start l.k × RunsTo l.flat l.start l.i
