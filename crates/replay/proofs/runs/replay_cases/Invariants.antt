-- The invariant: k cases were replayed. Assumes nothing.
use Rattle.std.proofs.Common.{◌≤◌}
use Rattle.replay.specs.Runs.{Passed}
use Rattle.replay.proofs.runs.replay_cases.Given as goal

abbrev pub invariant-loop-k : goal.invariant-loop-k
invariant-loop-k l = record { few : l.different ≤ l.k; passed : Passed l.words l.k l.start l.different l.first }
