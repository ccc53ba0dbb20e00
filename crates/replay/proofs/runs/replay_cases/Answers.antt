-- A case more was replayed, and it differs or not. Assumes nothing.
use Rattle.std.proofs.Common.{arith}
use Rattle.std.proofs.lemmas.Bool.{not-true, not-false}
use Rattle.replay.specs.Runs.{none, same, other}
use Rattle.replay.proofs.runs.replay_cases.Goals as goal
use Rattle.replay.proofs.runs.replay_cases.Goals.{then-not-turn, else-not-turn}

pub loop-k-init : goal.loop-k-init
loop-k-init c = record { few = omega arith; passed = none }

pub loop-k-preserved : goal.loop-k-preserved
loop-k-preserved c =
    let h = c.loop-k.invariant in
    elim c.if-not-turn.branch [
      | then-not-turn w ↦ record {
        few = omega arith;
        passed = rw (w.different-is, w.first-is, w.or-first.ensures) (other c.in_ok-turn.turn h.passed c.in_ok-turn.ensures (not-true _ w.if-not-turn.true));
      }
      | else-not-turn w ↦ record {
        few = omega arith;
        passed = rw (w.different-is, w.first-is) (same c.in_ok-turn.turn h.passed c.in_ok-turn.ensures (not-false _ w.if-not-turn.false));
      }
    ]
