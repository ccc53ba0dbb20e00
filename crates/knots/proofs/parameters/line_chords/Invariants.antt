-- Before turn k the first k chords stand in their places, summed and compared with the bound. Assumes nothing.
use Rattle.knots.specs.Parameters.{chords}
use Rattle.knots.specs.OnLines.{on_line}
use Rattle.knots.proofs.ParameterLaws.{Chorded}
use Rattle.knots.proofs.parameters.line_chords.Given as goal

abbrev pub invariant-loop-k : goal.invariant-loop-k
invariant-loop-k l = Chorded (chords l.factor l.line.count (on_line l.line)) l.k l.out l.length l.confused
