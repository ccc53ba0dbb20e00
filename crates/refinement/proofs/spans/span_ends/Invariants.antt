-- The loop's invariant (Ending): the ends gathered so far stand at the front, and s is how many they are; no place at or after k has been written. Assumes nothing.
use Rattle.refinement.proofs.SpanLaws.{Ending}
use Rattle.refinement.proofs.spans.span_ends.Given as goal

abbrev pub invariant-loop-k : goal.invariant-loop-k
invariant-loop-k l = Ending l.initial.firsts l.firsts l.s l.k
