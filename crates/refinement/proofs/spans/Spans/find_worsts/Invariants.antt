-- The loop's invariant: the worst deviations of the first s spans stand at the front. Span s starts at place s or after it, so its squares are still there, and the
-- root of the largest of them is the largest of their roots. Assumes nothing.
use Rattle.std.proofs.Common.{◌≡◌, length}
use Rattle.places.specs.Places.{list_of}
use Rattle.places.proofs.GatheredLaws.{front}
use Rattle.geometry.specs.Root.{roots_of}
use Rattle.refinement.specs.Refinement.{start_of, worst_of}
use Rattle.refinement.proofs.spans.Spans.find_worsts.Given as goal

abbrev pub invariant-loop-s : goal.invariant-loop-s
invariant-loop-s l =
    let ends = l.self.ends.now in
    (l.start ≡ start_of ends l.s)
    × ((length l.squares ≡ length l.initial.squares)
    × (l.squares ≡ front (list_of l.s (worst_of (roots_of l.initial.squares) ends)) l.initial.squares))
