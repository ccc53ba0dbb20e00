-- Of the old values i are left, and of the new ones those that the iterator still has: behind them stands what sorting the new onto the old puts last (Merging).
-- Assumes nothing.
use Rattle.std.proofs.Common.{◌≡◌, ◌+◌, length, take}
use Rattle.std.specs.Iterator.Adapters.{enumerate_source, enumerate_count, rev_source}
use Rattle.std.specs.Slice.Iter.{iter_rest}
use Rattle.refinement.proofs.MergeLaws.{FrontOf, Merging}
use Rattle.refinement.proofs.merge.merge_back.Given as goal

abbrev pub invariant-loop-j : goal.invariant-loop-j
invariant-loop-j l =
    let left = iter_rest (enumerate_source (rev_source l.j-iterator)) in
    (enumerate_count (rev_source l.j-iterator) ≡ 0) × FrontOf l.fresh left × Merging (take l.l l.fn.flat) l.fresh l.fn.flat l.flat l.i (length left)

-- one more new value is in hand
abbrev pub invariant-loop-flat : goal.invariant-loop-flat
invariant-loop-flat l = Merging (take l.l l.fn.flat) l.fresh l.fn.flat l.flat l.i (l.j + 1)

abbrev pub decreases-loop-flat : goal.decreases-loop-flat
decreases-loop-flat l = l.i
