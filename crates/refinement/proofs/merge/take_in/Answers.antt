-- Each list is sorted in its own place, and the two are merged. Assumes nothing.
use Rattle.std.proofs.Common.{◌∙◌, take, arith}
use Rattle.geometry.proofs.SortLaws.{ascending-sorted}
use Rattle.refinement.proofs.MergeLaws.{placed-front, merged}
use Rattle.refinement.proofs.merge.take_in.Goals as goal

pub merge_back-requires-clause-ascending : goal.merge_back-requires-clause-ascending
merge_back-requires-clause-ascending c =
    let a = c.args in
    rw (c.sort.ensures, c.sort-2.ensures, placed-front a.flat.now a.l (omega arith)) (ascending-sorted (take a.l a.flat.now), ascending-sorted a.fresh.now)

pub returns-clause-all : goal.returns-clause-all
returns-clause-all c = let a = c.args in c.merge_back.ensures ∙ rw (c.sort.ensures, c.sort-2.ensures) (merged a.flat.now a.l (omega arith) a.fresh.now)
