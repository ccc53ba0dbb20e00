-- Of the old values i are left, and of the new ones those that the iterator still has: behind them stands what sorting the new onto the old puts last (Merging).
-- Assumes nothing.
use Rattle.std.proofs.Common.{◌∙◌, rules}
use Rattle.refinement.proofs.MergeLaws.{front_less, merge-new, merge_old, merge_end}
use Rattle.refinement.proofs.merge.merge_back.Goals as goal

pub loop-flat-preserved : goal.loop-flat-preserved
loop-flat-preserved c =
    let a = c.args in
    let o = c.loop-flat in
    let s = c.in-Some.ensures.steps in
    let (_, _, v) = front_less a.fresh.now _ _ c.in-Some.v.now c.in-Some.j _ c.loop-j.invariant.1 s.1.0 c.loop-j.invariant.0 s.1.1 in
    merge_old a.flat.now a.l a.fresh.now c.requires.room c.requires.ascending.0 c.requires.ascending.1 o.flat o.i c.in-Some.j o.invariant (rw v at c.goes_last.ensures.not_last c.loop-flat-test.true)

pub loop-j-preserved : goal.loop-j-preserved
loop-j-preserved c =
    let a = c.args in
    let o = c.loop-flat in
    let s = c.in-Some.ensures.steps in
    let (f, e, v) = front_less a.fresh.now _ _ c.in-Some.v.now c.in-Some.j _ c.loop-j.invariant.1 s.1.0 c.loop-j.invariant.0 s.1.1 in (
      s.0 ∙ c.loop-j.invariant.0,
      f,
      rw (← e, v) (merge-new a.flat.now a.l a.fresh.now c.requires.room c.requires.ascending.0 c.requires.ascending.1 o.flat o.i c.in-Some.j o.invariant (rw v at c.goes_last.ensures.last c.loop-flat-test.false)),
    )

pub returns : goal.returns
returns c =
    let o = c.loop-j in
    merge_end c.args.flat.now c.args.l c.args.fresh.now c.requires.room o.flat o.i _ o.invariant.2 (search rules)
