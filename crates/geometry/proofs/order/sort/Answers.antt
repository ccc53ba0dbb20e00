-- The invariant: the first k places are sorted, and putting the others into them one by one gives the sorted list. Assumes nothing.
use Rattle.std.proofs.Common.{[], sym, refl, ◌∙◌, arith}
use Rattle.geometry.specs.Order.{sorted}
use Rattle.geometry.proofs.SortLaws.{ascending-inserted, sort-turn, onto-next, onto_done}
use Rattle.geometry.proofs.order.sort.Goals as goal

pub loop-k-init : goal.loop-k-init
unfolding sorted
loop-k-init c = (refl, (omega arith, (tt, refl)))

pub loop-k-preserved : goal.loop-k-preserved
loop-k-preserved c =
    let turn = sort-turn c.loop-k.list c.sink.new.list c.loop-k.k (omega arith) c.sink.ensures in (
      omega arith,
      (
        omega arith,
        (
          rw turn.0 (ascending-inserted _ _ c.loop-k.invariant.1.1.0),
          rw (turn.0, turn.1) (sym (onto-next _ c.loop-k.list c.loop-k.k (omega arith)) ∙ c.loop-k.invariant.1.1.1),
        ),
      ),
    )

pub returns : goal.returns
returns c = sym (onto_done [] c.loop-k.list c.loop-k.k (omega arith)) ∙ c.loop-k.invariant.1.1.1
