-- The invariant: what `sink_from` makes of the present list from place i down is what it makes of the first list from place k down. Assumes nothing.
use Rattle.std.proofs.Common.{◌≡◌, ◌-◌, ◌<◌, ◌≤◌, get_or, sym, refl, ◌∙◌, arith, length-set}
use lib.Ieee.{nan}
use Rattle.geometry.specs.Order.{rank_of}
use Rattle.geometry.proofs.SortLaws.{sink_stop, sink_on, sink-none, sink_all}
use Rattle.geometry.proofs.order.sink.Goals as goal

pub loop-i-init : goal.loop-i-init
loop-i-init c = (refl, (omega arith, refl))

pub returns-then-rank-mine : goal.returns-then-rank-mine
returns-then-rank-mine c =
    let low : rank_of (get_or c.loop-i.list (c.loop-i.i - 1) nan) ≤ rank_of (get_or c.args.list.now c.args.k nan) =
    rw (c.rank.ensures, c.rank-mine.ensures) at c.if-rank-mine.true in
    sym (sink_stop c.loop-i.i (c.loop-i.i - 1) _ c.loop-i.list (omega arith) low) ∙ c.loop-i.invariant.1.1 ∙ sink_all c.args.list.now c.args.k (omega arith) c.requires.1

pub loop-i-preserved : goal.loop-i-preserved
loop-i-preserved c =
    let high : rank_of (get_or c.args.list.now c.args.k nan) < rank_of (get_or c.loop-i.list (c.loop-i.i - 1) nan) =
    rw (c.rank.ensures, c.rank-mine.ensures) at c.if-rank-mine.false in
    (simp length-set c.loop-i.invariant.0, (omega arith, sym (sink_on c.loop-i.i (c.loop-i.i - 1) _ c.loop-i.list (omega arith) high) ∙ c.loop-i.invariant.1.1))

pub returns : goal.returns
returns c =
    let z : c.loop-i.i ≡ 0 = omega arith in
    sym (sink-none c.loop-i.i _ c.loop-i.list z) ∙ c.loop-i.invariant.1.1 ∙ sink_all c.args.list.now c.args.k (omega arith) c.requires.1
