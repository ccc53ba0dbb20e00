-- The loop's invariant (Ending): the ends gathered so far stand at the front, and s is how many they are; no place at or after k has been written. Assumes nothing.
use Rattle.std.proofs.Common.{◌≡◌, length, sym, ◌∙◌, arith}
use Rattle.refinement.specs.Refinement.{span_ends}
use Rattle.refinement.proofs.SpanLaws.{ending-none, ending_yes, ending_no}
use Rattle.refinement.proofs.spans.span_ends.Goals as goal
use Rattle.refinement.proofs.spans.span_ends.Goals.{then-closes_span, else-closes_span}

pub loop-k-init : goal.loop-k-init
loop-k-init c = ending-none c.args.firsts.now

pub loop-k-preserved : goal.loop-k-preserved
loop-k-preserved c =
    let l = c.loop-k in
    let old = c.args.firsts.now in
    let e = sym c.closes_span.ensures in
    elim c.if-closes_span.branch [
      | then-closes_span w ↦ rw (w.firsts-is, w.s-is) (ending_yes old l.firsts l.s l.k (omega arith) l.invariant (e ∙ w.if-closes_span.true))
      | else-closes_span w ↦ rw (w.firsts-is, w.s-is) (ending_no old l.firsts l.s l.k (omega arith) l.invariant (e ∙ w.if-closes_span.false))
    ]

pub returns : goal.returns
unfolding span_ends
returns c =
    let v = c.loop-k.invariant in
    let e : c.loop-k.k ≡ length c.args.firsts.now = omega arith in
    record { count = rw e at v.count; in_front = rw e at v.laid }
