-- No span that is passed has a width, and the number falls. Assumes nothing.
use native.Mathlib.Omega.{arith}
use mathlib.Core.Path.{◌≡◌, sym, ap, ◌∙◌}
use mathlib.Core.Bool.{not}
use Rattle.bspline.proofs.SpanLaws.{last_with-none, last_with_here, last_with-back}
use Rattle.bspline.proofs.spans.step_back.Goals as goal

pub loop-span-preserved : goal.loop-span-preserved
loop-span-preserved c = (omega arith, omega arith, c.loop-span.invariant.2 ∙ last_with-back _ _ _ _ c.loop-span.span (omega arith) (omega arith) (ap not c.if-flat-span.true))

pub returns-else-flat-span : goal.returns-else-flat-span
returns-else-flat-span c = sym (c.loop-span.invariant.2 ∙ last_with_here _ _ _ c.loop-span.span (omega arith) (omega arith) (ap not c.if-flat-span.false))

pub returns-after-loop-span : goal.returns-after-loop-span
returns-after-loop-span c =
    let e : c.loop-span.span ≡ c.args.lo = omega arith in
    sym (c.loop-span.invariant.2 ∙ last_with-none _ _ _ (omega arith) ∙ sym e)
