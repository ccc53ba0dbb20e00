-- The range's ends are in order, so the library's `clamp` is the definition's; the span that is found has its knots and poles on either side, and the definition is
-- the reading on it. Assumes nothing.
use mathlib.Core.Path.{◌∙◌}
use Rattle.bspline.specs.Reader.{curve_point}
use Rattle.bspline.proofs.SpanLaws.{span_of_in}
use Rattle.bspline.proofs.HoldingLaws.{range_order, clamp_is}
use Rattle.geometry.proofs.FloatOrder.{test}
use native.Mathlib.Omega.{arith}
use borrow.Author.Rules.{rules}
use Rattle.bspline.proofs.reader.curve_point.Goals as goal

pub clamp-x-requires : goal.clamp-x-requires
clamp-x-requires c = test (range_order c.args.flat.now c.requires.never_falls c.args.degree c.requires.fits.1)

pub span_point-requires : goal.span_point-requires
span_point-requires c =
    let a = c.args in
    let bounds = span_of_in a.flat.now a.degree c.clamp-x.result c.requires.fits.1 in
    let e = c.span_of-span.ensures in
    (search rules, omega (arith, bounds, e), omega (arith, bounds, e), omega (arith, bounds, e))

pub returns : goal.returns
unfolding curve_point
returns c =
    let order = range_order c.args.flat.now c.requires.never_falls c.args.degree c.requires.fits.1 in
    c.span_point.ensures ∙ rw (c.span_of-span.ensures, c.clamp-x.ensures.value, clamp_is _ _ _ order)
