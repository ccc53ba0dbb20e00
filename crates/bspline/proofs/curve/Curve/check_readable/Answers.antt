-- Where the check passes, there are poles enough for the degree, and knots that rise give flat knots that never fall. Assumes nothing.
use Rattle.std.proofs.Common.{◌≡◌, sym, ◌∙◌, ◌/◌, length, false, arith}
use borrow.Author.Tests.{le-ltb}
use Rattle.bspline.specs.Reader.{not_readable}
use Rattle.bspline.proofs.CheckLaws.{enough, never_falls}
use Rattle.bspline.proofs.curve.Curve.check_readable.Goals as goal

pub returns-clause-readable : goal.returns-clause-readable
unfolding not_readable
returns-clause-readable c =
    let a = c.args.self in
    let e : not_readable (length a.poles.now / 3) a.degree a.knots.now a.mults.now c.args.u ≡ false =
    rw (sym c.no_multiplicity.ensures ∙ c.if-no_multiplicity.false, sym c.not_finite.ensures ∙ c.if-not_finite.false, le-ltb _ _ c.if-self.false, ← c.requires.flat, c.if-flat-self.false, ← c.is_nan.ensures.value) c.if-is_nan.false in
    let most = enough _ a.degree a.knots.now a.mults.now c.args.u e in
    (omega (arith, most), rw c.requires.flat (never_falls _ a.degree a.knots.now a.mults.now c.args.u c.requires.counted (omega arith) e))
