-- The checks come in document 01's order, and what passes is read as its definition says. Assumes nothing.
use Rattle.std.proofs.Common.{rules, ◌≡◌, ◌∙◌, ap, ◌+◌, ◌/◌, List, length, take, Ok, Err}
use lib.Ieee.{Float}
use lib.Seq.{take_at}
use Rattle.bspline.specs.Refusals.{pass}
use Rattle.bspline.specs.Reader.{flat_knots, curve_point, reader_verdict, Sized, Counted}
use Rattle.bspline.proofs.CheckLaws.{flat-count, reads}
use Rattle.bspline.proofs.curve.Curve.read.Goals as goal

pub returns-in_err-check_sizes : goal.returns-in_err-check_sizes
unfolding reader_verdict
returns-in_err-check_sizes c =
    let e : c.check_sizes.result ≡ Err c.in_err-check_sizes.field-0.0 = search rules in
    let f : c.from_residual.result ≡ Err c.in_err-check_sizes.field-0.0 = search rules in
    reads _ _ _ _ _ _ (f ∙ rw (← c.check_sizes.ensures.verdict, e))

pub returns-in_err-check_knots : goal.returns-in_err-check_knots
unfolding reader_verdict
returns-in_err-check_knots c =
    let s : c.check_sizes.result ≡ pass = search rules in
    let e : c.check_knots.result ≡ Err c.in_err-check_knots.field-0.0 = search rules in
    let f : c.from_residual-in_err-check_knots.result ≡ Err c.in_err-check_knots.field-0.0 = search rules in
    reads _ _ _ _ _ _ (f ∙ rw (← c.check_sizes.ensures.verdict, s, ← c.check_knots.ensures.verdict, e))

pub returns-in_err-check_readable : goal.returns-in_err-check_readable
unfolding reader_verdict
returns-in_err-check_readable c =
    let s : c.check_sizes.result ≡ pass = search rules in
    let k : c.check_knots.result ≡ pass = search rules in
    let e : c.check_readable.result ≡ Err c.in_err-check_readable.field-0.0 = search rules in
    let f : c.from_residual-in_err-check_readable.result ≡ Err c.in_err-check_readable.field-0.0 = search rules in
    reads _ _ _ _ _ _ (f ∙ rw (← c.check_sizes.ensures.verdict, s, ← c.check_knots.ensures.verdict, k, ← c.check_readable.ensures.verdict, e))

pub returns : goal.returns
unfolding reader_verdict
returns c =
    let s : c.check_sizes.result ≡ pass = search rules in
    let k : c.check_knots.result ≡ pass = search rules in
    let r : c.check_readable.result ≡ pass = search rules in
    let a = c.args.self in
    let sized : Sized (length a.poles.now) a.degree (length a.knots.now) (length a.mults.now) = search rules in
    let counted : Counted (length a.poles.now / 3) a.degree a.knots.now a.mults.now = search rules in
    let flat = ap (take (length a.poles.now / 3 + a.degree + 1)) c.flat_knots.ensures ∙ take_at (flat_knots a.knots.now a.mults.now) _ _ (flat-count _ a.degree a.knots.now a.mults.now sized.pairs counted) in
    let q = c.curve_point.ensures ∙ ap (λ (f : List Float). curve_point f a.degree a.poles.now c.args.u) flat in
    reads _ _ _ _ _ _ (ap Ok q ∙ rw (← c.check_sizes.ensures.verdict, s, ← c.check_knots.ensures.verdict, k, ← c.check_readable.ensures.verdict, r))
