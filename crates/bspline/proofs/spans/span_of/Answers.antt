-- Halving finds the last span that begins at or below u, and stepping back from it the last of those that has a width: on knots that never fall
-- the spans that begin at or below u stand first, so the two searches are one. Assumes nothing.
use mathlib.Core.Path.{ap, ◌∙◌}
use Prim.Native.Nat.{ℕ, ◌-◌}
use lib.ListN.{length}
use Rattle.bspline.proofs.SpanLaws.{begins-down, last_with_in, last_with-two}
use Rattle.bspline.specs.Spans.{begins, wide, last_with, span_of}
use native.Mathlib.Omega.{arith}
use Rattle.bspline.proofs.spans.span_of.Goals as goal

pub halve-last-requires-clause-begin_first : goal.halve-last-requires-clause-begin_first
halve-last-requires-clause-begin_first c = λ s k i j e. begins-down c.args.flat.now c.requires.never_falls c.args.u s k i (omega arith) e

pub step_back-requires : goal.step_back-requires
step_back-requires c =
    let a = c.args in
    let bounds = last_with_in (begins a.flat.now a.u) a.degree (length a.flat.now - 1 - a.degree - a.degree - 1) in
    (omega (arith, c.halve-last.ensures, bounds), omega (arith, c.halve-last.ensures, bounds))

pub returns : goal.returns
unfolding span_of
returns c =
    let a = c.args in
    let flat = a.flat.now in
    let n = length flat - 1 - a.degree - a.degree - 1 in
    c.step_back.ensures
    ∙ ap (λ (m : ℕ). last_with (wide flat) a.degree (m - a.degree)) c.halve-last.ensures
    ∙ last_with-two (begins flat a.u) (wide flat) a.degree n (λ s k i j e. begins-down flat c.requires.never_falls a.u s k i (omega arith) e)
