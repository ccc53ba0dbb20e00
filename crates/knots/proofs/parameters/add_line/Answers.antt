-- The line's sums are worked out beside the places that add up, and added to them where the line has a length. Assumes nothing.
use Rattle.std.proofs.Common.{◌∙◌, ◌+◌, List, ap, arith}
use Rattle.std.specs.Float.{Float}
use Rattle.geometry.specs.Doubles.{nought}
use Rattle.knots.proofs.ParameterLaws.{first_put}
use Rattle.knots.proofs.SharedLaws.{line_skipped, line-added}
use Rattle.knots.proofs.parameters.add_line.Goals as goal

pub returns-then-found : goal.returns-then-found
returns-then-found c =
    let a = c.args in
    line_skipped a.metric a.line.count _ a.used a.sums.now _ c.line_sums-found.ensures.come_to c.if-found.true

pub returns : goal.returns
returns c =
    let a = c.args in
    let e = c.line_sums-found.ensures in
    ap (λ (l : List Float). record { used = a.used + 1; sums = l }) (first_put nought a.sums.now c.add_scaled.new.sums (omega arith))
    ∙ line-added a.metric a.line.count _ a.used a.sums.now _ e.come_to c.if-found.false (omega arith) (omega arith) _ _ e.stand c.add_scaled.ensures
