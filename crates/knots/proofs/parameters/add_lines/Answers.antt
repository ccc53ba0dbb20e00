-- What stands there is what the lines passed come to. Assumes nothing.
use Rattle.std.proofs.Common.{◌≡◌, ◌∙◌, ap, sym, arith}
use Rattle.knots.specs.Parameters.{add_line}
use Rattle.knots.specs.OnLines.{on_lines}
use Rattle.knots.proofs.SharedLaws.{added-none, added_more, counted}
use Rattle.knots.proofs.parameters.add_lines.Goals as goal

pub loop-r-init : goal.loop-r-init
loop-r-init c =
    let a = c.args in
    (omega arith, rw (c.fill.ensures.after (λ y e. e), c.requires.for_sums) (added-none a.metric a.lines.count (on_lines a.lines)))

pub loop-r-preserved : goal.loop-r-preserved
loop-r-preserved c =
    let a = c.args in
    let l = c.loop-r in
    let n = a.lines.count in
    let more : record { used = c.add_line-used.result; sums = c.add_line-used.new.sums } ≡ add_line a.metric n (on_lines a.lines l.r) (record { used = l.used; sums = l.sums }) =
    rw c.line.ensures.there at (rw c.line.ensures.as_many at c.add_line-used.ensures) in
    (omega (arith, counted a.metric n _ _ _ more), more ∙ ap (add_line a.metric n (on_lines a.lines l.r)) l.invariant.1 ∙ sym (added_more a.metric l.r n (on_lines a.lines)))
