-- The table on the knots that stand there, its poles, and their measures. Assumes nothing.
use Rattle.std.proofs.Common.{rules, ◌≡◌, None}
use Rattle.fitting.proofs.AttemptLaws.{has_lines, measurable, unfitted, fitting}
use Rattle.fitting.proofs.attempts.attempt.Goals as goal

pub solve-requires : goal.solve-requires
solve-requires c = has_lines _ _ c.requires.0 c.requires.1 _ c.fill.ensures.filled c.fill.ensures.poles_after

pub returns-in_err-solve-clause-tried : goal.returns-in_err-solve-clause-tried
returns-in_err-solve-clause-tried c =
    let f = c.fill in
    let none : c.from_residual.result ≡ None = search rules in
    rw none (unfitted _ _ c.requires.0 c.requires.1 f.new.self f.ensures.filled f.ensures.poles_after c.solve.new.self c.in_err-solve.ensures _ (search rules))

pub measure-requires : goal.measure-requires
measure-requires c =
    let f = c.fill in
    let s = c.solve.ensures in
    measurable _ _ c.requires.0 c.requires.1 f.new.self f.ensures.filled f.ensures.poles_after c.solve.new.self s.table s.long

pub returns-clause-tried : goal.returns-clause-tried
returns-clause-tried c =
    let f = c.fill in
    fitting _ _ c.requires.0 c.requires.1 f.new.self f.ensures.filled f.ensures.poles_after c.solve.new.self c.in_ok-solve.ensures _ (search rules) _ c.measure.ensures
