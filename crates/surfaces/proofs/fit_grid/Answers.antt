-- The checks' verdict is the contract's; where it passes, the fit is handed out and then the work and the index are cleared. Assumes nothing.
use Rattle.std.proofs.Common.{rules, ◌≡◌, length, replicate, Err}
use Rattle.geometry.specs.Doubles.{nought}
use Rattle.surfaces.proofs.CallLaws.{call_refused, call_passed}
use Rattle.surfaces.proofs.fit_grid.Goals as goal

pub returns-in_err-check_grid-clause-call : goal.returns-in_err-check_grid-clause-call
returns-in_err-check_grid-clause-call c =
    let f : c.from_residual.result ≡ Err c.in_err-check_grid.field-0.0 = search rules in
    rw f (call_refused _ _ c.in_err-check_grid.field-0.0 _ (search rules))

pub returns-clause-call : goal.returns-clause-call
returns-clause-call c =
    let w : c.fill.new.self ≡ replicate (length c.args.work.now) nought = search rules in
    let i : c.fill-2.new.self ≡ replicate (length c.args.index.now) 0 = search rules in
    call_passed _ _ c.args.out.now c.fit_passed-answer.new.out _ _ _ _ (search rules) c.fit_passed-answer.ensures.hands w i
