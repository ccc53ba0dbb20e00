-- The checks' verdict is the contract's; where it passes, the fit is handed out and then the work and the index are cleared. Assumes nothing.
use Rattle.std.proofs.Common.{rules}
use Rattle.ladders.proofs.RunLaws.{call_refused, call_passed}
use Rattle.ladders.proofs.fit_ladder.Goals as goal

pub returns-in_err-check_ladder-clause-call : goal.returns-in_err-check_ladder-clause-call
returns-in_err-check_ladder-clause-call c = call_refused _ _ _ _ c.in_err-check_ladder.field-0.0 _ _ (search rules) (search rules)

pub returns-clause-call : goal.returns-clause-call
returns-clause-call c = call_passed _ _ _ _ c.args.out.now c.fit_passed-answer.new.out (search rules) c.fit_passed-answer.ensures.hands (search rules) (search rules)
