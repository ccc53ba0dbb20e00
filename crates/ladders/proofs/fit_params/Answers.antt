-- What is made of the ladder is handed out. Assumes nothing.
use mathlib.Core.Path.{ap}
use Rattle.fitting.specs.declared.room.Sizes.{Sizes}
use Rattle.ladders.proofs.RunLaws.{hands_refused, hands_made}
use Rattle.std.proofs.Common.{rules}
use Rattle.ladders.proofs.fit_params.Goals as goal

pub returns-in_err-standing-clause-hands : goal.returns-in_err-standing-clause-hands
returns-in_err-standing-clause-hands c = hands_refused _ _ _ _ _ c.make.ensures c.job_of-job.ensures.direction _ _ c.in_err-standing.field-0.0 _ (search rules) (search rules)

pub invariant_of-made : goal.invariant_of-made
invariant_of-made c = record { regions = c.make.ensures.regions; stands = c.make.ensures.standing c.in_ok-standing.standing (search rules) }

pub returns-clause-hands : goal.returns-clause-hands
returns-clause-hands c =
    hands_made _ _ _ _ _ c.make.ensures c.job_of-job.ensures.direction _ _ _ c.in_ok-standing.standing _ (search rules) (ap (λ (z : Sizes). z.degree) c.job_of-job.ensures.sizes) c.hand_standing.ensures.hands
