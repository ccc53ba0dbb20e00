-- The call's equations give demand 3 along u (the law `approximates_grid-within`). Assumes nothing.
use Rattle.surfaces.proofs.GridLaws.{approximates_grid-within}
use Rattle.surfaces.proofs.approximate_within.Goals as goal

pub returns-clause-call : goal.returns-clause-call
returns-clause-call c = approximates_grid-within _ _ _ _ _ c.fit_grid.ensures.call
