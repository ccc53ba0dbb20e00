-- The call, and what it tells keeps demand 3. Assumes nothing.
use Rattle.std.proofs.Common.{rules}
use Rattle.telling.proofs.ToldGridLaws.{told_grid-within}
use Rattle.interface.proofs.grid_calls.nigorzai_approximate_grid_within.Goals as goal

pub returns : goal.returns
returns c = told_grid-within _ _ _ _ _ _ _ _ _ (search rules)
