-- The call, and what it tells keeps demand 3. Assumes nothing.
use Rattle.std.proofs.Common.{rules}
use Rattle.telling.proofs.ToldLaws.{told-within}
use Rattle.interface.proofs.ladder_calls.nigorzai_approximate_within.Goals as goal

pub returns : goal.returns
returns c = told-within _ _ _ _ _ _ _ _ _ _ _ (search rules)
