-- The call, and what it tells keeps demand 3. Assumes nothing.
use Rattle.std.proofs.Common.{rules}
use Rattle.telling.proofs.ToldLaws.{told-spread}
use Rattle.interface.proofs.ladder_calls.nigorzai_search_spread.Goals as goal

pub returns : goal.returns
returns c = told-spread _ _ _ _ _ _ _ _ _ _ _ (search rules)
