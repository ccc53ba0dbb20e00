-- The case is made of the words that its pattern binds. Assumes nothing.
use Rattle.std.proofs.Common.{arith}
use Rattle.std.proofs.lemmas.Grind.{common_steps}
use Rattle.replay_list.proofs.cases.case_at.Goals as goal

pub returns : goal.returns
returns c = record {
  call = grind (arith, common_steps);
  degree = grind (arith, common_steps);
  spacing = grind (arith, common_steps);
  count = grind (arith, common_steps);
  given = grind (arith, common_steps);
  shorter = grind (arith, common_steps);
  answer = grind (arith, common_steps);
  within = grind (arith, common_steps);
}
