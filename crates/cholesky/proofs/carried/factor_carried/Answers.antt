-- The first three rows and those from row 3 on are all of them. Assumes nothing.
use native.Mathlib.Omega.{arith}
use Rattle.places.specs.Loops.{and_then}
use Rattle.places.proofs.LoopLaws.{while_split}
use Rattle.cholesky.specs.Cholesky.{factor_row}
use Rattle.cholesky.proofs.carried.factor_carried.Goals as goal

pub returns-in_err-factor_rows : goal.returns-in_err-factor_rows
unfolding and_then
returns-in_err-factor_rows c =
    let a = c.args in
    let split = while_split (factor_row 3 a.floor) 0 3 a.n a.lower.now (omega arith) (omega arith) in
    grind (arith, split)

pub returns : goal.returns
unfolding and_then
returns c =
    let a = c.args in
    let split = while_split (factor_row 3 a.floor) 0 3 a.n a.lower.now (omega arith) (omega arith) in
    grind (arith, split)
