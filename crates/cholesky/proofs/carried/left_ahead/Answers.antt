-- By the laws of a row below three rows: what is put is the row's left part, and what is carried stays. Assumes nothing.
use mathlib.Core.Path.{sym}
use native.Mathlib.Omega.{arith}
use Rattle.cholesky.proofs.CarriedLaws.{far_all, middle_all, near_all, left_all, rest_all, above_all}
use Rattle.cholesky.proofs.carried.left_ahead.Goals as goal

pub returns : goal.returns
returns c =
    let i = c.args.i in
    let t = c.args.above in
    let l = c.args.lower.now in
    let h = c.requires.2 in (
      sym (left_all i (omega arith) t l (omega arith) h),
      record {
        far = sym (far_all i (omega arith) t l (omega arith) h);
        middle = sym (middle_all i (omega arith) t l (omega arith) h);
        near = sym (near_all i (omega arith) t l (omega arith) h);
        rest = sym (rest_all i (omega arith) t l (omega arith) h);
      },
      above_all i (omega arith) t l (omega arith) h,
    )
