-- By the laws of the two rows below a pivot: in the rest of the band they are its elimination, and leave what is carried on. Assumes nothing.
use mathlib.Core.Path.{refl}
use native.Mathlib.Omega.{arith}
use Rattle.lu.proofs.NarrowLaws.{pairs-eliminate, pairs_carry}
use Rattle.lu.proofs.narrow.eliminate_ahead.Goals as goal

pub returns : goal.returns
returns c =
    let two = c.less_pair-second in
    let one = c.less_pair-first in
    let a = c.args in
    let l = a.band.now in
    let mid = one.new.band in
    let out = two.new.band in (
      pairs-eliminate a.n a.k a.row l mid out (omega arith) (omega arith) c.requires.2 one.ensures.0 two.ensures.0,
      pairs_carry a.n a.k a.row l mid out (omega arith) (omega arith) c.requires.2 one.ensures.0 two.ensures.0 _ one.ensures.1 one.ensures.2 refl two.ensures.1 two.ensures.2 refl,
    )
