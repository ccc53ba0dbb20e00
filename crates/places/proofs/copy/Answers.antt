-- The invariant: the first k places are laid with those of `from`; all of them are `from` itself. Assumes nothing.
use mathlib.Core.Path.{◌≡◌, refl, ◌∙◌}
use lib.ListN.{length, length-set}
use lib.Ieee.{nan}
use Rattle.places.specs.Places.{laid}
use Rattle.places.proofs.PlaceLaws.{laid0-next, laid_copy}
use native.Mathlib.Omega.{arith}
use Rattle.places.proofs.copy.Goals as goal

pub loop-k-init : goal.loop-k-init
unfolding laid
loop-k-init c = (omega arith, refl, refl, refl)

pub loop-k-preserved : goal.loop-k-preserved
loop-k-preserved c = (omega arith, c.loop-k.invariant.1, simp length-set (omega arith), laid0-next _ _ _ _ _ c.loop-k.invariant.3 refl)

pub returns : goal.returns
returns c =
    let a = c.args in
    let e : c.loop-k.k ≡ length a.from.now = omega arith in
    (rw e at c.loop-k.invariant.3) ∙ laid_copy a.from.now a.to.now nan c.requires
