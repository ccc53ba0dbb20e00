-- std's word for it has the same cases. Assumes nothing.
use Rattle.std.proofs.Common.{◌≡◌, ◌∙◌, refl}
use Rattle.std.specs.Float.{float_is_finite}
use lib.Ieee.{Float, nan, inf, fin}
use Rattle.geometry.specs.Doubles.{is_finite}
use Rattle.geometry.proofs.doubles.is_finite.Goals as goal

same : (x : Float) → float_is_finite x ≡ is_finite x
unfolding is_finite float_is_finite
same nan = refl
same (inf s) = refl
same (fin s m e) = refl

pub returns : goal.returns
returns c = c.is_finite.ensures.value ∙ same c.args.x
