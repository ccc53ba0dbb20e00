-- The square root of IEEE 754 (5.4.1, 6.1, 7.2) for every `f64`. Definitions only. `proofs/SquareRootLaws` shows that `sqrt_of x` is it (`root_is`), and that nothing else is (`root_only`).
use Rattle.std.specs.Prelude.{◌≡◌, true, false, ◌⊎◌, Float}
use Rattle.std.specs.Float.{nan, inf}
use Rattle.std.specs.Float.Ieee.{lt, eq}
use Rattle.geometry.specs.Doubles.{nought, is_finite}
use Rattle.geometry.specs.Nearest.{NearestToRoot}

-- r is the root of x. A NaN has none, nor has what is below zero, the negative infinity too; 0, -0 and the infinity are their own; of the others it is the value nearest to the exact root.
pub record IsSquareRoot (x r : Float) : Type 0 where
  pub invalid : (x ≡ nan) ⊎ (lt x nought ≡ true) → r ≡ nan
  pub zeros : eq x nought ≡ true → r ≡ x
  pub infinity : x ≡ inf false → r ≡ inf false
  pub rounded : lt nought x ≡ true → is_finite x ≡ true → NearestToRoot x r
