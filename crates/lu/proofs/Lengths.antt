-- What keeps the number of places. Assumes nothing.
use mathlib.Core.Path.{◌≡◌, refl}
use mathlib.Core.List.{List}
use Prim.Native.Nat.{ℕ, ◌+◌}
use lib.ListN.{length}
use lib.Ieee.{Float}
use Rattle.places.proofs.LoopLaws.{cond_both}
use Rattle.places.proofs.RegionLaws.{length-each}
use Rattle.geometry.specs.declared.Point.{Point}
use Rattle.geometry.specs.Points.{point_at}
use Rattle.geometry.proofs.PointLaws.{length_put-point}
use Rattle.bands.specs.Bands.{reach}
use Rattle.lu.specs.BandLu.{band_entry, less_point, forward_step, back_band_row}

pub length_less-point : (i : ℕ) (factor : Float) (q : Point) (poles : List Float) → length (less_point i factor q poles) ≡ length poles
unfolding less_point
length_less-point i factor q poles = cond_both length _ poles _ (length poles) refl (length_put-point i _ poles)

pub length_forward_step : (h n : ℕ) (band : List Float) (k : ℕ) (poles : List Float) → length (forward_step h n band k poles) ≡ length poles
unfolding forward_step
length_forward_step h n band k poles =
    length-each (λ i. less_point i (band_entry h band i k) (point_at poles k)) (λ i x. length_less-point i (band_entry h band i k) (point_at poles k) x) (k + 1) (reach h n k) poles

pub length-back_band-row : (h n : ℕ) (band : List Float) (i : ℕ) (poles : List Float) → length (back_band_row h n band i poles) ≡ length poles
unfolding back_band_row
length-back_band-row h n band i poles = length_put-point i _ poles
