-- What keeps the number of places. Assumes nothing.
use mathlib.Core.Path.{◌≡◌}
use mathlib.Core.List.{List}
use Prim.Native.Nat.{ℕ}
use lib.ListN.{length}
use lib.Ieee.{Float}
use Rattle.geometry.proofs.PointLaws.{length_put-point}
use Rattle.cholesky.specs.Cholesky.{forward_row, back_row}

pub length_forward-row : (h : ℕ) (lower : List Float) (i : ℕ) (poles : List Float) → length (forward_row h lower i poles) ≡ length poles
unfolding forward_row
length_forward-row h lower i poles = length_put-point i _ poles

pub length-back-row : (h n : ℕ) (lower : List Float) (i : ℕ) (poles : List Float) → length (back_row h n lower i poles) ≡ length poles
unfolding back_row
length-back-row h n lower i poles = length_put-point i _ poles
