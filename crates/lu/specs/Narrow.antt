-- Elimination in rows of five places, as the program does it: two places after the multiplier, and what is carried from pivot to pivot. `proofs/NarrowLaws` shows
-- that this is `BandLu.eliminate` of half-width 2. And the two points that are carried in L U x = b.
use Rattle.std.specs.Prelude.{◌≡◌, cond, List, ℕ, ◌+◌, ◌*◌, set, Float}
use Rattle.std.specs.Float.Ieee.{eq}
use Rattle.geometry.specs.Doubles.{◌⊖◌, ◌⊗◌, nought, at}
use Rattle.geometry.specs.Points.{point_at}
use Rattle.lu.specs.declared.narrow.Ahead.{Ahead}
use Rattle.lu.specs.declared.narrow.Points.{Points}

-- the multiplier is put at `from`, and where it is not 0 that multiple of the pivot's two places is taken off the two after it
unfoldable pub less_pair : ℕ → Float → Float → Float → List Float → List Float
less_pair from factor near far l =
    let put = set l from factor in
    let less = set (set put (from + 1) (at l (from + 1) ⊖ factor ⊗ near)) (from + 2) (at l (from + 2) ⊖ factor ⊗ far) in
    cond (eq factor nought) put less

-- what pivot k needs stands in its places
pub record Carried (k : ℕ) (row : Ahead) (l : List Float) : Type 0 where
  pub diagonal : row.diagonal ≡ at l (5 * k + 2)
  pub near : row.near ≡ at l (5 * k + 3)
  pub far : row.far ≡ at l (5 * k + 4)
  pub below : row.below ≡ at l (5 * k + 6)
  pub middle : row.middle ≡ at l (5 * k + 7)
  pub last : row.last ≡ at l (5 * k + 8)

-- points k and k + 1 are these
pub record Known (k : ℕ) (known : Points) (poles : List Float) : Type 0 where
  pub first : known.first ≡ point_at poles k
  pub second : known.second ≡ point_at poles (k + 1)
