-- A fit's poles and flat knots in the output slices. Definitions only.
use Rattle.std.specs.Prelude.{◌≡◌, List, ℕ, ◌≤◌, length, Float}
use Rattle.places.specs.Places.{laid}
use Rattle.geometry.specs.Doubles.{at}
use Rattle.knots.specs.Calls.{Compressed}
use Rattle.checks.specs.declared.slices.Output.{Output}
use Rattle.checks.specs.Slices.{SameOutput}

-- room for l flat knots and their runs
pub record HasKnotsOut (l : ℕ) (flat knots : List Float) (mults : List ℕ) : Type 0 where
  pub few : l ≤ 1050
  pub for_flat : l ≤ length flat
  pub for_knots : l ≤ length knots
  pub for_mults : l ≤ length mults

-- the flat knots fs and their runs, with the places beyond as lent; r distinct knots
pub record HandedKnots (fs flat flat' knots knots' : List Float) (mults mults' : List ℕ) (r : ℕ) : Type 0 where
  pub for_flat : flat' ≡ laid 0 (length fs) (at fs) flat
  pub runs : Compressed fs knots knots' mults mults' r

-- and the poles ps
pub record HandedOut (ps fs : List Float) (o o' : Output) (r : ℕ) : Type 0 where
  pub for_poles : o'.poles.now ≡ laid 0 (length ps) (at ps) o.poles.now
  pub knots_out : HandedKnots fs o.flat.now o'.flat.now o.knots.now o'.knots.now o.mults.now o'.mults.now r
  pub same : SameOutput o o'
