-- How large the places are that a direction is fitted in. Definitions only.
use Rattle.std.specs.Prelude.{◌≡◌, ℕ, ◌+◌, ◌*◌, ◌≤◌, length}
use Rattle.fitting.specs.declared.room.Sizes.{Sizes}
use Rattle.fitting.specs.declared.room.Regions.{Regions}

-- of at most 1024 parameters of degree 25, 64 lines, and a curve of 64 poles
pub record SmallSizes (z : Sizes) : Type 0 where
  pub degree : z.degree ≤ 25
  pub count : z.count ≤ 1024
  pub lines : z.lines ≤ 64
  pub curve : z.curve ≤ 192

-- how many places of the work: flat knots, values, the matrix, poles, a curve's poles, the squares, new knots
unfoldable pub places_of : Sizes → ℕ
places_of z = (z.count + z.degree + 1) + z.count * (z.degree + 1) + 2 * (z.degree * z.count) + 3 * (z.lines * z.count) + z.curve + z.count + z.count

pub record HasSizes (z : Sizes) (g : Regions) : Type 0 where
  pub degree : g.fit.table.degree ≡ z.degree
  pub flat : length g.knots.places.now ≡ z.count + z.degree + 1
  pub firsts : length g.fit.table.firsts.now ≡ z.count
  pub values : length g.fit.table.values.now ≡ z.count * (z.degree + 1)
  pub band : length g.band.now ≡ 2 * (z.degree * z.count)
  pub poles : length g.fit.poles.now ≡ 3 * (z.lines * z.count)
  pub curve : length g.curve.now ≡ z.curve
  pub squares : length g.squares.now ≡ z.count
  pub fresh : length g.fresh.now ≡ z.count
