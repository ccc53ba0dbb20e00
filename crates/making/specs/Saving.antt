-- A fit that is put by while others are made in its regions. Definitions only.
use Rattle.std.specs.Prelude.{◌≡◌, ℕ, ◌+◌, ◌*◌, ◌≤◌, length, take}
use Rattle.fitting.specs.declared.Job.{Job}
use Rattle.fitting.specs.declared.room.Regions.{Regions}
use Rattle.fitting.specs.declared.room.Sizes.{Sizes}
use Rattle.fitting.specs.Flat.{flat_of}
use Rattle.making.specs.declared.saved.SavedFit.{SavedFit}

-- how many places of the work: flat knots and poles
abbrev pub saved_places : Sizes → ℕ
saved_places z = (z.count + z.degree + 1) + 3 * (z.lines * z.count)

-- room for any fit of the direction beside its regions
pub record HasSaved (j : Job) (s : SavedFit) : Type 0 where
  pub flat : length j.params.now + j.degree + 1 ≤ length s.flat.now
  pub poles : 3 * (j.lines.lines * length j.params.now) ≤ length s.poles.now

-- The fit that stands in the regions, with n places of poles, put by.
pub record Saved (s s' : SavedFit) (n : ℕ) (g : Regions) : Type 0 where
  pub knots : s'.knots ≡ g.knots.count
  pub places : s'.places ≡ n
  pub flat : take s'.knots s'.flat.now ≡ flat_of g.knots
  pub poles : take n s'.poles.now ≡ take n g.fit.poles.now
  pub flat_long : length s'.flat.now ≡ length s.flat.now
  pub poles_long : length s'.poles.now ≡ length s.poles.now

-- And the one that was put by, in the regions again.
pub record Restored (s : SavedFit) (g g' : Regions) : Type 0 where
  pub count : g'.knots.count ≡ s.knots
  pub flat : flat_of g'.knots ≡ take s.knots s.flat.now
  pub poles : take s.places g'.fit.poles.now ≡ take s.places s.poles.now
  pub flat_long : length g'.knots.places.now ≡ length g.knots.places.now
  pub poles_long : length g'.fit.poles.now ≡ length g.fit.poles.now
  pub table : g'.fit.table ≡ g.fit.table
  pub band : length g'.band.now ≡ length g.band.now
  pub curve : length g'.curve.now ≡ length g.curve.now
  pub squares : length g'.squares.now ≡ length g.squares.now
  pub fresh : length g'.fresh.now ≡ length g.fresh.now
