-- What a call makes of a direction: a refusal, or the fit that then stands in the regions. Definitions only.
use Rattle.std.specs.Prelude.{◌≡◌, ℕ, ◌-◌, Result, Ok, Err}
use Rattle.geometry.specs.Doubles.{largest}
use Rattle.bspline.specs.declared.Refusal.{Refusal}
use Rattle.tables.specs.Deviations.{unreadable}
use Rattle.fitting.specs.declared.Job.{Job}
use Rattle.fitting.specs.declared.Mark.{Mark}
use Rattle.fitting.specs.declared.Mark.TheVariants.{Refined, Spread, Interpolated, Chosen}
use Rattle.fitting.specs.declared.room.Regions.{Regions}
use Rattle.fitting.specs.Within.{Candidate, Marked, refined, spread, interpolated, chosen}
use Rattle.fitting.specs.Marks.{largest_deviation}
use Rattle.fitting.specs.Jobs.{HasRegions, HasKnots, candidate_in}
use Rattle.making.specs.declared.Standing.{Standing}
use Rattle.making.specs.Results.{FitResult}

-- a fit by its mark; m poles
unfoldable pub marked_as : Mark → ℕ → Candidate → Marked
marked_as (Refined x) m f = refined f
marked_as (Spread x) m f = spread m f
marked_as (Interpolated x) m f = interpolated f
marked_as (Chosen x) m f = chosen f

-- the fit that stands in the regions
unfoldable pub standing_in : Job → Regions → Standing → Marked
standing_in j g x = marked_as x.mark (g.knots.count - j.degree - 1) (candidate_in j g)

-- what a call makes of a direction
abbrev pub Made : Type 0
Made = Result Standing Refusal

unfoldable pub made_in : Made → (Standing → Marked) → FitResult
made_in (Err c) f = Err c
made_in (Ok x) f = Ok (f x)

-- The fit x stands in the regions, with what its distances measure.
pub record StandsIn (j : Job) (g : Regions) (x : Standing) : Type 0 where
  pub most : largest_deviation x.mark ≡ largest (candidate_in j g).distances
  pub unread : x.unreadable ≡ unreadable (candidate_in j g).distances
  pub few : HasKnots j g.knots.count

-- What a call makes of the direction: a refusal; or a fit, which stands there.
pub record Makes (j : Job) (fit : FitResult) (g' : Regions) (r : Made) : Type 0 where
  pub answer : fit ≡ made_in r (standing_in j g')
  pub standing : (x : Standing) → r ≡ Ok x → StandsIn j g' x
  pub regions : HasRegions j g'
