-- What is lent to a call, and what is to be fitted, as they are held. Definitions only.
use Rattle.std.specs.Prelude.{◌≡◌, ℕ, List, Float}
use Rattle.checks.specs.declared.given.Grid.{Grid as Held}
use Rattle.checks.specs.declared.slices.Output.{Output}
use Rattle.checks.specs.declared.slices.GridOutput.{GridOutput}
use Rattle.checks.specs.LadderChecks.{Lent, lent}
use Rattle.checks.specs.GridChecks.{Grid, GridLent, grid_of, grid_lent}

-- the places of an output, with those of a work and an index
abbrev pub lent_with : Output → List Float → List ℕ → Lent
lent_with o work index = lent o.poles.now o.flat.now o.knots.now o.mults.now work index

-- the same of a grid
abbrev pub grid_lent_with : GridOutput → List Float → List ℕ → GridLent
grid_lent_with o work index = grid_lent o.poles.now o.uflat.now o.uknots.now o.umults.now o.vflat.now o.vknots.now o.vmults.now work index

-- a grid's points, shape and metric
abbrev pub grid_in : Held → Grid
grid_in g = grid_of g.points.now g.shape g.metric

-- the same slices, whatever stands in them
pub record SameOutput (o o' : Output) : Type 0 where
  pub poles : o'.poles.ghost_name ≡ o.poles.ghost_name
  pub flat : o'.flat.ghost_name ≡ o.flat.ghost_name
  pub knots : o'.knots.ghost_name ≡ o.knots.ghost_name
  pub mults : o'.mults.ghost_name ≡ o.mults.ghost_name

pub record SameGridOutput (o o' : GridOutput) : Type 0 where
  pub poles : o'.poles.ghost_name ≡ o.poles.ghost_name
  pub uflat : o'.uflat.ghost_name ≡ o.uflat.ghost_name
  pub uknots : o'.uknots.ghost_name ≡ o.uknots.ghost_name
  pub umults : o'.umults.ghost_name ≡ o.umults.ghost_name
  pub vflat : o'.vflat.ghost_name ≡ o.vflat.ghost_name
  pub vknots : o'.vknots.ghost_name ≡ o.vknots.ghost_name
  pub vmults : o'.vmults.ghost_name ≡ o.vmults.ghost_name
