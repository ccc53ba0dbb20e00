-- The definition, with what the two functions ensure. Assumes nothing.
use Rattle.std.proofs.Common.{ap, ◌∙◌}
use Rattle.geometry.specs.Points.{distance}
use Rattle.geometry.specs.Root.{sqrt_of}
use Rattle.geometry.proofs.Point.distance.Goals as goal

pub returns : goal.returns
unfolding distance
returns c = c.sqrt.ensures ∙ ap sqrt_of c.squared_distance.ensures
