-- A spacing by whether it is centripetal, with the lightness factor 1. Definitions only.
use Rattle.std.specs.Prelude.{Bool, cond}
use Rattle.knots.specs.declared.Metric.{Metric}
use Rattle.knots.specs.declared.Spacing.TheVariants.{Chordal, Centripetal}
use Rattle.knots.specs.Parameters.{plain_metric}

abbrev pub metric_of : Bool → Metric
metric_of centripetal = plain_metric (cond centripetal Centripetal Chordal)
