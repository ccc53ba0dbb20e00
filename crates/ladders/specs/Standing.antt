-- What a ladder call does after its checks: a fit of one line that stands, handed out. Definitions only.
use Rattle.std.specs.Prelude.{◌≡◌, ℕ, [], ◌+◌, ◌*◌, ◌/◌, ◌≤◌, Ok, length}
use Rattle.bspline.specs.Refusals.{pass}
use Rattle.checks.specs.declared.Call.{Call}
use Rattle.checks.specs.declared.given.Ladder.{Ladder}
use Rattle.checks.specs.LadderChecks.{Shaped, count_verdict}
use Rattle.fitting.specs.Room.{places_of}
use Rattle.checks.specs.declared.slices.Output.{Output}
use Rattle.checks.specs.Slices.{lent_with, SameOutput}
use Rattle.fitting.specs.declared.Fit.{Fit}
use Rattle.making.specs.declared.StandingFit.{StandingFit}
use Rattle.making.specs.HandedOut.{HasKnotsOut}
use Rattle.making.specs.Runs.{standing_in}
use Rattle.ladders.specs.Ladders.{HandsOut}

-- room for n poles of degree p and their knots
pub record HasOutput (n p : ℕ) (o : Output) : Type 0 where
  pub poles : 3 * n ≤ length o.poles.now
  pub knots : HasKnotsOut (n + p + 1) o.flat.now o.knots.now o.mults.now

-- room to fit in: the regions of one line of n points
pub record HasRoom (p n work index : ℕ) : Type 0 where
  pub for_work : places_of (record { degree = p; count = n; lines = 1; curve = 0 }) ≤ work
  pub for_index : n ≤ index

-- what the checks gave, and n parameters
pub record Passed (call : Call) (l : Ladder) (n : ℕ) : Type 0 where
  pub shaped : Shaped (length l.points.now) l.degree
  pub counts : count_verdict call n l.degree ≡ pass
  pub params : n ≡ length l.points.now / 3

pub record HandsStanding (x : StandingFit) (o o' : Output) (r : Fit) : Type 0 where
  pub hands : HandsOut x.job.degree (Ok (standing_in x.job x.at.now x.standing)) (lent_with o [] []) (lent_with o' [] []) (Ok r)
  pub same : SameOutput o o'
