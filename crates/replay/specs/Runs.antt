-- What is lent to a call, what it comes to, and what is counted. Definitions only.
use Rattle.std.specs.Prelude.{ℕ, ◌+◌, ◌-◌, ◌*◌, ◌/◌, ◌≤◌, ◌≡◌, min, Bool, true, false, Option, Some, None, Result, Ok, Err, List, ◌⊎◌, length, Float}
use Rattle.std.specs.Option.{option_or}
use Rattle.places.specs.Places.{list_of}
use Rattle.knots.specs.Parameters.{plain_metric}
use Rattle.checks.specs.declared.Room.{Room}
use Rattle.checks.specs.LadderChecks.{Lent}
use Rattle.ladders.specs.Ladders.{Answer, LadderCall}
use Rattle.replay_list.specs.declared.TheConstants.{PLACES}
use Rattle.replay_list.specs.declared.Case.{Case}
use Rattle.replay_list.specs.declared.answers.ListedFit.{ListedFit}
use Rattle.replay_list.specs.Listed.{CaseAt, place_at, listed_at}
use Rattle.replay_list.specs.Compared.{refused_with, same_fit}
use Rattle.replay.specs.declared.runs.TheConstants.{DEGREE, KNOTS, WORK, INDEX}
use Rattle.replay.specs.declared.runs.Turn.{Turn}
use Rattle.replay.specs.declared.runs.Tally.{Tally}

-- a degree, and the highest that asks for more in the place of a higher one
abbrev pub capped : ℕ → ℕ
capped degree = min degree DEGREE

-- the lengths that a call on n points asks, the work's by so much less
abbrev pub needed : ℕ → ℕ → ℕ → Room
needed n p shorter = record {
  poles = 3 * n;
  flat = n + p + 1;
  knots = n + p + 1;
  mults = n + p + 1;
  work = 4 * (p * n) + 16 * n + 64 - shorter;
  index = 4 * n;
}

-- the room that the program has
pub record Fits (r : Room) : Type 0 where
  pub for_poles : r.poles ≤ PLACES
  pub for_flat : r.flat ≤ KNOTS
  pub for_knots : r.knots ≤ KNOTS
  pub for_mults : r.mults ≤ KNOTS
  pub for_work : r.work ≤ WORK
  pub for_index : r.index ≤ INDEX

-- one case: whether the answers are the same, and where the next stands
abbrev pub turn : Bool → ℕ → Turn
turn same next = record { same = same; next = next }

-- an answer beside the list's, which starts at a
unfoldable pub compared : Answer → List ℕ → ℕ → ℕ → List Float → List Float → List Float → List ℕ → Option (Result ListedFit ℕ) → Option Turn
compared answer w a degree poles flat knots mults (Some (Err number)) = Some (turn (refused_with answer number) (a + 1))
compared answer w a degree poles flat knots mults (Some (Ok l)) = Some (turn (same_fit w l poles flat knots mults answer) l.next)
compared answer w a degree poles flat knots mults None = None

-- a case on the points s: the call's own contract holds of its answer and of the slices l as lent and l' at exit, and the turn is that answer beside the list's
pub record Ran (w : List ℕ) (c : Case) (s : List Float) (l l' : Lent) (r : Option Turn) : Type 0 where
  pub answer : Answer
  pub call : LadderCall c.call s c.degree (plain_metric c.spacing) l l' answer
  pub turn : r ≡ compared answer w c.answer c.degree l'.poles l'.flat l'.knots l'.mults (listed_at w c.answer c.degree)

-- the lent slices have these lengths
pub record Lends (l : Lent) (r : Room) : Type 0 where
  pub poles : length l.poles ≡ r.poles
  pub flat : length l.flat ≡ r.flat
  pub knots : length l.knots ≡ r.knots
  pub mults : length l.mults ≡ r.mults
  pub work : length l.work ≡ r.work
  pub index : length l.index ≡ r.index

-- with as much lent as the case asks
pub record RanOn (w : List ℕ) (c : Case) (s : List Float) (r : Option Turn) : Type 0 where
  pub entry : Lent
  pub exit : Lent
  pub room : Lends entry (needed (c.count / 3) (capped c.degree) c.shorter)
  pub ran : Ran w c s entry exit r

-- the case whose words start at a, on its own places
pub record ReplayedAt (w : List ℕ) (a : ℕ) (r : Option Turn) : Type 0 where
  pub given : Case
  pub found : CaseAt w a given
  pub ran : RanOn w given (list_of given.count (place_at given.given.now)) r

abbrev pub TurnAt : List ℕ → ℕ → Option Turn → Type 0
TurnAt w a r = (r ≡ None) ⊎ ReplayedAt w a r

-- k cases were replayed from place 1 to place a; d of them differ, and f is the first of these
pub data Passed (w : List ℕ) : ℕ → ℕ → ℕ → Option ℕ → Type 0 where
  none : Passed w 0 1 0 None
  same : {k a d : ℕ} {f : Option ℕ} (t : Turn) → Passed w k a d f → TurnAt w a (Some t) → t.same ≡ true → Passed w (k + 1) t.next d f
  other : {k a d : ℕ} {f : Option ℕ} (t : Turn) → Passed w k a d f → TurnAt w a (Some t) → t.same ≡ false → Passed w (k + 1) t.next (d + 1) (option_or f (Some (k + 1)))

-- the whole list was replayed
abbrev pub TalliedAs : List ℕ → ℕ → Option Tally → Type 0
TalliedAs w cases (Some t) = (t.cases ≡ cases) × (t.different ≤ cases) × Passed w cases (length w) t.different t.first
TalliedAs w cases None = Unit
