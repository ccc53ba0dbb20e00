-- The archive reads what the fit saw (document 02, request Thirteen). Definitions only.
-- All is said of what stands in the output slices when a ladder call returns, and of the promises alone, the call's and the reader's: so of every program that keeps them.
use Rattle.std.specs.Prelude.{◌≡◌, List, ℕ, ◌+◌, ◌-◌, ◌*◌, ◌≤◌, ◌<◌, length, take, set, get_or, Float, Ok}
use Rattle.geometry.specs.declared.Point.{Point}
use Rattle.geometry.specs.Doubles.{nought, one, at, largest}
use Rattle.geometry.specs.Points.{distance, point_at, put_point}
use Rattle.bspline.specs.Reader.{Reads, Reading}
use Rattle.knots.specs.declared.Metric.{Metric}
use Rattle.tables.specs.BasisTable.{basis_table, table_point}
use Rattle.tables.specs.Deviations.{unreadable}
use Rattle.fitting.specs.declared.Fit.{Fit}
use Rattle.fitting.specs.Marks.{largest_deviation}
use Rattle.checks.specs.declared.Call.{Call}
use Rattle.checks.specs.LadderChecks.{Lent, point_count}
use Rattle.ladders.specs.Ladders.{ladder_of, handed_distances, LadderCall}
use Rattle.telling.specs.Told.{put_fit, Told}
use Rattle.telling.specs.ToldReading.{ToldReads}

-- ---- the curve that a call handed out, as it is archived: poles, distinct knots, multiplicities

abbrev pub archived_poles : Fit → Lent → List Float
archived_poles f l = take (3 * f.poles) l.poles

abbrev pub archived_knots : Fit → Lent → List Float
archived_knots f l = take f.knots l.knots

abbrev pub archived_mults : Fit → Lent → List ℕ
archived_mults f l = take f.knots l.mults

-- reading it at u gives r: by `read`, and by `nigorzai_read`, which is lent `out` for the point
abbrev pub ReadsArchived : ℕ → Fit → Lent → Float → Reading → Type 0
ReadsArchived degree f l u r = Reads (archived_poles f l) degree (archived_knots f l) (archived_mults f l) u r

abbrev pub ToldArchived : ℕ → Fit → Lent → Float → List Float → List Float → ℕ → Type 0
ToldArchived degree f l u out out' r = ToldReads (archived_poles f l) degree (archived_knots f l) (archived_mults f l) u out out' r

-- ---- what the fit computed, by its own search for the span

-- point k's own parameter
abbrev pub parameter_of : Metric → List Float → ℕ → ℕ → Float
parameter_of v s degree k = at (ladder_of v s degree).params k

-- the point that the fit's own table reads there
abbrev pub fit_point : Metric → List Float → ℕ → Fit → Lent → ℕ → Point
fit_point v s degree f l k = table_point (basis_table (take (f.poles + degree + 1) l.flat) degree (ladder_of v s degree).params) (archived_poles f l) 0 k

-- ---- what is shown of an accepted fit f of the points s, with the slices l as the call leaves them

pub record ReadsBack (v : Metric) (s : List Float) (degree : ℕ) (l : Lent) (f : Fit) : Type 0 where
  -- the deviations are the distances from the fit's own points: as many as points, and by them the mark and the unreadable count
  pub each : (k : ℕ) → k < point_count s → at (handed_distances v s degree f l) k ≡ distance v.factor (fit_point v s degree f l k) (point_at s k)
  pub many : length (handed_distances v s degree f l) ≡ point_count s
  pub mark : largest_deviation f.mark ≡ largest (handed_distances v s degree f l)
  pub unread : f.unreadable ≡ unreadable (handed_distances v s degree f l)
  -- Where the reader does not refuse the archived curve's parts, so that it reads it at some parameter u, it reads it at each point's own parameter, and what it gives there is
  -- the fit's own point, bit for bit.
  pub same : (u : Float) (p : Point) → ReadsArchived degree f l u (Ok p)
      → (k : ℕ) → k < point_count s → (r : Reading) → ReadsArchived degree f l (parameter_of v s degree k) r → r ≡ Ok (fit_point v s degree f l k)
  -- So too for C: where `nigorzai_read` returns 0 at some u, it returns 0 at each point's own parameter, with the fit's own point in the first three places lent.
  pub told : (u : Float) (some some' : List Float) → ToldArchived degree f l u some some' 0
      → (k : ℕ) → k < point_count s → (out out' : List Float) (r : ℕ) → 3 ≤ length out → ToldArchived degree f l (parameter_of v s degree k) out out' r
      → (r ≡ 0) × (out' ≡ put_point 0 (fit_point v s degree f l k) out)
  -- And its knots begin at 0 and end at 1; the degree, which the archive does not name, is one less than the first multiplicity.
  pub range : (u : Float) (p : Point) → ReadsArchived degree f l u (Ok p) → (at (archived_knots f l) 0 ≡ nought) × (at (archived_knots f l) (f.knots - 1) ≡ one)
  pub first : (u : Float) (p : Point) → ReadsArchived degree f l u (Ok p) → get_or (archived_mults f l) 0 0 ≡ degree + 1

-- by any ladder call
abbrev pub ArchiveReadsFit : Type 0
ArchiveReadsFit = (call : Call) (s : List Float) (degree : ℕ) (v : Metric) (l l' : Lent) (f : Fit) → LadderCall call s degree v l l' (Ok f) → ReadsBack v s degree l' f

-- and by any ladder call for C, which returns 0 for an accepted fit and tells its mark and counts in lent slices
abbrev pub ToldReadsFit : Type 0
ToldReadsFit =
    (call : Call) (s : List Float) (degree : ℕ) (v : Metric) (l l' : Lent) (most most' : List Float) (counts counts' : List ℕ) → Told call s degree v l l' most most' counts counts' 0
    → (f : Fit) × ((most' ≡ set most 0 (largest_deviation f.mark)) × ((counts' ≡ put_fit 0 f counts) × ReadsBack v s degree l' f))
