-- What a ladder call is lent, and its checks up to 10. Definitions only.
use Rattle.std.specs.Prelude.{Ok, Err, ℕ, ◌+◌, ◌-◌, ◌*◌, ◌/◌, ◌%◌, ◌≤◌, ◌≡◌, not, List, eqb, ltb, length, replicate, Float}
use Rattle.std.specs.List.{list_any}
use Rattle.bspline.specs.declared.Refusal.TheVariants.{TooFewPoints, DegreeTooHigh, TooManyPoles, NotTriples, TooLarge, BufferTooShort, CoordinateOutOfRange}
use Rattle.bspline.specs.Refusals.{stop_if, ◌next◌, outside, degree_verdict, factor_verdict, Verdict}
use Rattle.knots.specs.declared.Metric.{Metric}
use Rattle.checks.specs.declared.Room.{Room}
use Rattle.checks.specs.declared.Aim.{Aim}
use Rattle.checks.specs.declared.Aim.TheVariants.{Count, Within}
use Rattle.checks.specs.declared.Call.{Call}
use Rattle.checks.specs.declared.Call.TheVariants.{Interpolate, Approximate, ApproximateWithin, SearchSpread}

-- the lent slices of a ladder call
pub record Lent : Type 0 where
  pub poles : List Float
  pub flat : List Float
  pub knots : List Float
  pub mults : List ℕ
  pub work : List Float
  pub index : List ℕ

abbrev pub lent : List Float → List Float → List Float → List ℕ → List Float → List ℕ → Lent
lent poles flat knots mults work index = record { poles = poles; flat = flat; knots = knots; mults = mults; work = work; index = index }

-- how many points a slice of places has
abbrev pub point_count : List Float → ℕ
point_count s = length s / 3

-- ---- the checks up to 10, which leave every slice as lent, in the documents' order: 7, 8, 1, 2, 3, 4, 9, 17, 10

-- 7, 8, 1, 2
unfoldable pub shape_verdict : ℕ → ℕ → Verdict
shape_verdict places degree =
    stop_if (not (eqb (places % 3) 0)) NotTriples
    next stop_if (ltb 1024 (places / 3)) TooLarge
    next stop_if (ltb (places / 3) 2) TooFewPoints
    next degree_verdict degree

-- 3 and 4 where a pole count is chosen (0 poles count as 1), for n points; 3 where none is
unfoldable pub chosen_verdict : ℕ → ℕ → ℕ → Verdict
chosen_verdict n degree count = stop_if (ltb (count - 1) degree) DegreeTooHigh next stop_if (ltb n count) TooManyPoles

unfoldable pub unchosen_verdict : ℕ → ℕ → Verdict
unchosen_verdict n degree = stop_if (ltb (n - 1) degree) DegreeTooHigh

unfoldable pub count_verdict : Call → ℕ → ℕ → Verdict
count_verdict Interpolate n degree = unchosen_verdict n degree
count_verdict (Approximate count) n degree = chosen_verdict n degree count
count_verdict (ApproximateWithin t) n degree = unchosen_verdict n degree
count_verdict (SearchSpread t) n degree = unchosen_verdict n degree

-- the same for one direction of a grid
unfoldable pub aim_verdict : Aim → ℕ → ℕ → Verdict
aim_verdict (Count count) n degree = chosen_verdict n degree count
aim_verdict (Within t) n degree = unchosen_verdict n degree

-- 9, by the lengths of the lent slices
abbrev pub room_of : Lent → Room
room_of l = record { poles = length l.poles; flat = length l.flat; knots = length l.knots; mults = length l.mults; work = length l.work; index = length l.index }

unfoldable pub room_verdict : ℕ → ℕ → Room → Verdict
room_verdict n p r =
    stop_if (ltb r.poles (3 * n)) BufferTooShort
    next stop_if (ltb r.flat (n + p + 1)) BufferTooShort
    next stop_if (ltb r.knots (n + p + 1)) BufferTooShort
    next stop_if (ltb r.mults (n + p + 1)) BufferTooShort
    next stop_if (ltb r.work (4 * p * n + 16 * n + 64)) BufferTooShort
    next stop_if (ltb r.index (4 * n)) BufferTooShort

-- 10
unfoldable pub coordinates_verdict : List Float → Verdict
coordinates_verdict s = stop_if (list_any outside s) CoordinateOutOfRange

-- one after the other
unfoldable pub ladder_verdict : Call → List Float → ℕ → Float → Room → Verdict
ladder_verdict call s degree f r =
    shape_verdict (length s) degree next count_verdict call (point_count s) degree next room_verdict (point_count s) degree r
    next factor_verdict f next coordinates_verdict s

abbrev pub ladder_checks : Call → List Float → ℕ → Metric → Lent → Verdict
ladder_checks call s degree v l = ladder_verdict call s degree v.factor (room_of l)

-- what they give: the shape of the points, and room for n points of degree p
pub record Shaped (places p : ℕ) : Type 0 where
  pub triples : places % 3 ≡ 0
  pub most : places / 3 ≤ 1024
  pub least : 2 ≤ places / 3
  pub low : 1 ≤ p
  pub high : p ≤ 25

pub record Roomy (n p : ℕ) (r : Room) : Type 0 where
  pub for_poles : 3 * n ≤ r.poles
  pub for_flat : n + p + 1 ≤ r.flat
  pub for_knots : n + p + 1 ≤ r.knots
  pub for_mults : n + p + 1 ≤ r.mults
  pub for_work : 4 * p * n + 16 * n + 64 ≤ r.work
  pub for_index : 4 * n ≤ r.index

-- the work or index slice: as lent where only the checks ran, else z in every place
unfoldable pub cleared : {A : Type 0} → A → Verdict → List A → List A
cleared z (Err c) xs = xs
cleared z (Ok p) xs = replicate (length xs) z
