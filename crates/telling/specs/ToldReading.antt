-- The reader as C sees it: the number, and the point in a lent slice. Definitions only.
use Rattle.std.specs.Prelude.{◌≡◌, cond, List, ℕ, ltb, length, Float, Ok, Err}
use Rattle.geometry.specs.Points.{put_point}
use Rattle.bspline.specs.Reader.{number_in, reader_verdict, reading_of, curve_point, flat_knots, Reading}

-- a reading's number, and 9 where the slice for the point is too short
abbrev pub told_reading : List Float → Reading → ℕ
told_reading out r = cond (ltb (length out) 3) 9 (number_in r)

-- its point in the first three places
abbrev pub point_in : List Float → Reading → List Float
point_in out (Ok q) = put_point 0 q out
point_in out (Err c) = out

abbrev pub told_point : List Float → Reading → List Float
told_point out r = cond (ltb (length out) 3) out (point_in out r)

-- The contract of `nigorzai_read`. The slice for the point is out as lent and out' at exit.
pub record ToldReads (poles : List Float) (degree : ℕ) (knots : List Float) (mults : List ℕ) (u : Float) (out out' : List Float) (r : ℕ) : Type 0 where
  pub value : r ≡ told_reading out (reading_of (reader_verdict poles degree knots mults u) (curve_point (flat_knots knots mults) degree poles u))
  pub out_after : out' ≡ told_point out (reading_of (reader_verdict poles degree knots mults u) (curve_point (flat_knots knots mults) degree poles u))
