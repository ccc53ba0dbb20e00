-- A grid as it is handed in, what a grid call is lent, and its checks. Definitions only.
-- A grid is `rows` times `cols` points, row after row: u runs along the rows' numbers, v along a row.
use Rattle.std.specs.Prelude.{ℕ, ◌+◌, ◌*◌, ◌≤◌, max, ◌≡◌, not, ◌||◌, List, eqb, ltb, length, Float}
use Rattle.bspline.specs.declared.Refusal.TheVariants.{TooFewPoints, PoleCountMismatch, TooLarge, BufferTooShort}
use Rattle.bspline.specs.Refusals.{stop_if, ◌next◌, degree_verdict, factor_verdict, Verdict}
use Rattle.knots.specs.declared.Metric.{Metric}
use Rattle.checks.specs.declared.Shape.{Shape}
use Rattle.checks.specs.declared.GridRoom.{GridRoom}
use Rattle.checks.specs.declared.SurfaceCall.{SurfaceCall}
use Rattle.checks.specs.declared.SurfaceCall.TheVariants.{Approximate, ApproximateWithin}
use Rattle.checks.specs.LadderChecks.{chosen_verdict, unchosen_verdict, coordinates_verdict}

-- a grid as it is handed in: its points, its rows, columns and degrees, and how it is measured
pub record Grid : Type 0 where
  pub points : List Float
  pub shape : Shape
  pub metric : Metric

-- the lent slices of a grid call
pub record GridLent : Type 0 where
  pub poles : List Float
  pub u_flat : List Float
  pub u_knots : List Float
  pub u_mults : List ℕ
  pub v_flat : List Float
  pub v_knots : List Float
  pub v_mults : List ℕ
  pub work : List Float
  pub index : List ℕ

abbrev pub grid_of : List Float → Shape → Metric → Grid
grid_of points shape metric = record { points = points; shape = shape; metric = metric }

abbrev pub grid_lent : List Float → List Float → List Float → List ℕ → List Float → List Float → List ℕ → List Float → List ℕ → GridLent
grid_lent poles u_flat u_knots u_mults v_flat v_knots v_mults work index =
    record { poles = poles; u_flat = u_flat; u_knots = u_knots; u_mults = u_mults; v_flat = v_flat; v_knots = v_knots; v_mults = v_mults; work = work; index = index }

-- ---- the checks up to 10, which leave every slice as lent, in the documents' order: 8, 2 (u, then v), 1, 6 for length, 9, 17, 10

-- 8, 2, 1, 6, by the number of the points' places
unfoldable pub grid_shape_verdict : ℕ → Shape → Verdict
grid_shape_verdict places h =
    stop_if (ltb 64 h.rows || ltb 64 h.cols) TooLarge
    next degree_verdict h.u
    next degree_verdict h.v
    next stop_if (ltb h.rows 2 || ltb h.cols 2) TooFewPoints
    next stop_if (not (eqb places (3 * (h.rows * h.cols)))) PoleCountMismatch

-- the needed length of the work slice, and of the index slice
abbrev pub work_length : Shape → ℕ
work_length h = 12 * (h.rows * h.cols) + max h.rows h.cols * (6 * max h.u h.v + 24) + 128

abbrev pub index_length : Shape → ℕ
index_length h = 8 * max h.rows h.cols

-- 9, by the lengths of the lent slices
abbrev pub grid_room_of : GridLent → GridRoom
grid_room_of l =
    record {
      poles = length l.poles;
      uflat = length l.u_flat;
      uknots = length l.u_knots;
      umults = length l.u_mults;
      vflat = length l.v_flat;
      vknots = length l.v_knots;
      vmults = length l.v_mults;
      work = length l.work;
      index = length l.index;
    }

unfoldable pub grid_room_verdict : Shape → GridRoom → Verdict
grid_room_verdict h r =
    stop_if (ltb r.poles (3 * (h.rows * h.cols))) BufferTooShort
    next stop_if (ltb r.uflat (h.rows + h.u + 1)) BufferTooShort
    next stop_if (ltb r.uknots (h.rows + h.u + 1)) BufferTooShort
    next stop_if (ltb r.umults (h.rows + h.u + 1)) BufferTooShort
    next stop_if (ltb r.vflat (h.cols + h.v + 1)) BufferTooShort
    next stop_if (ltb r.vknots (h.cols + h.v + 1)) BufferTooShort
    next stop_if (ltb r.vmults (h.cols + h.v + 1)) BufferTooShort
    next stop_if (ltb r.work (work_length h)) BufferTooShort
    next stop_if (ltb r.index (index_length h)) BufferTooShort

-- one after the other
unfoldable pub grid_checks : Grid → GridRoom → Verdict
grid_checks g r = grid_shape_verdict (length g.points) g.shape next grid_room_verdict g.shape r next factor_verdict g.metric.factor next coordinates_verdict g.points

-- what they give
pub record GridShaped (places : ℕ) (h : Shape) : Type 0 where
  pub rows_most : h.rows ≤ 64
  pub cols_most : h.cols ≤ 64
  pub u_low : 1 ≤ h.u
  pub u_high : h.u ≤ 25
  pub v_low : 1 ≤ h.v
  pub v_high : h.v ≤ 25
  pub rows_two : 2 ≤ h.rows
  pub cols_two : 2 ≤ h.cols
  pub whole : places ≡ 3 * (h.rows * h.cols)

pub record GridRoomy (h : Shape) (r : GridRoom) : Type 0 where
  pub for_poles : 3 * (h.rows * h.cols) ≤ r.poles
  pub for_uflat : h.rows + h.u + 1 ≤ r.uflat
  pub for_uknots : h.rows + h.u + 1 ≤ r.uknots
  pub for_umults : h.rows + h.u + 1 ≤ r.umults
  pub for_vflat : h.cols + h.v + 1 ≤ r.vflat
  pub for_vknots : h.cols + h.v + 1 ≤ r.vknots
  pub for_vmults : h.cols + h.v + 1 ≤ r.vmults
  pub for_work : work_length h ≤ r.work
  pub for_index : index_length h ≤ r.index

-- ---- and those after 5

-- 3 and 4 along u, then along v, with chosen pole counts; 3 without
unfoldable pub counts_verdict : SurfaceCall → Shape → Verdict
counts_verdict (Approximate uCount vCount) h = chosen_verdict h.rows h.u uCount next chosen_verdict h.cols h.v vCount
counts_verdict (ApproximateWithin t) h = unchosen_verdict h.rows h.u next unchosen_verdict h.cols h.v
