-- The grid calls as C sees them: the number, and both directions' marks and counts in lent slices. Definitions only.
use Rattle.std.specs.Prelude.{◌≡◌, Bool, cond, not, ◌&&◌, List, [], ℕ, ltb, length, set, Float, Ok, Err}
use Rattle.geometry.specs.Doubles.{nought}
use Rattle.fitting.specs.Marks.{largest_deviation}
use Rattle.checks.specs.LadderChecks.{cleared}
use Rattle.checks.specs.declared.Shape.{Shape}
use Rattle.checks.specs.declared.SurfaceCall.{SurfaceCall}
use Rattle.checks.specs.declared.SurfaceCall.TheVariants.{ApproximateWithin}
use Rattle.checks.specs.GridChecks.{Grid, GridLent, grid_lent, grid_room_of, grid_checks}
use Rattle.grids.specs.Grids.{grid_result_of, grid_result_number, grid_answer_of, HandsOutGrid, GridKept, GridAnswer}
use Rattle.telling.specs.Told.{put_fit}

-- rows and columns of points, and the degrees along u and v
abbrev pub shape_of : ℕ → ℕ → ℕ → ℕ → Shape
shape_of rows cols u v = record { rows = rows; cols = cols; u = u; v = v }

-- room for both largest deviations, and for both directions' mark, poles, distinct knots and unreadable deviations
abbrev pub tellable_grid : List Float → List ℕ → Bool
tellable_grid largest counts = not (ltb (length largest) 2) && not (ltb (length counts) 8)

-- where there is none, a lent slice is too short: the call is judged as one with nothing lent
abbrev pub no_grid : GridLent
no_grid = grid_lent [] [] [] [] [] [] [] [] []

abbrev pub judged_grid : GridLent → List Float → List ℕ → GridLent
judged_grid l largest counts = cond (tellable_grid largest counts) l no_grid

-- what is told of an answer: u's first, then v's
abbrev pub told_grid_largest : GridAnswer → List Float → List Float
told_grid_largest (Err c) xs = xs
told_grid_largest (Ok f) xs = set (set xs 0 (largest_deviation f.u.mark)) 1 (largest_deviation f.v.mark)

abbrev pub told_grid_counts : GridAnswer → List ℕ → List ℕ
told_grid_counts (Err c) xs = xs
told_grid_counts (Ok f) xs = put_fit 4 f.v (put_fit 0 f.u xs)

-- What a grid call for C leaves, judged by the slices m.
pub record ToldGridBy (m : GridLent) (call : SurfaceCall) (g : Grid) (l l' : GridLent) (largest largest' : List Float) (counts counts' : List ℕ) (r : ℕ) : Type 0 where
  pub number : r ≡ grid_result_number (grid_result_of call g m)
  pub hands : HandsOutGrid g.shape (grid_result_of call g m) l l' (grid_answer_of g.shape (grid_result_of call g m))
  pub work : l'.work ≡ cleared nought (grid_checks g (grid_room_of m)) l.work
  pub index : l'.index ≡ cleared 0 (grid_checks g (grid_room_of m)) l.index
  pub most : largest' ≡ told_grid_largest (grid_answer_of g.shape (grid_result_of call g m)) largest
  pub told : counts' ≡ told_grid_counts (grid_answer_of g.shape (grid_result_of call g m)) counts

-- The contract of a grid call for C.
abbrev pub ToldGrid : SurfaceCall → Grid → GridLent → GridLent → List Float → List Float → List ℕ → List ℕ → ℕ → Type 0
ToldGrid call g l l' largest largest' counts counts' r = ToldGridBy (judged_grid l largest counts) call g l l' largest largest' counts counts' r

-- The contract of the grid call within a tolerance for C: with demand 3 along u of the answer that is told, and of the knots and poles in the slices at exit.
pub record ToldGridWithin (g : Grid) (t : Float) (l l' : GridLent) (largest largest' : List Float) (counts counts' : List ℕ) (r : ℕ) : Type 0 where
  pub call : ToldGrid (ApproximateWithin t) g l l' largest largest' counts counts' r
  pub kept : GridKept g t l' (grid_answer_of g.shape (grid_result_of (ApproximateWithin t) g (judged_grid l largest counts)))
