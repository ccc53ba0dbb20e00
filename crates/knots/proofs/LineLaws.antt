-- The lines of a ladder and of a grid: their points, and the parameters that depend on nothing else. Assumes nothing.
use mathlib.Core.Path.{◌≡◌, ap}
use mathlib.Core.List.{List}
use Prim.Native.Nat.{ℕ, ◌+◌, ◌-◌, ◌*◌, ◌<◌}
use native.Mathlib.Omega.{arith}
use lib.Ieee.{Float}
use Rattle.places.proofs.LoopLaws.{each_cong}
use Rattle.places.proofs.PlaceLaws.{list_of-same}
use Rattle.geometry.specs.declared.Point.{Point}
use Rattle.geometry.specs.Points.{point_at}
use Rattle.knots.specs.declared.Metric.{Metric}
use Rattle.knots.specs.Parameters.{chords, point_parameters, Lines, add_line, added_lines, shared_parameters}
use Rattle.knots.specs.Lines.{line_of, lines_of}

-- ---- only the points below the count matter

chords-same : (x : Float) (n : ℕ) (f g : ℕ → Point) → ((k : ℕ) → k < n → f k ≡ g k) → chords x n f ≡ chords x n g
unfolding chords
chords-same x n f g e = list_of-same (n - 1) _ _ (λ k h. rw (e (k + 1) (omega arith), e k (omega arith)))

pub parameters-same : (v : Metric) (n : ℕ) (f g : ℕ → Point) → ((k : ℕ) → k < n → f k ≡ g k) → point_parameters v n f ≡ point_parameters v n g
unfolding point_parameters
parameters-same v n f g e = rw (chords-same v.factor n f g e)

line_same : (v : Metric) (n : ℕ) (f g : ℕ → Point) (lines : Lines) → ((k : ℕ) → k < n → f k ≡ g k) → add_line v n f lines ≡ add_line v n g lines
unfolding add_line
line_same v n f g lines e = rw (chords-same v.factor n f g e)

lines_same : (v : Metric) (lines n : ℕ) (f g : ℕ → ℕ → Point) → ((r k : ℕ) → r < lines → k < n → f r k ≡ g r k) → added_lines v lines n f ≡ added_lines v lines n g
unfolding added_lines
lines_same v lines n f g e = each_cong _ _ 0 lines _ (λ r t h l. line_same v n (f r) (g r) t (λ k i. e r k l i))

pub shared_same : (v : Metric) (lines n : ℕ) (f g : ℕ → ℕ → Point) → ((r k : ℕ) → r < lines → k < n → f r k ≡ g r k) → shared_parameters v lines n f ≡ shared_parameters v lines n g
unfolding shared_parameters
shared_same v lines n f g e = rw (lines_same v lines n f g e)

-- ---- a ladder, a grid's rows, a grid's columns

pub ladder-same : (v : Metric) (n : ℕ) (s : List Float) → point_parameters v n (line_of s 0 1) ≡ point_parameters v n (point_at s)
ladder-same v n s = parameters-same v n _ _ (λ k h. let e : 0 + 1 * k ≡ k = omega arith in ap (point_at s) e)

pub rows_same : (v : Metric) (rows cols : ℕ) (s : List Float) → shared_parameters v rows cols (lines_of s cols 1) ≡ shared_parameters v rows cols (λ i j. point_at s (i * cols + j))
rows_same v rows cols s = shared_same v rows cols _ _ (λ i j h k. let e : i * cols + 1 * j ≡ i * cols + j = omega arith in ap (point_at s) e)

pub columns-same : (v : Metric) (rows cols : ℕ) (s : List Float) → shared_parameters v cols rows (lines_of s 1 cols) ≡ shared_parameters v cols rows (λ j i. point_at s (i * cols + j))
columns-same v rows cols s = shared_same v cols rows _ _ (λ j i h k. let e : j * 1 + cols * i ≡ i * cols + j = omega arith in ap (point_at s) e)
