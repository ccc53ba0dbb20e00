-- The rows of a surface's poles, one after the other. Assumes nothing.
use mathlib.Core.Path.{◌≡◌, sym, ap, ◌∙◌}
use mathlib.Core.List.{List, ◌++◌, append-nil}
use Prim.Native.Nat.{ℕ, ◌+◌, ◌*◌, ◌≤◌, ◌<◌}
use native.Mathlib.Nat.{mul-le-mul_right, zero-mul}
use native.Mathlib.Omega.{arith}
use lib.ListN.{length, drop}
use lib.Seq.{drop-length}
use lib.Ieee.{Float, nan}
use Rattle.places.specs.Places.{joined, laid}
use Rattle.places.specs.Regions.{part, splice}
use Rattle.places.proofs.PlaceLaws.{row_inside, length-joined, joined-next, laid_copy, length_filled}
use Rattle.places.proofs.RegionLaws.{length_part}
use Rattle.geometry.specs.Doubles.{at}
use Rattle.geometry.specs.Points.{point_at, points_of}
use Rattle.tables.specs.Directions.{transposed}
use Rattle.tables.proofs.PointsLaws.{length-points, points-start, points-turn, points_end}
use Rattle.checks.proofs.GridCheckLaws.{points-few}

-- row k: pole k of each column
abbrev pub surface_row : ℕ → ℕ → List Float → ℕ → List Float
surface_row columns count poles k = points_of columns (λ l. point_at poles (l * count + k))

length-row : (columns count : ℕ) (poles : List Float) (k : ℕ) → length (surface_row columns count poles k) ≡ 3 * columns
length-row columns count poles k = length-points columns (λ l. point_at poles (l * count + k))

pub length-transposed : (columns count : ℕ) (poles : List Float) → length (transposed columns count poles) ≡ 3 * (columns * count)
unfolding transposed
length-transposed columns count poles = length-joined count (3 * columns) (surface_row columns count poles) (λ k h. length-row columns count poles k) ∙ omega arith

pub row_within : (k columns count : ℕ) → k < count → k * (3 * columns) + 3 * columns ≤ 3 * (columns * count)
row_within k columns count h = let a : (k + 1) * columns ≤ count * columns = mul-le-mul_right columns (omega arith) in omega arith

-- what a row is filled with, point by point
pub ruleset points = (points-start, points-turn, points_end, row_inside, points-few)

-- no row yet
pub rows_start : (w : ℕ) (f : ℕ → List Float) (l : List Float) → l ≡ joined 0 f ++ drop (0 * w) l
unfolding joined
rows_start w f l = ap (λ (n : ℕ). drop n l) (sym (zero-mul w))

-- a row more
pub rows-turn : (columns count k : ℕ) (from old now row : List Float) → k < count → 3 * (columns * count) ≤ length old
    → now ≡ joined k (surface_row columns count from) ++ drop (k * (3 * columns)) old → row ≡ surface_row columns count from k
    → splice (k * (3 * columns)) (k * (3 * columns) + 3 * columns) row now ≡ joined (k + 1) (surface_row columns count from) ++ drop ((k + 1) * (3 * columns)) old
rows-turn columns count k from old now row h room e put =
    let w = 3 * columns in
    let f = surface_row columns count from in
    let i = row_within k columns count h in
    let long : length now ≡ length old = length_filled (k * w) (joined k f) old now (omega arith) (length-joined k w f (λ i h. length-row columns count from i)) e in
    let n : length (part (k * w) (k * w + w) now) ≡ w = length_part (k * w) (k * w + w) now (omega arith) ∙ omega arith in
    let whole : row ≡ f k ++ drop w (part (k * w) (k * w + w) now) =
    put ∙ sym (append-nil (f k)) ∙ ap (λ (x : List Float). f k ++ x) (sym (drop-length (part (k * w) (k * w + w) now)) ∙ ap (λ (m : ℕ). drop m (part (k * w) (k * w + w) now)) n) in
    joined-next k w f old now row (λ i h. length-row columns count from i) (omega arith) long e whole

-- all of them
pub rows_end : (columns count k : ℕ) (from old now : List Float) → k ≡ count → 3 * (columns * count) ≤ length old
    → now ≡ joined k (surface_row columns count from) ++ drop (k * (3 * columns)) old
    → now ≡ laid 0 (3 * (columns * count)) (at (transposed columns count from)) old
unfolding transposed
rows_end columns count k from old now z room e =
    let n = length-transposed columns count from in
    let w : length (transposed columns count from) ≡ count * (3 * columns) = n ∙ omega arith in
    rw z at e
    ∙ ap (λ (m : ℕ). transposed columns count from ++ drop m old) (sym w)
    ∙ sym (laid_copy (transposed columns count from) old nan (omega arith))
    ∙ ap (λ (m : ℕ). laid 0 m (at (transposed columns count from)) old) n

pub ruleset rows = (rows_start, rows-turn, rows_end, row_within, points-few)
