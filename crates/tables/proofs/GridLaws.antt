-- A grid's distances, row by row, as the program finds them. Assumes nothing.
use mathlib.Core.Path.{◌≡◌, refl, sym, ◌∙◌, ap}
use mathlib.Core.List.{List, []}
use Prim.Native.Nat.{ℕ, ◌+◌, ◌*◌, ◌≤◌, ◌<◌}
use native.Mathlib.Omega.{arith}
use lib.Dec.{T}
use lib.ListN.{length, set, replicate}
use lib.Ieee.{Float, nan, binary64, fits}
use Rattle.places.specs.Places.{laid, list_of, joined}
use Rattle.places.proofs.PlaceLaws.{laid_none, laid0-next, list_of-replicate, row_inside, list_of-at, list_of-same, length-list_of, length-joined, joined-more, joined_same, joined_at}
use Rattle.geometry.specs.declared.Point.{Point}
use Rattle.geometry.specs.Doubles.{at, nought, larger, largest}
use Rattle.geometry.specs.Points.{squared_distance, distance, point_at, coordinates, points_of}
use Rattle.geometry.specs.Root.{sqrt_of, roots_of}
use Rattle.geometry.proofs.PointLaws.{weighted-same, distance_root, squared-fits}
use Rattle.geometry.proofs.Folds.{largest-none, largest-more}
use Rattle.geometry.proofs.Roots.{roots-list_of, roots-joined, held-list_of, held-joined}
use Rattle.knots.proofs.ParameterLaws.{laid-whole}
use Rattle.tables.specs.declared.Measured.{Measured}
use Rattle.tables.specs.BasisTable.{BasisTable, parameter_count, first, value, table_point}
use Rattle.tables.specs.Deviations.{row_distances, curve_poles, grid_distances, largest_over_rows, largest_over_columns}
use Rattle.tables.specs.Directions.{transposed}
use Rattle.tables.specs.Measures.{measured, with_all, squares_measured, rooted, curve_of, LeavesSquares}
use Rattle.tables.proofs.MeasureLaws.{squares-append, squares-few, squares_listed, rooted-measured, rooted-largest}
use Rattle.tables.proofs.PointsLaws.{length-points, points-same}

-- rows of values; of squares, measured one after the other
abbrev pub Rows : (ℕ → ℕ → Float) → ℕ → ℕ → List Float
Rows D cols i = joined i (λ k. list_of cols (D k))

pub rows-measured : (S : ℕ → ℕ → Float) (cols i : ℕ) (total row more : Measured) → total ≡ squares_measured (Rows S cols i) → row ≡ squares_measured (list_of cols (S i)) → more ≡ with_all total row → more ≡ squares_measured (Rows S cols (i + 1))
rows-measured S cols i total row more e g h =
    h ∙ rw (e, g) (sym (ap squares_measured (joined-more i (λ k. list_of cols (S k))) ∙ squares-append (Rows S cols i) (list_of cols (S i))))

length-rows : (D : ℕ → ℕ → Float) (cols i : ℕ) → length (Rows D cols i) ≡ i * cols
length-rows D cols i = length-joined i cols (λ k. list_of cols (D k)) (λ k h. length-list_of cols (D k))

-- the counts of NaN stay small
pub rows_few : (S : ℕ → ℕ → Float) (cols i : ℕ) (total : Measured) → total ≡ squares_measured (Rows S cols i) → total.unreadable ≤ i * cols
rows_few S cols i total e = omega (arith, squares-few (Rows S cols i) total e, length-rows S cols i)

rows_at : (D : ℕ → ℕ → Float) (rows cols i j : ℕ) → i < rows → j < cols → at (Rows D cols rows) (i * cols + j) ≡ D i j
rows_at D rows cols i j h l = joined_at rows cols (λ k. list_of cols (D k)) nan (λ k g. length-list_of cols (D k)) i j h l ∙ list_of-at cols (D i) j nan l

-- distances row after row, by their squares: the measures, and the largest over a column and over a row, by one root each
module _ (S : ℕ → ℕ → Float) (held : (i j : ℕ) → T (fits binary64 (S i j))) (rows cols : ℕ) (ds : List Float) (e : ds ≡ Rows (λ i j. sqrt_of (S i j)) cols rows) where
  roots_are : roots_of (Rows S cols rows) ≡ ds
  roots_are =
      roots-joined rows (λ i. list_of cols (S i)) ∙ joined_same rows _ (λ i. list_of cols (λ j. sqrt_of (S i j))) (λ i h. roots-list_of cols (S i)) ∙ sym e

  rows-rooted : (total r : Measured) → total ≡ squares_measured (Rows S cols rows) → r ≡ rooted total → r ≡ measured ds
  rows-rooted total r m h =
      rooted-measured (Rows S cols rows) total r (held-joined rows (λ i. list_of cols (S i)) (λ i. held-list_of cols (S i) (held i))) m h ∙ ap measured roots_are

  root-at : (i j : ℕ) → i < rows → j < cols → sqrt_of (S i j) ≡ at ds (i * cols + j)
  root-at i j h l = sym (ap (λ (x : List Float). at x (i * cols + j)) e ∙ rows_at (λ i j. sqrt_of (S i j)) rows cols i j h l)

  column-rooted : (j : ℕ) → j < cols → sqrt_of (largest (list_of rows (λ i. S i j))) ≡ largest (list_of rows (λ i. at ds (i * cols + j)))
  column-rooted j l = rooted-largest rows (λ i. S i j) (λ i. held i j) ∙ ap largest (list_of-same rows _ _ (λ i h. root-at i j h l))

  row-rooted : (i : ℕ) → i < rows → sqrt_of (largest (list_of cols (S i))) ≡ largest (list_of cols (λ j. at ds (i * cols + j)))
  row-rooted i h = rooted-largest cols (S i) (held i) ∙ ap largest (list_of-same cols _ _ (λ j l. root-at i j h l))

-- the first rows' squares, measured so far
module _ (S : ℕ → ℕ → Float) (cols : ℕ) where
  pub measured-start : (total : Measured) → total ≡ squares_measured [] → total ≡ squares_measured (Rows S cols 0)
  unfolding joined
  measured-start total e = e

  -- with one row more, the counts of NaN stay small
  pub both_few : (rows i n : ℕ) (g : ℕ → Float) (total row : Measured) → i < rows → n ≡ cols → total ≡ squares_measured (Rows S cols i) → row ≡ squares_measured (list_of n g) → total.unreadable + row.unreadable ≤ rows * cols
  both_few rows i n g total row h z e k = omega (arith, rows_few S cols i total e, squares_listed n g row k, row_inside i rows cols h)

-- ---- a grid's rows against their own poles: each column's largest square
module _ (S : ℕ → ℕ → Float) (cols : ℕ) where
  abbrev pub column_largest : ℕ → ℕ → Float
  column_largest i j = largest (list_of i (λ k. S k j))

  -- what the loop keeps
  pub record RowsTo (i : ℕ) (squares : List Float) (total : Measured) : Type 0 where
    pub put : squares ≡ list_of cols (column_largest i)
    pub measures : total ≡ squares_measured (Rows S cols i)

  pub rows_start : (n : ℕ) (squares : List Float) (total : Measured) → n ≡ cols → squares ≡ replicate n nought → total ≡ squares_measured [] → RowsTo 0 squares total
  rows_start n squares total z e g = record {
    put = e ∙ ap (λ (k : ℕ). replicate k nought) z ∙ sym (list_of-replicate cols nought) ∙ list_of-same cols _ (column_largest 0) (λ j l. sym (largest-none (λ k. S k j)));
    measures = measured-start S cols total g;
  }

  pub rows-turn : (n i : ℕ) (f : ℕ → Float) (now next : List Float) (total row more : Measured) → RowsTo i now total → n ≡ cols → f ≡ S i
      → next ≡ list_of n (λ j. larger (at now j) (f j)) → row ≡ squares_measured (list_of n f) → more ≡ with_all total row
      → RowsTo (i + 1) next more
  rows-turn n i f now next total row more g z same e h k = record {
    put = rw (same, z) at e
        ∙ list_of-same cols _ (column_largest (i + 1)) (λ j l. rw (g.put, list_of-at cols (column_largest i) j nan l) (sym (largest-more i (λ k. S k j))));
    measures = rows-measured S cols i total row more g.measures (rw (same, z) at h) k;
  }

-- point j of row i: the square of its distance
abbrev pub row_square : Float → BasisTable → ℕ → List Float → List Float → ℕ → ℕ → Float
row_square f t m poles s i j = squared_distance f (table_point t poles (i * m) j) (point_at s (i * parameter_count t + j))

-- the definition's distances are the roots
pub rows_done : (f : Float) (t : BasisTable) (m : ℕ) (poles s : List Float) (rows n : ℕ) (squares : List Float) (total r : Measured)
    → n ≡ parameter_count t → RowsTo (row_square f t m poles s) (parameter_count t) rows squares total → r ≡ rooted total
    → LeavesSquares (largest_over_rows rows n) (row_distances f rows t m poles s) squares r
unfolding row_distances
rows_done f t m poles s rows n squares total r z g h =
    let S = row_square f t m poles s in
    let cols : ℕ = parameter_count t in
    let held : (i j : ℕ) → T (fits binary64 (S i j)) = λ i j. squared-fits f (table_point t poles (i * m) j) (point_at s (i * cols + j)) in
    let found : row_distances f rows t m poles s ≡ Rows (λ i j. sqrt_of (S i j)) cols rows =
    joined_same rows _ _ (λ i k. list_of-same cols _ _ (λ j l. distance_root f (table_point t poles (i * m) j) (point_at s (i * cols + j)))) in
    rw z
    (record {
      measures = rows-rooted S held rows cols _ found total r g.measures h;
      deviations = ap roots_of g.put ∙ roots-list_of cols (column_largest S cols rows) ∙ list_of-same cols _ _ (λ j l. column-rooted S held rows cols _ found j l);
    })

-- ---- points of lists of points
-- point j of row i, of rows of w points
rows-point : (n w : ℕ) (f : ℕ → List Float) → ((k : ℕ) → k < n → length (f k) ≡ 3 * w) → (i j : ℕ) → i < n → j < w → point_at (joined n f) (i * w + j) ≡ point_at (f i) j
unfolding point_at
rows-point n w f e i j h l =
    let one : (p : ℕ) → p < 3 → at (joined n f) (3 * (i * w + j) + p) ≡ at (f i) (3 * j + p) =
    λ p q. let z : 3 * (i * w + j) + p ≡ i * (3 * w) + (3 * j + p) = omega arith in
    ap (λ (k : ℕ). at (joined n f) k) z ∙ joined_at n (3 * w) f nan e i (3 * j + p) h (omega arith) in
    let y : 3 * (i * w + j) + 0 ≡ 3 * (i * w + j) = omega arith in
    let z : 3 * j + 0 ≡ 3 * j = omega arith in
    let zero' : at (joined n f) (3 * (i * w + j)) ≡ at (f i) (3 * j) = ap (λ (k : ℕ). at (joined n f) k) (sym y) ∙ one 0 (omega arith) ∙ ap (λ (k : ℕ). at (f i) k) z in
    rw (zero', one 1 (omega arith), one 2 (omega arith))

pub points-at : (n : ℕ) (f : ℕ → Point) (l : ℕ) → l < n → point_at (points_of n f) l ≡ f l
unfolding point_at points_of coordinates
points-at n f l h =
    let one : (p : ℕ) → p < 3 → at (joined n (λ k. coordinates (f k))) (3 * l + p) ≡ at (coordinates (f l)) p =
    λ p q. let z : 3 * l + p ≡ l * 3 + p = omega arith in
    ap (λ (k : ℕ). at (joined n (λ k. coordinates (f k))) k) z ∙ joined_at n 3 (λ k. coordinates (f k)) nan (λ k g. refl) l p h q in
    let y : 3 * l + 0 ≡ 3 * l = omega arith in
    let zero' : at (joined n (λ k. coordinates (f k))) (3 * l) ≡ (f l).x = ap (λ (k : ℕ). at (joined n (λ k. coordinates (f k))) k) (sym y) ∙ one 0 (omega arith) in
    rw (zero', one 1 (omega arith), one 2 (omega arith))

-- pole l of line k of the transposed poles is pole k of line l
pub transposed-at : (lines count : ℕ) (poles : List Float) (k l : ℕ) → k < count → l < lines → point_at (transposed lines count poles) (k * lines + l) ≡ point_at poles (l * count + k)
unfolding transposed
transposed-at lines count poles k l h i =
    rows-point count lines (λ k. points_of lines (λ l. point_at poles (l * count + k))) (λ k g. length-points lines (λ l. point_at poles (l * count + k))) k l h i
    ∙ points-at lines (λ l. point_at poles (l * count + k)) l i

-- ---- a grid against the whole surface
pub curve_inside : (u : BasisTable) (columns m : ℕ) (poles : List Float) (i : ℕ) → first u i + u.degree < m → curve_poles u columns (transposed columns m poles) i ≡ curve_of u columns m poles i
unfolding curve_poles table_point
curve_inside u columns m poles i h =
    points-same columns _ _
    (λ l g. weighted-same (u.degree + 1) (value u i) (value u i) (λ a. point_at (transposed columns m poles) ((first u i + a) * columns + l)) (λ a. point_at poles (l * m + first u i + a))
    (λ a j. refl)
    (λ a j. let z : l * m + (first u i + a) ≡ l * m + first u i + a = omega arith in transposed-at columns m poles (first u i + a) l (omega arith) g ∙ ap (point_at poles) z))

-- point j of row i: the square of its distance
abbrev pub grid_square : Float → BasisTable → BasisTable → ℕ → ℕ → List Float → List Float → ℕ → ℕ → Float
grid_square f u v columns m poles s i j = squared_distance f (table_point v (curve_of u columns m poles i) 0 j) (point_at s (i * parameter_count v + j))

module _ (f : Float) (u v : BasisTable) (columns m : ℕ) (poles s : List Float) where
  abbrev S : ℕ → ℕ → Float
  S = grid_square f u v columns m poles s

  abbrev cols : ℕ
  cols = parameter_count v

  abbrev row_largest : ℕ → Float
  row_largest i = largest (list_of cols (S i))

  -- what the loop keeps
  pub record GridTo (old : List Float) (i : ℕ) (squares : List Float) (total : Measured) : Type 0 where
    pub put : squares ≡ laid 0 i row_largest old
    pub measures : total ≡ squares_measured (Rows S cols i)

  pub grid_start : (old : List Float) (total : Measured) → total ≡ squares_measured [] → GridTo old 0 old total
  grid_start old total e = record { put = sym (laid_none 0 row_largest old); measures = measured-start S cols total e }

  -- a row more: its squares are those from the curve
  pub grid-turn : (i w : ℕ) (old now curve : List Float) (total row more : Measured) → GridTo old i now total → curve ≡ curve_of u columns m poles i → w ≡ cols
      → row ≡ squares_measured (list_of cols (λ j. squared_distance f (table_point v curve 0 j) (point_at s (i * w + j))))
      → more ≡ with_all total row
      → GridTo old (i + 1) (set now i row.largest) more
  unfolding squares_measured
  grid-turn i w old now curve total row more g e z h k =
      let row' : row ≡ squares_measured (list_of cols (S i)) = rw (e, z) at h in
      record {
        put = laid0-next i row_largest old now row.largest g.put (ap (λ (y : Measured). y.largest) row');
        measures = rows-measured S cols i total row more g.measures row' k;
      }

  -- the definition's distances are the roots
  grid_distances-are : (rows : ℕ) → rows ≡ parameter_count u → ((i : ℕ) → i < rows → first u i + u.degree < m)
      → grid_distances f u v columns (transposed columns m poles) s ≡ Rows (λ i j. sqrt_of (S i j)) cols rows
  unfolding grid_distances
  grid_distances-are rows z inside =
      rw (← z)
      (joined_same rows _ (λ i. list_of cols (λ j. sqrt_of (S i j)))
      (λ i h. list_of-same cols _ (λ j. sqrt_of (S i j))
      (λ j l. ap (λ (c : List Float). distance f (table_point v c 0 j) (point_at s (i * cols + j))) (curve_inside u columns m poles i (inside i h))
      ∙ distance_root f (table_point v (curve_of u columns m poles i) 0 j) (point_at s (i * cols + j)))))

  pub grid_done : (rows : ℕ) (old squares : List Float) (total r : Measured) → rows ≡ parameter_count u → ((i : ℕ) → i < rows → first u i + u.degree < m) → length old ≡ rows
      → GridTo old rows squares total → r ≡ rooted total
      → LeavesSquares (largest_over_columns rows cols) (grid_distances f u v columns (transposed columns m poles) s) squares r
  grid_done rows old squares total r z inside long g h =
      let held : (i j : ℕ) → T (fits binary64 (S i j)) = λ i j. squared-fits f (table_point v (curve_of u columns m poles i) 0 j) (point_at s (i * cols + j)) in
      let found = grid_distances-are rows z inside in
      record {
        measures = rows-rooted S held rows cols _ found total r g.measures h;
        deviations =
            ap roots_of (g.put ∙ laid-whole rows row_largest old long)
            ∙ roots-list_of rows row_largest
            ∙ list_of-same rows (λ i. sqrt_of (row_largest i)) _ (λ i l. row-rooted S held rows cols _ found i l);
      }
