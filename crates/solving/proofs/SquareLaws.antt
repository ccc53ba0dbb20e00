-- What the steps of the normal equations keep, and what they are on a table. Assumes nothing.
use mathlib.Core.Path.{◌≡◌, refl, sym, ap, ◌∙◌}
use mathlib.Core.Bool.{Bool, true, false}
use mathlib.Core.List.{List, ◌++◌, append-nil}
use Prim.Native.Nat.{ℕ, ◌+◌, ◌*◌, ◌≤◌, ◌<◌}
use native.Mathlib.Nat.{le-mul_of_pos_right}
use native.Mathlib.Omega.{arith}
use lib.ListN.{length, drop, replicate, length-replicate}
use lib.Seq.{drop-length}
use lib.Ieee.{Float, nan}
use Rattle.std.specs.List.{list_all}
use Rattle.std.specs.Prelude.{Option, Some, None, is_some}
use Rattle.std.specs.Bool.{then_some}
use Rattle.places.specs.Loops.{each, outcome}
use Rattle.places.specs.Places.{joined}
use Rattle.places.specs.Regions.{part}
use Rattle.places.proofs.ListLaws.{all_places}
use Rattle.places.proofs.LoopLaws.{each_step, each_done, each_cong}
use Rattle.places.proofs.PlaceLaws.{row_inside}
use Rattle.places.proofs.RegionLaws.{length-each, length-down, get_d_part}
use Rattle.geometry.specs.declared.Point.{Point}
use Rattle.geometry.specs.Doubles.{nought, at, is_finite}
use Rattle.geometry.proofs.PointLaws.{length_put-point}
use Rattle.cholesky.specs.Cholesky.{forward_row, back_row, factor_symmetric_band, substitute_symmetric_band}
use Rattle.cholesky.specs.Together.{EachLine}
use Rattle.cholesky.proofs.TogetherLaws.{lines-joined}
use Rattle.cholesky.proofs.Lengths.{length_forward-row, length-back-row}
use Rattle.knots.specs.declared.lines.Lines.{Lines}
use Rattle.knots.specs.OnLines.{on_lines}
use Rattle.tables.specs.declared.basis_table.Table.{Table}
use Rattle.tables.specs.BasisTable.{BasisTable, parameter_count, first}
use Rattle.tables.specs.Layout.{table_of}
use Rattle.solving.specs.LeastSquares.{add_product, normal_matrix, add_datum, right_hand, relative_floor, solved_lines, least_squares}
use Rattle.solving.specs.Steps.{add_row_product, add_row_value, add_to_pole, Squared}

-- the matrix has the row of pole first + a, for a up to p, and the pole's number fits where the row does
pub pole_row : (first p a n : ℕ) → a ≤ p → (first + p) * (p + 1) + (p + 1) ≤ n → ((first + a) * (p + 1) + (p + 1) ≤ n) × (first + p ≤ n)
pole_row first p a n h e =
    (omega (arith, row_inside (first + a) (first + p + 1) (p + 1) (omega arith)), omega (arith, le-mul_of_pos_right {m = p + 1} (first + p) (omega arith)))

-- ---- a row of a table

-- parameter k's products
unfoldable pub add_parameter : BasisTable → ℕ → List Float → List Float
add_parameter t k = each 0 (t.degree + 1) (λ a. each 0 (a + 1) (add_product t k a))

-- and its point's part in the right-hand side
unfoldable pub add_point : BasisTable → (ℕ → Point) → ℕ → List Float → List Float
add_point t point k = each 0 (t.degree + 1) (add_datum t k (point k))

-- the values of parameter k
abbrev pub row_in : BasisTable → ℕ → List Float
row_in t k = part (k * (t.degree + 1)) (k * (t.degree + 1) + (t.degree + 1)) t.values

module _ (t : BasisTable) (k : ℕ) where
  value_in : (a : ℕ) → a < t.degree + 1 → at (row_in t k) a ≡ at t.values (k * (t.degree + 1) + a)
  value_in a h = get_d_part (k * (t.degree + 1)) (k * (t.degree + 1) + (t.degree + 1)) t.values a nan (omega arith)

  pub parameter_in : (l : List Float) → add_parameter t k l ≡ each 0 (t.degree + 1) (add_row_value t.degree (first t k) (row_in t k)) l
  unfolding add_parameter add_row_value add_row_product add_product
  parameter_in l =
      each_cong (λ a. each 0 (a + 1) (add_product t k a)) (add_row_value t.degree (first t k) (row_in t k)) 0 (t.degree + 1) l
      (λ a x u h. each_cong (add_product t k a) (add_row_product t.degree (first t k) a (at (row_in t k) a) (row_in t k)) 0 (a + 1) x
      (λ c y v g. rw (value_in a h, value_in c (omega arith))))

  pub point_in : (point : ℕ → Point) (l : List Float) → add_point t point k l ≡ each 0 (t.degree + 1) (add_to_pole (first t k) (point k) (row_in t k)) l
  unfolding add_point add_to_pole add_datum
  point_in point l =
      each_cong (add_datum t k (point k)) (add_to_pole (first t k) (point k) (row_in t k)) 0 (t.degree + 1) l
      (λ a x u h. rw (value_in a h))

-- the matrix and the right-hand side, parameter by parameter
pub normal_rows : (t : BasisTable) (m : ℕ) → normal_matrix t m ≡ each 0 (parameter_count t) (add_parameter t) (replicate (m * (t.degree + 1)) nought)
unfolding normal_matrix add_parameter
normal_rows t m = refl

pub right_points : (t : BasisTable) (m : ℕ) (point : ℕ → Point) → right_hand t m point ≡ each 0 (parameter_count t) (add_point t point) (replicate (3 * m) nought)
unfolding right_hand add_point
right_points t m point = refl

-- what the loops over the parameters cite
pub ruleset rows = (each_step, each_done, normal_rows, parameter_in)

pub ruleset points = (each_step, each_done, right_points, point_in)

-- ---- lengths

pub length-point : (t : BasisTable) (point : ℕ → Point) (k : ℕ) (l : List Float) → length (add_point t point k l) ≡ length l
unfolding add_point add_datum
length-point t point k l = length-each _ (λ a x. length_put-point _ _ x) 0 (t.degree + 1) l

pub length-right : (t : BasisTable) (m : ℕ) (point : ℕ → Point) → length (right_hand t m point) ≡ 3 * m
length-right t m point = ap length (right_points t m point) ∙ length-each _ (λ k x. length-point t point k x) 0 (parameter_count t) (replicate (3 * m) nought) ∙ length-replicate (3 * m) nought

pub length_substituted : (h n : ℕ) (lower poles : List Float) → length (substitute_symmetric_band h n lower poles) ≡ length poles
unfolding substitute_symmetric_band
length_substituted h n lower poles =
    length-down (back_row h n lower) (λ k x. length-back-row h n lower k x) n _ ∙ length-each (forward_row h lower) (λ k x. length_forward-row h lower k x) 0 n poles

-- ---- the lines

-- lines that fill the list
pub lines_fill : (n lines : ℕ) (g : ℕ → List Float) (w w' : List Float) → length w ≡ 3 * (lines * n) → EachLine n lines (λ r x. g r) w w' → w' ≡ joined lines g
lines_fill n lines g w w' h e =
    lines-joined n lines g w w' e
    ∙ ap (λ (k : ℕ). joined lines g ++ drop k w) (sym h)
    ∙ ap (λ (l : List Float). joined lines g ++ l) (drop-length w)
    ∙ append-nil (joined lines g)

-- the only line
pub one_line : (lines : ℕ) (f : ℕ → List Float) (g : List Float → List Float) → lines ≡ 1 → g (joined lines f) ≡ joined lines (λ r. g (f r))
unfolding joined
one_line lines f g e = rw e

-- ---- the whole fit

told_by : (b : Bool) → is_some (then_some b (tt {0})) ≡ b
told_by true = refl
told_by false = refl

module _ (t : Table) (l : Lines) (band lower xs : List Float) (o : Option (Unit {0})) (is : band ≡ normal_matrix (table_of t) t.poles)
    (factor : outcome (is_some o) lower ≡ factor_symmetric_band t.degree t.poles relative_floor band) where
  pub none_squared : o ≡ None → (r : Option (Unit {0})) → r ≡ None → Squared t l xs (is_some r)
  unfolding least_squares solved_lines
  none_squared e r none = record { answer = rw (← is, ← factor, e, none) }

  pub some_squared : (x : Unit {0}) → o ≡ Some x → xs ≡ joined l.lines (λ k. substitute_symmetric_band t.degree t.poles lower (right_hand (table_of t) t.poles (on_lines l k)))
      → (r : Option (Unit {0})) → r ≡ then_some (list_all is_finite xs) tt → Squared t l xs (is_some r)
  unfolding least_squares solved_lines
  some_squared x e solved r all = record { answer = rw (← is, ← factor, e, all, told_by, all_places is_finite nan xs, solved) }
