-- What parameters and knots are, one by one, as The NURBS Book has them: 9.5 and 9.6 for a ladder, for a grid the averages over its lines (A9.3), and averaged knots
-- (9.8). And what distinct knots with multiplicities are. `proofs/SpacingLaws`, `proofs/AveragedLaws` and `proofs/CompressedLaws` show that the definitions satisfy them.
use Rattle.std.specs.Prelude.{◌≡◌, Bool, true, false, cond, not, List, ℕ, zero, suc, ◌+◌, ◌-◌, ◌*◌, ◌^◌, ◌≤◌, ◌<◌, length, replicate, Float}
use Rattle.std.specs.Float.{binary64}
use Rattle.std.specs.Float.Ieee.{round, le, eq}
use Rattle.places.specs.Places.{count_below, joined}
use Rattle.geometry.specs.declared.Point.{Point}
use Rattle.geometry.specs.Doubles.{◌⊗◌, ◌⊘◌, nought, one, double, at, sum_below, sum_over}
use Rattle.geometry.specs.Root.{sqrt_of}
use Rattle.geometry.specs.Points.{distance}
use Rattle.knots.specs.declared.Metric.{Metric}
use Rattle.knots.specs.declared.Spacing.{Spacing}
use Rattle.knots.specs.declared.Spacing.TheVariants.{Chordal, Centripetal}
use Rattle.knots.specs.Parameters.{confusion}

-- ---- parameters: each operation is rounded once, and sums are added up in the order of the points and of the lines

-- the distance from point k to the next
abbrev pub chord : Metric → (ℕ → Point) → ℕ → Float
chord v point k = distance v.factor (point (k + 1)) (point k)

-- how far point k is along its line: the chords up to it (9.5), or their square roots (9.6)
unfoldable pub along_by : Spacing → (ℕ → Float) → ℕ → Float
along_by Chordal chord k = sum_below k chord
along_by Centripetal chord k = sum_below k (λ j. sqrt_of (chord j))

abbrev pub along : Metric → (ℕ → Point) → ℕ → Float
along v point = along_by v.spacing (chord v point)

-- that as a part of the whole, for a line of n points
unfoldable pub part_along : Metric → ℕ → (ℕ → Point) → ℕ → Float
part_along v n point k = along v point k ⊗ (one ⊘ along v point (n - 1))

-- a ladder's n parameters: 0 first, 1 last, and between them how far each point is along. No two neighbours are confused.
pub record IsSpaced (v : Metric) (n : ℕ) (point : ℕ → Point) (params : List Float) : Type 0 where
  pub apart : (k : ℕ) → k < n - 1 → le (chord v point k) confusion ≡ false
  pub long : length params ≡ n
  pub first : at params 0 ≡ nought
  pub inner : (k : ℕ) → 0 < k → k < n - 1 → at params k ≡ part_along v n point k
  pub last : at params (n - 1) ≡ one

-- whether a line of n points counts: its chords come to more than the bound, also where the spacing is centripetal
unfoldable pub counts : Metric → ℕ → (ℕ → Point) → Bool
counts v n point = not (le (sum_below (n - 1) (chord v point)) confusion)

-- a grid's n parameters, point r k being point k of line r: 0 first, 1 last, and between them the averages over the lines that count. There is such a line, and they rise.
pub record AreAverages (v : Metric) (lines n : ℕ) (point : ℕ → ℕ → Point) (params : List Float) : Type 0 where
  pub some : 0 < count_below lines (λ r. counts v n (point r))
  pub long : length params ≡ n
  pub first : at params 0 ≡ nought
  pub inner : (k : ℕ) → 0 < k → k < n - 1
      → at params k ≡ sum_over lines (λ r. counts v n (point r)) (λ r. part_along v n (point r) k) ⊗ (one ⊘ double (count_below lines (λ r. counts v n (point r))))
  pub last : at params (n - 1) ≡ one
  pub rising : (k : ℕ) → k < n - 1 → le (at params (k + 1)) (at params k) ≡ false

-- ---- averaged knots

-- Parameters with so few digits that no sum of 25 of them is rounded: parameter k is t k / 2 ^ b.
pub record AreShort (b : ℕ) (t : ℕ → ℕ) (params : List Float) : Type 0 where
  pub places : b ≤ 1074
  pub few : (k : ℕ) → t k ≤ 2 ^ 48
  pub are : (k : ℕ) → k < length params → at params k ≡ round binary64 false (t k) (2 ^ b)

-- t 0 + .. + t (n - 1) of whole numbers
unfoldable pub total : ℕ → (ℕ → ℕ) → ℕ
total zero t = 0
total (suc n) t = total n t + t n

-- 9.8, of such parameters: p + 1 zeros, p + 1 ones, and between them knot j + p is (t j + .. + t (j + p - 1)) / 2 ^ b / p, rounded once.
pub record AreAveraged (b : ℕ) (t : ℕ → ℕ) (params : List Float) (p : ℕ) (flat : List Float) : Type 0 where
  pub long : length flat ≡ length params + p + 1
  pub first : (i : ℕ) → i ≤ p → at flat i ≡ nought
  pub inner : (j : ℕ) → 1 ≤ j → j + p < length params → at flat (j + p) ≡ round binary64 false (total p (λ i. t (j + i))) (p * 2 ^ b)
  pub last : (i : ℕ) → length params ≤ i → i < length params + p + 1 → at flat i ≡ one

-- ---- distinct knots

-- knots that are equal are one double: there are not both -0 and 0 (a NaN equals nothing, and is a run of its own)
abbrev pub OneOfEach : List Float → Type 0
OneOfEach flat = (i j : ℕ) → i < length flat → j < length flat → eq (at flat i) (at flat j) ≡ true → at flat i ≡ at flat j

-- flat knots as distinct knots with multiplicities: each knot as often as its multiplicity, one after the other, are the flat knots again; neighbours differ
pub record AreRuns (flat : List Float) (count : ℕ) (knot : ℕ → Float) (multiplicity : ℕ → ℕ) : Type 0 where
  pub again : joined count (λ k. replicate (multiplicity k) (knot k)) ≡ flat
  pub differ : (k : ℕ) → k + 1 < count → eq (knot k) (knot (k + 1)) ≡ false
  pub some : (k : ℕ) → k < count → 0 < multiplicity k
