-- The table of basis values, filled by a loop that makes one row a turn. Assumes nothing.
use Prim.Native.Nat.{ℕ, ◌+◌, ◌-◌, ◌*◌, ◌≤◌, ◌<◌}
use native.Mathlib.Omega.{arith}
use native.Mathlib.Nat.{zero-mul}
use mathlib.Core.Path.{◌≡◌, refl, sym, ap, ◌∙◌}
use mathlib.Core.Bool.{true}
use mathlib.Core.List.{List, [], ◌++◌, append-nil}
use lib.Ieee.{Float, nan, le}
use lib.ListN.{length, set, drop, drop_of_length-le}
use Rattle.places.specs.Places.{list_of, joined}
use Rattle.places.specs.Regions.{part, splice}
use Rattle.places.proofs.PlaceLaws.{length-list_of, list_of-at, list_of-same, list_of_all, joined_at, length-joined, list_of-next, joined-next}
use Rattle.geometry.specs.Doubles.{at}
use Rattle.geometry.specs.Points.{point_at}
use Rattle.geometry.proofs.PointLaws.{weighted-same}
use Rattle.bspline.specs.Spans.{span_on, span_before, span_at, clamp, wide, first_parameter, last_parameter, NeverFalls, InRange}
use Rattle.bspline.specs.Reader.{curve_point}
use Rattle.bspline.proofs.HoldingLaws.{clamp-inside}
use Rattle.bspline.proofs.AgreeLaws.{spans_agree}
use Rattle.bspline.specs.Basis.{basis_at}
use Rattle.bspline.proofs.SpanLaws.{span_before-next, span_before-in}
use Rattle.bspline.proofs.Recurrence.{length-basis_at}
use Rattle.tables.specs.declared.basis_table.TablePlaces.{TablePlaces}
use Rattle.tables.specs.BasisTable.{basis_table, first, value, table_point}
use Rattle.tables.specs.Layout.{FillsTable, Filled}

abbrev pub first_at : List Float → ℕ → List Float → ℕ → ℕ
first_at flat d params k = span_at flat d params k - d

abbrev pub row_at : List Float → ℕ → List Float → ℕ → List Float
row_at flat d params k = basis_at flat d (span_at flat d params k) (at params k)

-- the first k rows are made, and the search stands at `span`
pub record TableTo (flat : List Float) (d : ℕ) (params : List Float) (firsts₀ firsts : List ℕ) (values₀ values : List Float) (span k : ℕ) : Type 0 where
  pub here : span ≡ span_before flat d params k
  pub firsts_to : firsts ≡ list_of k (first_at flat d params) ++ drop k firsts₀
  pub values_to : values ≡ joined k (row_at flat d params) ++ drop (k * (d + 1)) values₀

pub table-start : (flat : List Float) (d : ℕ) (params : List Float) (firsts : List ℕ) (values : List Float) → TableTo flat d params firsts firsts values values d 0
unfolding span_before list_of joined
table-start flat d params firsts values = record {
  here = refl;
  firsts_to = refl;
  values_to = rw zero-mul;
}

-- a row more
pub table-next : {flat : List Float} {d : ℕ} {params : List Float} {firsts₀ firsts : List ℕ} {values₀ values : List Float} {span k : ℕ} (s : ℕ) (ys : List Float)
    → TableTo flat d params firsts₀ firsts values₀ values span k
    → k < length firsts₀ → k * (d + 1) + (d + 1) ≤ length values₀ → length values ≡ length values₀
    → s ≡ span_on flat d span (at params k)
    → ys ≡ basis_at flat d s (at params k) ++ drop (d + 1) (part (k * (d + 1)) (k * (d + 1) + (d + 1)) values)
    → TableTo flat d params firsts₀ (set firsts k (s - d)) values₀ (splice (k * (d + 1)) (k * (d + 1) + (d + 1)) ys values) s (k + 1)
table-next {flat} {d} {params} {firsts₀} {firsts} {values₀} {values} {span} {k} s ys p in-firsts in-values long found put = record {
  here = on;
  firsts_to = firsts_on;
  values_to = values_on;
}
  where
    on : s ≡ span_before flat d params (k + 1)
    on = (rw p.here at found) ∙ sym (span_before-next flat d params k)

    firsts_on : set firsts k (s - d) ≡ list_of (k + 1) (first_at flat d params) ++ drop (k + 1) firsts₀
    firsts_on = list_of-next k (first_at flat d params) firsts₀ firsts (s - d) in-firsts p.firsts_to (ap (λ (m : ℕ). m - d) on)

    put_on : ys ≡ row_at flat d params k ++ drop (d + 1) (part (k * (d + 1)) (k * (d + 1) + (d + 1)) values)
    put_on = put ∙ ap (λ (m : ℕ). basis_at flat d m (at params k) ++ drop (d + 1) (part (k * (d + 1)) (k * (d + 1) + (d + 1)) values)) on

    values_on : splice (k * (d + 1)) (k * (d + 1) + (d + 1)) ys values ≡ joined (k + 1) (row_at flat d params) ++ drop ((k + 1) * (d + 1)) values₀
    values_on = joined-next k (d + 1) (row_at flat d params) values₀ values ys (λ i h. length-basis_at flat d _ _) in-values long p.values_to put_on

-- with every row made, in as many places as they take
pub table_end : {flat : List Float} {d : ℕ} {params : List Float} {firsts₀ firsts : List ℕ} {values₀ values : List Float} {span k : ℕ} → TableTo flat d params firsts₀ firsts values₀ values span k
    → k ≡ length params → length firsts₀ ≡ length params → length values₀ ≡ length params * (d + 1)
    → (firsts ≡ (basis_table flat d params).firsts) × (values ≡ (basis_table flat d params).values)
unfolding basis_table
table_end {flat} {d} {params} {firsts₀} {firsts} {values₀} {values} {span} {k} p e m n =
    let no_firsts : drop (length params) firsts₀ ≡ [] = drop_of_length-le firsts₀ (omega arith) in
    let no_values : drop (length params * (d + 1)) values₀ ≡ [] = drop_of_length-le values₀ (omega arith) in
    (p.firsts_to ∙ rw (e, no_firsts, append-nil), p.values_to ∙ rw (e, no_values, append-nil))

-- a row's values are the basis functions on the span that its search finds
pub value_is : (flat : List Float) (d : ℕ) (params : List Float) (k : ℕ) → k < length params → (a : ℕ) → a < d + 1 → value (basis_table flat d params) k a ≡ at (row_at flat d params k) a
unfolding basis_table
value_is flat d params k h a l = joined_at (length params) (d + 1) (row_at flat d params) nan (λ j _. length-basis_at flat d (span_at flat d params j) (at params j)) k a h l

pub row_values : (flat : List Float) (d : ℕ) (params : List Float) (k : ℕ) → k < length params → list_of (d + 1) (value (basis_table flat d params) k) ≡ row_at flat d params k
unfolding basis_table
row_values flat d params k h =
    let row = row_at flat d params k in
    list_of-same (d + 1) _ (at row) (value_is flat d params k h) ∙ list_of_all (d + 1) row nan (length-basis_at flat d (span_at flat d params k) (at params k))

-- a row for each parameter
pub length_rows : (flat : List Float) (d : ℕ) (params : List Float) → length (basis_table flat d params).firsts ≡ length params
unfolding basis_table
length_rows flat d params = length-list_of (length params) _

length_values : (flat : List Float) (d : ℕ) (params : List Float) → length (basis_table flat d params).values ≡ length params * (d + 1)
unfolding basis_table
length_values flat d params = length-joined (length params) (d + 1) _ (λ k h. length-basis_at flat d _ _)

-- the reader's point at a parameter is the table's: both find the same span, where the last has a width if a parameter stands at the range's end
module _ (flat : List Float) (falls : NeverFalls flat) (d : ℕ) (long : 2 * d + 2 ≤ length flat) (params : List Float) (p : InRange flat d params) where
  pub point_read : (poles : List Float) (k : ℕ) → k < length params → (le (last_parameter flat d) (at params k) ≡ true → wide flat (length flat - d - 2) ≡ true)
      → curve_point flat d poles (at params k) ≡ table_point (basis_table flat d params) poles 0 k
  unfolding curve_point table_point basis_table
  point_read poles k h end =
      let u = at params k in
      let s = span_at flat d params k in
      let row = row_at flat d params k in
      let inside : clamp u (first_parameter flat d) (last_parameter flat d) ≡ u = clamp-inside u _ _ (p.from k h) (p.to k h) in
      let same : first (basis_table flat d params) k ≡ s - d = list_of-at (length params) (first_at flat d params) k 0 h in
      rw (inside, ← spans_agree flat falls d long params p k h end)
      (weighted-same (d + 1) (at row) (value (basis_table flat d params) k) (λ a. point_at poles (s - d + a)) (λ a. point_at poles (0 + first (basis_table flat d params) k + a))
      (λ a l. sym (value_is flat d params k h a l))
      (λ a l. let e : s - d + a ≡ 0 + first (basis_table flat d params) k + a = omega arith in ap (point_at poles) e))

-- each row's poles are among those that the flat knots have
pub table-poles : (flat : List Float) (d : ℕ) (params : List Float) (k : ℕ) → 2 * d + 2 ≤ length flat → k < length params → first (basis_table flat d params) k + d < length flat - d - 1
unfolding basis_table
table-poles flat d params k h l =
    let b = span_before-in flat d params (k + 1) h in
    omega (arith, list_of-at (length params) (first_at flat d params) k 0 l)

-- a table with these rows can be read, on the poles of its flat knots
pub filled : (t t' : TablePlaces) (flat params : List Float) → FillsTable t flat params → t'.degree ≡ t.degree → t'.poles ≡ length flat - t.degree - 1
    → t'.firsts.now ≡ (basis_table flat t.degree params).firsts → t'.values.now ≡ (basis_table flat t.degree params).values → Filled t t' flat params
unfolding basis_table
filled t t' flat params fills same poles firsts values =
    let d = t.degree in
    let n : length t'.firsts.now ≡ length params = ap length firsts ∙ length_rows flat d params in
    record {
      table = rw (same, firsts, values);
      poles = poles;
      has = record {
        low = omega (arith, same, fills.low);
        high = omega (arith, same, fills.high);
        some = omega (arith, n, fills.some);
        few = omega (arith, n, fills.few);
        long = ap length values ∙ length_values flat d params ∙ rw (n, same);
        poles = λ k h. rw (firsts, same, poles) (table-poles flat d params k fills.knots (omega (arith, n)));
      };
    }
