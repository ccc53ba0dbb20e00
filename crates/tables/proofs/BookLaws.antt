-- A basis table and the points that are read by it are the book's. Assumes nothing.
use mathlib.Core.Path.{◌≡◌, refl, sym}
use mathlib.Core.List.{List}
use Prim.Native.Nat.{ℕ, ◌+◌, ◌-◌, ◌*◌, ◌≤◌, ◌<◌}
use native.Mathlib.Nat.{add_assoc}
use native.Mathlib.Omega.{arith}
use lib.ListN.{length, drop}
use lib.Seq.{get_or-drop}
use lib.Ieee.{Float, nan}
use Rattle.places.proofs.PlaceLaws.{list_of-at}
use Rattle.geometry.specs.Doubles.{at}
use Rattle.geometry.specs.Points.{point_at}
use Rattle.geometry.proofs.PointLaws.{weighted-same}
use Rattle.bspline.specs.Spans.{span_at}
use Rattle.bspline.proofs.SpanLaws.{span_before-in}
use Rattle.bspline.proofs.Book.{is_basis, is_span_at, point_on}
use Rattle.tables.specs.BasisTable.{basis_table, first, value, table_point}
use Rattle.tables.specs.Textbook.{IsBasisTable, TableReadsByTheBook}
use Rattle.tables.proofs.TableLaws.{first_at, row_at, length_rows, value_is, row_values, table-poles}

-- a row's first pole is d before its span
last_is : (U : List Float) (d : ℕ) (params : List Float) → 2 * d + 2 ≤ length U → (k : ℕ) → k < length params → first (basis_table U d params) k + d ≡ span_at U d params k
unfolding basis_table
last_is U d params long k h =
    let b = span_before-in U d params (k + 1) long in
    omega (arith, b, list_of-at (length params) (first_at U d params) k 0 h)

pub is_basis_table : (U : List Float) (d : ℕ) (params : List Float) → 2 * d + 2 ≤ length U → IsBasisTable U d params (basis_table U d params)
unfolding basis_table
is_basis_table U d params long = record {
  of_degree = refl;
  count = length_rows U d params;
  poles = λ k h. omega (arith, table-poles U d params k long h);
  row = λ k h.
      rw (last_is U d params long k h, row_values U d params k h) (is_basis U d (span_at U d params k) (at params k) (span_before-in U d params (k + 1) long).0);
  span = λ rising inside k h. rw (last_is U d params long k h) (is_span_at U d params rising long inside k h);
}

-- ---- 3.1

dropped : (poles : List Float) (start a b : ℕ) → b ≡ start + a → point_at poles b ≡ point_at (drop (3 * start) poles) a
unfolding point_at
dropped poles start a b e =
    let back : (i : ℕ) → at poles (3 * start + i) ≡ at (drop (3 * start) poles) i = λ i. sym (get_or-drop (3 * start) poles i nan) in
    let x : 3 * b ≡ 3 * start + 3 * a = omega arith in
    rw (x, add_assoc (3 * start) (3 * a) 1, add_assoc (3 * start) (3 * a) 2, back (3 * a), back (3 * a + 1), back (3 * a + 2))

pub table_reads_by_the_book : TableReadsByTheBook
unfolding table_point basis_table
table_reads_by_the_book U d params poles start k long h rising inside =
    let s = span_at U d params k in
    let last = last_is U d params long k h in
    point_on U d (drop (3 * start) poles) (at params k) s (is_span_at U d params rising long inside k h) _
    (weighted-same (d + 1) (value (basis_table U d params) k) (at (row_at U d params k)) _ _ (value_is U d params k h) (λ a l. dropped poles start (s - d + a) (start + first (basis_table U d params) k + a) (omega arith)))
