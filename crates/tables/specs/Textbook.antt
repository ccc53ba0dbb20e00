-- What a basis table holds and what is read by it, as The NURBS Book has it (2.5, A2.1 and 3.1, bspline's specs/Book). `proofs/BookLaws` shows it of `basis_table`.
use Rattle.std.specs.Prelude.{◌≡◌, ℕ, ◌+◌, ◌*◌, ◌≤◌, ◌<◌, List, length, drop, Float}
use Rattle.places.specs.Places.{list_of}
use Rattle.geometry.specs.Doubles.{at}
use Rattle.bspline.specs.Spans.{NeverFalls, InRange}
use Rattle.bspline.specs.Book.{IsBasis, IsSpan, IsPoint}
use Rattle.tables.specs.BasisTable.{BasisTable, basis_table, parameter_count, first, value, table_point}

-- The table of knots U and degree d at parameters u_k. Row k is N_{s-d,d}(u_k), .., N_{s,d}(u_k) on a span s, whose number its last pole has; where knots and parameters
-- never fall, the parameters in the range, that is the span of u_k.
pub record IsBasisTable (U : List Float) (d : ℕ) (params : List Float) (t : BasisTable) : Type 0 where
  pub of_degree : t.degree ≡ d
  pub count : parameter_count t ≡ length params
  pub poles : (k : ℕ) → k < length params → first t k + d + d + 2 ≤ length U
  pub row : (k : ℕ) → k < length params → IsBasis U d (first t k + d) (at params k) (list_of (d + 1) (value t k))
  pub span : NeverFalls U → InRange U d params → (k : ℕ) → k < length params → IsSpan U d (at params k) (first t k + d)

-- the point that is read at parameter k, from the poles that stand in the list from pole `start` on (`BasisTable::point`)
abbrev pub TableReadsByTheBook : Type 0
TableReadsByTheBook =
    (U : List Float) (d : ℕ) (params poles : List Float) (start k : ℕ) → 2 * d + 2 ≤ length U → k < length params
    → NeverFalls U → InRange U d params
    → IsPoint U d (drop (3 * start) poles) (at params k) (table_point (basis_table U d params) poles start k)
