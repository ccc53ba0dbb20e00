-- The rows of a basis table as they are found one after the other (`BasisRows`). Definitions only.
use Rattle.std.specs.Prelude.{ℕ, ◌+◌, ◌≤◌, List, length, Float}
use Rattle.std.specs.Borrow.{Bor}
use Rattle.tables.specs.declared.rows.BasisRows.{BasisRows}

-- a span of a curve of degree d: d flat knots before its own, and d + 1 after it
abbrev pub SpanFits : List Float → ℕ → ℕ → Type 0
SpanFits flat d s = (d ≤ s) × (s + d + 2 ≤ length flat)

-- the lent flat knots, the degree, and the span where the search for the next parameter starts
abbrev pub rows_of : Bor (List Float) → ℕ → ℕ → BasisRows
rows_of flat d s = record { flat = flat; degree = d; span = s }
