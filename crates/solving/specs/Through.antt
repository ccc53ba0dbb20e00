-- Interpolation as the program does it, step by step, and what its steps ask. Definitions only.
use Rattle.std.specs.Prelude.{◌≡◌, List, ℕ, ◌+◌, ◌-◌, ◌*◌, ◌≤◌, length, Float}
use Rattle.geometry.specs.Doubles.{at}
use Rattle.knots.specs.declared.lines.Lines.{Lines}
use Rattle.tables.specs.declared.basis_table.Table.{Table}
use Rattle.tables.specs.Layout.{HasTable}
use Rattle.solving.specs.Interpolation.{put_within}

-- value a of a row's, the first of them in column `first`
unfoldable pub put_column : ℕ → ℕ → ℕ → List Float → ℕ → List Float → List Float
put_column h j first values a l = put_within h j (first + a) (at values a) l

-- a table with one pole for each parameter, and the places of its matrix
pub record HasMatrix (t : Table) (size : ℕ) : Type 0 where
  pub table : HasTable t
  pub poles : t.poles ≡ length t.firsts.now
  pub places : size ≡ length t.firsts.now * (2 * (t.degree - 1) + 1)

-- so many lines, and the places of a pole for each of their points
pub record HasInterpolation (t : Table) (l : Lines) (size : ℕ) : Type 0 where
  pub points : l.count ≡ length t.firsts.now
  pub few : l.lines ≤ 64
  pub places : size ≡ 3 * (l.lines * length t.firsts.now)
