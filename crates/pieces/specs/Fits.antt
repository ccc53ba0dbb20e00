-- A basis table by its lists, and what the functions over one ask. Definitions only.
use Rattle.std.specs.Prelude.{◌≡◌, ℕ, List, ◌+◌, ◌*◌, ◌≤◌, ◌<◌, length, get_or, Float}
use Rattle.knots.specs.Lines.{HasLines}
use Rattle.tables.specs.BasisTable.{BasisTable}

abbrev pub table_by : ℕ → List ℕ → List Float → BasisTable
table_by degree firsts values = record { degree = degree; firsts = firsts; values = values }

-- at least the knots of a single piece, and a place for each parameter and each value
pub record FillsBy (degree : ℕ) (flat params : List Float) (firsts : List ℕ) (values : List Float) : Type 0 where
  pub knots : 2 * degree + 2 ≤ length flat
  pub for_firsts : length firsts ≡ length params
  pub for_values : length values ≡ length params * (degree + 1)

-- two parameters or more, whose first poles leave room for the degree + 1 poles of each row among m
pub record TableBy (degree m : ℕ) (firsts : List ℕ) (values : List Float) : Type 0 where
  pub low : 1 ≤ degree
  pub high : degree ≤ 25
  pub some : 2 ≤ length firsts
  pub few : length firsts ≤ 1024
  pub long : length values ≡ length firsts * (degree + 1)
  pub poles : (k : ℕ) → k < length firsts → get_or firsts k 0 + degree < m

-- lines of data with a point for each parameter, and the places of m poles for each
pub record LinesBy (n m lines pitch stride places : ℕ) (points : List Float) : Type 0 where
  pub inside : HasLines points lines pitch n stride
  pub one : 1 ≤ lines
  pub few : lines ≤ 64
  pub for_poles : places ≡ 3 * (lines * m)
