-- How a basis table stands in its slices. Definitions only.
use Rattle.std.specs.Prelude.{◌≡◌, ℕ, List, ◌+◌, ◌-◌, ◌*◌, ◌≤◌, ◌<◌, length, get_or, Float}
use denote.Ref.{as_bor}
use Rattle.tables.specs.declared.basis_table.Table.{Table}
use Rattle.tables.specs.declared.basis_table.TablePlaces.{TablePlaces}
use Rattle.tables.specs.BasisTable.{BasisTable, basis_table}

-- the table that is read, and the one that stands in these places
abbrev pub table_of : Table → BasisTable
table_of t = record { degree = t.degree; firsts = t.firsts.now; values = t.values.now }

abbrev pub table_in : TablePlaces → BasisTable
table_in t = record { degree = t.degree; firsts = t.firsts.now; values = t.values.now }

-- what is read is what stands there
abbrev pub Reads : TablePlaces → Table → Type 0
Reads p t = (t.degree ≡ p.degree) × (t.poles ≡ p.poles) × (t.firsts.now ≡ p.firsts.now) × (t.values.now ≡ p.values.now)

-- the table as it is read in its own places
abbrev pub read_of : TablePlaces → Table
read_of p = record { degree = p.degree; poles = p.poles; firsts = as_bor p.firsts; values = as_bor p.values }

-- Two parameters or more, whose first poles leave room for the degree + 1 poles of each row among m.
pub record TableFits (degree m : ℕ) (firsts : List ℕ) (values : List Float) : Type 0 where
  pub low : 1 ≤ degree
  pub high : degree ≤ 25
  pub some : 2 ≤ length firsts
  pub few : length firsts ≤ 1024
  pub long : length values ≡ length firsts * (degree + 1)
  pub poles : (k : ℕ) → k < length firsts → get_or firsts k 0 + degree < m

-- a table of which that holds among its poles, and the places where one stands
abbrev pub HasTable : Table → Type 0
HasTable t = TableFits t.degree t.poles t.firsts.now t.values.now

abbrev pub HasTableIn : TablePlaces → Type 0
HasTableIn t = TableFits t.degree t.poles t.firsts.now t.values.now

-- row k, which has its values
pub record HasRow (t : Table) (k : ℕ) : Type 0 where
  pub high : t.degree ≤ 25
  pub row : k < length t.firsts.now
  pub long : length t.values.now ≡ length t.firsts.now * (t.degree + 1)

-- and its poles, from pole `start` on, among so many places
pub record Readable (t : Table) (start k places : ℕ) : Type 0 where
  pub has : HasRow t k
  pub poles : 3 * (start + get_or t.firsts.now k 0 + (t.degree + 1)) ≤ places

-- A curve's poles, from pole `start` on, and a line of points, from point `first` on, among so many places.
pub record HasBeside (t : Table) (start first poles points : ℕ) : Type 0 where
  pub table : HasTable t
  pub poles_inside : 3 * (start + t.poles) ≤ poles
  pub points_inside : 3 * (first + length t.firsts.now) ≤ points

-- What the making of a table asks: at least the knots of a single piece, and a place for each parameter and each value.
pub record FillsTable (t : TablePlaces) (flat params : List Float) : Type 0 where
  pub low : 1 ≤ t.degree
  pub high : t.degree ≤ 25
  pub some : 2 ≤ length params
  pub few : length params ≤ 1024
  pub knots : 2 * t.degree + 2 ≤ length flat
  pub firsts : length t.firsts.now ≡ length params
  pub values : length t.values.now ≡ length params * (t.degree + 1)

-- And what it leaves.
pub record Filled (t t' : TablePlaces) (flat params : List Float) : Type 0 where
  pub table : table_in t' ≡ basis_table flat t.degree params
  pub poles : t'.poles ≡ length flat - t.degree - 1
  pub has : HasTableIn t'
