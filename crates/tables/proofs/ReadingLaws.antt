-- A row of a table, and the point that is read by it. Assumes nothing.
use mathlib.Core.Path.{◌≡◌, refl}
use Prim.Native.Nat.{ℕ, ◌+◌, ◌*◌, ◌<◌, ◌≤◌}
use native.Mathlib.Omega.{arith}
use mathlib.Core.List.{List}
use lib.ListN.{length, get_or}
use lib.Ieee.{Float, nan}
use Rattle.places.specs.Regions.{part}
use Rattle.places.proofs.RegionLaws.{get_d_part}
use Rattle.geometry.specs.Doubles.{at}
use Rattle.geometry.specs.Points.{point_at, weighted}
use Rattle.geometry.proofs.PointLaws.{weighted-same}
use Rattle.tables.specs.declared.basis_table.Table.{Table}
use Rattle.tables.specs.BasisTable.{BasisTable, first, value, table_point}
use Rattle.tables.specs.Layout.{HasTable, Readable}

-- the values of row k, lent as a part of all
abbrev pub row_of : BasisTable → ℕ → List Float
row_of t k = part (k * (t.degree + 1)) (k * (t.degree + 1) + (t.degree + 1)) t.values

pub value_in : (t : BasisTable) (k a : ℕ) → a < t.degree + 1 → at (row_of t k) a ≡ value t k a
value_in t k a h = get_d_part (k * (t.degree + 1)) (k * (t.degree + 1) + (t.degree + 1)) t.values a nan (omega arith)

pub point_in : (t : BasisTable) (poles : List Float) (start k : ℕ) → weighted (t.degree + 1) (at (row_of t k)) (λ a. point_at poles (start + first t k + a)) ≡ table_point t poles start k
unfolding table_point
point_in t poles start k = weighted-same (t.degree + 1) _ _ _ _ (λ a h. value_in t k a h) (λ a h. refl)

-- a row of a table reads among the table's poles
pub readable : {t : Table} {start k places : ℕ} → HasTable t → k < length t.firsts.now → 3 * (start + t.poles) ≤ places → Readable t start k places
readable {t} {start} {k} {places} has h room =
    let within : get_or t.firsts.now k 0 + t.degree < t.poles = has.poles k h in
    record { has = record { high = has.high; row = h; long = has.long }; poles = omega (arith, within, room) }
