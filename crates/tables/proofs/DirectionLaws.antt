-- The points of a direction's lines, by their places in the list. Assumes nothing.
use mathlib.Core.Path.{◌≡◌, ap}
use mathlib.Core.List.{List}
use Prim.Native.Nat.{ℕ, ◌+◌, ◌*◌}
use native.Mathlib.Omega.{arith}
use lib.Ieee.{Float}
use Rattle.geometry.specs.Points.{point_at}
use Rattle.tables.specs.Directions.{ladder_point, row_point, column_point}

pub ladder_point-at : (s : List Float) (r k : ℕ) → ladder_point s r k ≡ point_at s k
ladder_point-at s r k = let e : r * 0 + 1 * k ≡ k = omega arith in ap (point_at s) e

pub row_point-at : (s : List Float) (cols i j : ℕ) → row_point s cols i j ≡ point_at s (i * cols + j)
row_point-at s cols i j = let e : i * cols + 1 * j ≡ i * cols + j = omega arith in ap (point_at s) e

pub column_point-at : (s : List Float) (cols l i : ℕ) → column_point s cols l i ≡ point_at s (i * cols + l)
column_point-at s cols l i = let e : l * 1 + cols * i ≡ i * cols + l = omega arith in ap (point_at s) e
