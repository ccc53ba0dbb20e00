-- The loop's invariant: what the columns that are left make of the sum is the reduced entry. Assumes nothing.
use mathlib.Core.Path.{◌≡◌}
use mathlib.Core.List.{List}
use Prim.Native.Nat.{ℕ}
use lib.Ieee.{Float}
use Rattle.places.specs.Loops.{each}
use Rattle.geometry.specs.Doubles.{◌⊖◌, ◌⊗◌}
use Rattle.cholesky.specs.Cholesky.{lower_entry, reduced_entry}
use Rattle.cholesky.proofs.reduced_entry.Given as goal

abbrev turn : ℕ → List Float → ℕ → ℕ → ℕ → Float → Float
turn h l i j k s = s ⊖ lower_entry h l i k ⊗ lower_entry h l j k

abbrev pub invariant-loop-k : goal.invariant-loop-k
invariant-loop-k l = each l.k l.j (turn l.h l.lower l.i l.j) l.sum ≡ reduced_entry l.h l.lower l.i l.j
