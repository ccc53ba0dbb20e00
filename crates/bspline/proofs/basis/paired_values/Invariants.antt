-- The invariant: the functions of degree d stand, where j is d + 1, and the degree is d or above it by an even number. Assumes nothing.
use Prim.Native.Nat.{ℕ, ◌+◌, ◌%◌, ◌≤◌}
use mathlib.Core.Path.{◌≡◌}
use mathlib.Core.List.{◌++◌}
use lib.ListN.{drop}
use Rattle.bspline.specs.Basis.{basis_at}
use Rattle.bspline.proofs.basis.paired_values.Given as goal

abbrev pub invariant-loop-j : goal.invariant-loop-j
invariant-loop-j l = (d : ℕ) × (l.j ≡ d + 1) × (d ≤ l.degree) × (d % 2 ≡ l.degree % 2) × (l.values ≡ basis_at l.flat d l.span l.u ++ drop (d + 1) l.fn.values)
