-- What Cholesky's factor of half-width 3 carries from row to row, as the program does it: rows of four places, row i from 4 i on. Definitions only.
use Rattle.std.specs.Prelude.{◌≡◌, List, ℕ, ◌+◌, ◌-◌, ◌*◌, Float}
use Rattle.geometry.specs.Doubles.{at}
use Rattle.cholesky.specs.Cholesky.{reduced_entry}
use Rattle.cholesky.specs.declared.carried.Triangle.{Triangle}
use Rattle.cholesky.specs.declared.carried.Row.{Row}

-- what row i needs of the three rows above it stands in its places: from column i - 3 on, each up to its diagonal
pub record Above (i : ℕ) (t : Triangle) (l : List Float) : Type 0 where
  pub a : t.a ≡ at l (4 * i - 9)
  pub b : t.b ≡ at l (4 * i - 6)
  pub c : t.c ≡ at l (4 * i - 5)
  pub d : t.d ≡ at l (4 * i - 3)
  pub e : t.e ≡ at l (4 * i - 2)
  pub f : t.f ≡ at l (4 * i - 1)

-- row i left of its diagonal stands in its places, and the diagonal is still to be put
pub record Left (i : ℕ) (row : Row) (l : List Float) : Type 0 where
  pub far : row.far ≡ at l (4 * i)
  pub middle : row.middle ≡ at l (4 * i + 1)
  pub near : row.near ≡ at l (4 * i + 2)
  pub rest : row.rest ≡ reduced_entry 3 l i i
