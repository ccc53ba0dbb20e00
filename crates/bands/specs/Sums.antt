-- The sum of a row of a triangular system, as the textbooks write it. Definitions only.
use Rattle.std.specs.Prelude.{ℕ, Float}
use Rattle.places.specs.Loops.{each}
use Rattle.geometry.specs.Doubles.{◌⊖◌}

-- s - Σ t k over the columns k from a on and before b: one after the other, each rounded
unfoldable pub less_sum : ℕ → ℕ → (ℕ → Float) → Float → Float
less_sum a b t s = each a b (λ k s. s ⊖ t k) s
