-- Elimination as the program does it: on the rows below pivot k alone, with what stands after the pivot copied out. `proofs/PivotLaws` shows that this is
-- `BandLu.eliminate` of the whole band. Row d below the pivot is row k + 1 + d; its place in the pivot's column is d * w + (h - d - 1).
use Rattle.std.specs.Prelude.{cond, List, ℕ, ◌+◌, ◌-◌, ◌*◌, set, Float}
use Rattle.std.specs.Float.Ieee.{eq}
use Rattle.places.specs.Loops.{each}
use Rattle.places.specs.Regions.{part}
use Rattle.geometry.specs.Doubles.{◌⊖◌, ◌⊗◌, nought, at}
use Rattle.bands.specs.Bands.{reach}

-- how many columns after the diagonal row k reaches; as many rows below it reach column k
abbrev pub after_pivot : ℕ → ℕ → ℕ → ℕ
after_pivot h n k = reach h n k - k - 1

-- what stands there
abbrev pub pivot_row : ℕ → ℕ → ℕ → List Float → List Float
pivot_row h n k l = part (k * (2 * h + 1) + h + 1) (k * (2 * h + 1) + h + 1 + after_pivot h n k) l

-- the place m after `from` less factor times the place m of the pivot row
unfoldable pub less_place : ℕ → Float → List Float → ℕ → List Float → List Float
less_place from factor pivot m rest = set rest (from + 1 + m) (at rest (from + 1 + m) ⊖ factor ⊗ at pivot m)

-- the multiplier is put at `from`, and where it is not 0 that multiple of the pivot row is taken off the `count` places after it
unfoldable pub less_places : ℕ → ℕ → List Float → Float → List Float → List Float
less_places from count pivot factor rest =
    let put = set rest from factor in
    let less = each 0 count (less_place from factor pivot) put in
    cond (eq factor nought) put less

-- row d below the pivot, whose reciprocal is `inverse`
unfoldable pub clear_row : ℕ → ℕ → ℕ → List Float → Float → ℕ → List Float → List Float
clear_row w h count pivot inverse d rest =
    less_places (d * w + (h - d - 1)) count pivot (at rest (d * w + (h - d - 1)) ⊗ inverse) rest

-- the rows below the pivot that reach its column
unfoldable pub clear_below : ℕ → ℕ → ℕ → List Float → Float → List Float → List Float
clear_below w h count pivot inverse rest = each 0 count (clear_row w h count pivot inverse) rest
