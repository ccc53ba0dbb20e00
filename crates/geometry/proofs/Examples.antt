-- Worked examples, by computation: roots at the ends of the range, distances, and the total order. Assumes nothing.
use Rattle.std.proofs.Common.{◌≡◌, true, false, pos, negsuc, refl, [], ◌∷◌}
use lib.Ieee.{nan, fin, add, sub, mul, to_bits, size, span, climb}
use Rattle.geometry.specs.Order.{rank_of, inserted, sorted_onto, sorted}
use Rattle.geometry.specs.Root.{sqrt_of}
use Rattle.geometry.specs.Points.{distance}

pub root_of_minus-zero : sqrt_of (fin true 0 (pos 0)) ≡ fin true 0 (pos 0)
unfolding sqrt_of
root_of_minus-zero = refl

pub root_of_minus-one : sqrt_of (fin true 1 (pos 0)) ≡ nan
unfolding sqrt_of
root_of_minus-one = refl

-- the largest finite value, (2 ^ 53 - 1) * 2 ^ 971: its root rounds down to the largest value below 2 ^ 512
pub root_of-largest : sqrt_of (fin false 9007199254740991 (pos 971)) ≡ fin false 9007199254740991 (pos 459)
unfolding sqrt_of
root_of-largest = refl

-- from (0, 0, 0) to (3, 4, 0); and to (6, 4, 0) where the first coordinate counts half
pub distance_three_four : distance (fin false 1 (pos 0)) (record { x = fin false 0 (pos 0); y = fin false 0 (pos 0); z = fin false 0 (pos 0) }) (record { x = fin false 3 (pos 0); y = fin false 1 (pos 2); z = fin false 0 (pos 0) }) ≡ fin false 5 (pos 0)
unfolding distance sqrt_of add sub mul
distance_three_four = refl

pub distance-half_six_four : distance (fin false 1 (negsuc 0)) (record { x = fin false 0 (pos 0); y = fin false 0 (pos 0); z = fin false 0 (pos 0) }) (record { x = fin false 3 (pos 1); y = fin false 1 (pos 2); z = fin false 0 (pos 0) }) ≡ fin false 5 (pos 0)
unfolding distance sqrt_of add sub mul
distance-half_six_four = refl

-- -2, -1, -0, 0, 1 and the NaN, from another order
pub sorted_six : sorted (fin false 1 (pos 0) ∷ nan ∷ fin true 1 (pos 0) ∷ fin false 0 (pos 0) ∷ fin true 1 (pos 1) ∷ fin true 0 (pos 0) ∷ [])
    ≡ fin true 1 (pos 1) ∷ fin true 1 (pos 0) ∷ fin true 0 (pos 0) ∷ fin false 0 (pos 0) ∷ fin false 1 (pos 0) ∷ nan ∷ []
unfolding to_bits size span climb rank_of inserted sorted_onto sorted
sorted_six = refl
