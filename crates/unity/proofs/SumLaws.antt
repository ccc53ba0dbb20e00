-- Sums of whole numbers, and the exact sum of a list of doubles as one. Assumes nothing.
use mathlib.Core.Path.{◌≡◌, refl, sym, ap, ◌∙◌, subst}
use mathlib.Core.Logic.{◌⊎◌, inl, inr}
use mathlib.Core.List.{List, [], ◌∷◌, ◌++◌}
use Prim.Native.Nat.{ℕ, zero, suc, ◌+◌, ◌*◌, ◌≤◌, ◌<◌}
use native.Mathlib.Nat.{eq-or-lt_of_le, lt-suc_self, add_assoc, add-zero, zero-add}
use native.Mathlib.Omega.{arith}
use lib.ListN.{length}
use lib.Ieee.{Float, nan}
use Rattle.places.specs.Places.{list_of}
use Rattle.places.proofs.PlaceLaws.{list_of_all}
use Rattle.geometry.specs.Doubles.{at}
use Rattle.geometry.specs.Nearest.{in_units}
use Rattle.unity.specs.Unity.{exact_sum}
use Rattle.geometry.proofs.ErrorLaws.{Close, close_add, close_as}

-- f 0 + .. + f (n - 1)
unfoldable pub total : (ℕ → ℕ) → ℕ → ℕ
total f zero = 0
total f (suc n) = total f n + f n

pub term_le : (f : ℕ → ℕ) (n r : ℕ) → r < n → f r ≤ total f n
unfolding total
term_le f zero r h = absurd (omega arith)
term_le f (suc n) r h = go (last_or r n h) (term_le f n r)
  where
    last_or : (r n : ℕ) → r < suc n → (r ≡ n) ⊎ (r < n)
    last_or r n h = eq-or-lt_of_le (omega arith)

    go : (r ≡ n) ⊎ (r < n) → (r < n → f r ≤ total f n) → f r ≤ total f n + f n
    go (inl e) before = subst (λ (x : ℕ). f x ≤ total f n + f n) (sym e) (omega arith)
    go (inr l) before = let k = before l in omega arith

-- terms that are close have sums that are
pub total_close : (p k c : ℕ) (f g : ℕ → ℕ) (n : ℕ) → ((r : ℕ) → r < n → Close p k c (f r) (g r)) → Close p k (c * n) (total f n) (total g n)
unfolding total
total_close p k c f g zero h = (omega arith, omega arith)
total_close p k c f g (suc n) h =
    let before = total_close p k c f g n (λ r l. h r (omega arith)) in
    close_as p k (c * n + c) _ _ (c * suc n) _ _ (omega arith) refl refl (close_add p k (c * n) c (total f n) (total g n) (f n) (g n) before (h n (lt-suc_self n)))

-- where what comes up to r + 1 is what r gives away, the same terms are added up in either order
pub telescope : (up give keep : ℕ → ℕ) (n : ℕ) → up 0 ≡ 0 → ((r : ℕ) → r < n → up (suc r) ≡ give r) → total (λ r. up r + keep r) n + up n ≡ total (λ r. give r + keep r) n
unfolding total
telescope up give keep zero z h = omega arith
telescope up give keep (suc n) z h =
    let before = telescope up give keep n z (λ r l. h r (omega arith)) in
    let e = h n (lt-suc_self n) in
    omega arith

-- ---- the exact sum of a list

sum-append : (xs : List Float) (y : Float) → exact_sum (xs ++ (y ∷ [])) ≡ exact_sum xs + in_units y
unfolding exact_sum
sum-append [] y = add-zero (in_units y) ∙ sym (zero-add (in_units y))
sum-append (x ∷ xs) y = ap (λ (n : ℕ). in_units x + n) (sum-append xs y) ∙ sym (add_assoc (in_units x) (exact_sum xs) (in_units y))

pub sum-list_of : (n : ℕ) (f : ℕ → Float) → exact_sum (list_of n f) ≡ total (λ r. in_units (f r)) n
unfolding exact_sum list_of total
sum-list_of zero f = refl
sum-list_of (suc n) f = sum-append (list_of n f) (f n) ∙ ap (λ (m : ℕ). m + in_units (f n)) (sum-list_of n f)

pub sum-at : (n : ℕ) (xs : List Float) → length xs ≡ n → exact_sum xs ≡ total (λ r. in_units (at xs r)) n
sum-at n xs e = ap exact_sum (sym (list_of_all n xs nan e)) ∙ sum-list_of n (at xs)
