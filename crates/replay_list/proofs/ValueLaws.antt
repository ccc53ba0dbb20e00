-- Values beside words, as they stand side by side and by their places. Assumes nothing.
use Rattle.std.proofs.Common.{◌≡◌, refl, sym, ap, ◌∙◌, ℕ, zero, suc, ◌≤◌, Bool, ◌&&◌, List, [], ◌∷◌, eqb, length, get_or, map, arith}
use mathlib.Core.Bool.{and-true, and_assoc}
use Rattle.std.specs.List.{list_all, zip}
use borrow.Author.Tests.{le-ltb}
use Rattle.places.specs.Places.{all_below}
use Rattle.replay_list.specs.Compared.{same_words}

-- the test of the first place, and then of the others
all_first : (n : ℕ) (p : ℕ → Bool) → all_below (suc n) p ≡ (p 0 && all_below n (λ k. p (suc k)))
unfolding all_below
all_first zero p = sym (and-true (p 0))
all_first (suc n) p = ap (λ (b : Bool). b && p (suc n)) (all_first n p) ∙ and_assoc (p 0) _ _

by_places : {A : Type 0} (word : A → ℕ) (xs : List A) (ws : List ℕ) → length ws ≤ length xs
    → list_all (λ (x, w). eqb (word x) w) (zip xs ws) ≡ all_below (length ws) (λ k. eqb (get_or (map word xs) k 0) (get_or ws k 0))
unfolding all_below
by_places word [] [] h = refl
by_places word (x ∷ xs) [] h = refl
by_places word [] (w ∷ ws) h = absurd (omega arith)
by_places word (x ∷ xs) (w ∷ ws) h =
    ap (λ (b : Bool). eqb (word x) w && b) (by_places word xs ws (omega arith)) ∙ sym (all_first (length ws) _)

pub side_by_side : {A : Type 0} (word : A → ℕ) (xs : List A) (ws : List ℕ) → length ws ≤ length xs → list_all (λ (x, w). eqb (word x) w) (zip xs ws) ≡ same_words word xs ws
unfolding same_words
side_by_side word xs ws h = rw (le-ltb _ _ h) (by_places word xs ws h)
