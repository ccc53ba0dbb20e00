-- A test of the items of a list, as the methods of iterators say it, is the test of its places. Assumes nothing.
use Rattle.std.proofs.Common.{◌≡◌, refl, sym, ap, ◌∙◌, ℕ, zero, suc, ◌≤◌, Bool, ◌||◌, ◌&&◌, List, length, take, get_or, arith}
use Rattle.std.specs.List.{list_any, list_all}
use Rattle.std.proofs.lemmas.List.Folds.{list_any_more, list_all_more}
use Rattle.std.proofs.lemmas.List.{take_all}
use native.Mathlib.Numerals.{add-one}
use Rattle.places.specs.Places.{some_below, all_below}

module _ {A : Type 0} (p : A → Bool) (d : A) (xs : List A) where
  any_so_far : (n : ℕ) → n ≤ length xs → list_any p (take n xs) ≡ some_below n (λ k. p (get_or xs k d))
  unfolding some_below
  any_so_far zero h = refl
  any_so_far (suc n) h =
      ap (λ (i : ℕ). list_any p (take i xs)) (sym (add-one n))
      ∙ list_any_more p xs n d (omega arith)
      ∙ ap (λ (b : Bool). b || p (get_or xs n d)) (any_so_far n (omega arith))

  pub any_place : list_any p xs ≡ some_below (length xs) (λ k. p (get_or xs k d))
  any_place = ap (λ (ys : List A). list_any p ys) (sym (take_all (length xs) xs (omega arith))) ∙ any_so_far (length xs) (omega arith)

  all_so_far : (n : ℕ) → n ≤ length xs → list_all p (take n xs) ≡ all_below n (λ k. p (get_or xs k d))
  unfolding all_below
  all_so_far zero h = refl
  all_so_far (suc n) h =
      ap (λ (i : ℕ). list_all p (take i xs)) (sym (add-one n))
      ∙ list_all_more p xs n d (omega arith)
      ∙ ap (λ (b : Bool). b && p (get_or xs n d)) (all_so_far n (omega arith))

  pub all_places : list_all p xs ≡ all_below (length xs) (λ k. p (get_or xs k d))
  all_places = ap (λ (ys : List A). list_all p ys) (sym (take_all (length xs) xs (omega arith))) ∙ all_so_far (length xs) (omega arith)
