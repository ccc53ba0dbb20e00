-- The larger of doubles, folded over a list with NaN passed over: what the fold is at or below, and that folds of folds are one fold. Assumes nothing.
use Rattle.std.proofs.Common.{◌≡◌, ℕ, ◌+◌, ◌<◌, ◌≤◌, Bool, true, false, cond, not, T, List, [], ◌∷◌, ◌++◌, map, length, get_or, drop, sym, refl, ap, ◌∙◌, inl, inr, add-one, drop_of_length-le, drop-cons}
use mathlib.Core.List.{flatten}
use lib.Ieee.{Float, nan, lt, le, is_nan, of_bits}
use Rattle.places.specs.Places.{list_of}
use Rattle.places.proofs.PlaceLaws.{list_of-more}
use Rattle.geometry.specs.Doubles.{nought, larger, largest_from, largest}
use Rattle.geometry.proofs.FloatOrder.{le_trans_float, le_not_lt, lt-or-le, lt-le, le_right, le_lt_trans, lt-le_trans, le_self, holds, test, fails, refute}

-- no value of the list is above t
abbrev pub Each : Float → List Float → Type 0
Each t [] = Unit {0}
Each t (d ∷ ds) = (lt t d ≡ false) × Each t ds

pub larger-le : (a d t : Float) → T (le (larger a d) t) → T (le a t) × (lt t d ≡ false)
unfolding larger
larger-le a d t h = go (lt a d) refl h
  where
    go : (b : Bool) → lt a d ≡ b → T (le (cond b d a) t) → T (le a t) × (lt t d ≡ false)
    go true e h = (le_trans_float a d t (lt-le a d (test e)) h, fails (lt t d) (le_not_lt d t h))
    go false e h = (h, fails (lt t d) (λ l. refute e (le_lt_trans a t d h l)))

pub le-larger : (a d t : Float) → T (le a t) → lt t d ≡ false → T (le (larger a d) t)
unfolding larger
le-larger a d t h n = go (lt a d) refl
  where
    go : (b : Bool) → lt a d ≡ b → T (le (cond b d a) t)
    go true e = elim (lt-or-le d t (le_right a d (lt-le a d (test e))) (le_right a t h)) [ inl l ↦ absurd (refute n l) | inr l ↦ l ]
    go false e = h

pub largest_from-le : (a : Float) (ds : List Float) (t : Float) → T (le (largest_from a ds) t) → T (le a t) × Each t ds
unfolding largest_from
largest_from-le a [] t h = (h, tt)
largest_from-le a (d ∷ ds) t h =
    let r = largest_from-le (larger a d) ds t h in
    let l = larger-le a d t r.0 in
    (l.0, (l.1, r.1))

pub le-largest_from : (a : Float) (ds : List Float) (t : Float) → T (le a t) → Each t ds → T (le (largest_from a ds) t)
unfolding largest_from
le-largest_from a [] t h e = h
le-largest_from a (d ∷ ds) t h e = le-largest_from (larger a d) ds t (le-larger a d t h e.0) e.1

-- ---- a fold in pieces

pub larger-first : (a d : Float) → T (not (is_nan a)) → T (le a (larger a d))
unfolding larger
larger-first a d n = go (lt a d) refl
  where
    go : (b : Bool) → lt a d ≡ b → T (le a (cond b d a))
    go true e = lt-le a d (test e)
    go false e = le_self a n

from_first : (a : Float) (ds : List Float) → T (not (is_nan a)) → T (le a (largest_from a ds))
unfolding largest_from
from_first a [] n = le_self a n
from_first a (d ∷ ds) n =
    let h = larger-first a d n in
    le_trans_float a (larger a d) (largest_from (larger a d) ds) h (from_first (larger a d) ds (le_right a (larger a d) h))

-- from z at or below a, the fold of the rest meets a only once
from-larger : (z a : Float) (ds : List Float) → T (le z a) → largest_from a ds ≡ larger a (largest_from z ds)
unfolding largest_from larger
from-larger z a [] h = rw (fails (lt a z) (le_not_lt z a h))
from-larger z a (d ∷ ds) h = go (lt a d) refl (λ n. from-larger (larger z d) a ds (le-larger z d a h n))
  where
    go : (b : Bool) → lt a d ≡ b → (lt a d ≡ false → largest_from a ds ≡ larger a (largest_from (larger z d) ds)) → largest_from (cond b d a) ds ≡ larger a (largest_from (larger z d) ds)
    go true e ih =
        let l : lt z d ≡ true = holds _ (le_lt_trans z a d h (test e)) in
        let k : lt a (largest_from d ds) ≡ true = holds _ (lt-le_trans a d (largest_from d ds) (test e) (from_first d ds (le_right a d (lt-le a d (test e))))) in
        rw (l, k)
    go false e ih = ih e

pub from-append : (a : Float) (xs ys : List Float) → largest_from a (xs ++ ys) ≡ largest_from (largest_from a xs) ys
unfolding largest_from
from-append a [] ys = refl
from-append a (x ∷ xs) ys = from-append (larger a x) xs ys

nested_from : (a : Float) (rows : List (List Float)) → T (le nought a) → largest_from a (map largest rows) ≡ largest_from a (flatten rows)
unfolding largest_from flatten largest
nested_from a [] h = refl
nested_from a (r ∷ rows) h =
    ap (λ (x : Float). largest_from x (map largest rows)) (sym (from-larger nought a r h))
    ∙ nested_from (largest_from a r) rows (le_trans_float nought a (largest_from a r) h (from_first a r (le_right nought a h)))
    ∙ sym (from-append a r (flatten rows))

pub zero-le-zero : T (le nought nought)
unfolding le of_bits
zero-le-zero = tt

pub nested-largest : (rows : List (List Float)) → largest (map largest rows) ≡ largest (flatten rows)
unfolding largest
nested-largest rows = nested_from nought rows zero-le-zero

pub largest_step : (a : Float) (ds : List Float) (k : ℕ) → k < length ds → largest_from a (drop k ds) ≡ largest_from (larger a (get_or ds k nan)) (drop (k + 1) ds)
unfolding largest_from
largest_step a ds k h = rw (add-one, drop-cons ds k nan h)

pub largest_end : (a : Float) (ds : List Float) (k : ℕ) → length ds ≤ k → largest_from a (drop k ds) ≡ a
unfolding largest_from
largest_end a ds k h = rw (drop_of_length-le ds h)

pub largest-none : (f : ℕ → Float) → largest (list_of 0 f) ≡ nought
unfolding largest largest_from list_of
largest-none f = refl

-- one value more at the end
pub largest-more : (k : ℕ) (f : ℕ → Float) → largest (list_of (k + 1) f) ≡ larger (largest (list_of k f)) (f k)
unfolding largest largest_from
largest-more k f = rw list_of-more (from-append nought (list_of k f) (f k ∷ []))
