-- The roots of a list's values: place by place, and the largest of them by one root. Assumes nothing.
use Rattle.std.proofs.Common.{◌≡◌, ℕ, zero, suc, ◌-◌, Bool, true, false, not, T, List, [], ◌∷◌, ◌++◌, length, take, drop, sym, refl, ap, ◌∙◌, true≢false}
use lib.Ieee.{Float, binary64, lt, le, is_nan, of_bits, fits}
use lib.Ieee.Bits.{of_bits-fits}
use lib.Ieee.Fits.{cond-fits}
use Rattle.places.specs.Places.{list_of, joined}
use Rattle.places.specs.Regions.{part}
use Rattle.geometry.specs.Doubles.{nought, at, larger, largest_from, largest}
use Rattle.geometry.specs.Root.{sqrt_of, roots_of}
use Rattle.geometry.proofs.FloatOrder.{le_trans_float, le_right, holds}
use Rattle.geometry.proofs.Folds.{zero-le-zero, larger-first}
use Rattle.geometry.proofs.RootOrder.{root_nan, root_from-zero, root-larger}

-- ---- place by place
pub length_roots : (xs : List Float) → length (roots_of xs) ≡ length xs
unfolding roots_of
length_roots [] = refl
length_roots (x ∷ xs) = ap suc (length_roots xs)

pub roots-append : (xs ys : List Float) → roots_of (xs ++ ys) ≡ roots_of xs ++ roots_of ys
unfolding roots_of
roots-append [] ys = refl
roots-append (x ∷ xs) ys = ap (λ (l : List Float). sqrt_of x ∷ l) (roots-append xs ys)

roots-take : (n : ℕ) (xs : List Float) → roots_of (take n xs) ≡ take n (roots_of xs)
unfolding roots_of
roots-take zero xs = refl
roots-take (suc n) [] = refl
roots-take (suc n) (x ∷ xs) = ap (λ (l : List Float). sqrt_of x ∷ l) (roots-take n xs)

roots-drop : (n : ℕ) (xs : List Float) → roots_of (drop n xs) ≡ drop n (roots_of xs)
unfolding roots_of
roots-drop zero xs = refl
roots-drop (suc n) [] = refl
roots-drop (suc n) (x ∷ xs) = roots-drop n xs

pub roots-part : (a e : ℕ) (xs : List Float) → roots_of (part a e xs) ≡ part a e (roots_of xs)
roots-part a e xs = roots-take (e - a) (drop a xs) ∙ ap (take (e - a)) (roots-drop a xs)

pub roots-list_of : (n : ℕ) (g : ℕ → Float) → roots_of (list_of n g) ≡ list_of n (λ k. sqrt_of (g k))
unfolding roots_of list_of
roots-list_of zero g = refl
roots-list_of (suc n) g = roots-append (list_of n g) (g n ∷ []) ∙ ap (λ (l : List Float). l ++ (sqrt_of (g n) ∷ [])) (roots-list_of n g)

pub roots-joined : (n : ℕ) (f : ℕ → List Float) → roots_of (joined n f) ≡ joined n (λ k. roots_of (f k))
unfolding roots_of joined
roots-joined zero f = refl
roots-joined (suc n) f = roots-append (joined n f) (f n) ∙ ap (λ (l : List Float). l ++ roots_of (f n)) (roots-joined n f)

-- ---- lists of values that the format holds
abbrev pub Held : List Float → Type 0
Held [] = Unit {0}
Held (x ∷ xs) = T (fits binary64 x) × Held xs

pub held-each : (xs : List Float) → ((k : ℕ) → T (fits binary64 (at xs k))) → Held xs
held-each [] h = tt
held-each (x ∷ xs) h = (h 0, held-each xs (λ k. h (suc k)))

held-append : (xs ys : List Float) → Held xs → Held ys → Held (xs ++ ys)
held-append [] ys h k = k
held-append (x ∷ xs) ys h k = (h.0, held-append xs ys h.1 k)

held-take : (n : ℕ) (xs : List Float) → Held xs → Held (take n xs)
held-take zero xs h = tt
held-take (suc n) [] h = tt
held-take (suc n) (x ∷ xs) h = (h.0, held-take n xs h.1)

held-drop : (n : ℕ) (xs : List Float) → Held xs → Held (drop n xs)
held-drop zero xs h = h
held-drop (suc n) [] h = tt
held-drop (suc n) (x ∷ xs) h = held-drop n xs h.1

pub held-part : (a e : ℕ) (xs : List Float) → Held xs → Held (part a e xs)
held-part a e xs h = held-take (e - a) (drop a xs) (held-drop a xs h)

pub held-list_of : (n : ℕ) (g : ℕ → Float) → ((k : ℕ) → T (fits binary64 (g k))) → Held (list_of n g)
unfolding list_of
held-list_of zero g h = tt
held-list_of (suc n) g h = held-append (list_of n g) (g n ∷ []) (held-list_of n g h) (h n, tt)

pub held-joined : (n : ℕ) (f : ℕ → List Float) → ((k : ℕ) → Held (f k)) → Held (joined n f)
unfolding joined
held-joined zero f h = tt
held-joined (suc n) f h = held-append (joined n f) (f n) (held-joined n f h) (h n)

-- ---- the largest of the roots is the root of the largest
larger-fits : (a s : Float) → T (fits binary64 a) → T (fits binary64 s) → T (fits binary64 (larger a s))
unfolding larger
larger-fits a s ha hs = cond-fits binary64 (lt a s) s a hs ha

roots_from : (a : Float) (xs : List Float) → T (fits binary64 a) → T (le nought a) → Held xs → largest_from (sqrt_of a) (roots_of xs) ≡ sqrt_of (largest_from a xs)
unfolding roots_of largest_from
roots_from a [] ha l h = refl
roots_from a (x ∷ xs) ha l h =
    ap (λ (y : Float). largest_from y (roots_of xs)) (root-larger a x ha h.0 (holds _ l))
    ∙ roots_from (larger a x) xs (larger-fits a x ha h.0) (le_trans_float nought a (larger a x) l (larger-first a x (le_right nought a l))) h.1

root-zero : sqrt_of nought ≡ nought
unfolding sqrt_of of_bits
root-zero = refl

pub largest_roots : (xs : List Float) → Held xs → largest (roots_of xs) ≡ sqrt_of (largest xs)
unfolding largest
largest_roots xs h = ap (λ (y : Float). largest_from y (roots_of xs)) (sym root-zero) ∙ roots_from nought xs (of_bits-fits binary64 0) zero-le-zero h

-- ---- a root that is a number is at least 0
pub root-low : (s : Float) → T (fits binary64 s) → is_nan (sqrt_of s) ≡ false → T (le nought (sqrt_of s))
root-low s h e = root_from-zero s h (by_test (le nought s) (sym (root_nan s) ∙ e))
  where
    by_test : (b : Bool) → not b ≡ false → T b
    by_test true q = tt
    by_test false q = true≢false q
