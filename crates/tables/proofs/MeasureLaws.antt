-- Distances measured by their squares, one after the other: the largest, and how many are NaN. Assumes nothing.
use mathlib.Core.Path.{◌≡◌, refl, sym, ◌∙◌, ap}
use mathlib.Core.Bool.{Bool, true, false, cond}
use mathlib.Core.List.{List, [], ◌∷◌, ◌++◌, append-nil, flatten}
use Prim.Native.Nat.{ℕ, suc, ◌+◌, ◌≤◌}
use native.Mathlib.Omega.{arith}
use native.Mathlib.Nat.{zero-add, suc-add}
use lib.Dec.{T}
use lib.ListN.{length}
use lib.Ieee.{Float, nan, binary64, fits, is_nan}
use Rattle.places.specs.Places.{laid, list_of}
use Rattle.places.proofs.PlaceLaws.{laid_none, laid0-next, laid-above, list_of-more, list_of-same, length-list_of}
use Rattle.geometry.specs.Doubles.{at, nought, larger, largest_from, largest}
use Rattle.geometry.specs.Points.{squared_distance, point_at}
use Rattle.geometry.specs.Root.{sqrt_of, roots_of}
use Rattle.geometry.proofs.Folds.{nested-largest, largest-more}
use Rattle.geometry.proofs.PointLaws.{distance_root, squared-fits}
use Rattle.geometry.proofs.Roots.{length_roots, roots-append, roots-list_of, Held, held-list_of, largest_roots}
use Rattle.knots.proofs.ParameterLaws.{laid-whole}
use Rattle.tables.specs.declared.Measured.{Measured}
use Rattle.tables.specs.BasisTable.{BasisTable, parameter_count, table_point}
use Rattle.tables.specs.Deviations.{ladder_distances, point_deviations, unreadable}
use Rattle.tables.specs.Measures.{measured, with_all, squares_measured, with_square, rooted, LeavesSquares}

-- ---- how many are NaN
counted : (b : Bool) (n m : ℕ) → cond b (suc (n + m)) (n + m) ≡ cond b (suc n) n + m
counted true n m = sym (suc-add n m)
counted false n m = refl

pub unreadable-append : (xs ys : List Float) → unreadable (xs ++ ys) ≡ unreadable xs + unreadable ys
unfolding unreadable
unreadable-append [] ys = sym (zero-add (unreadable ys))
unreadable-append (x ∷ xs) ys = rw (unreadable-append xs ys) (counted (is_nan x) (unreadable xs) (unreadable ys))

counted-le : (b : Bool) (n : ℕ) → cond b (suc n) n ≤ suc n
counted-le true n = omega arith
counted-le false n = omega arith

pub unreadable-few : (ds : List Float) → unreadable ds ≤ length ds
unfolding unreadable
unreadable-few [] = omega arith
unreadable-few (d ∷ ds) = omega (arith, unreadable-few ds, counted-le (is_nan d) (unreadable ds))

-- ---- the largest of two lists
largest_alone : (xs : List Float) → larger (largest []) (largest xs) ≡ largest xs
unfolding largest largest_from flatten
largest_alone xs = nested-largest (xs ∷ []) ∙ ap largest (append-nil xs)

pub largest-append : (xs ys : List Float) → largest (xs ++ ys) ≡ larger (largest xs) (largest ys)
unfolding largest largest_from flatten
largest-append xs ys =
    sym (nested-largest (xs ∷ ys ∷ []) ∙ ap (λ (l : List Float). largest (xs ++ l)) (append-nil ys))
    ∙ ap (λ (x : Float). larger x (largest ys)) (largest_alone xs)

-- ---- both, of squares
pub squares_none : squares_measured [] ≡ record { largest = nought; unreadable = 0 }
unfolding squares_measured largest largest_from roots_of unreadable
squares_none = refl

pub squares-start : (g : ℕ → Float) (m : Measured) → m ≡ squares_measured [] → m ≡ squares_measured (list_of 0 g)
unfolding list_of
squares-start g m e = e

squares-more : (k : ℕ) (g : ℕ → Float) → squares_measured (list_of (k + 1) g) ≡ with_square (squares_measured (list_of k g)) (g k)
unfolding squares_measured with_square unreadable roots_of
squares-more k g = rw (largest-more k g, list_of-more k g, roots-append (list_of k g) (g k ∷ []), unreadable-append (roots_of (list_of k g)) (sqrt_of (g k) ∷ []))

pub squares-next : (k : ℕ) (g : ℕ → Float) (m r : Measured) (s : Float) → m ≡ squares_measured (list_of k g) → s ≡ g k → r ≡ with_square m s → r ≡ squares_measured (list_of (k + 1) g)
squares-next k g m r s e h i = i ∙ rw (e, h, squares-more)

pub squares-append : (xs ys : List Float) → squares_measured (xs ++ ys) ≡ with_all (squares_measured xs) (squares_measured ys)
unfolding squares_measured with_all
squares-append xs ys = rw (largest-append xs ys, roots-append xs ys, unreadable-append (roots_of xs) (roots_of ys))

pub squares-few : (ss : List Float) (m : Measured) → m ≡ squares_measured ss → m.unreadable ≤ length ss
unfolding squares_measured
squares-few ss m e = rw e (omega (arith, unreadable-few (roots_of ss), length_roots ss))

pub squares_listed : (k : ℕ) (g : ℕ → Float) (m : Measured) → m ≡ squares_measured (list_of k g) → m.unreadable ≤ k
squares_listed k g m e = omega (arith, squares-few (list_of k g) m e, length-list_of k g)

-- the distances' largest is the root of the largest square
pub rooted-measured : (ss : List Float) (m r : Measured) → Held ss → m ≡ squares_measured ss → r ≡ rooted m → r ≡ measured (roots_of ss)
unfolding squares_measured rooted measured
rooted-measured ss m r held e h = h ∙ rw e (rw (largest_roots ss held) refl)

pub rooted-largest : (n : ℕ) (g : ℕ → Float) → ((k : ℕ) → T (fits binary64 (g k))) → sqrt_of (largest (list_of n g)) ≡ largest (list_of n (λ k. sqrt_of (g k)))
rooted-largest n g held = sym (largest_roots (list_of n g) (held-list_of n g held)) ∙ ap largest (roots-list_of n g)

-- ---- squares that are put in their places: the place of the next one is still as it was
pub place_still : (k : ℕ) (g : ℕ → Float) (old now : List Float) → now ≡ laid 0 k g old → at now k ≡ at old k
place_still k g old now e = ap (λ (l : List Float). at l k) e ∙ laid-above 0 k g old k nan (omega arith)

pub ruleset placing = (laid_none, laid0-next, laid-whole, place_still, squares-start, squares-next, squares_listed)

-- a ladder's distances are the roots of their squares
abbrev pub ladder_square : Float → BasisTable → List Float → List Float → ℕ → Float
ladder_square f t poles s k = squared_distance f (table_point t poles 0 k) (point_at s k)

module _ (f : Float) (t : BasisTable) (poles s : List Float) where
  pub ladder-rooted : ladder_distances f t poles s ≡ roots_of (list_of (parameter_count t) (ladder_square f t poles s))
  unfolding ladder_distances
  ladder-rooted =
      sym (roots-list_of (parameter_count t) (ladder_square f t poles s) ∙ list_of-same (parameter_count t) _ _ (λ k h. sym (distance_root f (table_point t poles 0 k) (point_at s k))))

  pub ladder-held : (n : ℕ) → Held (list_of n (ladder_square f t poles s))
  ladder-held n = held-list_of n (ladder_square f t poles s) (λ k. squared-fits f (table_point t poles 0 k) (point_at s k))

  -- with the points from the first on
  pub ladder_done : (n : ℕ) (squares : List Float) (total r : Measured) → n ≡ parameter_count t
      → total ≡ squares_measured (list_of n (λ k. squared_distance f (table_point t poles 0 k) (point_at s (0 + k))))
      → squares ≡ list_of n (λ k. squared_distance f (table_point t poles 0 k) (point_at s (0 + k)))
      → r ≡ rooted total → LeavesSquares point_deviations (ladder_distances f t poles s) squares r
  ladder_done n squares total r z e g h =
      let S = ladder_square f t poles s in
      let same : list_of n (λ k. squared_distance f (table_point t poles 0 k) (point_at s (0 + k))) ≡ list_of n S =
      list_of-same n _ S (λ k l. let y : 0 + k ≡ k = omega arith in ap (λ (i : ℕ). squared_distance f (table_point t poles 0 k) (point_at s i)) y) in
      let found : roots_of (list_of n S) ≡ ladder_distances f t poles s = ap (λ (m : ℕ). roots_of (list_of m S)) z ∙ sym ladder-rooted in
      record {
        measures = rooted-measured (list_of n S) total r (ladder-held n) (e ∙ ap squares_measured same) h ∙ ap measured found;
        deviations = ap roots_of (g ∙ same) ∙ found;
      }
