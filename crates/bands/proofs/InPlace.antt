-- The rows of a triangular system, solved in the place of its right-hand side: the point that a turn of the loop puts stands in the end, and till then the old one does. So
-- each row is solved from points that are final and from its own as it was given. Coordinate by coordinate. Assumes nothing.
use mathlib.Core.Path.{◌≡◌, refl, sym, ◌∙◌, ap}
use mathlib.Core.List.{List}
use mathlib.Core.Logic.{◌⊎◌, inl, inr}
use Prim.Native.Nat.{ℕ, zero, suc, ◌+◌, ◌*◌, ◌<◌, ◌≤◌}
use native.Mathlib.Omega.{arith}
use lib.ListN.{length}
use lib.Ieee.{Float}
use Rattle.places.specs.Loops.{each, down}
use Rattle.places.proofs.LoopLaws.{each_same, each_only, each_split, each_cong, each_seen, down_split, down_step, down_same}
use Rattle.places.proofs.RegionLaws.{length-each}
use Rattle.geometry.specs.declared.Point.{Point}
use Rattle.geometry.specs.Doubles.{◌⊖◌, ◌⊗◌, at}
use Rattle.geometry.specs.Points.{coordinates, point_at, put_point, less_scaled, scaled}
use Rattle.geometry.proofs.PointLaws.{length_put-point, point_put, point_stays}
use Rattle.bands.specs.Sums.{less_sum}

-- ---- coordinate 0, 1 or 2 of a point
abbrev pub coordinate : ℕ → Point → Float
coordinate c p = at (coordinates p) c

pub coordinate_at : (l : List Float) (k c : ℕ) → c < 3 → coordinate c (point_at l k) ≡ at l (3 * k + c)
unfolding point_at coordinates
coordinate_at l k zero h = ap (at l) (omega arith)
coordinate_at l k (suc zero) h = refl
coordinate_at l k (suc (suc zero)) h = refl
coordinate_at l k (suc (suc (suc c))) h = absurd (omega arith)

pub coordinate_less : (c : ℕ) (p : Point) (v : Float) (q : Point) → c < 3 → coordinate c (less_scaled p v q) ≡ coordinate c p ⊖ v ⊗ coordinate c q
unfolding less_scaled coordinates
coordinate_less zero p v q h = refl
coordinate_less (suc zero) p v q h = refl
coordinate_less (suc (suc zero)) p v q h = refl
coordinate_less (suc (suc (suc c))) p v q h = absurd (omega arith)

coordinate_scaled : (c : ℕ) (p : Point) (v : Float) → c < 3 → coordinate c (scaled p v) ≡ coordinate c p ⊗ v
unfolding scaled coordinates
coordinate_scaled zero p v h = refl
coordinate_scaled (suc zero) p v h = refl
coordinate_scaled (suc (suc zero)) p v h = refl
coordinate_scaled (suc (suc (suc c))) p v h = absurd (omega arith)

-- ---- row i: point i less e i k times point k for each k from a i on and before b i, by r i
module _ (a b : ℕ → ℕ) (e : ℕ → ℕ → Float) (r : ℕ → Float) where
  abbrev row : List Float → ℕ → Point
  row l i = scaled (each (a i) (b i) (λ k x. less_scaled x (e i k) (point_at l k)) (point_at l i)) (r i)

  -- the same of coordinates, where own stands in B and the others in X
  abbrev solved : List Float → List Float → ℕ → ℕ → Float
  solved B X i c = less_sum (a i) (b i) (λ k. e i k ⊗ at X (3 * k + c)) (at B (3 * i + c)) ⊗ r i

  row_is : (B X l : List Float) (i c : ℕ) → c < 3 → point_at X i ≡ row l i → point_at l i ≡ point_at B i
      → ((k : ℕ) → a i ≤ k → k < b i → point_at l k ≡ point_at X k) → at X (3 * i + c) ≡ solved B X i c
  unfolding less_sum
  row_is B X l i c h put own same =
      sym (coordinate_at X i c h)
      ∙ ap (coordinate c) put
      ∙ coordinate_scaled c _ (r i) h
      ∙ ap (λ (x : Float). x ⊗ r i) (
      ap (coordinate c) (each_cong _ _ (a i) (b i) (point_at l i) (λ k x u v. ap (less_scaled x (e i k)) (same k u v)))
      ∙ sym (each_seen (coordinate c) (λ k s. s ⊖ e i k ⊗ at X (3 * k + c)) (λ k x. less_scaled x (e i k) (point_at X k)) (a i) (b i) (point_at l i)
      (λ k x. rw (coordinate_less c x (e i k) (point_at X k) h, coordinate_at X k c h)))
      ∙ rw (own, coordinate_at B i c h))

  module _ (f : ℕ → List Float → List Float) (is : (i : ℕ) (l : List Float) → f i l ≡ put_point i (row l i) l) where
    stays : (i j : ℕ) (l : List Float) → (j < i) ⊎ (i < j) → point_at (f i l) j ≡ point_at l j
    stays i j l h = rw is (point_stays i j (row l i) l h)

    puts : (i : ℕ) (l : List Float) → 3 * i + 3 ≤ length l → point_at (f i l) i ≡ row l i
    puts i l h = rw is (point_put i (row l i) l h)

    long : (i : ℕ) (l : List Float) → length (f i l) ≡ length l
    long i l = rw is (length_put-point i (row l i) l)

    module _ (n : ℕ) (B : List Float) (fits : 3 * n ≤ length B) (i c : ℕ) (below : i < n) (three : c < 3) where
      pub rows_up : b i ≤ i → at (each 0 n f B) (3 * i + c) ≡ solved B (each 0 n f B) i c
      rows_up before =
          let l : List Float = each 0 i f B in
          row_is B (each 0 n f B) l i c three
          (each_only (λ x. point_at x i) f 0 i n B (omega arith) below (λ j t u v. stays j i t (inl u)) ∙ puts i l (omega (arith, length-each f long 0 i B)))
          (each_same (λ x. point_at x i) f 0 i B (λ j t u v. stays j i t (inr v)))
          (λ k u v. sym (
          ap (λ (x : List Float). point_at x k) (each_split 0 i n f B (omega arith) (omega arith))
          ∙ each_same (λ x. point_at x k) f i n l (λ j t p q. stays j k t (inl (omega arith)))))

      pub rows_down : i < a i → at (down n f B) (3 * i + c) ≡ solved B (down n f B) i c
      rows_down after =
          let t = down_split (λ l. (point_at l i ≡ point_at B i) × (length l ≡ length B)) (i + 1) n f B (omega arith) (refl, refl) (λ k l u v p. (stays k i l (inl (omega arith)) ∙ p.0, long k l ∙ p.1)) in
          let end : down n f B ≡ down i f (f i t.0) = t.1 ∙ down_step i f t.0 in
          row_is B (down n f B) t.0 i c three
          (rw end (down_same (λ x. point_at x i) i f (f i t.0) (λ k l u. stays k i l (inr u)) ∙ puts i t.0 (omega (arith, t.2.1))))
          t.2.0
          (λ k u v. rw end (sym (down_same (λ x. point_at x k) i f (f i t.0) (λ j l w. stays j k l (inr (omega arith))) ∙ stays i k t.0 (inr (omega arith)))))
