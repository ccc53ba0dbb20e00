-- Distances of points, and points in a list of three places a point. Assumes nothing.
use Rattle.std.proofs.Common.{◌≡◌, ℕ, zero, suc, ◌+◌, ◌*◌, ◌<◌, ◌≤◌, Bool, cond, T, ◌⊎◌, List, length, set, sym, refl, ap, ◌∙◌, ⊎_elim, add-one, arith, length-set, get_or-set_other, get_or-set_same}
use lib.Ieee.{Float, nan, binary64, fits}
use lib.Ieee.Fits.{add-fits}
use Rattle.geometry.specs.declared.Point.{Point}
use Rattle.places.specs.Loops.{each}
use Rattle.places.proofs.LoopLaws.{each_done, each_last}
use Rattle.geometry.specs.Doubles.{◌⊕◌, ◌⊗◌, nought, at, sum_below, sum_over}
use Rattle.geometry.specs.Points.{squared_distance, distance, point_at, put_point, plus_scaled, weighted}
use Rattle.geometry.specs.Root.{sqrt_of}

-- the distance is the root of its square, which is a sum and so fits
pub distance_root : (f : Float) (p q : Point) → distance f p q ≡ sqrt_of (squared_distance f p q)
unfolding distance
distance_root f p q = refl

pub squared-fits : (f : Float) (p q : Point) → T (fits binary64 (squared_distance f p q))
unfolding squared_distance
squared-fits f p q = add-fits binary64 _ _

pub length_put-point : (k : ℕ) (q : Point) (l : List Float) → length (put_point k q l) ≡ length l
unfolding put_point
length_put-point k q l = simp length-set

abbrev point : Float → Float → Float → Point
point x y z = record { x = x; y = y; z = z }

same_point : (x y z : Float) (q : Point) → x ≡ q.x → y ≡ q.y → z ≡ q.z → point x y z ≡ q
same_point x y z q a b c = rw (a, b, c)

-- a point that is put stands there, and the others stay
pub point_put : (i : ℕ) (q : Point) (l : List Float) → 3 * i + 3 ≤ length l → point_at (put_point i q l) i ≡ q
unfolding point_at put_point
point_put i q l h =
    let a : List Float = set l (3 * i) q.x in
    let b : List Float = set a (3 * i + 1) q.y in
    let m : length a ≡ length l = length-set l (3 * i) q.x in
    let n : length b ≡ length a = length-set a (3 * i + 1) q.y in
    same_point _ _ _ q
    (get_or-set_other b (3 * i + 2) (3 * i) q.z nan (λ e. omega arith) ∙ get_or-set_other a (3 * i + 1) (3 * i) q.y nan (λ e. omega arith) ∙ get_or-set_same l (3 * i) q.x nan (omega arith))
    (get_or-set_other b (3 * i + 2) (3 * i + 1) q.z nan (λ e. omega arith) ∙ get_or-set_same a (3 * i + 1) q.y nan (omega (arith, m)))
    (get_or-set_same b (3 * i + 2) q.z nan (omega (arith, m, n)))

pub point_stays : (i j : ℕ) (q : Point) (l : List Float) → (j < i) ⊎ (i < j) → point_at (put_point i q l) j ≡ point_at l j
unfolding point_at put_point
point_stays i j q l h =
    let a : List Float = set l (3 * i) q.x in
    let b : List Float = set a (3 * i + 1) q.y in
    let ne : (x y : ℕ) → 3 * j ≤ x → x < 3 * j + 3 → 3 * i ≤ y → y < 3 * i + 3 → x ≡ y → ⊥ = λ x y s t u v e. ⊎_elim (λ w. omega arith) (λ w. omega arith) h in
    let kept : (x : ℕ) → 3 * j ≤ x → x < 3 * j + 3 → at (set b (3 * i + 2) q.z) x ≡ at l x =
    λ x s t. get_or-set_other b (3 * i + 2) x q.z nan (ne x (3 * i + 2) s t (omega arith) (omega arith))
    ∙ get_or-set_other a (3 * i + 1) x q.y nan (ne x (3 * i + 1) s t (omega arith) (omega arith))
    ∙ get_or-set_other l (3 * i) x q.x nan (ne x (3 * i) s t (omega arith) (omega arith)) in
    same_point _ _ _ (point (at l (3 * j)) (at l (3 * j + 1)) (at l (3 * j + 2))) (kept (3 * j) (omega arith) (omega arith)) (kept (3 * j + 1) (omega arith) (omega arith)) (kept (3 * j + 2) (omega arith) (omega arith))

-- only the first n terms count
pub sum_same : (n : ℕ) (f g : ℕ → Float) → ((k : ℕ) → k < n → f k ≡ g k) → sum_below n f ≡ sum_below n g
unfolding sum_below
sum_same zero f g e = refl
sum_same (suc n) f g e = rw (sum_same n f g (λ k h. e k (omega arith)), e n (omega arith))

-- the sum over those that have p, as a loop
pub sum_over_each : (n : ℕ) (p : ℕ → Bool) (f : ℕ → Float) → sum_over n p f ≡ each 0 n (λ k s. cond (p k) (s ⊕ f k) s) nought
unfolding sum_over
sum_over_each zero p f = sym (each_done 0 0 (λ k s. cond (p k) (s ⊕ f k) s) nought (omega arith))
sum_over_each (suc n) p f =
    ap (λ (s : Float). cond (p n) (s ⊕ f n) s) (sum_over_each n p f)
    ∙ sym (each_last 0 n (λ k s. cond (p k) (s ⊕ f k) s) nought (omega arith))
    ∙ ap (λ (m : ℕ). each 0 m (λ k s. cond (p k) (s ⊕ f k) s) nought) (add-one n)

pub weighted-same : (n : ℕ) (v w : ℕ → Float) (p q : ℕ → Point) → ((k : ℕ) → k < n → v k ≡ w k) → ((k : ℕ) → k < n → p k ≡ q k) → weighted n v p ≡ weighted n w q
unfolding weighted
weighted-same n v w p q e h =
    rw (
      sum_same n (λ a. v a ⊗ (p a).x) (λ a. w a ⊗ (q a).x) (λ k l. rw (e k l, h k l)),
      sum_same n (λ a. v a ⊗ (p a).y) (λ a. w a ⊗ (q a).y) (λ k l. rw (e k l, h k l)),
      sum_same n (λ a. v a ⊗ (p a).z) (λ a. w a ⊗ (q a).z) (λ k l. rw (e k l, h k l)),
    )

-- one pole more
pub weighted-more : (n : ℕ) (v : ℕ → Float) (q : ℕ → Point) → weighted (n + 1) v q ≡ plus_scaled (weighted n v q) (v n) (q n)
unfolding weighted plus_scaled sum_below
weighted-more n v q = rw add-one
