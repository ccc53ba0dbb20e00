-- Lists of points, and lists that are filled with points one after the other. Assumes nothing.
use mathlib.Core.Path.{◌≡◌, refl, sym, ◌∙◌, ap}
use mathlib.Core.List.{List, [], ◌∷◌, ◌++◌, append_assoc, append-nil}
use Prim.Native.Nat.{ℕ, ◌+◌, ◌*◌, ◌≤◌, ◌<◌}
use native.Mathlib.Omega.{arith}
use lib.ListN.{length, set, drop, drop_of_length-le, length-drop}
use lib.Seq.{drop-drop}
use lib.Ieee.{Float}
use Rattle.places.specs.Places.{joined}
use Rattle.places.proofs.PlaceLaws.{row_inside, joined-more, length-joined, joined_same}
use Rattle.places.proofs.RegionLaws.{set-append-add}
use Rattle.geometry.specs.declared.Point.{Point}
use Rattle.geometry.specs.Points.{put_point, coordinates, points_of}

pub length-points : (n : ℕ) (q : ℕ → Point) → length (points_of n q) ≡ 3 * n
unfolding points_of coordinates
length-points n q = length-joined n 3 (λ k. coordinates (q k)) (λ k h. refl) ∙ omega arith

pub points-same : (n : ℕ) (p q : ℕ → Point) → ((k : ℕ) → k < n → p k ≡ q k) → points_of n p ≡ points_of n q
unfolding points_of
points-same n p q e = joined_same n (λ k. coordinates (p k)) (λ k. coordinates (q k)) (λ k h. ap coordinates (e k h))

pub points_none : (q : ℕ → Point) → points_of 0 q ≡ []
unfolding points_of joined
points_none q = refl

three : (l : List Float) (x y z : Float) → 3 ≤ length l → set (set (set l 0 x) 1 y) 2 z ≡ x ∷ y ∷ z ∷ drop 3 l
three [] x y z h = absurd (omega arith)
three (a ∷ []) x y z h = absurd (omega arith)
three (a ∷ b ∷ []) x y z h = absurd (omega arith)
three (a ∷ b ∷ c ∷ l) x y z h = refl

-- a list that is filled from the front, by points
pub points-next : (k : ℕ) (f : ℕ → Point) (old : List Float) → 3 * k + 3 ≤ length old
    → put_point k (f k) (points_of k f ++ drop (3 * k) old) ≡ points_of (k + 1) f ++ drop (3 * (k + 1)) old
unfolding put_point points_of coordinates
points-next k f old h =
    let p : List Float = joined k (λ i. coordinates (f i)) in
    let q : List Float = drop (3 * k) old in
    let n : length p ≡ 3 * k = length-points k f in
    let put : (i : ℕ) (l : List Float) (v : Float) → set (p ++ l) (3 * k + i) v ≡ p ++ set l i v =
    λ i l v. ap (λ (m : ℕ). set (p ++ l) (m + i) v) (sym n) ∙ set-append-add p l i v in
    let zero' : 3 * k + 0 ≡ 3 * k = omega arith in
    let put0 : set (p ++ q) (3 * k) (f k).x ≡ p ++ set q 0 (f k).x = rw zero' at (put 0 q (f k).x) in
    let far : 3 * k + 3 ≡ 3 * (k + 1) = omega arith in
    rw (put0, put 1 (set q 0 (f k).x) (f k).y, put 2 (set (set q 0 (f k).x) 1 (f k).y) (f k).z, three q (f k).x (f k).y (f k).z (omega (arith, length-drop (3 * k) old)), drop-drop 3 (3 * k) old, far, joined-more k (λ i. coordinates (f i)))
    (sym (append_assoc p ((f k).x ∷ (f k).y ∷ (f k).z ∷ []) (drop (3 * (k + 1)) old)))

pub points-start : (f : ℕ → Point) (old : List Float) → old ≡ points_of 0 f ++ drop (3 * 0) old
points-start f old = rw points_none refl

pub points-turn : (k : ℕ) (f : ℕ → Point) (q : Point) (old now : List Float) → 3 * k + 3 ≤ length old → now ≡ points_of k f ++ drop (3 * k) old → q ≡ f k
    → put_point k q now ≡ points_of (k + 1) f ++ drop (3 * (k + 1)) old
points-turn k f q old now h e g = ap (λ (x : Point). put_point k x now) g ∙ ap (put_point k (f k)) e ∙ points-next k f old h

-- filled to its end
pub points_end : (n k : ℕ) (f : ℕ → Point) (old now : List Float) → length old ≡ 3 * n → k ≡ n → now ≡ points_of k f ++ drop (3 * k) old → now ≡ points_of n f
points_end n k f old now h z e =
    let none : drop (3 * n) old ≡ [] = drop_of_length-le old (omega arith) in
    e ∙ rw (z, none, append-nil)

pub ruleset filling = (points-start, points-turn, points_end, row_inside)
