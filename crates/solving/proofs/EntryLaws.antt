-- The matrices and right-hand sides that are made are those of the books, entry by entry: a parameter adds to an entry once, where its row has the poles, and leaves it alone
-- elsewhere. Assumes nothing.
use mathlib.Core.Path.{◌≡◌, refl, sym, ◌∙◌, ap}
use mathlib.Core.Bool.{Bool, true, false, cond, ◌&&◌}
use mathlib.Core.List.{List}
use mathlib.Core.Logic.{◌⊎◌, inl, inr, ⊎_elim}
use Prim.Native.Nat.{ℕ, zero, suc, ◌+◌, ◌-◌, ◌*◌, ◌≤◌, ◌<◌}
use native.Mathlib.Omega.{arith}
use lib.Dec.{leb}
use lib.ListN.{length, replicate, length-set, length-replicate, get_or-replicate}
use lib.Seq.{get_or-set_same, get_or-set_other}
use lib.Ieee.{Float, nan}
use borrow.Author.Tests.{leb-true, le-leb}
use Rattle.places.specs.Loops.{each}
use Rattle.places.proofs.LoopLaws.{each_same, each_once, each_shift, cond_both}
use Rattle.places.proofs.PlaceLaws.{row_inside, differ, le-or-lt}
use Rattle.places.proofs.RegionLaws.{length-each}
use Rattle.geometry.specs.declared.Point.{Point}
use Rattle.geometry.specs.Doubles.{◌⊕◌, ◌⊗◌, nought, at, sum_over}
use Rattle.geometry.specs.Points.{coordinates, point_at, plus_scaled}
use Rattle.geometry.proofs.PointLaws.{length_put-point, point_put, point_stays, sum_over_each}
use Rattle.bands.specs.Bands.{place, put_entry}
use Rattle.bands.proofs.InPlace.{coordinate, coordinate_at}
use Rattle.bands.proofs.Rows.{place_one}
use Rattle.tables.specs.BasisTable.{BasisTable, parameter_count, first, value}
use Rattle.solving.specs.LeastSquares.{add_product, normal_matrix, add_datum, right_hand}
use Rattle.solving.specs.Interpolation.{put_within, put_value, interpolation_matrix}
use Rattle.solving.specs.Textbook.{in_row, basis_value, IsNormal, IsRightHand, IsCollocation}
use Rattle.solving.proofs.SquareLaws.{add_parameter, add_point, normal_rows, right_points, length-point, length-right}
use Rattle.solving.proofs.ThroughLaws.{put_parameter, matrix_rows}

both_so : (a b : Bool) → (a && b) ≡ true → (a ≡ true) × (b ≡ true)
both_so true b e = (refl, e)
both_so false b e = absurd (differ false e refl)

-- ---- pole i's value in the row of parameter k
module _ (t : BasisTable) (k i : ℕ) where
  row_has : (a : ℕ) → a ≤ t.degree → first t k + a ≡ i → in_row t k i ≡ true
  row_has a h e = rw (le-leb (first t k) i (omega arith), le-leb i (first t k + t.degree) (omega arith))

  row_bounds : in_row t k i ≡ true → (first t k ≤ i) × (i ≤ first t k + t.degree)
  row_bounds e = let z = both_so _ _ e in (leb-true (first t k) i z.0, leb-true i (first t k + t.degree) z.1)

  value_is : in_row t k i ≡ true → basis_value t k i ≡ value t k (i - first t k)
  unfolding basis_value
  value_is e = rw e

-- one number below another, where they are not the same
beside : (m n : ℕ) → (m ≡ n → ⊥) → (n < m) ⊎ (m < n)
beside m n o = ⊎_elim (λ (u : n ≤ m). inl (omega arith)) (λ l. inr l) (le-or-lt n m)

-- Σ over the parameters, from what each of them adds to the entry that `now` shows
summed : (n m : ℕ) (now : List Float → Float) (p : ℕ → Bool) (v : ℕ → Float) (f : ℕ → List Float → List Float) (l : List Float) → length l ≡ m → now l ≡ nought
    → ((k : ℕ) (l : List Float) → length (f k l) ≡ length l) → ((k : ℕ) (l : List Float) → length l ≡ m → now (f k l) ≡ cond (p k) (now l ⊕ v k) (now l))
    → now (each 0 n f l) ≡ sum_over n p v
summed n m now p v f l long none keeps adds =
    sym (sum_over_each n p v
    ∙ ap (each 0 n (λ k s. cond (p k) (s ⊕ v k) s)) (sym none)
    ∙ each_shift now (λ x. length x ≡ m) (λ k s. cond (p k) (s ⊕ v k) s) f 0 n 0 n l refl long
    (λ i j x u w e q. let z : i ≡ j = omega arith in (rw z (sym (adds j x q)), keeps j x ∙ q)))

-- ---- A'A: entry (i, j)
length_products : (t : BasisTable) (k : ℕ) (l : List Float) → length (add_parameter t k l) ≡ length l
unfolding add_parameter add_product
length_products t k l = length-each _ (λ a y. length-each _ (λ c z. length-set z _ _) 0 (a + 1) y) 0 (t.degree + 1) l

module _ (t : BasisTable) (m i j : ℕ) (below : i < m) (order : j ≤ i) (near : i ≤ j + t.degree) (k : ℕ) where
  abbrev entry_at : ℕ
  entry_at = place (t.degree + 1) t.degree i j

  -- a product of other poles leaves it alone
  product_stays : (a c : ℕ) (l : List Float) → c ≤ a → a ≤ t.degree → (first t k + a ≡ i → first t k + c ≡ j → ⊥) → at (add_product t k a c l) entry_at ≡ at l entry_at
  unfolding add_product
  product_stays a c l u v other =
      get_or-set_other l (place (t.degree + 1) t.degree (first t k + a) (first t k + c)) entry_at _ nan
      (λ e. let z = place_one (t.degree + 1) t.degree i j (first t k + a) (first t k + c) near (omega arith) (omega arith) (omega arith) e in other (sym z.0) (sym z.1))

  product_adds : (a c : ℕ) (l : List Float) → first t k + a ≡ i → first t k + c ≡ j → entry_at < length l → at (add_product t k a c l) entry_at ≡ at l entry_at ⊕ value t k a ⊗ value t k c
  unfolding add_product
  product_adds a c l u v fits = rw (u, v) (get_or-set_same l entry_at _ nan fits)

  abbrev turn : ℕ → List Float → List Float
  turn a = each 0 (a + 1) (add_product t k a)

  length_turn : (a : ℕ) (l : List Float) → length (turn a l) ≡ length l
  unfolding add_product
  length_turn a l = length-each (add_product t k a) (λ c z. length-set z _ _) 0 (a + 1) l

  entry_added : (l : List Float) → length l ≡ m * (t.degree + 1)
      → at (add_parameter t k l) entry_at ≡ cond (in_row t k j && in_row t k i) (at l entry_at ⊕ basis_value t k i ⊗ basis_value t k j) (at l entry_at)
  unfolding add_parameter add_product
  entry_added l long = pick (in_row t k j && in_row t k i) refl
    where
      pick : (b : Bool) → (in_row t k j && in_row t k i) ≡ b → at (each 0 (t.degree + 1) turn l) entry_at ≡ cond b (at l entry_at ⊕ basis_value t k i ⊗ basis_value t k j) (at l entry_at)
      pick true e =
          let z = both_so _ _ e in
          let J = row_bounds t k j z.0 in
          let I = row_bounds t k i z.1 in
          let a : ℕ = i - first t k in
          let c : ℕ = j - first t k in
          let fits : entry_at < length l = omega (arith, row_inside i m (t.degree + 1) below) in
          each_once (λ x. at x entry_at) length turn (λ s. s ⊕ basis_value t k i ⊗ basis_value t k j) 0 a (t.degree + 1) l (omega arith) (omega arith) length_turn
          (λ b y u v o. each_same (λ x. at x entry_at) (add_product t k b) 0 (b + 1) y (λ d x w q. product_stays b d x (omega arith) (omega arith) (λ f g. o (omega arith))))
          (λ y s. each_once (λ x. at x entry_at) length (add_product t k a) (λ s. s ⊕ basis_value t k i ⊗ basis_value t k j) 0 c (a + 1) y (omega arith) (omega arith) (λ d x. length-set x _ _)
          (λ d x u v o. product_stays a d x (omega arith) (omega arith) (λ f g. o (omega arith)))
          (λ x r. rw (value_is t k i z.1, value_is t k j z.0) (product_adds a c x (omega arith) (omega arith) (omega arith))))
      pick false e =
          each_same (λ x. at x entry_at) turn 0 (t.degree + 1) l
          (λ a y u v. each_same (λ x. at x entry_at) (add_product t k a) 0 (a + 1) y
          (λ c x w q. product_stays a c x (omega arith) (omega arith) (λ f g. differ _ (rw (row_has t k j c (omega arith) g, row_has t k i a (omega arith) f) refl) e)))

pub is_normal : (t : BasisTable) (m : ℕ) → IsNormal t m (normal_matrix t m)
is_normal t m =
    let start : List Float = replicate (m * (t.degree + 1)) nought in
    let long : length start ≡ m * (t.degree + 1) = length-replicate (m * (t.degree + 1)) nought in
    record {
      product = λ i j a b c.
          let x : ℕ = place (t.degree + 1) t.degree i j in
          ap (λ (l : List Float). at l x) (normal_rows t m)
          ∙ summed (parameter_count t) (m * (t.degree + 1)) (λ l. at l x) (λ k. in_row t k j && in_row t k i) (λ k. basis_value t k i ⊗ basis_value t k j) (add_parameter t) start long
          (get_or-replicate (m * (t.degree + 1)) x nought nan (omega (arith, row_inside i m (t.degree + 1) a))) (length_products t) (λ k l h. entry_added t m i j a b c k l h);
      long = ap length (normal_rows t m) ∙ length-each (add_parameter t) (length_products t) 0 (parameter_count t) start ∙ long;
    }

-- ---- A'b: coordinate c of pole i
coordinate_plus : (c : ℕ) (y : Point) (v : Float) (q : Point) → c < 3 → coordinate c (plus_scaled y v q) ≡ coordinate c y ⊕ v ⊗ coordinate c q
unfolding plus_scaled coordinates
coordinate_plus zero y v q h = refl
coordinate_plus (suc zero) y v q h = refl
coordinate_plus (suc (suc zero)) y v q h = refl
coordinate_plus (suc (suc (suc c))) y v q h = absurd (omega arith)

module _ (t : BasisTable) (m i c : ℕ) (below : i < m) (three : c < 3) (q : ℕ → Point) (k : ℕ) where
  abbrev now : List Float → Float
  now l = at l (3 * i + c)

  datum_stays : (a : ℕ) (l : List Float) → (i < first t k + a) ⊎ (first t k + a < i) → now (add_datum t k (q k) a l) ≡ now l
  unfolding add_datum
  datum_stays a l o = sym (coordinate_at _ i c three) ∙ ap (coordinate c) (point_stays (first t k + a) i _ l o) ∙ coordinate_at l i c three

  datum_adds : (a : ℕ) (l : List Float) → first t k + a ≡ i → 3 * i + 3 ≤ length l → now (add_datum t k (q k) a l) ≡ now l ⊕ value t k a ⊗ coordinate c (q k)
  unfolding add_datum
  datum_adds a l e fits =
      rw e
      (sym (coordinate_at _ i c three)
      ∙ ap (coordinate c) (point_put i _ l fits)
      ∙ coordinate_plus c (point_at l i) (value t k a) (q k) three
      ∙ rw (coordinate_at l i c three))

  point_added : (l : List Float) → length l ≡ 3 * m → now (add_point t q k l) ≡ cond (in_row t k i) (now l ⊕ basis_value t k i ⊗ coordinate c (q k)) (now l)
  unfolding add_point add_datum
  point_added l long = pick (in_row t k i) refl
    where
      pick : (b : Bool) → in_row t k i ≡ b → now (each 0 (t.degree + 1) (add_datum t k (q k)) l) ≡ cond b (now l ⊕ basis_value t k i ⊗ coordinate c (q k)) (now l)
      pick true e =
          let I = row_bounds t k i e in
          each_once now length (add_datum t k (q k)) (λ s. s ⊕ basis_value t k i ⊗ coordinate c (q k)) 0 (i - first t k) (t.degree + 1) l (omega arith) (omega arith) (λ a x. length_put-point _ _ x)
          (λ a x u v o. datum_stays a x (beside (first t k + a) i (λ f. o (omega arith))))
          (λ x r. rw (value_is t k i e) (datum_adds (i - first t k) x (omega arith) (omega arith)))
      pick false e = each_same now (add_datum t k (q k)) 0 (t.degree + 1) l (λ a x u v. datum_stays a x (beside (first t k + a) i (λ f. differ _ (row_has t k i a (omega arith) f) e)))

pub is_right_hand : (t : BasisTable) (m : ℕ) (q : ℕ → Point) → IsRightHand t m q (right_hand t m q)
is_right_hand t m q =
    let start : List Float = replicate (3 * m) nought in
    record {
      product = λ i c a three.
          ap (λ (l : List Float). at l (3 * i + c)) (right_points t m q)
          ∙ summed (parameter_count t) (3 * m) (λ l. at l (3 * i + c)) (λ k. in_row t k i) (λ k. basis_value t k i ⊗ coordinate c (q k)) (add_point t q) start (length-replicate (3 * m) nought)
          (get_or-replicate (3 * m) (3 * i + c) nought nan (omega arith)) (length-point t q) (λ k l h. point_added t m i c a three q k l h);
      long = length-right t m q;
    }

-- ---- the matrix of interpolation: entry (j, c)
length_values : (t : BasisTable) (i a : ℕ) (l : List Float) → length (put_value t i a l) ≡ length l
unfolding put_value put_within
length_values t i a l =
    cond_both length (leb i (first t i + a + (t.degree - 1)) && leb (first t i + a) (i + (t.degree - 1))) _ l (length l) (length-set l _ _) refl

length_row : (t : BasisTable) (i : ℕ) (l : List Float) → length (put_parameter t i l) ≡ length l
unfolding put_parameter
length_row t i l = length-each (put_value t i) (length_values t i) 0 (t.degree + 1) l

module _ (t : BasisTable) (j c : ℕ) (left : j ≤ c + (t.degree - 1)) (right : c ≤ j + (t.degree - 1)) where
  abbrev h : ℕ
  h = t.degree - 1

  abbrev stands : ℕ
  stands = place (2 * h + 1) h j c

  -- a value of another row, or of another pole, leaves it alone
  value_stays : (i a : ℕ) (l : List Float) → (i ≡ j → first t i + a ≡ c → ⊥) → at (put_value t i a l) stands ≡ at l stands
  unfolding put_value put_within
  value_stays i a l other = pick (leb i (first t i + a + h) && leb (first t i + a) (i + h)) refl
    where
      pick : (b : Bool) → (leb i (first t i + a + h) && leb (first t i + a) (i + h)) ≡ b → at (cond b (put_entry (2 * h + 1) h i (first t i + a) (value t i a) l) l) stands ≡ at l stands
      pick false e = refl
      pick true e =
          let z = both_so _ _ e in
          let u = leb-true i (first t i + a + h) z.0 in
          let v = leb-true (first t i + a) (i + h) z.1 in
          get_or-set_other l (place (2 * h + 1) h i (first t i + a)) stands _ nan
          (λ f. let w = place_one (2 * h + 1) h j c i (first t i + a) left (omega arith) u (omega arith) f in other (sym w.0) (sym w.1))

  value_put : (a : ℕ) (l : List Float) → first t j + a ≡ c → stands < length l → at (put_value t j a l) stands ≡ value t j a
  unfolding put_value put_within
  value_put a l e fits = rw (e, le-leb j (c + h) left, le-leb c (j + h) right) (get_or-set_same l stands (value t j a) nan fits)

  row_put : (l : List Float) → stands < length l → at (put_parameter t j l) stands ≡ cond (in_row t j c) (value t j (c - first t j)) (at l stands)
  unfolding put_parameter
  row_put l fits = pick (in_row t j c) refl
    where
      pick : (b : Bool) → in_row t j c ≡ b → at (each 0 (t.degree + 1) (put_value t j) l) stands ≡ cond b (value t j (c - first t j)) (at l stands)
      pick true e =
          let C = row_bounds t j c e in
          each_once (λ x. at x stands) length (put_value t j) (λ s. value t j (c - first t j)) 0 (c - first t j) (t.degree + 1) l (omega arith) (omega arith) (length_values t j)
          (λ a x u v o. value_stays j a x (λ f g. o (omega arith)))
          (λ x r. value_put (c - first t j) x (omega arith) (omega arith))
      pick false e = each_same (λ x. at x stands) (put_value t j) 0 (t.degree + 1) l (λ a x u v. value_stays j a x (λ f g. differ _ (row_has t j c a (omega arith) g) e))

pub is_collocation : (t : BasisTable) → IsCollocation t (interpolation_matrix t)
unfolding basis_value put_parameter
is_collocation t =
    let h : ℕ = t.degree - 1 in
    let n : ℕ = parameter_count t in
    let start : List Float = replicate (n * (2 * h + 1)) nought in
    let long : length start ≡ n * (2 * h + 1) = length-replicate (n * (2 * h + 1)) nought in
    record {
      value = λ j c a u v.
          let x : ℕ = place (2 * h + 1) h j c in
          let fits : x < n * (2 * h + 1) = omega (arith, row_inside j n (2 * h + 1) a) in
          ap (λ (l : List Float). at l x) (matrix_rows t)
          ∙ each_once (λ l. at l x) length (put_parameter t) (λ s. cond (in_row t j c) (value t j (c - first t j)) s) 0 j n start (omega arith) a (length_row t)
          (λ i l p q o. each_same (λ y. at y x) (put_value t i) 0 (t.degree + 1) l (λ b y r s. value_stays t j c u v i b y (λ f g. o f)))
          (λ l r. row_put t j c u v l (omega arith))
          ∙ ap (cond (in_row t j c) (value t j (c - first t j))) (get_or-replicate (n * (2 * h + 1)) x nought nan fits);
      long = ap length (matrix_rows t) ∙ length-each (put_parameter t) (length_row t) 0 n start ∙ long;
    }
