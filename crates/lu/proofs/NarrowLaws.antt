-- A pivot of half-width 2 above two rows: the rows below it one after the other, each with its multiplier and two places; and in L U x = b two points a turn. Assumes
-- nothing.
use mathlib.Core.Path.{◌≡◌, refl, sym, ◌∙◌, ap}
use mathlib.Core.Bool.{cond}
use mathlib.Core.List.{List, [], ◌++◌, append-nil}
use mathlib.Core.Logic.{◌⊎◌, inl, inr}
use Prim.Native.Nat.{ℕ, ◌+◌, ◌-◌, ◌*◌, ◌<◌, ◌≤◌}
use native.Mathlib.Omega.{arith}
use native.Mathlib.Nat.{add_assoc}
use lib.ListN.{length, set, take, drop, length-drop}
use lib.Seq.{get_or-set_other, get_or-append-add, drop-length, length-take-le}
use lib.Ieee.{Float, nan, eq}
use Rattle.places.specs.Loops.{each}
use Rattle.places.specs.Regions.{part, splice}
use Rattle.places.proofs.LoopLaws.{each_step, each_done, cond_both, cond_shift}
use Rattle.places.proofs.RegionLaws.{splice-part, set-append-add}
use Rattle.geometry.specs.Doubles.{◌⊖◌, ◌⊗◌, ◌⊘◌, nought, one, at}
use Rattle.geometry.specs.declared.Point.{Point}
use Rattle.geometry.specs.Points.{point_at, put_point, less_scaled, scaled}
use Rattle.geometry.proofs.PointLaws.{point_put, point_stays}
use Rattle.bands.specs.Bands.{place, entry, reach}
use Rattle.lu.specs.BandLu.{band_entry, less_pivot, less_multiple, eliminate_row, eliminate, less_point, forward_step, back_band_point, back_band_row}
use Rattle.bands.specs.SolvedRow.{solved_row}
use Rattle.lu.specs.declared.narrow.Ahead.{Ahead}
use Rattle.lu.specs.Narrow.{less_pair, Carried}

module _ (from : ℕ) (factor near far : Float) (l : List Float) where
  abbrev put : List Float
  put = set l from factor

  abbrev once : List Float
  once = set put (from + 1) (at l (from + 1) ⊖ factor ⊗ near)

  abbrev twice : List Float
  twice = set once (from + 2) (at l (from + 2) ⊖ factor ⊗ far)

  -- the other places stay
  pub pair_keeps : (x : ℕ) → (x ≡ from → ⊥) → (x ≡ from + 1 → ⊥) → (x ≡ from + 2 → ⊥) → at (less_pair from factor near far l) x ≡ at l x
  unfolding less_pair
  pair_keeps x a b c =
      let p = get_or-set_other l from x factor nan a in
      cond_both (λ (t : List Float). at t x) (eq factor nought) put twice (at l x) p (get_or-set_other once (from + 2) x _ nan c ∙ get_or-set_other put (from + 1) x _ nan b ∙ p)

-- past a list's first part
pair-append : (from : ℕ) (factor near far : Float) (p q : List Float) → less_pair (length p + from) factor near far (p ++ q) ≡ p ++ less_pair from factor near far q
unfolding less_pair
pair-append from factor near far p q =
    rw (add_assoc (length p) from 1, add_assoc (length p) from 2, get_or-append-add, get_or-append-add, set-append-add, set-append-add, set-append-add)
    (cond_shift (λ (t : List Float). p ++ t) (eq factor nought) _ _)

-- two turns
two : {S : Type 0} (k b : ℕ) (f : ℕ → S → S) (s : S) → b ≡ k + 3 → each (k + 1) b f s ≡ f (k + 2) (f (k + 1) s)
two k b f s e =
    let next : k + 1 + 1 ≡ k + 2 = omega arith in
    each_step (k + 1) b f s (omega arith)
    ∙ each_step (k + 1 + 1) b f _ (omega arith)
    ∙ each_done (k + 1 + 1 + 1) b f _ (omega arith)
    ∙ ap (λ (j : ℕ). f j (f (k + 1) s)) next

-- row i below pivot k, which both reach two places after it
module _ (n k i : ℕ) (factor : Float) (l : List Float) (inside : k + 2 < n) (below : k < i) (near : i ≤ k + 2) where
  abbrev from : ℕ
  from = i * 5 + (k + 2 - i)

  turn : (t : List Float) (j p q : ℕ) (x y : Float) → place 5 2 i j ≡ p → place 5 2 k j ≡ q → at t p ≡ x → at t q ≡ y → less_pivot 2 k i factor j t ≡ set t p (x ⊖ factor ⊗ y)
  unfolding less_pivot
  turn t j p q x y a b c d = rw (a, b, c, d)

  pub multiple_is_pair : less_multiple 2 n k i factor l ≡ less_pair from factor (at l (5 * k + 3)) (at l (5 * k + 4)) l
  unfolding less_multiple less_pair
  multiple_is_pair =
      let p : List Float = set l from factor in
      let one = turn p (k + 1) (from + 1) (5 * k + 3) (at l (from + 1)) (at l (5 * k + 3)) (omega arith) (omega arith)
      (get_or-set_other l from (from + 1) factor nan (λ e. omega arith)) (get_or-set_other l from (5 * k + 3) factor nan (λ e. omega arith)) in
      let q : List Float = set p (from + 1) (at l (from + 1) ⊖ factor ⊗ at l (5 * k + 3)) in
      let other = turn q (k + 2) (from + 2) (5 * k + 4) (at l (from + 2)) (at l (5 * k + 4)) (omega arith) (omega arith)
      (get_or-set_other p (from + 1) (from + 2) _ nan (λ e. omega arith) ∙ get_or-set_other l from (from + 2) factor nan (λ e. omega arith))
      (get_or-set_other p (from + 1) (5 * k + 4) _ nan (λ e. omega arith) ∙ get_or-set_other l from (5 * k + 4) factor nan (λ e. omega arith)) in
      ap (λ (t : List Float). cond (eq factor nought) p t) (two k (reach 2 n k) (less_pivot 2 k i factor) p (omega arith) ∙ ap (less_pivot 2 k i factor (k + 2)) one ∙ other)

-- both rows
module _ (n k : ℕ) (l : List Float) (inside : k + 2 < n) where
  abbrev inverse : Float
  inverse = one ⊘ at l (5 * k + 2)

  abbrev first : List Float
  first = less_pair (5 * k + 6) (at l (5 * k + 6) ⊗ inverse) (at l (5 * k + 3)) (at l (5 * k + 4)) l

  row : (i from : ℕ) (t : List Float) → k < i → i ≤ k + 2 → i * 5 + (k + 2 - i) ≡ from → ((x : ℕ) → x < 5 * k + 6 → at t x ≡ at l x)
      → eliminate_row 2 n k i t ≡ less_pair from (at t from ⊗ inverse) (at l (5 * k + 3)) (at l (5 * k + 4)) t
  unfolding eliminate_row
  row i from t a b e kept =
      let d : k * 5 + (k + 2 - k) ≡ 5 * k + 2 = omega arith in
      multiple_is_pair n k i _ t inside a b ∙ rw (d, e, kept (5 * k + 2) (omega arith), kept (5 * k + 3) (omega arith), kept (5 * k + 4) (omega arith))

  pub eliminate-pairs : eliminate 2 n k l ≡ less_pair (5 * k + 10) (at first (5 * k + 10) ⊗ inverse) (at l (5 * k + 3)) (at l (5 * k + 4)) first
  unfolding eliminate
  eliminate-pairs =
      two k (reach 2 n k) (eliminate_row 2 n k) l (omega arith)
      ∙ ap (eliminate_row 2 n k (k + 2)) (row (k + 1) (5 * k + 6) l (omega arith) (omega arith) (omega arith) (λ x h. refl))
      ∙ row (k + 2) (5 * k + 10) first (omega arith) (omega arith) (omega arith) (λ x h. pair_keeps _ _ _ _ l x (λ e. omega arith) (λ e. omega arith) (λ e. omega arith))

-- the two steps of the program in the rest of the band, which begins after the pivot's row, from what is carried
module _ (n k : ℕ) (row : Ahead) (l mid out : List Float) (inside : k + 2 < n) (fits : 5 * k + 5 ≤ length l) (carried : Carried k row l)
    (upper : mid ≡ less_pair 1 (row.below ⊗ (one ⊘ row.diagonal)) row.near row.far (part (5 * k + 5) (length l) l))
    (lower : out ≡ less_pair 5 (at mid 5 ⊗ (one ⊘ row.diagonal)) row.near row.far mid) where
  abbrev above : List Float
  above = take (5 * k + 5) l

  -- the band with the rest put back
  whole : (rest : List Float) → splice (5 * k + 5) (length l) rest l ≡ above ++ rest
  whole rest =
      let none : drop (length l - (5 * k + 5)) (drop (5 * k + 5) l) ≡ [] = rw (← length-drop) (drop-length (drop (5 * k + 5) l)) in
      rw (none, append-nil)

  -- place x of the rest is place 5 k + 5 + x of the band
  after : (x p : ℕ) → 5 * k + 5 + x ≡ p → length above + x ≡ p
  after x p e = omega (arith, length-take-le (5 * k + 5) l fits)

  stands : (rest : List Float) (x p : ℕ) → 5 * k + 5 + x ≡ p → at rest x ≡ at (above ++ rest) p
  stands rest x p e = rw (← after x p e) (sym (get_or-append-add above rest x nan))

  step : (rest : List Float) (from p : ℕ) (factor : Float) → 5 * k + 5 + from ≡ p
      → above ++ less_pair from factor row.near row.far rest ≡ less_pair p factor row.near row.far (above ++ rest)
  step rest from p factor e = rw (← after from p e) (sym (pair-append from factor row.near row.far above rest))

  upper-whole : above ++ mid ≡ less_pair (5 * k + 6) (row.below ⊗ (one ⊘ row.diagonal)) row.near row.far l
  upper-whole =
      let rest : List Float = part (5 * k + 5) (length l) l in
      rw upper (step rest 1 (5 * k + 6) _ (omega arith)) ∙ ap (less_pair (5 * k + 6) _ row.near row.far) (sym (whole rest) ∙ splice-part (5 * k + 5) (length l) l)

  pub pairs-eliminate : splice (5 * k + 5) (length l) out l ≡ eliminate 2 n k l
  pairs-eliminate =
      rw (whole out, lower, step mid 5 (5 * k + 10) _ (omega arith), stands mid 5 (5 * k + 10) (omega arith), upper-whole, carried.diagonal, carried.below, carried.near, carried.far)
      (sym (eliminate-pairs n k l inside))

  pub pairs_carry : (next : Ahead) → next.diagonal ≡ at mid 2 → next.near ≡ at mid 3 → next.far ≡ at out 4 → next.below ≡ at out 6 → next.middle ≡ at out 7 → next.last ≡ at out 8
      → Carried (k + 1) next (splice (5 * k + 5) (length l) out l)
  pairs_carry next a b c d e f =
      let kept : (x : ℕ) → x < 5 → at mid x ≡ at out x = λ x h. sym (ap (λ (t : List Float). at t x) lower ∙ pair_keeps 5 _ _ _ mid x (λ e. omega arith) (λ e. omega arith) (λ e. omega arith)) in
      rw (whole out) record {
        diagonal = a ∙ kept 2 (omega arith) ∙ stands out 2 _ (omega arith);
        near = b ∙ kept 3 (omega arith) ∙ stands out 3 _ (omega arith);
        far = c ∙ stands out 4 _ (omega arith);
        below = d ∙ stands out 6 _ (omega arith);
        middle = e ∙ stands out 7 _ (omega arith);
        last = f ∙ stands out 8 _ (omega arith);
      }

-- ---- points

pub less_stays : (i j : ℕ) (factor : Float) (q : Point) (l : List Float) → (j < i) ⊎ (i < j) → point_at (less_point i factor q l) j ≡ point_at l j
unfolding less_point
less_stays i j factor q l h = cond_both (λ (t : List Float). point_at t j) _ l _ (point_at l j) refl (point_stays i j _ l h)

-- a pivot of L y = b above two rows
pub forward-two : (n k : ℕ) (band poles : List Float) → k + 2 < n
    → forward_step 2 n band k poles ≡ less_point (k + 2) (band_entry 2 band (k + 2) k) (point_at poles k) (less_point (k + 1) (band_entry 2 band (k + 1) k) (point_at poles k) poles)
unfolding forward_step
forward-two n k band poles h = two k (reach 2 n k) (λ i. less_point i (band_entry 2 band i k) (point_at poles k)) poles (omega arith)

-- a row of U x = y with two columns after its diagonal
pub solved-two : (factors poles : List Float) (i : ℕ)
    → solved_row 5 2 factors poles i (i + 1) (i + 3)
    ≡ scaled (less_scaled (less_scaled (point_at poles i) (entry 5 2 factors i (i + 1)) (point_at poles (i + 1))) (entry 5 2 factors i (i + 2)) (point_at poles (i + 2))) (one ⊘ entry 5 2 factors i i)
solved-two factors poles i =
    ap (λ (x : Point). scaled x (one ⊘ entry 5 2 factors i i)) (two i (i + 3) (λ k x. less_scaled x (entry 5 2 factors i k) (point_at poles k)) (point_at poles i) refl)

-- the columns after the diagonal of row i are a to b - 1
pub back_solved : (n i a b : ℕ) (band poles : List Float) → i + 1 ≡ a → reach 2 n i ≡ b → back_band_row 2 n band i poles ≡ put_point i (solved_row 5 2 band poles i a b) poles
unfolding back_band_row back_band_point
back_solved n i a b band poles c d = rw (c, d)

-- a pivot and a row with two others beside them
pub ruleset pairs = (forward-two, solved-two, back_solved, point_put, point_stays, less_stays, inl, inr)
