-- The laws of clamped, averaged and spread knots. Assumes nothing.
use mathlib.Core.Path.{◌≡◌, refl, sym, ◌∙◌, ap, subst}
use mathlib.Core.Logic.{⊎_elim}
use mathlib.Core.Bool.{cond}
use mathlib.Core.List.{List, ◌++◌}
use Prim.Native.Nat.{ℕ, ◌+◌, ◌-◌, ◌<◌, ◌≤◌}
use native.Mathlib.Omega.{arith}
use borrow.Author.Tests.{lt-ltb, le-ltb, le-leb, lt-leb}
use lib.Dec.{T, leb, ltb}
use lib.ListN.{length, take, drop, replicate, length-append, length-drop, length-replicate, get_or-append, get_or-replicate, get_or-eq_default}
use lib.Seq.{get_or-drop, length-take-le}
use Rattle.std.proofs.lemmas.List.{get_or-append_right}
use lib.Ieee.{Float, nan, inf, fin, binary64, fits, of_bits, add, mul, div}
use lib.Ieee.Bits.{of_bits-fits}
use lib.Ieee.Fits.{nan-fits, add-fits, div-fits, cond-fits}
use Rattle.places.specs.Places.{list_of}
use Rattle.places.specs.Regions.{part, splice}
use Rattle.places.proofs.PlaceLaws.{length-list_of, list_of-at, list_of-same, le-or-lt}
use Rattle.places.proofs.RegionLaws.{length_part, length-splice, get_or_in, get_or-before}
use Rattle.geometry.specs.Doubles.{◌⊕◌, ◌⊗◌, ◌⊘◌, nought, one, whole_part, at}
use Rattle.knots.specs.Knots.{clamped_knots, bezier_knots, averaged_knot, averaged_knots, between_places, spread_knot, approximation_knots}
use Rattle.knots.proofs.ParameterLaws.{list_by}

-- ---- clamped knots

-- flat knot i of m poles of degree p
flat_knot : ℕ → ℕ → (ℕ → Float) → ℕ → Float
flat_knot m p inner i = cond (leb i p) nought (cond (ltb i m) (inner (i - (p + 1))) one)

pub length_clamped : (m p : ℕ) (inner : ℕ → Float) → length (clamped_knots m p inner) ≡ m + p + 1
unfolding clamped_knots
length_clamped m p inner = length-list_of (m + p + 1) _

pub length-averaged : (params : List Float) (p : ℕ) → length (averaged_knots params p) ≡ length params + p + 1
unfolding averaged_knots
length-averaged params p = length_clamped (length params) p _

pub length-spread : (params : List Float) (m p : ℕ) → length (approximation_knots params m p) ≡ m + p + 1
unfolding approximation_knots
length-spread params m p = length_clamped m p _

pub length_bezier : (p : ℕ) → length (bezier_knots p) ≡ p + 1 + p + 1
unfolding bezier_knots
length_bezier p = length_clamped (p + 1) p _

-- Two ends are filled, p + 1 places each; the places between them stay.
module _ (m p : ℕ) (flat front w back w' : List Float) (h : p < m) (room : length flat ≡ m + p + 1) (f : front ≡ replicate (length (take (p + 1) flat)) nought) (e : w ≡ front ++ drop (p + 1) flat)
    (g : back ≡ replicate (length (part m (length w) w)) one) (e' : w' ≡ splice m (length w) back w) where
  front-long : length front ≡ p + 1
  front-long = ap length f ∙ length-replicate (length (take (p + 1) flat)) nought ∙ length-take-le (p + 1) flat (omega arith)

  long : length w ≡ m + p + 1
  long = ap length e ∙ rw length-append (omega (arith, front-long, length-drop (p + 1) flat))

  back-long : length back ≡ length w - m
  back-long = ap length g ∙ length-replicate (length (part m (length w) w)) one ∙ length_part m (length w) w (omega arith)

  whole : length w' ≡ m + p + 1
  whole = ap length e' ∙ length-splice m (length w) back w (omega (arith, long)) (omega arith) back-long ∙ long

  before : (k : ℕ) → k < m → at w' k ≡ at w k
  before k l = ap (λ (x : List Float). at x k) e' ∙ get_or-before m (length w) back w (omega (arith, long)) (omega arith) back-long nan k l

  knots : (k : ℕ) → k < m + p + 1 → at w' k ≡ flat_knot m p (λ j. at flat (p + 1 + j)) k
  unfolding flat_knot
  knots k l = ⊎_elim low (λ c. ⊎_elim high (mid c) (le-or-lt m k)) (le-or-lt k p)
    where
      low : k ≤ p → at w' k ≡ flat_knot m p (λ j. at flat (p + 1 + j)) k
      low c =
          before k (omega arith)
          ∙ ap (λ (x : List Float). at x k) e
          ∙ get_or-append front (drop (p + 1) flat) nan k (omega (arith, front-long))
          ∙ ap (λ (x : List Float). at x k) f
          ∙ get_or-replicate (length (take (p + 1) flat)) k nought nan (omega (arith, length-take-le (p + 1) flat (omega arith)))
          ∙ rw (le-leb k p c)

      mid : p < k → k < m → at w' k ≡ flat_knot m p (λ j. at flat (p + 1 + j)) k
      mid c d =
          before k d
          ∙ ap (λ (x : List Float). at x k) e
          ∙ get_or-append_right front (drop (p + 1) flat) (p + 1) k nan front-long (omega arith)
          ∙ get_or-drop (p + 1) flat (k - (p + 1)) nan
          ∙ rw (lt-leb k p c, lt-ltb k m d)

      high : m ≤ k → at w' k ≡ flat_knot m p (λ j. at flat (p + 1 + j)) k
      high c =
          let z : m + (k - m) ≡ k = omega arith in
          ap (at w') (sym z)
          ∙ ap (λ (x : List Float). at x (m + (k - m))) e'
          ∙ get_or_in m (length w) back w (omega (arith, long)) (omega arith) back-long nan (k - m) (omega (arith, long))
          ∙ ap (λ (x : List Float). at x (k - m)) g
          ∙ get_or-replicate (length (part m (length w) w)) (k - m) one nan (omega (arith, long, length_part m (length w) w (omega arith)))
          ∙ rw (lt-leb k p (omega arith), le-ltb k m c)

  pub ends-filled : w' ≡ clamped_knots m p (λ j. at flat (p + 1 + j))
  unfolding clamped_knots flat_knot
  ends-filled = list_by (m + p + 1) _ w' whole knots

-- flat knots with the same inner knots
clamped_same : (m p : ℕ) (f g : ℕ → Float) → ((j : ℕ) → j < m - p - 1 → f j ≡ g j) → clamped_knots m p f ≡ clamped_knots m p g
unfolding clamped_knots
clamped_same m p f g e = list_of-same (m + p + 1) _ _ (λ k h. ⊎_elim (λ l. rw (le-leb k p l)) (λ l. ⊎_elim (λ c. rw (le-ltb k m c)) (λ c. rw (e (k - (p + 1)) (omega arith))) (le-or-lt m k)) (le-or-lt k p))

-- the inner knots stand between the ends
pub clamped-by : (m p : ℕ) (f : ℕ → Float) (flat inner w w' : List Float) → p < m → length flat ≡ m + p + 1 → inner ≡ list_of (length (part (p + 1) m flat)) f → w ≡ splice (p + 1) m inner flat
    → w' ≡ clamped_knots m p (λ j. at w (p + 1 + j)) → w' ≡ clamped_knots m p f
clamped-by m p f flat inner w w' h room i e e' =
    let some : length (part (p + 1) m flat) ≡ m - (p + 1) = length_part (p + 1) m flat (omega arith) in
    let long : length inner ≡ m - (p + 1) = ap length i ∙ length-list_of _ f ∙ some in
    e'
    ∙ clamped_same m p _ f
    (λ j l.
    ap (λ (x : List Float). at x (p + 1 + j)) e
    ∙ get_or_in (p + 1) m inner flat (omega arith) (omega arith) long nan j (omega arith)
    ∙ ap (λ (x : List Float). at x j) i
    ∙ list_of-at (length (part (p + 1) m flat)) f j nan (omega (arith, some)))

-- a single piece has none
pub bezier-by : (p : ℕ) (f : ℕ → Float) → clamped_knots (p + 1) p f ≡ bezier_knots p
unfolding bezier_knots
bezier-by p f = clamped_same (p + 1) p f _ (λ j h. absurd (omega arith))

-- ---- spread knots

add_nan : (x : Float) → x ⊕ nan ≡ nan
unfolding add
add_nan nan = refl
add_nan (inf s) = refl
add_nan (fin s m e) = refl

mul_nan : (x : Float) → x ⊗ nan ≡ nan
unfolding mul
mul_nan nan = refl
mul_nan (inf s) = refl
mul_nan (fin s m e) = refl

-- past the last place but one, NaN is read
pub between_none : (params : List Float) (index : Float) → length params - 1 ≤ whole_part index → nought ⊘ nought ≡ between_places params index
unfolding between_places div of_bits
between_none params index h =
    let i : ℕ = whole_part index in
    let z : at params (i + 1) ≡ nan = get_or-eq_default params nan (omega arith) in
    rw (z, mul_nan, add_nan)

-- ---- flat knots of degree d that start with d + 1 times 0 and end with d + 1 times 1, each a double

pub record Ends (d : ℕ) (flat : List Float) : Type 0 where
  pub first : (i : ℕ) → i ≤ d → at flat i ≡ nought
  pub last : (i : ℕ) → length flat ≤ i + d + 1 → i < length flat → at flat i ≡ one
  pub held : (i : ℕ) → T (fits binary64 (at flat i))

pub clamped-ends : (m p : ℕ) (inner : ℕ → Float) → p < m → ((j : ℕ) → T (fits binary64 (inner j))) → Ends p (clamped_knots m p inner)
unfolding clamped_knots
clamped-ends m p inner h fine =
    let n = length-list_of (m + p + 1) knot in
    record {
      first = λ i l. list_of-at (m + p + 1) knot i nan (omega arith) ∙ rw (le-leb i p l);
      last = λ i g l. list_of-at (m + p + 1) knot i nan (omega arith) ∙ rw (lt-leb i p (omega arith), le-ltb i m (omega arith));
      held = λ i. ⊎_elim (beyond i) (within i) (le-or-lt (m + p + 1) i);
    }
  where
    knot : ℕ → Float
    knot i = cond (leb i p) nought (cond (ltb i m) (inner (i - (p + 1))) one)

    beyond : (i : ℕ) → m + p + 1 ≤ i → T (fits binary64 (at (list_of (m + p + 1) knot) i))
    beyond i g = subst (λ (x : Float). T (fits binary64 x)) (sym (get_or-eq_default (list_of (m + p + 1) knot) nan (omega (arith, length-list_of (m + p + 1) knot)))) (nan-fits binary64)

    within : (i : ℕ) → i < m + p + 1 → T (fits binary64 (at (list_of (m + p + 1) knot) i))
    within i l =
        subst (λ (x : Float). T (fits binary64 x)) (sym (list_of-at (m + p + 1) knot i nan l))
        (cond-fits binary64 (leb i p) nought _ (of_bits-fits binary64 0) (cond-fits binary64 (ltb i m) (inner (i - (p + 1))) one (fine (i - (p + 1))) (of_bits-fits binary64 0x3ff0_0000_0000_0000)))

pub averaged-ends : (params : List Float) (p : ℕ) → p < length params → Ends p (averaged_knots params p)
unfolding averaged_knots averaged_knot
averaged-ends params p h = clamped-ends (length params) p (averaged_knot params p) h (λ j. div-fits binary64 _ _)

pub spread-ends : (params : List Float) (m p : ℕ) → p < m → Ends p (approximation_knots params m p)
unfolding approximation_knots spread_knot between_places
spread-ends params m p h = clamped-ends m p (spread_knot params m p) h (λ j. add-fits binary64 _ _)

pub bezier-ends : (p : ℕ) → Ends p (bezier_knots p)
unfolding bezier_knots
bezier-ends p = clamped-ends (p + 1) p (λ j. nought) (omega arith) (λ j. of_bits-fits binary64 0)
