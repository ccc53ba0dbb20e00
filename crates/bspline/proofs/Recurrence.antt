-- Laws of the basis functions' recurrence, in the terms in which the code computes it. Assumes nothing.
use Prim.Native.Nat.{ℕ, zero, suc, ◌+◌, ◌-◌, ◌≤◌, ◌<◌}
use native.Mathlib.Omega.{arith}
use native.Mathlib.Nat.{le_refl, eq-or-lt_of_le}
use native.Mathlib.Numerals.{add-one}
use mathlib.Core.Logic.{⊎_elim}
use mathlib.Core.Path.{◌≡◌, refl, sym, ap, ◌∙◌}
use mathlib.Core.List.{List, [], ◌∷◌, ◌++◌, append-nil}
use lib.Ieee.{Float, nan}
use lib.ListN.{length, set, take, drop, drop_of_length-le, get_or-append}
use lib.Seq.{length-take-le}
use Rattle.std.proofs.lemmas.List.{get_or-take, get_or-drop, get_or-append_right, take_rest, drop-drop}
use Rattle.std.proofs.lemmas.Slice.{drop-append-drop}
use borrow.Author.Tests.{lt-ltb, le-ltb}
use Rattle.places.specs.Places.{list_of}
use Rattle.places.specs.Regions.{part}
use Rattle.places.proofs.PlaceLaws.{length-list_of, list_of-at, list_of-same, list_of-next}
use Rattle.geometry.specs.Doubles.{◌⊕◌, ◌⊖◌, ◌⊗◌, ◌⊘◌, nought, one, at}
use Rattle.bspline.specs.Basis.{share, rising, row, basis, left_of, right_of, basis_at}

-- what the code computes, from the distances a and b and the value x
module _ (left right N : ℕ → Float) (j r : ℕ) (a b x : Float) (l : a ≡ left (j - r)) (h : b ≡ right (r + 1)) (e : x ≡ N r) where
  temp_is : x ⊗ (one ⊘ (b ⊕ a)) ≡ share left right N j r
  unfolding share
  temp_is = rw (l, h, e)

  pub rising-next : a ⊗ (x ⊗ (one ⊘ (b ⊕ a))) ≡ rising left right N j (r + 1)
  unfolding rising
  rising-next = rw (temp_is, l) (ap (rising left right N j) (sym (add-one r)))

  pub row_next : (s : Float) → r < j → s ≡ rising left right N j r → s ⊕ b ⊗ (x ⊗ (one ⊘ (b ⊕ a))) ≡ row left right N j r
  unfolding row
  row_next s i p = rw (lt-ltb r j i, temp_is, p, h)

-- the last function has its first term alone
pub row_last : (left right N : ℕ → Float) (j : ℕ) → row left right N j j ≡ rising left right N j j
unfolding row
row_last left right N j = rw (le-ltb j j (le_refl j))

-- ---- a function of degree j depends on the functions of degree j - 1 alone

module _ (left right N N' : ℕ → Float) (j : ℕ) (n : (k : ℕ) → k < j → N k ≡ N' k) where
  share_agree : (i : ℕ) → i < j → share left right N j i ≡ share left right N' j i
  unfolding share
  share_agree i h = rw (n i h)

  rising_agree : (i : ℕ) → i ≤ j → rising left right N j i ≡ rising left right N' j i
  unfolding rising
  rising_agree zero h = refl
  rising_agree (suc i) h = rw (share_agree i h)

  pub row_agree : (i : ℕ) → i ≤ j → row left right N j i ≡ row left right N' j i
  unfolding row
  row_agree i h = ⊎_elim last inner (eq-or-lt_of_le h)
    where
      last : i ≡ j → row left right N j i ≡ row left right N' j i
      last e = rw (e, row_last left right N j, row_last left right N' j) (rising_agree j (le_refl j))

      inner : i < j → row left right N j i ≡ row left right N' j i
      inner b = rw (lt-ltb i j b, share_agree i b, rising_agree i h)

-- ---- the list of the functions of degree d

module _ (left right : ℕ → Float) where
  pub length-basis : (d : ℕ) → length (basis left right d) ≡ d + 1
  unfolding basis
  length-basis zero = refl
  length-basis (suc d) = length-list_of (d + 2) _ ∙ omega arith

  basis-next : (d : ℕ) → basis left right (d + 1) ≡ list_of (d + 1 + 1) (row left right (at (basis left right d)) (d + 1))
  unfolding basis
  basis-next d =
      let two : d + 2 ≡ d + 1 + 1 = omega arith in
      ap (basis left right) (add-one d) ∙ ap (λ (m : ℕ). list_of m (row left right (at (basis left right d)) (d + 1))) two

pub length-basis_at : (flat : List Float) (d i : ℕ) (u : Float) → length (basis_at flat d i u) ≡ d + 1
unfolding basis_at
length-basis_at flat d i u = length-basis (left_of flat i u) (right_of flat i u) d

-- ---- the functions of degree d in the first places of values, raised by a degree or two

module _ (left right : ℕ → Float) where
  -- from what agrees with the functions of degree d
  module _ (d : ℕ) (N : ℕ → Float) (same : (k : ℕ) → k < d + 1 → N k ≡ at (basis left right d) k) where
    next_all : list_of (d + 1 + 1) (row left right N (d + 1)) ≡ basis left right (d + 1)
    next_all =
        list_of-same (d + 1 + 1) _ _ (λ k h. row_agree left right N (at (basis left right d)) (d + 1) same k (omega arith)) ∙ sym (basis-next left right d)

    next_at : (k : ℕ) → k < d + 1 + 1 → row left right N (d + 1) k ≡ at (basis left right (d + 1)) k
    next_at k h = sym (list_of-at (d + 1 + 1) (row left right N (d + 1)) k nan h) ∙ ap (λ (l : List Float). at l k) next_all

  pub first_stored : (old : List Float) → 0 < length old → set old 0 one ≡ basis left right 0 ++ drop 1 old
  unfolding basis list_of
  first_stored old h = list_of-next 0 (λ (k : ℕ). one) old old one h refl refl

  module _ (d : ℕ) (old values out : List Float) (from : values ≡ basis left right d ++ drop (d + 1) old) where
    begins_with : (k : ℕ) → k < d + 1 → at values k ≡ at (basis left right d) k
    begins_with k h =
        ap (λ (l : List Float). at l k) from ∙ get_or-append (basis left right d) (drop (d + 1) old) nan k (omega (arith, length-basis left right d))

    rest_is : (m : ℕ) → d + 1 ≤ m → drop m values ≡ drop m old
    rest_is m h = ap (drop m) from ∙ drop-append-drop (d + 1) old (basis left right d) m h (length-basis left right d)

    pub raised : out ≡ list_of (d + 1 + 1) (row left right (at values) (d + 1)) ++ drop (d + 1 + 1) values → out ≡ basis left right (d + 1) ++ drop (d + 1 + 1) old
    raised put = put ∙ rw (next_all d (at values) begins_with, rest_is (d + 1 + 1) (omega arith))

    pub raised_twice : out ≡ list_of (d + 1 + 2) (row left right (row left right (at values) (d + 1)) (d + 1 + 1)) ++ drop (d + 1 + 2) values
        → out ≡ basis left right (d + 2) ++ drop (d + 2 + 1) old
    raised_twice put =
        let N = row left right (at values) (d + 1) in
        let three : d + 1 + 2 ≡ d + 1 + 1 + 1 = omega arith in
        let two : d + 1 + 1 ≡ d + 2 = omega arith in
        put
        ∙ (rw (three, next_all (d + 1) N (next_at d (at values) begins_with), rest_is (d + 1 + 1 + 1) (omega arith)))
        ∙ ap (λ (m : ℕ). basis left right m ++ drop (m + 1) old) two

-- ---- a pass over the first j of the values: r of them are written

module _ (f : ℕ → Float) (j : ℕ) (old now : List Float) (r : ℕ) (e : now ≡ list_of r f ++ drop r (take j old)) where
  pub not_yet : r < j → at now r ≡ at old r
  not_yet h =
      ap (λ (l : List Float). at l r) e
      ∙ get_or-append_right (list_of r f) (drop r (take j old)) r r nan (length-list_of r f) (le_refl r)
      ∙ get_or-drop r (take j old) (r - r) nan
      ∙ get_or-take j old (r + (r - r)) nan (omega arith)
      ∙ (let here : r + (r - r) ≡ r = omega arith in ap (at old) here)

  -- at its end
  pub all_written : r ≡ j → j ≤ length old → now ++ drop j old ≡ list_of j f ++ drop j old
  all_written q h =
      let none : drop r (take j old) ≡ [] = drop_of_length-le (take j old) (omega (arith, length-take-le j old h)) in
      rw (e, none, append-nil, q)

-- the distances of u from the knots around the span, which a turn of the pass takes from the knots from place `from` on
module _ (flat : List Float) {knots : List Float} (span from : ℕ) (u : Float) (e : knots ≡ drop from flat) where
  pub left_in : (j r k : ℕ) → from + k ≡ span + 1 - (j - r) → u ⊖ at knots k ≡ left_of flat span u (j - r)
  unfolding left_of
  left_in j r k h = ap (λ (x : Float). u ⊖ x) (ap (λ (l : List Float). at l k) e ∙ get_or-drop from flat k nan ∙ ap (at flat) h)

  pub right_in : (r k : ℕ) → from + k ≡ span + (r + 1) → at knots k ⊖ u ≡ right_of flat span u (r + 1)
  unfolding right_of
  right_in r k h = ap (λ (x : Float). x ⊖ u) (ap (λ (l : List Float). at l k) e ∙ get_or-drop from flat k nan ∙ ap (at flat) h)

-- the next turn takes them from the place behind
pub knots-next : (flat : List Float) {knots : List Float} (from r : ℕ) → knots ≡ drop (from + r) flat → part 1 (length knots) knots ≡ drop (from + (r + 1)) flat
knots-next flat {knots} from r e =
    let m : from + r + 1 ≡ from + (r + 1) = omega arith in
    take_rest knots 1 ∙ ap (drop 1) e ∙ drop-drop 1 (from + r) flat ∙ ap (λ (k : ℕ). drop k flat) m

-- ---- degree 3, worked out

-- the four functions, from the distances 1 to 3 below u and above it
abbrev cubic : Float → Float → Float → Float → Float → Float → List Float
cubic a b c d e f =
    let t = one ⊗ (one ⊘ (d ⊕ a)) in
    let low = (nought ⊕ d ⊗ t) ⊗ (one ⊘ (d ⊕ b)) in
    let high = a ⊗ t ⊗ (one ⊘ (e ⊕ a)) in
    let x = (nought ⊕ d ⊗ low) ⊗ (one ⊘ (d ⊕ c)) in
    let y = (b ⊗ low ⊕ e ⊗ high) ⊗ (one ⊘ (e ⊕ b)) in
    let z = a ⊗ high ⊗ (one ⊘ (f ⊕ a)) in
    (nought ⊕ d ⊗ x) ∷ (c ⊗ x ⊕ e ⊗ y) ∷ (b ⊗ y ⊕ f ⊗ z) ∷ (a ⊗ z) ∷ []

basis_cubic : (left right : ℕ → Float) → basis left right 3 ≡ cubic (left 1) (left 2) (left 3) (right 1) (right 2) (right 3)
unfolding list_of basis row share rising
basis_cubic left right = refl

-- what the code stores
pub cubic_stored : (flat old : List Float) (span : ℕ) (u : Float) → 3 < length old
    → let q = cubic (u ⊖ at flat span) (u ⊖ at flat (span - 1)) (u ⊖ at flat (span - 2)) (at flat (span + 1) ⊖ u) (at flat (span + 2) ⊖ u) (at flat (span + 3) ⊖ u) in
    set (set (set (set old 0 (at q 0)) 1 (at q 1)) 2 (at q 2)) 3 (at q 3) ≡ basis_at flat 3 span u ++ drop 4 old
unfolding basis_at left_of right_of list_of
cubic_stored flat old span u h =
    let from : ℕ → ℕ → ℕ → List Float = λ i j k. cubic (u ⊖ at flat i) (u ⊖ at flat j) (u ⊖ at flat k) (at flat (span + 1) ⊖ u) (at flat (span + 2) ⊖ u) (at flat (span + 3) ⊖ u) in
    let one : span ≡ span + 1 - 1 = omega arith in
    let two : span - 1 ≡ span + 1 - 2 = omega arith in
    let three : span - 2 ≡ span + 1 - 3 = omega arith in
    let q : from span (span - 1) (span - 2) ≡ basis_at flat 3 span u =
    ap (λ (i : ℕ). from i (span - 1) (span - 2)) one ∙ ap (λ (j : ℕ). from (span + 1 - 1) j (span - 2)) two ∙ ap (from (span + 1 - 1) (span + 1 - 2)) three
    ∙ sym (basis_cubic (left_of flat span u) (right_of flat span u)) in
    let p = from span (span - 1) (span - 2) in
    list_of-next 3 (at p) old _ _ h
    (list_of-next 2 (at p) old _ _ (omega arith) (list_of-next 1 (at p) old _ _ (omega arith) (list_of-next 0 (at p) old _ _ (omega arith) refl refl) refl) refl)
    refl
    ∙ ap (λ (l : List Float). l ++ drop 4 old) q
