-- A round: the new knots taken in among the flat ones, and the definitions by what the program's steps find. Assumes nothing.
use Rattle.std.proofs.Common.{◌≡◌, ℕ, ◌+◌, ◌-◌, ◌<◌, ◌≤◌, Bool, true, false, cond, ◌||◌, eqb, leb, List, ◌++◌, length, take, sym, refl, ap, ◌∙◌, arith, length-append, length-take-le, eq-eqb, ne_eqb, le-leb, leb-false}
use mathlib.Core.Option.{none, some}
use borrow.Author.Tests.{lt-leb, eqb-false}
use lib.Ieee.{Float}
use Rattle.places.specs.Places.{count_below}
use Rattle.places.proofs.GatheredLaws.{count_most}
use Rattle.geometry.specs.Root.{roots_of}
use Rattle.geometry.specs.Order.{sorted}
use Rattle.geometry.proofs.SortLaws.{length-sorted}
use Rattle.refinement.specs.Refinement.{span_ends, span_worsts, splits, threshold_of, knots_at, new_knots, with_knots, refined_knots}
use Rattle.refinement.specs.Round.{round_knots}
use Rattle.refinement.proofs.SpanLaws.{spans-most}
use Rattle.refinement.proofs.SplitLaws.{length-knots}

-- ---- taking the new knots in

module _ (n degree : ℕ) (flat new : List Float) where
  pub with_none : length new ≡ 0 → with_knots n degree flat new ≡ none
  unfolding with_knots
  with_none e = rw (eq-eqb (length new) 0 e)

  pub with_full : n ≤ length flat - degree - 1 + length new → with_knots n degree flat new ≡ none
  unfolding with_knots
  with_full h = rw (le-leb n (length flat - degree - 1 + length new) h) (go (eqb (length new) 0))
    where
      go : (b : Bool) → cond (b || true) none (some (sorted (flat ++ new))) ≡ none
      go true = refl
      go false = refl

  pub with-some : (length new ≡ 0 → ⊥) → length flat - degree - 1 + length new < n → with_knots n degree flat new ≡ some (sorted (flat ++ new))
  unfolding with_knots
  with-some e h = rw (ne_eqb (length new) 0 e, lt-leb n (length flat - degree - 1 + length new) h)

  -- where there are more knots, they are these
  pub with_is : (l : List Float) → with_knots n degree flat new ≡ some l → (l ≡ sorted (flat ++ new)) × ((length new ≡ 0 → ⊥) × (length flat - degree - 1 + length new < n))
  unfolding with_knots
  with_is l e = go (eqb (length new) 0) (leb n (length flat - degree - 1 + length new)) refl refl e
    where
      go : (a b : Bool) → eqb (length new) 0 ≡ a → leb n (length flat - degree - 1 + length new) ≡ b
          → cond (a || b) none (some (sorted (flat ++ new))) ≡ some l → (l ≡ sorted (flat ++ new)) × ((length new ≡ 0 → ⊥) × (length flat - degree - 1 + length new < n))
      go true b p q e = let z : ◌≡◌ {A = ℕ} 0 1 = cc in absurd (omega arith)
      go false true p q e = let z : ◌≡◌ {A = ℕ} 0 1 = cc in absurd (omega arith)
      go false false p q e = let z : l ≡ sorted (flat ++ new) = cc in (z, (eqb-false (length new) 0 p, leb-false n (length flat - degree - 1 + length new) q))

  pub with-length : (l : List Float) → with_knots n degree flat new ≡ some l → length l ≡ length flat + length new
  with-length l e = ap length (with_is l e).0 ∙ length-sorted (flat ++ new) ∙ length-append flat new

  pub with-grows : (l : List Float) → degree + 1 ≤ length flat → with_knots n degree flat new ≡ some l → (length flat < length l) × (length l ≤ n + degree)
  with-grows l h e =
      let w = with_is l e in
      let m = with-length l e in
      let o : length new ≡ 0 → ⊥ = w.1.0 in
      let k : length flat - degree - 1 + length new < n = w.1.1 in
      (omega arith, omega arith)

-- a round makes the flat knots more, and at most those of n - 1 poles
pub refined-grows : (params : List Float) (firsts : List ℕ) (deviations : List Float) (most tolerance : Float) (degree : ℕ) (flat l : List Float)
    → refined_knots params firsts deviations most tolerance degree flat ≡ some l → degree + 1 ≤ length flat
    → (length flat < length l) × (length l ≤ length params + degree)
unfolding refined_knots
refined-grows params firsts deviations most tolerance degree flat l e h = with-grows (length params) degree flat _ l h e

-- at most one knot for each span, and so for each parameter
pub knots-few : (params squares : List Float) (firsts : List ℕ) (most tolerance : Float) → length (round_knots params squares firsts most tolerance) ≤ length firsts
unfolding new_knots
knots-few params squares firsts most tolerance =
    let ends = span_ends firsts in
    let worsts = span_worsts (roots_of squares) ends in
    let threshold = threshold_of ends worsts tolerance most in
    omega (arith, length-knots params ends worsts tolerance threshold, count_most (length ends) (splits ends worsts tolerance threshold), spans-most firsts)

-- ---- a round by what its steps find

-- the ends of the spans, their worst deviations, the threshold, and how many spans split
pub record Found (params squares : List Float) (firsts : List ℕ) (most tolerance : Float) (ends : List ℕ) (worsts : List Float) (threshold : Float) (count : ℕ) : Type 0 where
  pub ends_are : ends ≡ span_ends firsts
  pub worsts_are : worsts ≡ span_worsts (roots_of squares) (span_ends firsts)
  pub threshold_is : threshold ≡ threshold_of ends worsts tolerance most
  pub count_is : count ≡ count_below (length ends) (splits ends worsts tolerance threshold)

module _ {params squares : List Float} {firsts : List ℕ} {most tolerance : Float} {ends : List ℕ} {worsts : List Float} {threshold : Float} {count : ℕ}
    (f : Found params squares firsts most tolerance ends worsts threshold count) where
  abbrev new : List Float
  new = round_knots params squares firsts most tolerance

  pub found-knots : knots_at params ends worsts tolerance threshold ≡ round_knots params squares firsts most tolerance
  unfolding new_knots
  found-knots = rw (f.threshold_is, f.ends_are, f.worsts_are)

  pub found-length : length (round_knots params squares firsts most tolerance) ≡ count
  found-length = ap length (sym found-knots) ∙ length-knots params ends worsts tolerance threshold ∙ sym f.count_is

  pub found-few : count ≤ length firsts
  found-few = omega (arith, found-length, knots-few params squares firsts most tolerance)

  module _ (degree l : ℕ) (flat : List Float) (h : l ≤ length flat) where
    flat-long : length (take l flat) ≡ l
    flat-long = length-take-le l flat h

    pub refined_empty : count ≡ 0 → refined_knots params firsts (roots_of squares) most tolerance degree (take l flat) ≡ none
    unfolding refined_knots
    refined_empty z = with_none (length params) degree (take l flat) new (found-length ∙ z)

    pub refined-full : length params ≤ l - degree - 1 + count → refined_knots params firsts (roots_of squares) most tolerance degree (take l flat) ≡ none
    unfolding refined_knots
    refined-full z = with_full (length params) degree (take l flat) new (rw (flat-long, found-length) z)

    pub refined-some : (count ≡ 0 → ⊥) → l - degree - 1 + count < length params
        → refined_knots params firsts (roots_of squares) most tolerance degree (take l flat)
        ≡ some (sorted (take l flat ++ round_knots params squares firsts most tolerance))
    unfolding refined_knots
    refined-some z k = with-some (length params) degree (take l flat) new (λ y. z (sym found-length ∙ y)) (rw (flat-long, found-length) k)

    pub all-long : length (sorted (take l flat ++ round_knots params squares firsts most tolerance)) ≡ l + count
    all-long = length-sorted (take l flat ++ new) ∙ length-append (take l flat) new ∙ omega (arith, flat-long, found-length)
