-- Every fit's flat knots of degree d start with d + 1 times 0 and end with d + 1 times 1: clamped knots by their definition, and refined ones since new knots lie from 0 to 1
-- and are sorted in. Assumes nothing.
use mathlib.Core.Path.{◌≡◌, refl, sym, ap, ◌∙◌, subst}
use mathlib.Core.Logic.{◌⊎◌, inl, inr, ⊎_elim}
use mathlib.Core.Bool.{Bool, true, false, cond}
use mathlib.Core.List.{List, [], ◌∷◌, ◌++◌}
use mathlib.Core.Option.{some}
use Prim.Native.Nat.{ℕ, zero, suc, ◌+◌, ◌-◌, ◌*◌, ◌<◌, ◌≤◌}
use native.Mathlib.Nat.{le_refl, eq-or-lt_of_le, not-suc-le-zero}
use native.Mathlib.Omega.{arith}
use borrow.Author.Tests.{le-ltb, le-leb, lt-leb}
use lib.Dec.{T, ltb, leb}
use lib.ListN.{length, length-append}
use lib.Ieee.{Float, binary64, fits}
use Rattle.places.specs.Places.{gathered}
use Rattle.places.proofs.PlaceLaws.{le-or-lt}
use Rattle.geometry.specs.Doubles.{nought, one, at, largest}
use Rattle.geometry.specs.Order.{rank_of, inserted, sorted_onto, sorted, Ascending}
use Rattle.geometry.proofs.ShareLaws.{Share, middle-share, nought_rank, one_rank, share-ranked}
use Rattle.geometry.proofs.SortLaws.{Placed, inserted-placed, length_inserted, length-sorted, ascending-sorted, sorted_ascending, ascending_list}
use Rattle.knots.specs.Knots.{clamped_knots, bezier_knots}
use Rattle.knots.proofs.KnotLaws.{length-averaged, length-spread, length_bezier, Ends, averaged-ends, spread-ends, bezier-ends}
use Rattle.tables.specs.Directions.{Direction, ladder}
use Rattle.tables.proofs.TableLaws.{length_rows}
use Rattle.refinement.specs.Refinement.{span_ends, span_worsts, middle_of, middle_knot, splits, knots_at, threshold_of, new_knots, refined_knots}
use Rattle.refinement.proofs.SpanLaws.{spans}
use Rattle.refinement.proofs.SplitLaws.{splits_wide}
use Rattle.refinement.proofs.MergeLaws.{onto-append}
use Rattle.refinement.proofs.RoundLaws.{with_is, with-grows}
use Rattle.fitting.specs.Within.{Candidate, Marked, table_on}
use Rattle.fitting.specs.Marks.{unmarked}
use Rattle.fitting.proofs.RefinedLaws.{next_knots}
use Rattle.checks.specs.declared.Call.{Call}
use Rattle.checks.specs.LadderChecks.{count_verdict}
use Rattle.making.specs.Results.{fit_by}
use Rattle.making.proofs.HandedLaws.{FitOn, Sized, refined-fit, spread_sized}
use Rattle.making.proofs.FitLaws.{call-fit}
use Rattle.std.specs.Prelude.{Ok}
use Rattle.bspline.specs.Refusals.{pass}

-- ---- one value sorted in

module _ (d : ℕ) (xs : List Float) (v : Float) (ends : Ends d xs) (long : 2 * d + 2 ≤ length xs) (h : Share v) where
  pub ends-inserted : Ends d (inserted v xs)
  ends-inserted =
      record {
        first = λ i l. ⊎_elim (λ (g : place ≤ i). absurd (no g l)) (λ (g : i < place). r.before i g ∙ ends.first i l) (le-or-lt place i);
        last = λ i g l. ⊎_elim (λ (p : i < place). r.before i p ∙ ends.last i (omega (arith, many)) (omega (arith, r.within))) (λ p. p) (apart i g l);
        held = λ i. ⊎_elim (λ (p : place ≤ i). ⊎_elim (λ (e : place ≡ i). fit (ap (at (inserted v xs)) (sym e) ∙ r.here) h.held) (λ (p : place < i). behind-fits i p) (eq-or-lt_of_le p)) (λ (p : i < place). fit (r.before i p) (ends.held i)) (le-or-lt place i);
      }
    where
      r : Placed v xs (inserted v xs)
      r = inserted-placed v xs

      place : ℕ
      place = r.place

      many : length (inserted v xs) ≡ suc (length xs)
      many = length_inserted v xs

      no : {i : ℕ} → place ≤ i → i ≤ d → ⊥
      no g l =
          let a : rank_of v < rank_of (at xs place) = r.next (omega (arith, long)) in
          let e : rank_of (at xs place) ≡ rank_of nought = ap rank_of (ends.first place (omega arith)) in
          omega (arith, (share-ranked v h).0)

      fit : {x y : Float} → x ≡ y → T (fits binary64 y) → T (fits binary64 x)
      fit e t = subst (λ (z : Float). T (fits binary64 z)) (sym e) t

      behind-fits : (i : ℕ) → place < i → T (fits binary64 (at (inserted v xs) i))
      behind-fits zero p = absurd (not-suc-le-zero p)
      behind-fits (suc i) p = fit (r.after i (omega arith)) (ends.held i)

      itself : (j : ℕ) → place ≡ suc j → length xs ≤ j + d + 1 → v ≡ one
      itself j e g =
          let b : rank_of (at xs j) ≤ rank_of v = r.prior j (sym e) in
          let o : rank_of (at xs j) ≡ rank_of one = ap rank_of (ends.last j g (omega (arith, r.within))) in
          ⊎_elim (λ x. x) (λ x. absurd (omega arith)) (share-ranked v h).1

      rest : (i : ℕ) → length (inserted v xs) ≤ i + d + 1 → i < length (inserted v xs) → place ≤ i → at (inserted v xs) i ≡ one
      rest zero g l p = absurd (omega (arith, many, long))
      rest (suc j) g l p =
          ⊎_elim (λ (e : place ≡ suc j). ap (at (inserted v xs)) (sym e) ∙ r.here ∙ itself j e (omega (arith, many)))
          (λ (q : place < suc j). r.after j (omega arith) ∙ ends.last j (omega (arith, many)) (omega (arith, many)))
          (eq-or-lt_of_le p)

      apart : (i : ℕ) → length (inserted v xs) ≤ i + d + 1 → i < length (inserted v xs) → (i < place) ⊎ (at (inserted v xs) i ≡ one)
      apart i g l = ⊎_elim (λ (p : place ≤ i). inr (rest i g l p)) (λ p. inl p) (le-or-lt place i)

-- ---- many, sorted in

abbrev Shares : List Float → Type 0
Shares [] = Unit {0}
Shares (x ∷ xs) = Share x × Shares xs

shares-append : (xs ys : List Float) → Shares xs → Shares ys → Shares (xs ++ ys)
shares-append [] ys h k = k
shares-append (x ∷ xs) ys h k = (h.0, shares-append xs ys h.1 k)

ends_onto : (d : ℕ) (xs vs : List Float) → Ends d xs → 2 * d + 2 ≤ length xs → Shares vs → Ends d (sorted_onto xs vs)
unfolding sorted_onto
ends_onto d xs [] ends long h = ends
ends_onto d xs (v ∷ vs) ends long h = ends_onto d (inserted v xs) vs (ends-inserted d xs v ends long h.0) (omega (arith, length_inserted v xs)) h.1

-- ---- a round's new knots lie from 0 to 1

gathered_shares : (n : ℕ) (p : ℕ → Bool) (f : ℕ → Float) → ((k : ℕ) → k < n → p k ≡ true → Share (f k)) → Shares (gathered n p f)
unfolding gathered
gathered_shares zero p f h = tt
gathered_shares (suc n) p f h = shares-append (gathered n p f) (cond (p n) (f n ∷ []) []) (gathered_shares n p f (λ k l. h k (omega arith))) (go (p n) refl)
  where
    go : (b : Bool) → p n ≡ b → Shares (cond b (f n ∷ []) [])
    go true e = (h n (omega arith) e, tt)
    go false e = tt

new-shares : (params : List Float) (firsts : List ℕ) (worsts : List Float) (tolerance most : Float) → ((k : ℕ) → k < length firsts → Share (at params k)) → Shares (new_knots params (span_ends firsts) worsts tolerance most)
unfolding new_knots knots_at middle_knot
new-shares params firsts worsts tolerance most h =
    let ends = span_ends firsts in
    let t = threshold_of ends worsts tolerance most in
    gathered_shares (length ends) (splits ends worsts tolerance t) (middle_knot params ends)
    (λ s l e.
    let w = splits_wide ends worsts tolerance t s e in
    let g = (spans firsts).within s l in
    middle-share (at params (middle_of ends s - 1)) (at params (middle_of ends s)) (h (middle_of ends s - 1) (omega arith)) (h (middle_of ends s) (omega arith)))

-- ---- refinement's knots, round after round

pub record Round (d : ℕ) (flat : List Float) : Type 0 where
  pub ends : Ends d flat
  pub long : 2 * d + 2 ≤ length flat
  pub in_order : Ascending flat

pub bezier-ascending : (p : ℕ) → Ascending (bezier_knots p)
unfolding bezier_knots clamped_knots
bezier-ascending p = ascending_list (p + 1 + p + 1) knot ordered
  where
    knot : ℕ → Float
    knot i = cond (leb i p) nought (cond (ltb i (p + 1)) nought one)

    values : (i : ℕ) → (knot i ≡ nought) ⊎ ((p < i) × (knot i ≡ one))
    values i = ⊎_elim (λ (h : i ≤ p). inl (rw (le-leb i p h))) (λ (h : p < i). inr (h, rw (lt-leb i p h, le-ltb i (p + 1) (omega arith)))) (le-or-lt i p)

    order : rank_of nought ≤ rank_of one
    order = omega (arith, nought_rank, one_rank)

    ordered : (j k : ℕ) → j < k → rank_of (knot j) ≤ rank_of (knot k)
    ordered j k l =
        ⊎_elim
        (λ (a : knot j ≡ nought). ⊎_elim (λ (b : knot k ≡ nought). rw (a, b) (le_refl (rank_of nought))) (λ (b : (p < k) × (knot k ≡ one)). rw (a, b.1) order) (values k))
        (λ (a : (p < j) × (knot j ≡ one)). let c : knot k ≡ one = rw (lt-leb k p (omega arith), le-ltb k (p + 1) (omega arith)) in rw (a.1, c) (le_refl (rank_of one)))
        (values j)

first-round : (d : ℕ) → Round d (bezier_knots d)
first-round d = record { ends = bezier-ends d; long = omega (arith, length_bezier d); in_order = bezier-ascending d }

next-round : (d : ℕ) (flat new : List Float) → Round d flat → Shares new → Round d (sorted (flat ++ new))
unfolding sorted
next-round d flat new r h =
    let is : sorted (flat ++ new) ≡ sorted_onto flat new = onto-append [] flat new ∙ ap (λ (l : List Float). sorted_onto l new) (sorted_ascending flat r.in_order) in
    record {
      ends = subst (Ends d) (sym is) (ends_onto d flat new r.ends r.long h);
      long = omega (arith, length-sorted (flat ++ new), length-append flat new, r.long);
      in_order = ascending-sorted (flat ++ new);
    }

-- ---- the knots of every accepted ladder fit, by whichever call

-- knots of the poles' degree begin at 0 and end at 1
pub record Curve (d : Direction) (flat : List Float) : Type 0 where
  pub sized : Sized d flat
  pub ends : 2 * d.degree + 2 ≤ length flat → Ends d.degree flat

module _ (factor : Float) (s : List Float) (degree : ℕ) (params : List Float) (shares : (k : ℕ) → k < length params → Share (at params k)) (under : degree < length params) where
  abbrev along : Direction
  along = ladder factor s degree params

  -- what each round of refinement keeps
  record Rounds (flat : List Float) : Type 0 where
    round : Round degree flat
    sized : Sized along flat

  keeps : (t : Float) (flat all : List Float) (f : Candidate) → Rounds flat → next_knots along t flat f ≡ some all → Rounds all
  unfolding ladder refined_knots
  keeps t flat all f h e =
      let firsts = (table_on along flat).firsts in
      let new = new_knots params (span_ends firsts) (span_worsts (along.deviations f.distances) (span_ends firsts)) t (largest f.distances) in
      let many : length firsts ≡ length params = length_rows flat degree params in
      let w = with_is (length params) degree flat new all e in
      let g = with-grows (length params) degree flat new all h.sized.low e in
      record {
        round = subst (Round degree) (sym w.0) (next-round degree flat new h.round (new-shares params firsts _ t (largest f.distances) (λ k l. shares k (omega (arith, many)))));
        sized = record { low = omega (arith, g.0, h.sized.low); high = omega (arith, g.1) };
      }

  pub call-curve : (call : Call) → 1 ≤ degree → count_verdict call (length params) degree ≡ pass → (a : Marked) → fit_by call along ≡ Ok a → FitOn (Curve along) along (unmarked a)
  unfolding ladder
  call-curve =
      let l = length-averaged params degree in
      let b = length_bezier degree in
      call-fit factor s degree params (Curve along)
      (record { sized = record { low = omega (arith, l); high = omega (arith, l) }; ends = λ g. averaged-ends params degree under })
      (λ c h. let m = length-spread params c degree in record { sized = spread_sized along c h; ends = λ g. spread-ends params c degree (omega (arith, m)) })
      (λ t f e.
      let r = refined-fit Rounds along t (record { round = first-round degree; sized = record { low = omega (arith, b); high = omega (arith, b) } }) (keeps t) f e in
      record { knots = r.knots; has = record { sized = r.has.sized; ends = λ g. r.has.round.ends }; own = r.own })
