-- Which spans split: a span that does has two parameters or more, and the chains that count them and lay their knots down. Assumes nothing.
use Rattle.std.proofs.Common.{◌≡◌, Option, Some, None, ℕ, zero, suc, ◌+◌, ◌-◌, ◌<◌, ◌≤◌, Bool, true, false, cond, not, ◌&&◌, ◌||◌, ltb, eqb, List, [], ◌∷◌, ◌++◌, length, get_or, sym, refl, ap, ◌∙◌, true≢false, add-one, arith, ltb-false, ne_eqb}
use Rattle.std.specs.List.{All, enumerate_from, filter, range_with_len}
use Rattle.std.specs.Iterator.{Yields}
use Rattle.std.proofs.lemmas.Iterator.{YieldsList}
use Rattle.std.proofs.lemmas.Iterator.Consumers.{YieldsList-turn, YieldsList-end}
use Rattle.std.proofs.lemmas.List.{length-map, get_or-map}
use Rattle.std.proofs.lemmas.List.Elements.{All-filter, All-from_get_or, filter_passes}
use Rattle.std.proofs.lemmas.List.FromFn.{filter_of_map_range_with_len_more, get_or-enumerate_from, get_or-range_with_len, length-enumerate_from, length-range_with_len}
use mathlib.Core.List.{map, map-id, map-append}
use lib.Ieee.{Float, nan}
use Rattle.places.specs.Places.{gathered, count_below}
use Rattle.places.proofs.GatheredLaws.{length-gathered}
use Rattle.geometry.specs.Doubles.{at}
use Rattle.refinement.specs.Refinement.{start_of, end_of, lone, misses, lone_misses, lone_before, splits, middle_knot, knots_at}

-- as the program tests it
pub before_is : (ends : List ℕ) (worsts : List Float) (tolerance threshold : Float) (s : ℕ)
    → lone_before ends worsts tolerance threshold s ≡ cond (eqb s 0) false (lone_misses ends worsts tolerance threshold (s - 1))
unfolding lone_before
before_is ends worsts tolerance threshold zero = refl
before_is ends worsts tolerance threshold (suc t) = let z : suc t - 1 ≡ t = omega arith in rw (ne_eqb (suc t) 0 (λ e. omega arith), z)

-- a span that splits has two parameters or more
pub splits_wide : (ends : List ℕ) (worsts : List Float) (tolerance threshold : Float) (s : ℕ) → splits ends worsts tolerance threshold s ≡ true → start_of ends s + 2 ≤ end_of ends s
unfolding splits lone
splits_wide ends worsts tolerance threshold s e = go (ltb (end_of ends s - start_of ends s) 2) refl e
  where
    rest : Bool
    rest = misses tolerance threshold (at worsts s) || (lone_before ends worsts tolerance threshold s || lone_misses ends worsts tolerance threshold (s + 1))

    go : (b : Bool) → ltb (end_of ends s - start_of ends s) 2 ≡ b → not b && rest ≡ true → start_of ends s + 2 ≤ end_of ends s
    go true e f = absurd (true≢false (sym f))
    go false e f = omega (arith, ltb-false (end_of ends s - start_of ends s) 2 e)

-- as many new knots as spans that split
pub length-knots : (params : List Float) (ends : List ℕ) (worsts : List Float) (tolerance threshold : Float)
    → length (knots_at params ends worsts tolerance threshold) ≡ count_below (length ends) (splits ends worsts tolerance threshold)
unfolding knots_at
length-knots params ends worsts tolerance threshold = length-gathered (length ends) (splits ends worsts tolerance threshold) (middle_knot params ends)

-- the numbers below n that have p, in order
abbrev pub chosen : (ℕ → Bool) → ℕ → List ℕ
chosen p n = filter p (range_with_len 0 n)

-- what is gathered is gathered at them
gathered_chosen : {A : Type 0} (p : ℕ → Bool) (f : ℕ → A) (n : ℕ) → gathered n p f ≡ map f (chosen p n)
unfolding gathered
gathered_chosen p f zero = refl
gathered_chosen {A} p f (suc n) =
    let more : chosen p (n + 1) ≡ chosen p n ++ cond (p n) (n ∷ []) [] = simp map-id at (filter_of_map_range_with_len_more p (λ k. k) 0 n n (omega arith)) in
    sym (rw add-one at (ap (map f) more) ∙ map-append f (chosen p n) (cond (p n) (n ∷ []) []) ∙ rw (gathered_chosen p f n) (go (p n)))
  where
    go : (b : Bool) → map f (chosen p n) ++ map f (cond b (n ∷ []) []) ≡ map f (chosen p n) ++ cond b (f n ∷ []) []
    go true = refl
    go false = refl

pub count_chosen : (p : ℕ → Bool) (n : ℕ) → length (chosen p n) ≡ count_below n p
count_chosen p n = sym (length-map (chosen p n) (λ k. k)) ∙ ap length (sym (gathered_chosen p (λ k. k) n)) ∙ length-gathered n p (λ k. k)

-- ---- the loop of `lay_knots`, which goes over them and counts the turns

-- q has the number of turn i, and its place
pub record Chosen (p : ℕ → Bool) (n i : ℕ) (q : ℕ × ℕ) : Type 0 where
  pub place : q.0 ≡ i
  pub room : i < count_below n p
  pub below : q.1 < n
  pub has : p q.1 ≡ true
  pub gathers : (f : ℕ → Float) → at (gathered n p f) i ≡ f q.1

chosen_at : (p : ℕ → Bool) (n i : ℕ) (q : ℕ × ℕ) → i < length (chosen p n) → q ≡ (0 + i, get_or (chosen p n) i q.1) → Chosen p n i q
chosen_at p n i q h e =
    let s : q.1 ≡ get_or (chosen p n) i q.1 = ap (λ (r : ℕ × ℕ). r.1) e in
    let below : All (λ k. k < n) (range_with_len 0 n) = All-from_get_or (λ k. k < n) (range_with_len 0 n) 0 (λ j l. rw (get_or-range_with_len 0 n j 0 (omega (arith, length-range_with_len 0 n))) (omega (arith, length-range_with_len 0 n))) in
    record {
      place = ap (λ (r : ℕ × ℕ). r.0) e ∙ omega arith;
      room = omega (arith, count_chosen p n);
      below = rw s (All-filter p (λ k. k < n) (range_with_len 0 n) below i q.1 h);
      has = rw s (filter_passes p (range_with_len 0 n) i q.1 h);
      gathers = λ f. ap (λ (xs : List Float). at xs i) (gathered_chosen p f n) ∙ get_or-map f (chosen p n) i q.1 nan h ∙ ap f (sym s);
    }

-- what comes next; at the end all came
pub next_chosen : {S : Type 0} {steps : S → Option (ℕ × ℕ) → S → Type 0} {s t u : S} {r : Option (ℕ × ℕ)} (p : ℕ → Bool) (n : ℕ) → YieldsList steps (λ q. (q.0, q.1)) s (enumerate_from 0 (chosen p n))
    → (xs : List (ℕ × ℕ)) → Yields steps s xs t → steps t r u → ((q : ℕ × ℕ) → r ≡ Some q → Chosen p n (length xs) q) × (r ≡ None → length xs ≡ count_below n p)
next_chosen p n road xs y step =
    let long : length (enumerate_from 0 (chosen p n)) ≡ length (chosen p n) = length-enumerate_from 0 (chosen p n) in (
      λ q i.
          let t = YieldsList-turn road xs _ y _ _ q i step in
          let h : length xs < length (chosen p n) = omega (arith, t.0, long) in
          chosen_at p n (length xs) q h (t.1 ∙ get_or-enumerate_from 0 (chosen p n) (length xs) q h),
      λ i. (YieldsList-end road xs _ y _ _ i step).1 ∙ long ∙ count_chosen p n,
    )
