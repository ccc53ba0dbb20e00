-- What the search gives, for every test of counts: the count found passes and the one below it fails; where it finds none the largest count
-- fails; and of a test that passes more counts no more poles are found. Assumes nothing.
use mathlib.Core.Path.{◌≡◌, refl, sym, ◌∙◌, ap, subst}
use mathlib.Core.Logic.{◌⊎◌, inl, inr}
use mathlib.Core.Bool.{Bool, true, false, true≢false}
use Prim.Native.Nat.{ℕ, zero, suc, ◌-◌, ◌≤◌, ◌<◌}
use native.Mathlib.Omega.{arith}
use lib.Dec.{leb, ltb}
use Rattle.std.specs.Prelude.{Some, None}
use Rattle.std.proofs.lemmas.Bool.Decides.{nat_tests}
use borrow.Author.Tests.{ltb-true, ltb-false, leb-true, leb-false, lt-ltb}
use Rattle.search.specs.declared.Search.{Search}
use Rattle.search.specs.Search.{start, width, count_of, turn, turns, answer, fewest}
use Rattle.search.proofs.SearchLaws.{Holds, start_holds, turns_hold, turns_over, turns_narrow, turn_holds, turn_over, turn-fitted, turn_failed, turn_cases, between}

-- ---- the answer by its two cases
pub answer-some : (last : ℕ) (s : Search) (c : ℕ) → answer last s ≡ Some c → (s.high < last) × (s.high ≡ c)
answer-some last s c e = grind (arith, nat_tests)

pub answer-none : (last : ℕ) (s : Search) → answer last s ≡ None → last ≤ s.high
answer-none last s e = grind (arith, nat_tests)

pub answer_below : (last : ℕ) (s : Search) → s.high < last → answer last s ≡ Some s.high
answer_below last s h = rw (lt-ltb _ _ h)

-- ---- where the search ends
pub final : (ℕ → Bool) → ℕ → ℕ → Search
final passes degree last = turns passes last (start degree last)

module _ (passes : ℕ → Bool) (degree last : ℕ) where
  pub final-answer : fewest passes degree last ≡ answer last (final passes degree last)
  unfolding fewest final
  final-answer = refl

  pub final_holds : degree < last → Holds passes degree last (final passes degree last)
  unfolding final
  final_holds h = turns_hold passes degree last last (start degree last) (start_holds passes degree last h)

  pub final_narrow : degree < last → width (final passes degree last) ≤ 1
  unfolding final
  final_narrow h = turns_narrow passes degree last last (start degree last) (start_holds passes degree last h) (omega arith)

  pub final_empty : last ≤ degree → final passes degree last ≡ start degree last
  unfolding final
  final_empty h = turns_over passes degree last last (start degree last) (omega arith)

  -- no count to try: nothing is found
  pub found_below : (c : ℕ) → fewest passes degree last ≡ Some c → degree < last
  found_below c e = go (ltb degree last) refl
    where
      go : (b : Bool) → ltb degree last ≡ b → degree < last
      go true f = ltb-true _ _ f
      go false f =
          let a = answer-some last (final passes degree last) c (sym final-answer ∙ e) in
          let h : last < last = rw (final_empty (ltb-false _ _ f)) at a.0 in
          omega arith

-- (a) a count that is found
pub record IsFound (passes : ℕ → Bool) (degree last c : ℕ) : Type 0 where
  pub above : degree < c
  pub below : c < last
  pub passed : passes c ≡ true
  pub failed-below : degree < c - 1 → passes (c - 1) ≡ false

pub found : (passes : ℕ → Bool) (degree last c : ℕ) → fewest passes degree last ≡ Some c → IsFound passes degree last c
found passes degree last c e =
    let l = found_below passes degree last c e in
    let s = final passes degree last in
    let a = answer-some last s c (sym (final-answer passes degree last) ∙ e) in
    subst (IsFound passes degree last) a.1 (here s (final_holds passes degree last l) (final_narrow passes degree last l) a.0)
  where
    here : (s : Search) → Holds passes degree last s → width s ≤ 1 → s.high < last → IsFound passes degree last s.high
    here s h n b =
        record {
          above = omega (arith, h.above, h.apart);
          below = b;
          passed = h.fits b;
          failed-below = λ d.
              let q : s.high - 1 ≡ s.low = omega (arith, h.apart) in
              rw q (h.fails (rw q at d));
        }

-- (b) where nothing is found the largest count fails
pub nothing : (passes : ℕ → Bool) (degree last : ℕ) → fewest passes degree last ≡ None → degree < last - 1 → passes (last - 1) ≡ false
nothing passes degree last e d =
    let l : degree < last = omega arith in
    let s = final passes degree last in
    let h = final_holds passes degree last l in
    let n = final_narrow passes degree last l in
    let a = answer-none last s (sym (final-answer passes degree last) ∙ e) in
    let q : last - 1 ≡ s.low = omega (arith, h.apart, h.below) in
    rw q (h.fails (rw q at d))

-- (c) two tests, the second passing each count that the first passes: the two searches are at the same place, or the second is below the first
abbrev Beside : Search → Search → Type 0
Beside s t = (s ≡ t) ⊎ (t.high ≤ s.low)

module _ (first second : ℕ → Bool) (more : (c : ℕ) → first c ≡ true → second c ≡ true) (degree last : ℕ) where
  low-rises : (s : Search) → Holds first degree last s → s.low ≤ (turn first s).low
  low-rises s h =
      turn_cases first degree last (λ t. s.low ≤ t.low) s (λ w. omega arith) (λ w e. omega arith)
      (λ w e. let b = between s h.steps w in omega (arith, b.0))

  high_falls : (t : Search) → Holds second degree last t → (turn second t).high ≤ t.high
  high_falls t h =
      turn_cases second degree last (λ u. u.high ≤ t.high) t (λ w. omega arith)
      (λ w e. let b = between t h.steps w in omega (arith, b.1)) (λ w e. omega arith)

  from-same : (s : Search) → Beside (turn first s) (turn second s)
  from-same s = go (leb (width s) 1) (first (count_of s)) (second (count_of s)) refl refl refl
    where
      go : (o a b : Bool) → leb (width s) 1 ≡ o → first (count_of s) ≡ a → second (count_of s) ≡ b → Beside (turn first s) (turn second s)
      go true a b e f g = let w : width s ≤ 1 = leb-true _ _ e in inl (turn_over first s w ∙ sym (turn_over second s w))
      go false true true e f g = let w : 1 < width s = leb-false _ _ e in inl (turn-fitted first s w f ∙ sym (turn-fitted second s w g))
      go false true false e f g = absurd (true≢false (sym (more (count_of s) f) ∙ g))
      go false false true e f g =
          let w : 1 < width s = leb-false _ _ e in
          inr (rw (turn_failed first s w f, turn-fitted second s w g) (omega arith))
      go false false false e f g = let w : 1 < width s = leb-false _ _ e in inl (turn_failed first s w f ∙ sym (turn_failed second s w g))

  beside-turns : (k : ℕ) (s t : Search) → Holds first degree last s → Holds second degree last t → Beside s t → Beside (turns first k s) (turns second k t)
  unfolding turns
  beside-turns zero s t h i r = r
  beside-turns (suc k) s t h i r =
      beside-turns k (turn first s) (turn second t) (turn_holds first degree last s h) (turn_holds second degree last t i) (next r)
    where
      next : Beside s t → Beside (turn first s) (turn second t)
      next (inl e) = subst (λ (u : Search). Beside (turn first s) (turn second u)) e (from-same s)
      next (inr l) = let a = low-rises s h in let b = high_falls t i in inr (omega arith)

  beside_final : degree < last → Beside (final first degree last) (final second degree last)
  unfolding final
  beside_final l =
      beside-turns last (start degree last) (start degree last) (start_holds first degree last l) (start_holds second degree last l) (inl refl)

  pub fewest_monotone : (c : ℕ) → fewest first degree last ≡ Some c → (d : ℕ) × (fewest second degree last ≡ Some d) × (d ≤ c)
  fewest_monotone c e =
      let l = found_below first degree last c e in
      let a = answer-some last (final first degree last) c (sym (final-answer first degree last) ∙ e) in
      ends (final first degree last) (final second degree last) (final_holds first degree last l) a.0 a.1 (final-answer second degree last) (beside_final l)
    where
      ends : (s t : Search) → Holds first degree last s → s.high < last → s.high ≡ c → fewest second degree last ≡ answer last t → Beside s t
          → (d : ℕ) × (fewest second degree last ≡ Some d) × (d ≤ c)
      ends s t h b q f (inl r) =
          let k : t.high ≡ s.high = ap (λ (u : Search). u.high) (sym r) in
          (t.high, f ∙ answer_below last t (omega arith), omega arith)
      ends s t h b q f (inr r) = (t.high, f ∙ answer_below last t (omega (arith, h.apart)), omega (arith, h.apart))
