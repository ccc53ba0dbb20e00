-- Laws of the reader's definitions: sums of multiplicities, flat knots, and the checks. Assumes nothing.
use Prim.Native.Nat.{ℕ, zero, suc, ◌+◌, ◌-◌, ◌≤◌, ◌<◌}
use native.Mathlib.Omega.{arith}
use native.Mathlib.Numerals.{add-one}
use mathlib.Core.Path.{◌≡◌, refl, sym, ap, ◌∙◌, subst}
use mathlib.Core.List.{List, [], ◌++◌, append_assoc}
use lib.ListN.{length, drop, replicate, drop_of_length-le, length-append, length-replicate, get_or-replicate, get_or-append}
use lib.Seq.{drop-drop, take_at, drop_at, get_or-append-add}
use lib.Dec.{T}
use mathlib.Core.Bool.{true, false, not}
use mathlib.Core.Logic.{⊎_elim}
use native.Mathlib.Nat.{not-suc-le-zero}
use lib.Ieee.{Float, nan, le, is_nan}
use Rattle.places.specs.Places.{joined}
use Rattle.places.specs.Regions.{splice}
use Rattle.places.proofs.PlaceLaws.{joined-more, le-or-lt}
use Rattle.std.proofs.lemmas.List.Sums.{sum_by-drop_more}
use Rattle.geometry.specs.Doubles.{at}
use Rattle.geometry.proofs.FloatOrder.{holds, le_self, le_transitive, above-le}
use Rattle.bspline.specs.Spans.{NeverFalls}
use Rattle.bspline.specs.Reader.{multiplicity, sum_of, flat_knots}

pub sum_step : (mults : List ℕ) (k : ℕ) → k < length mults → sum_of (drop k mults) ≡ multiplicity mults k + sum_of (drop (k + 1) mults)
sum_step mults k h = sum_by-drop_more (λ (m : ℕ). m) mults k 0 h

pub sum_end : (mults : List ℕ) (k : ℕ) → length mults ≤ k → sum_of (drop k mults) ≡ 0
sum_end mults k h = rw (drop_of_length-le mults h)

-- ---- the flat knots, run by run

abbrev pub run_of : List Float → List ℕ → ℕ → List Float
run_of knots mults k = replicate (multiplicity mults k) (at knots k)

-- the runs of the first k knots are laid
pub record FlatTo (knots : List Float) (mults : List ℕ) (out₀ out : List Float) (end k : ℕ) : Type 0 where
  pub ends : end ≡ length (joined k (run_of knots mults))
  pub left : end + sum_of (drop k mults) ≡ sum_of mults
  pub laid_to : out ≡ joined k (run_of knots mults) ++ drop end out₀

pub flat_start : (knots : List Float) (mults : List ℕ) (out : List Float) → FlatTo knots mults out out 0 0
unfolding joined
flat_start knots mults out = record { ends = refl; left = omega arith; laid_to = refl }

-- a run more: m places hold x
pub flat-next : (knots : List Float) (mults : List ℕ) (out₀ out : List Float) (end k : ℕ) → k < length mults → sum_of mults ≤ length out₀
    → FlatTo knots mults out₀ out end k → (m : ℕ) (x : Float) → m ≡ multiplicity mults k → x ≡ at knots k
    → FlatTo knots mults out₀ (splice end (end + m) (replicate m x) out) (end + m) (k + 1)
flat-next knots mults out₀ out end k h room p m x m_is x_is =
    let xs = joined k (run_of knots mults) in
    let run = replicate m x in
    let step = sum_step mults k h in
    let more : joined (k + 1) (run_of knots mults) ≡ xs ++ run = joined-more k (run_of knots mults) ∙ rw (m_is, x_is) refl in
    let long : length run ≡ m = length-replicate m x in
    let width : end + m - end ≡ m = omega arith in
    record {
      ends = sym (ap length more ∙ length-append xs run ∙ omega (arith, p.ends, long));
      left = omega (arith, p.left, step, m_is);
      laid_to = ap (splice end (end + m) run) p.laid_to
          ∙ (rw (width, take_at xs (drop end out₀) end (sym p.ends), drop_at xs (drop end out₀) end (sym p.ends), drop-drop m end out₀, more) (sym (append_assoc xs run _)));
    }

pub flat_end : (knots : List Float) (mults : List ℕ) (out₀ out : List Float) (end k : ℕ) → k ≡ length knots → length mults ≤ k
    → FlatTo knots mults out₀ out end k → out ≡ flat_knots knots mults ++ drop (sum_of mults) out₀
unfolding flat_knots
flat_end knots mults out₀ out end k e h p =
    let all : end ≡ sum_of mults = omega (arith, p.left, sum_end mults k h) in
    p.laid_to ∙ ap (λ (n : ℕ). joined k (run_of knots mults) ++ drop n out₀) all ∙ ap (λ (n : ℕ). joined n (run_of knots mults) ++ drop (sum_of mults) out₀) e

-- as many as the multiplicities come to
runs-left : (knots : List Float) (mults : List ℕ) (k : ℕ) → k ≤ length mults → length (joined k (run_of knots mults)) + sum_of (drop k mults) ≡ sum_of mults
unfolding joined
runs-left knots mults zero h = omega arith
runs-left knots mults (suc k) h =
    let m = multiplicity mults k in
    let step : sum_of (drop k mults) ≡ m + sum_of (drop (suc k) mults) = rw add-one at (sum_step mults k h) in
    let long : length (replicate m (at knots k)) ≡ m = length-replicate m (at knots k) in
    rw length-append (omega (arith, runs-left knots mults k (omega arith), step, long))

pub length-flat : (knots : List Float) (mults : List ℕ) → length knots ≡ length mults → length (flat_knots knots mults) ≡ sum_of mults
unfolding flat_knots
length-flat knots mults e =
    ap (λ (n : ℕ). length (joined n (run_of knots mults))) e
    ∙ omega (arith, runs-left knots mults (length mults) (omega arith), sum_end mults (length mults) (omega arith))

-- ---- a list with a run of x after it, place by place

module _ (l : List Float) (x : Float) (m : ℕ) where
  run_long : length (l ++ replicate m x) ≡ length l + m
  run_long = length-append l (replicate m x) ∙ ap (λ (n : ℕ). length l + n) (length-replicate m x)

  run_front : (s : ℕ) → s < length l → at (l ++ replicate m x) s ≡ at l s
  run_front s h = get_or-append l (replicate m x) nan s h

  run_back : (s : ℕ) → length l ≤ s → s < length l + m → at (l ++ replicate m x) s ≡ x
  run_back s h i =
      let e : s ≡ length l + (s - length l) = omega arith in
      ap (at (l ++ replicate m x)) e ∙ get_or-append-add l (replicate m x) (s - length l) nan ∙ get_or-replicate m (s - length l) x nan (omega arith)

  -- what holds of each place of the list and of x holds of each place
  run_each : (P : Float → Type 0) → ((s : ℕ) → s < length l → P (at l s)) → P x → (s : ℕ) → s < length l + m → P (at (l ++ replicate m x) s)
  run_each P each here s h = ⊎_elim (λ i. rw (run_back s i h) here) (λ i. rw (run_front s i) (each s i)) (le-or-lt (length l) s)

-- what holds of every knot holds of every flat knot
pub each_knot : (knots : List Float) (mults : List ℕ) (P : Float → Type 0) → ((k : ℕ) → k < length knots → P (at knots k))
    → (n : ℕ) → n ≤ length knots → (s : ℕ) → s < length (joined n (run_of knots mults)) → P (at (joined n (run_of knots mults)) s)
unfolding joined
each_knot knots mults P all zero h s l = absurd (not-suc-le-zero l)
each_knot knots mults P all (suc n) h s l =
    let long = run_long (joined n (run_of knots mults)) (at knots n) (multiplicity mults n) in
    run_each (joined n (run_of knots mults)) (at knots n) (multiplicity mults n) P (each_knot knots mults P all n (omega arith)) (all n h) s (omega (arith, long, l))

-- ---- flat knots of rising, finite knots never fall

-- a list that never falls and stays at or below x, with a run of x after it
run-rises : (l : List Float) (x : Float) (m : ℕ) → le x x ≡ true → NeverFalls l → ((s : ℕ) → s < length l → le (at l s) x ≡ true)
    → NeverFalls (l ++ replicate m x) × ((s : ℕ) → s < length (l ++ replicate m x) → le (at (l ++ replicate m x) s) x ≡ true)
run-rises l x m self rises below =
    let long = run_long l x m in
    let small : (s : ℕ) → s < length l + m → le (at (l ++ replicate m x) s) x ≡ true = run_each l x m (λ (y : Float). le y x ≡ true) below self in (
      λ s h. ⊎_elim (λ i. rw (run_back l x m (s + 1) i (omega arith)) (small s (omega arith))) (λ i. rw (run_front l x m s (omega arith), run_front l x m (s + 1) i) (rises s i)) (le-or-lt (length l) (s + 1)),
      λ s h. small s (omega arith),
    )

module _ (knots : List Float) (mults : List ℕ) (number : (k : ℕ) → k < length knots → T (not (is_nan (at knots k)))) (rising : (k : ℕ) → k + 1 < length knots → le (at knots (k + 1)) (at knots k) ≡ false) where
  rises_to : (k : ℕ) → k < length knots → NeverFalls (joined (k + 1) (run_of knots mults)) × ((s : ℕ) → s < length (joined (k + 1) (run_of knots mults)) → le (at (joined (k + 1) (run_of knots mults)) s) (at knots k) ≡ true)
  unfolding joined
  rises_to zero h =
      let self = holds _ (le_self (at knots 0) (number 0 h)) in
      run-rises [] (at knots 0) (multiplicity mults 0) self (λ s i. absurd (omega arith)) (λ s i. absurd (not-suc-le-zero i))
  rises_to (suc k) h =
      let before = rises_to k (omega arith) in
      let next : k + 1 ≡ suc k = add-one k in
      let step : le (at knots k) (at knots (suc k)) ≡ true = above-le (at knots k) (at knots (suc k)) (number k (omega arith)) (number (suc k) h) (rw next at (rising k (omega arith))) in
      let self = holds _ (le_self (at knots (suc k)) (number (suc k) h)) in
      let l : List Float = joined (suc k) (run_of knots mults) in
      let l-is : joined (k + 1) (run_of knots mults) ≡ l = ap (λ (n : ℕ). joined n (run_of knots mults)) next in
      subst (λ (n : ℕ). NeverFalls (joined n (run_of knots mults)) × ((s : ℕ) → s < length (joined n (run_of knots mults)) → le (at (joined n (run_of knots mults)) s) (at knots (suc k)) ≡ true)) (sym (add-one (suc k)))
      (run-rises l (at knots (suc k)) (multiplicity mults (suc k)) self (rw l-is at before.0) (λ s i. le_transitive (at l s) (at knots k) (at knots (suc k)) ((rw l-is at before.1) s i) step))

  pub flat_never_falls : 1 ≤ length knots → NeverFalls (flat_knots knots mults)
  unfolding flat_knots
  flat_never_falls h =
      let e : length knots - 1 + 1 ≡ length knots = omega arith in
      subst (λ (n : ℕ). NeverFalls (joined n (run_of knots mults))) e (rises_to (length knots - 1) (omega arith)).0
