-- Deviations held to a tolerance, for every float: what each test says of the single deviations, and that a larger tolerance passes what a
-- smaller one passed. Assumes nothing.
use mathlib.Core.Path.{◌≡◌, refl, sym, subst}
use mathlib.Core.Bool.{Bool, true, false, not, cond, ◌&&◌}
use mathlib.Core.List.{List, [], ◌∷◌}
use mathlib.Core.Logic.{inl, inr}
use Prim.Native.Nat.{zero, suc, ◌≤◌}
use native.Mathlib.Omega.{arith}
use native.Mathlib.Nat.{le_of_suc-le-suc, not-suc-le-zero}
use lib.Dec.{T}
use lib.ListN.{length}
use lib.Ieee.{Float, binary64, fits, le, is_nan}
use lib.Ieee.Fits.{and_l, and_r}
use Rattle.geometry.specs.Doubles.{nought, largest}
use Rattle.geometry.specs.Root.{sqrt_of, roots_of}
use Rattle.geometry.proofs.FloatOrder.{holds, test, fails, refute, le_transitive, le_trans_float, le_left, le_right, lt-or-le, not-above}
use Rattle.geometry.proofs.Folds.{Each, largest_from-le, le-largest_from}
use Rattle.geometry.proofs.Roots.{Held, root-low}
use Rattle.tables.specs.Deviations.{all_within, largest_within, unreadable}
use Rattle.fitting.specs.Tolerance.{NoneAbove}

-- each deviation not above, by recursion and by index
each→none : (t : Float) (ds : List Float) → Each t ds → NoneAbove t ds
each→none t [] e k h = absurd (not-suc-le-zero h)
each→none t (d ∷ ds) e zero h = e.0
each→none t (d ∷ ds) e (suc k) h = each→none t ds e.1 k (le_of_suc-le-suc h)

-- where the largest is within the tolerance, 0 is, and no deviation is above it
pub largest-none : (t : Float) (ds : List Float) → largest_within t ds ≡ true → (le nought t ≡ true) × NoneAbove t ds
unfolding largest_within largest
largest-none t ds h = let r = largest_from-le nought ds t (test h) in (holds _ r.0, each→none t ds r.1)

pub largest_mono : (t u : Float) (ds : List Float) → le t u ≡ true → largest_within t ds ≡ true → largest_within u ds ≡ true
unfolding largest_within
largest_mono t u ds h k = le_transitive (largest ds) t u k h

-- ---- every deviation at or below
all-each : (t : Float) (ds : List Float) → T (all_within t ds) → Each t ds
unfolding all_within
all-each t [] h = tt
all-each t (d ∷ ds) h =
    (not-above d t (holds _ (and_l (le d t) (all_within t ds) h)), all-each t ds (and_r (le d t) (all_within t ds) h))

pub all_none : (t : Float) (ds : List Float) → all_within t ds ≡ true → NoneAbove t ds
all_none t ds h = each→none t ds (all-each t ds (test h))

pub all_mono : (t u : Float) (ds : List Float) → le t u ≡ true → all_within t ds ≡ true → all_within u ds ≡ true
unfolding all_within
all_mono t u [] h k = refl
all_mono t u (d ∷ ds) h k =
    let x : T (le d t && all_within t ds) = test k in
    let a = le_transitive d t u (holds _ (and_l (le d t) (all_within t ds) x)) h in
    let b = all_mono t u ds h (holds _ (and_r (le d t) (all_within t ds) x)) in
    rw (a, b)

-- ---- every one at or below, by the measures: where one is NaN the test fails, and else a list of roots passes where its largest does
and_false : (b : Bool) → (b && false) ≡ false
and_false true = refl
and_false false = refl

nan-above : (d t : Float) → is_nan d ≡ true → le d t ≡ false
nan-above d t e = fails (le d t) (λ h. subst (λ (b : Bool). T (not b)) e (le_left d t h))

pub all-unread : (t : Float) (ds : List Float) → (unreadable ds ≡ 0 → ⊥) → all_within t ds ≡ false
unfolding all_within unreadable
all-unread t [] h = absurd (h refl)
all-unread t (d ∷ ds) h = go (is_nan d) refl h (all-unread t ds)
  where
    go : (b : Bool) → is_nan d ≡ b → (cond b (suc (unreadable ds)) (unreadable ds) ≡ 0 → ⊥) → ((unreadable ds ≡ 0 → ⊥) → all_within t ds ≡ false)
        → (le d t && all_within t ds) ≡ false
    go true e g rest = rw (nan-above d t e)
    go false e g rest = rw (rest g) (and_false (le d t))

each_all : (t : Float) (ds : List Float) → T (not (is_nan t)) → unreadable ds ≡ 0 → Each t ds → all_within t ds ≡ true
unfolding all_within unreadable
each_all t [] n u e = refl
each_all t (d ∷ ds) n u e = go (is_nan d) refl u (λ v. each_all t ds n v e.1)
  where
    go : (b : Bool) → is_nan d ≡ b → cond b (suc (unreadable ds)) (unreadable ds) ≡ 0 → (unreadable ds ≡ 0 → all_within t ds ≡ true)
        → (le d t && all_within t ds) ≡ true
    go true q v rest = absurd (omega arith)
    go false q v rest =
        let l : le d t ≡ true = elim (lt-or-le d t (subst (λ (b : Bool). T (not b)) (sym q) tt) n) [ inl l ↦ absurd (refute e.0 l) | inr l ↦ holds _ l ] in
        rw (l, rest v)

-- the first root is a number, so at least 0, and then the tolerance is
from_zero : (t s : Float) (ds : List Float) → T (fits binary64 s) → T (all_within t (sqrt_of s ∷ ds)) → T (le nought t)
unfolding all_within
from_zero t s ds held a =
    let l = and_l (le (sqrt_of s) t) (all_within t ds) a in
    le_trans_float nought (sqrt_of s) t (root-low s held (number (is_nan (sqrt_of s)) (le_left (sqrt_of s) t l))) l
  where
    number : (b : Bool) → T (not b) → b ≡ false
    number true n = absurd n
    number false n = refl

pub all-largest : (t : Float) (ss : List Float) → Held ss → 1 ≤ length ss → unreadable (roots_of ss) ≡ 0 → le (largest (roots_of ss)) t ≡ all_within t (roots_of ss)
unfolding largest roots_of
all-largest t [] held h u = absurd (not-suc-le-zero h)
all-largest t (s ∷ ss) held h u = go (le (largest (roots_of (s ∷ ss))) t) refl
  where
    go : (b : Bool) → le (largest (roots_of (s ∷ ss))) t ≡ b → b ≡ all_within t (roots_of (s ∷ ss))
    go true e =
        let r = largest_from-le nought (roots_of (s ∷ ss)) t (test e) in
        sym (each_all t (roots_of (s ∷ ss)) (le_right nought t r.0) u r.1)
    go false e =
        sym (fails (all_within t (roots_of (s ∷ ss)))
        (λ a. refute e (le-largest_from nought (roots_of (s ∷ ss)) t (from_zero t s (roots_of ss) held.0 a) (all-each t (roots_of (s ∷ ss)) a))))
