-- The laws of runs of equal knots. Assumes nothing.
use mathlib.Core.Path.{◌≡◌, refl, sym, ap, ◌∙◌}
use mathlib.Core.Bool.{Bool, true, false, cond}
use mathlib.Core.List.{List, [], ◌∷◌, ◌++◌, append_assoc, append-nil}
use mathlib.Core.Logic.{◌⊎◌, inl, inr, ⊎_elim}
use Prim.Native.Nat.{ℕ, zero, suc, ◌+◌, ◌-◌, ◌<◌, ◌≤◌}
use native.Mathlib.Nat.{zero-add, eq-or-lt_of_le, not-suc-le-zero}
use native.Mathlib.Numerals.{add-one}
use native.Mathlib.Omega.{arith}
use borrow.Author.Tests.{lt-ltb, le-ltb, not-true, not-false}
use lib.ListN.{length, set, take, replicate}
use lib.Seq.{take-suc, take-length}
use lib.Ieee.{Float, nan, eq, ne}
use Rattle.places.specs.Places.{laid, joined, count_below}
use Rattle.places.proofs.PlaceLaws.{le-or-lt, laid_none, laid0-next}
use Rattle.geometry.specs.Doubles.{at}
use Rattle.knots.specs.Knots.{equal_from, run_length, run_start, distinct_knots, knot_at, multiplicity_at}

-- one more place that equals x, and one that does not
equal-more : (flat : List Float) (x : Float) (i c : ℕ) → 0 < c → ne x (at flat i) ≡ false → equal_from flat x i c ≡ 1 + equal_from flat x (i + 1) (c - 1)
unfolding equal_from ne
equal-more flat x i zero h e = absurd (not-suc-le-zero h)
equal-more flat x i (suc c) h e = let d : suc c - 1 ≡ c = omega arith in rw (not-false (eq x (at flat i)) e, d)

pub equal_stop : (flat : List Float) (x : Float) (i c : ℕ) → ne x (at flat i) ≡ true → equal_from flat x i c ≡ 0
unfolding equal_from ne
equal_stop flat x i zero e = refl
equal_stop flat x i (suc c) e = rw (not-true (eq x (at flat i)) e)

equal-most : (flat : List Float) (x : Float) (i c : ℕ) → equal_from flat x i c ≤ c
unfolding equal_from
equal-most flat x i zero = omega arith
equal-most flat x i (suc c) = most (eq x (at flat i)) (equal_from flat x (i + 1) c) c (equal-most flat x (i + 1) c)
  where
    most : (b : Bool) (e c : ℕ) → e ≤ c → cond b (1 + e) 0 ≤ suc c
    most true e c h = omega arith
    most false e c h = omega arith

-- a run ends within the places, and has at least one
pub run-most : (flat : List Float) (i : ℕ) → i < length flat → i + run_length flat i ≤ length flat
unfolding run_length
run-most flat i h = omega (arith, equal-most flat (at flat i) (i + 1) (length flat - i - 1))

pub run-least : (flat : List Float) (i : ℕ) → 1 ≤ run_length flat i
unfolding run_length
run-least flat i = omega arith

pub start-more : (flat : List Float) (k : ℕ) → run_start flat (k + 1) ≡ run_start flat k + run_length flat (run_start flat k)
unfolding run_start
start-more flat k = ap (run_start flat) (add-one k)

-- starts rise
start-far : (flat : List Float) (j d : ℕ) → run_start flat j + d ≤ run_start flat (j + d)
start-far flat j zero = let e : j + zero ≡ j = omega arith in rw e (omega arith)
start-far flat j (suc d) =
    let e : j + suc d ≡ j + d + 1 = omega arith in
    rw (e, start-more) (omega (arith, start-far flat j d, run-least flat (run_start flat (j + d))))

start-rises : (flat : List Float) (j k : ℕ) → j ≤ k → run_start flat j + (k - j) ≤ run_start flat k
start-rises flat j k h = let e : j + (k - j) ≡ k = omega arith in rw e at (start-far flat j (k - j))

-- a test that holds of the numbers below k alone holds of k numbers below any n from k on
count_is : (p : ℕ → Bool) (k n : ℕ) → k ≤ n → ((j : ℕ) → j < k → p j ≡ true) → ((j : ℕ) → k ≤ j → p j ≡ false) → count_below n p ≡ k
unfolding count_below
count_is p k zero h below above = omega arith
count_is p k (suc n) h below above =
    ⊎_elim
    (λ e. rw (below n (omega arith)) (omega (arith, count_all n (λ j l. below j (omega arith)))))
    (λ lt. rw (above n (omega arith)) (omega (arith, count_is p k n (omega arith) below above)))
    (eq-or-lt_of_le h)
  where
    count_all : (n : ℕ) → ((j : ℕ) → j < n → p j ≡ true) → count_below n p ≡ n
    count_all zero all = refl
    count_all (suc n) all = rw (all n (omega arith)) (omega (arith, count_all n (λ j l. all j (omega arith))))

-- where run k starts at the end, there are k runs
pub distinct_is : (flat : List Float) (k : ℕ) → run_start flat k ≡ length flat → distinct_knots flat ≡ k
unfolding distinct_knots run_start
distinct_is flat k e =
    count_is _ k (length flat)
    (omega (arith, start-far flat 0 k, ap (run_start flat) (zero-add k)))
    (λ j h. lt-ltb _ (length flat) (omega (arith, start-rises flat j k (omega arith))))
    (λ j h. le-ltb _ (length flat) (omega (arith, start-rises flat k j h)))

-- ---- the runs, listed one after the other

-- k runs are listed, and the next one starts at place j
pub record Closed (flat knots₀ knots : List Float) (mults₀ mults : List ℕ) (j k : ℕ) : Type 0 where
  pub here : run_start flat k ≡ j
  pub knots_are : knots ≡ laid 0 k (knot_at flat) knots₀
  pub mults_are : mults ≡ laid 0 k (multiplicity_at flat) mults₀

-- no run is listed
pub closed_none : (flat knots : List Float) (mults : List ℕ) → Closed flat knots knots mults mults 0 0
unfolding run_start
closed_none flat knots mults = record { here = refl; knots_are = sym (laid_none 0 _ knots); mults_are = sym (laid_none 0 _ mults) }

-- The run that starts at place j has the places before place i, and those from i on that go on with it.
abbrev pub RunsTo : List Float → ℕ → ℕ → Type 0
RunsTo flat j i = run_length flat j ≡ (i - j) + equal_from flat (at flat j) i (length flat - i)

module _ (flat : List Float) (j i : ℕ) where
  pub runs_on : j < i → i < length flat → RunsTo flat j i → ne (at flat j) (at flat i) ≡ false → RunsTo flat j (i + 1)
  runs_on h l r e =
      let d : length flat - i - 1 ≡ length flat - (i + 1) = omega arith in
      let more = rw d at (equal-more flat (at flat j) i (length flat - i) (omega arith) e) in
      omega (arith, r, more)

  pub runs_until : RunsTo flat j i → ne (at flat j) (at flat i) ≡ true → run_length flat j ≡ i - j
  runs_until r e = omega (arith, r, equal_stop flat (at flat j) i (length flat - i) e)

  pub runs_out : RunsTo flat j i → length flat ≤ i → run_length flat j ≡ i - j
  unfolding equal_from
  runs_out r h = let z : length flat - i ≡ 0 = omega arith in let e : equal_from flat (at flat j) i (length flat - i) ≡ 0 = rw z in omega (arith, r, e)

-- its first place is its own
pub runs_from : (flat : List Float) (j : ℕ) → RunsTo flat j (j + 1)
unfolding run_length
runs_from flat j = let d : length flat - (j + 1) ≡ length flat - j - 1 = omega arith in rw d (omega arith)

-- one more is listed
pub closed_next : (flat knots₀ knots : List Float) (mults₀ mults : List ℕ) (j k n : ℕ) → Closed flat knots₀ knots mults₀ mults j k → run_length flat j ≡ n
    → Closed flat knots₀ (set knots k (at flat j)) mults₀ (set mults k n) (j + n) (k + 1)
unfolding knot_at multiplicity_at
closed_next flat knots₀ knots mults₀ mults j k n c r = record {
  here = start-more flat k ∙ rw (c.here, r);
  knots_are = laid0-next k (knot_at flat) knots₀ knots (at flat j) c.knots_are (rw c.here);
  mults_are = laid0-next k (multiplicity_at flat) mults₀ mults n c.mults_are (rw (c.here, r));
}

-- ---- the runs, one after the other, are the list, where the values of a run are the same

module _ (flat : List Float) where
  equal_in : (x : Float) (c i r : ℕ) → r < equal_from flat x i c → eq x (at flat (i + r)) ≡ true
  unfolding equal_from
  equal_in x zero i r h = absurd (not-suc-le-zero h)
  equal_in x (suc c) i r h = pick (eq x (at flat i)) refl h (λ q l. equal_in x c (i + 1) q l)
    where
      pick : (b : Bool) → eq x (at flat i) ≡ b → r < cond b (1 + equal_from flat x (i + 1) c) 0 → ((q : ℕ) → q < equal_from flat x (i + 1) c → eq x (at flat (i + 1 + q)) ≡ true) → eq x (at flat (i + r)) ≡ true
      pick false e l more = absurd (not-suc-le-zero l)
      pick true e l more = ⊎_elim later (λ z. let p : i ≡ i + r = omega arith in ap (λ (k : ℕ). eq x (at flat k)) (sym p) ∙ e) (le-or-lt 1 r)
        where
          later : 1 ≤ r → eq x (at flat (i + r)) ≡ true
          later o = let p : i + 1 + (r - 1) ≡ i + r = omega arith in ap (λ (k : ℕ). eq x (at flat k)) (sym p) ∙ more (r - 1) (omega arith)

  -- every value of a run equals the first
  pub run_equal : (i r : ℕ) → r < run_length flat i → (r ≡ 0) ⊎ (eq (at flat i) (at flat (i + r)) ≡ true)
  unfolding run_length
  run_equal i r h = ⊎_elim (λ o. inr (later o)) (λ z. inl (omega arith)) (le-or-lt 1 r)
    where
      later : 1 ≤ r → eq (at flat i) (at flat (i + r)) ≡ true
      later o =
          let p : i + 1 + (r - 1) ≡ i + r = omega arith in
          ap (λ (k : ℕ). eq (at flat i) (at flat k)) (sym p) ∙ equal_in (at flat i) (length flat - i - 1) (i + 1) (r - 1) (omega arith)

  -- a run has all the places that equal its first, one after the other
  equal-to : (x : Float) (n c i : ℕ) → n ≤ c → ((r : ℕ) → r < n → eq x (at flat (i + r)) ≡ true) → n ≤ equal_from flat x i c
  unfolding equal_from
  equal-to x zero c i h e = omega arith
  equal-to x (suc n) zero i h e = absurd (omega arith)
  equal-to x (suc n) (suc c) i h e =
      let here : i + 0 ≡ i = omega arith in
      let first : eq x (at flat i) ≡ true = ap (λ (k : ℕ). eq x (at flat k)) (sym here) ∙ e 0 (omega arith) in
      let rest = equal-to x n c (i + 1) (omega arith) (λ r l. let p : i + suc r ≡ i + 1 + r = omega arith in ap (λ (k : ℕ). eq x (at flat k)) (sym p) ∙ e (suc r) (omega arith)) in
      rw first (omega (arith, rest))

  -- and the place behind it, where there is one, does not
  pub run-ends : (i : ℕ) → i + run_length flat i < length flat → eq (at flat i) (at flat (i + run_length flat i)) ≡ false
  unfolding run_length
  run-ends i h = go (eq (at flat i) (at flat (i + run_length flat i))) refl
    where
      n : ℕ
      n = equal_from flat (at flat i) (i + 1) (length flat - i - 1)

      go : (b : Bool) → eq (at flat i) (at flat (i + run_length flat i)) ≡ b → b ≡ false
      go false e = refl
      go true e =
          let here : i + run_length flat i ≡ i + 1 + n = omega arith in
          let all : (r : ℕ) → r < n + 1 → eq (at flat i) (at flat (i + 1 + r)) ≡ true =
          λ r l. ⊎_elim (λ (z : n ≤ r). let p : i + run_length flat i ≡ i + 1 + r = omega arith in ap (λ (k : ℕ). eq (at flat i) (at flat k)) (sym p) ∙ e) (equal_in (at flat i) (length flat - i - 1) (i + 1) r) (le-or-lt n r) in
          let more = equal-to (at flat i) (n + 1) (length flat - i - 1) (i + 1) (omega arith) all in
          absurd (omega arith)

  pub run_from : (n : ℕ) → n < length flat → ((r : ℕ) → r ≤ n → eq (at flat 0) (at flat r) ≡ true) → n + 1 ≤ run_length flat 0
  unfolding run_length
  run_from n h e =
      let m = equal-to (at flat 0) n (length flat - 0 - 1) (0 + 1) (omega arith) (λ r l. let p : 0 + 1 + r ≡ r + 1 = omega arith in ap (λ (k : ℕ). eq (at flat 0) (at flat k)) p ∙ e (r + 1) (omega arith)) in
      omega (arith, m)

  -- the runs are all of the list
  reaches : (n k : ℕ) → length flat - run_start flat k ≤ n → run_start flat k ≤ length flat → (j : ℕ) × (run_start flat j ≡ length flat)
  reaches zero k h l = (k, omega arith)
  reaches (suc n) k h l =
      let m = run-most flat (run_start flat k) in
      let o = run-least flat (run_start flat k) in
      let s = start-more flat k in
      ⊎_elim (λ g. (k, omega arith)) (λ g. reaches n (k + 1) (omega (arith, m g)) (omega (arith, m g))) (le-or-lt (length flat) (run_start flat k))

  pub runs_end : run_start flat (distinct_knots flat) ≡ length flat
  unfolding run_start
  runs_end =
      let r = reaches (length flat) 0 (omega arith) (omega arith) in
      ap (run_start flat) (distinct_is flat r.0 r.1) ∙ r.1

  abbrev D : ℕ
  D = distinct_knots flat

  pub distinct-few : D ≤ length flat
  unfolding run_start
  distinct-few = let s = start-rises flat 0 D (omega arith) in omega (arith, runs_end)

  pub run_in : (j : ℕ) → j < D → run_start flat j + run_length flat (run_start flat j) ≤ length flat
  run_in j h = omega (arith, start-more flat j, start-rises flat (j + 1) D (omega arith), runs_end)

  -- a run of x after the places before it
  run-taken : (m i : ℕ) (x : Float) → i + m ≤ length flat → ((r : ℕ) → r < m → at flat (i + r) ≡ x) → take i flat ++ replicate m x ≡ take (i + m) flat
  run-taken zero i x h same = let e : i + zero ≡ i = omega arith in append-nil (take i flat) ∙ ap (λ (n : ℕ). take n flat) (sym e)
  run-taken (suc m) i x h same =
      let here : i + 0 ≡ i = omega arith in
      let there : suc i + m ≡ i + suc m = omega arith in
      sym (append_assoc (take i flat) (x ∷ []) (replicate m x))
      ∙ ap (λ (y : Float). (take i flat ++ (y ∷ [])) ++ replicate m x) (sym (same 0 (omega arith)) ∙ ap (at flat) here)
      ∙ ap (λ (l : List Float). l ++ replicate m x) (sym (take-suc flat i nan (omega arith)))
      ∙ run-taken m (suc i) x (omega arith) (λ r l. let e : suc i + r ≡ i + suc r = omega arith in ap (at flat) e ∙ same (suc r) (omega arith))
      ∙ ap (λ (n : ℕ). take n flat) there

  module _ (same : (j : ℕ) → j < D → (r : ℕ) → r < run_length flat (run_start flat j) → at flat (run_start flat j + r) ≡ at flat (run_start flat j)) where
    abbrev pub run : ℕ → List Float
    run j = replicate (multiplicity_at flat j) (knot_at flat j)

    joined-runs : (k : ℕ) → k ≤ D → joined k run ≡ take (run_start flat k) flat
    unfolding joined run_start multiplicity_at knot_at
    joined-runs zero h = refl
    joined-runs (suc k) h =
        ap (λ (l : List Float). l ++ replicate (run_length flat (run_start flat k)) (at flat (run_start flat k))) (joined-runs k (omega arith))
        ∙ run-taken (run_length flat (run_start flat k)) (run_start flat k) (at flat (run_start flat k)) (run_in k h) (same k h)

    pub runs-back : joined D run ≡ flat
    runs-back = joined-runs D (omega arith) ∙ ap (λ (n : ℕ). take n flat) runs_end ∙ take-length flat
