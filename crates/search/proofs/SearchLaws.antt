-- The states of a search, for every test of counts: what each keeps, that a try narrows it, and what a loop over `next`, `fitted` and `failed` cites
-- (`Running` and the laws after it). Assumes nothing.
use mathlib.Core.Path.{◌≡◌, refl, sym, ◌∙◌, ap}
use mathlib.Core.Bool.{Bool, true, false, cond}
use Prim.Native.Nat.{ℕ, zero, suc, ◌+◌, ◌*◌, ◌/◌, ◌≤◌, ◌<◌}
use native.Mathlib.Omega.{arith}
use lib.Dec.{leb}
use Rattle.std.specs.Prelude.{Some, None}
use Rattle.std.proofs.lemmas.Bool.Decides.{nat_tests}
use borrow.Author.Tests.{ltb-true, leb-true, leb-false, le-leb, lt-leb}
use Rattle.search.specs.declared.Search.{Search}
use Rattle.search.specs.Bounds.{Bounded}
use Rattle.search.specs.Search.{start, width, galloping, count_of, next_of, fitted_at, failed_at, turn, turns, answer, fewest}

-- ---- one turn

-- the count to try lies strictly between
pub between : (s : Search) → 1 ≤ s.step → 1 < width s → (s.low < count_of s) × (count_of s < s.high)
between s p w = go (galloping s) refl
  where
    go : (b : Bool) → galloping s ≡ b → (s.low < s.low + cond b s.step (width s / 2)) × (s.low + cond b s.step (width s / 2) < s.high)
    go true e = let h : s.step < width s = ltb-true _ _ e in omega arith
    go false e = omega arith

pub step_kept : (s : Search) (c : ℕ) → 1 ≤ s.step → 1 ≤ (failed_at s c).step
step_kept s c p = go (galloping s)
  where
    go : (b : Bool) → 1 ≤ cond b (s.step * 2) s.step
    go true = omega arith
    go false = omega arith

-- what a turn of an open search, and one of a search that is over, computes to
pub turn_over : (passes : ℕ → Bool) (s : Search) → width s ≤ 1 → turn passes s ≡ s
unfolding turn
turn_over passes s h = rw (le-leb _ _ h)

pub turn-fitted : (passes : ℕ → Bool) (s : Search) → 1 < width s → passes (count_of s) ≡ true → turn passes s ≡ fitted_at s (count_of s)
unfolding turn
turn-fitted passes s h e = rw (lt-leb _ _ h, e)

pub turn_failed : (passes : ℕ → Bool) (s : Search) → 1 < width s → passes (count_of s) ≡ false → turn passes s ≡ failed_at s (count_of s)
unfolding turn
turn_failed passes s h e = rw (lt-leb _ _ h, e)

-- ---- what holds of every state
pub record Holds (passes : ℕ → Bool) (degree last : ℕ) (s : Search) : Type 0 where
  pub steps : 1 ≤ s.step
  pub above : degree ≤ s.low
  pub below : s.high ≤ last
  pub apart : s.low < s.high
  pub fails : degree < s.low → passes s.low ≡ false
  pub fits : s.high < last → passes s.high ≡ true

module _ (passes : ℕ → Bool) (degree last : ℕ) where
  pub start_holds : degree < last → Holds passes degree last (start degree last)
  start_holds h =
      record { steps = omega arith; above = omega arith; below = omega arith; apart = h; fails = λ l. absurd (no l); fits = λ l. absurd (no l) }
    where
      no : {n : ℕ} → n < n → ⊥
      no l = omega arith

  pub fitted_holds : (s : Search) → 1 < width s → passes (count_of s) ≡ true → Holds passes degree last s → Holds passes degree last (fitted_at s (count_of s))
  fitted_holds s w e h =
      let b = between s h.steps w in
      record { steps = h.steps; above = h.above; below = omega (arith, b.1, h.below); apart = b.0; fails = h.fails; fits = λ _. e }

  pub failed_holds : (s : Search) → 1 < width s → passes (count_of s) ≡ false → Holds passes degree last s → Holds passes degree last (failed_at s (count_of s))
  failed_holds s w e h =
      let b = between s h.steps w in
      record { steps = step_kept s (count_of s) h.steps; above = omega (arith, b.0, h.above); below = h.below; apart = b.1; fails = λ _. e; fits = h.fits }

  -- a turn by its three cases
  pub turn_cases : (P : Search → Type 0) (s : Search)
      → (width s ≤ 1 → P s)
      → (1 < width s → passes (count_of s) ≡ true → P (fitted_at s (count_of s)))
      → (1 < width s → passes (count_of s) ≡ false → P (failed_at s (count_of s)))
      → P (turn passes s)
  turn_cases P s a b c = go (leb (width s) 1) (passes (count_of s)) refl refl
    where
      go : (o t : Bool) → leb (width s) 1 ≡ o → passes (count_of s) ≡ t → P (turn passes s)
      go true t e f = let h : width s ≤ 1 = leb-true _ _ e in rw (turn_over passes s h) (a h)
      go false true e f = let h : 1 < width s = leb-false _ _ e in rw (turn-fitted passes s h f) (b h f)
      go false false e f = let h : 1 < width s = leb-false _ _ e in rw (turn_failed passes s h f) (c h f)

  pub turn_holds : (s : Search) → Holds passes degree last s → Holds passes degree last (turn passes s)
  turn_holds s h = turn_cases (Holds passes degree last) s (λ _. h) (λ w e. fitted_holds s w e h) (λ w e. failed_holds s w e h)

  -- each turn narrows the search until it is over
  pub turn_narrows : (k : ℕ) (s : Search) → Holds passes degree last s → width s ≤ suc (suc k) → width (turn passes s) ≤ suc k
  turn_narrows k s h n =
      turn_cases (λ t. width t ≤ suc k) s (λ w. omega arith)
      (λ w e. let b = between s h.steps w in omega (arith, b.0, b.1))
      (λ w e. let b = between s h.steps w in omega (arith, b.0, b.1))

  pub turns_hold : (k : ℕ) (s : Search) → Holds passes degree last s → Holds passes degree last (turns passes k s)
  unfolding turns
  turns_hold zero s h = h
  turns_hold (suc k) s h = turns_hold k (turn passes s) (turn_holds s h)

  pub turns_over : (k : ℕ) (s : Search) → width s ≤ 1 → turns passes k s ≡ s
  unfolding turns
  turns_over zero s h = refl
  turns_over (suc k) s h = rw (turn_over passes s h) (turns_over k s h)

  pub turns_narrow : (k : ℕ) (s : Search) → Holds passes degree last s → width s ≤ suc k → width (turns passes k s) ≤ 1
  unfolding turns
  turns_narrow zero s h n = n
  turns_narrow (suc k) s h n = turns_narrow k (turn passes s) (turn_holds s h) (turn_narrows k s h n)

  -- a turn more or less does not matter once there are enough
  pub turns_enough : (k : ℕ) (s : Search) → Holds passes degree last s → width s ≤ suc k → turns passes k (turn passes s) ≡ turns passes k s
  unfolding turns
  turns_enough zero s h n = turn_over passes s n
  turns_enough (suc k) s h n = turns_enough k (turn passes s) (turn_holds s h) (turn_narrows k s h n)

  -- ---- a loop that goes by turns: what it keeps, and what it then has at the end
  pub record Running (s : Search) : Type 0 where
    pub holds : Holds passes degree last s
    pub same : turns passes last s ≡ turns passes last (start degree last)

  pub running-start : degree < last → Running (start degree last)
  running-start h = record { holds = start_holds h; same = refl }

  enough : (s : Search) → Holds passes degree last s → turns passes last (turn passes s) ≡ turns passes last s
  enough s h = turns_enough last s h (omega (arith, h.below))

  pub running-fitted : (s : Search) → 1 < width s → passes (count_of s) ≡ true → Running s → Running (fitted_at s (count_of s))
  running-fitted s w e r =
      record { holds = fitted_holds s w e r.holds; same = ap (turns passes last) (sym (turn-fitted passes s w e)) ∙ enough s r.holds ∙ r.same }

  pub running_failed : (s : Search) → 1 < width s → passes (count_of s) ≡ false → Running s → Running (failed_at s (count_of s))
  running_failed s w e r =
      record { holds = failed_holds s w e r.holds; same = ap (turns passes last) (sym (turn_failed passes s w e)) ∙ enough s r.holds ∙ r.same }

  pub running_over : (s : Search) → width s ≤ 1 → Running s → answer last s ≡ fewest passes degree last
  unfolding fewest
  running_over s w r = ap (answer last) (sym (turns_over last s w) ∙ r.same)

-- what `next_of` says
pub next_try : (s : Search) (n : ℕ) → next_of s ≡ Some n → (1 < width s) × (n ≡ count_of s)
next_try s n e = grind (arith, nat_tests)

pub next_done : (s : Search) → next_of s ≡ None → width s ≤ 1
next_done s e = grind (arith, nat_tests)

-- ---- a loop over `next`: what holds of the count that it gives

pub try_between : (s : Search) (n : ℕ) → 1 ≤ s.step → next_of s ≡ Some n → (s.low < n) × (n < s.high)
try_between s n p e = let t = next_try s n e in rw t.1 (between s p t.0)

-- what the arithmetic wants
module _ (passes : ℕ → Bool) (degree last : ℕ) where
  pub running_bounded : (s : Search) → last ≤ 1024 → Running passes degree last s → Bounded s
  running_bounded s k r =
      record { rises = r.holds.steps; apart = omega (arith, r.holds.apart); small = omega (arith, r.holds.below) }

  -- a count to try lies above the degree and below `last`
  pub running-count : (s : Search) (n : ℕ) → next_of s ≡ Some n → Running passes degree last s → (degree < n) × (n < last)
  running-count s n e r =
      let b = try_between s n r.holds.steps e in
      (omega (arith, b.0, r.holds.above), omega (arith, b.1, r.holds.below))

  -- the invariant in words: from here the tries come to the same answer
  pub try-fitted : (s : Search) (n : ℕ) → next_of s ≡ Some n → passes n ≡ true → Running passes degree last s → Running passes degree last (fitted_at s n)
  try-fitted s n e p r =
      let t = next_try s n e in
      rw t.1 (running-fitted passes degree last s t.0 (rw (← t.1) p) r)

  pub try_failed : (s : Search) (n : ℕ) → next_of s ≡ Some n → passes n ≡ false → Running passes degree last s → Running passes degree last (failed_at s n)
  try_failed s n e p r =
      let t = next_try s n e in
      rw t.1 (running_failed passes degree last s t.0 (rw (← t.1) p) r)

  pub running_done : (s : Search) → next_of s ≡ None → Running passes degree last s → answer last s ≡ fewest passes degree last
  running_done s e r = running_over passes degree last s (next_done s e) r
