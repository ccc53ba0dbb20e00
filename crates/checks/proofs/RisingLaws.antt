-- The parameters of a ladder that passes the checks never fall, and lie from 0 to 1 without a minus sign: running sums of steps never fall, and a sum times the rounded
-- reciprocal of the last is at most 1. Assumes nothing.
use mathlib.Core.Path.{◌≡◌, refl, sym, subst, ◌∙◌}
use mathlib.Core.List.{List}
use mathlib.Core.Option.{none, some}
use Prim.Native.Nat.{ℕ, ◌+◌, ◌-◌, ◌*◌, ◌^◌, ◌≤◌, ◌<◌}
use native.Mathlib.Nat.{le_refl, le_of_eq, le_of_lt}
use native.Mathlib.Omega.{arith}
use mathlib.Core.Bool.{Bool, true, false, not, ◌&&◌, ◌||◌, cond, true≢false}
use borrow.Author.Tests.{ne_eqb}
use lib.Dec.{T, ltb, eqb, ltb→lt, eqb→eq}
use lib.ListN.{length}
use lib.Ieee.{Float, nan, inf, fin, binary64, up, down, le, neg, of_bits}
use lib.Ieee.Fits.{down_pos, and_l, and_r}
use Rattle.places.specs.Places.{some_below}
use Rattle.places.proofs.ListLaws.{any_place}
use Rattle.places.proofs.PlaceLaws.{list_of-at, some_false}
use Rattle.geometry.specs.declared.Point.{Point}
use Rattle.geometry.specs.Doubles.{◌⊗◌, ◌⊘◌, nought, one, at}
use Rattle.geometry.specs.Nearest.{units_in_one, in_units}
use Rattle.geometry.specs.Points.{point_at, distance}
use Rattle.geometry.proofs.ExactLaws.{Exact}
use Rattle.geometry.proofs.FloatOrder.{holds, test}
use Rattle.geometry.proofs.ShareLaws.{Share, nought-share, one-share, share-from_zero, part-to_one, part-share, part-order}
use Rattle.geometry.proofs.SizeLaws.{Size}
use Rattle.bspline.specs.Refusals.{outside, factor_verdict, pass}
use Rattle.bspline.specs.Spans.{NeverFalls}
use Rattle.bspline.proofs.CheckLaws.{both_pass, test_fails}
use Rattle.knots.specs.declared.Metric.{Metric}
use Rattle.knots.specs.Parameters.{confusion, chords, step_of, step_sums, from_zero_to_one, point_parameters}
use Rattle.knots.proofs.ParameterLaws.{unless-some, sum_to, sums_at, length-zero_to-one}
use Rattle.knots.proofs.StepLaws.{Bounded, Step, chord-step, spacing-step, least_step, sums-order, sums-exact, total-least, total-most}
use Rattle.checks.specs.declared.Call.{Call}
use Rattle.checks.specs.LadderChecks.{Lent, point_count, shape_verdict, count_verdict, room_verdict, room_of, coordinates_verdict, ladder_verdict, ladder_checks}
use Rattle.checks.proofs.CheckLaws.{checks_give}

-- ---- sizes that the checks 10 and 17 let pass

-- below or level
at_most : (a b : ℕ) (level : Bool) → (T level → a ≡ b) → T (ltb a b || (level && true)) → a ≤ b
at_most a b level same t = go (ltb a b) (ltb→lt a b) t
  where
    go : (w : Bool) → (T w → a < b) → T (w || (level && true)) → a ≤ b
    go true h t = le_of_lt (h tt)
    go false h t = le_of_eq (same (and_l level true t))

million : (x : Float) → T (le x (of_bits binary64 0x412e_8480_0000_0000)) → T (le (neg (of_bits binary64 0x412e_8480_0000_0000)) x) → Size x (2 ^ 20)
unfolding le neg of_bits
million nan h k = absurd h
million (inf true) h k = absurd k
million (inf false) h k = absurd h
million (fin false m e) h k = let l = at_most (m * up e * 1) (1000000 * down e) _ (eqb→eq (m * up e * 1) (1000000 * down e)) h in omega arith
million (fin true m e) h k = let l = at_most (m * up e * 1) (1000000 * down e) _ (λ s. sym (eqb→eq (1000000 * down e) (m * up e * 1) s)) k in omega arith

four : (x : Float) → T (le x (of_bits binary64 0x4010_0000_0000_0000)) → T (le (of_bits binary64 0x3fd0_0000_0000_0000) x) → Size x 4
unfolding le of_bits
four nan h k = absurd h
four (inf true) h k = absurd k
four (inf false) h k = absurd h
four (fin false m e) h k = let l = at_most (m * up e * 1) (4 * down e) _ (eqb→eq (m * up e * 1) (4 * down e)) h in omega arith
four (fin true m e) h k =
    let z : 1 * down e ≡ 0 = eqb→eq (1 * down e) 0 (and_r (eqb (1 * down e) (m * up e * 4)) (eqb (1 * down e) 0) k) in
    let d = down_pos e in
    absurd (omega arith)

both_hold : (a b : Bool) → not (a && b) ≡ false → (a ≡ true) × (b ≡ true)
both_hold true true e = (refl, refl)
both_hold true false e = absurd (true≢false e)
both_hold false b e = absurd (true≢false e)

inside : (x : Float) → outside x ≡ false → Size x (2 ^ 20)
unfolding outside
inside x e = let b = both_hold _ _ e in million x (test b.0) (test b.1)

factor_size : (f : Float) → factor_verdict f ≡ pass → Size f 4
unfolding factor_verdict
factor_size f e = let b = both_hold _ _ (test_fails _ _ e) in four f (test b.0) (test b.1)

-- ---- the parameters of points that are not confused

-- n parameters that never fall, each from 0 to 1 without a minus sign
pub record Rising (params : List Float) (n : ℕ) : Type 0 where
  pub long : length params ≡ n
  pub shares : (k : ℕ) → k < n → Share (at params k)
  pub ascending : NeverFalls params

module _ (v : Metric) (n : ℕ) (point : ℕ → Point) (two : 2 ≤ n) (few : n ≤ 1024) (small : Size v.factor 4) (bounded : (k : ℕ) → k < n → Bounded (point k)) where
  abbrev ds : List Float
  ds = chords v.factor n point

  abbrev f : ℕ → Float
  f k = step_of v.spacing (at ds k)

  abbrev sum : ℕ → Float
  sum k = at (step_sums v.spacing n ds) k

  abbrev total : Float
  total = sum (n - 1)

  abbrev g : ℕ → Float
  g k = sum k ⊗ (one ⊘ total)

  module _ (apart : (k : ℕ) → k < n - 1 → le (at ds k) confusion ≡ false) where
    steps : (k : ℕ) → k < n - 1 → Step (f k)
    unfolding chords
    steps k h =
        let is : at ds k ≡ distance v.factor (point (k + 1)) (point k) = list_of-at (n - 1) (λ k. distance v.factor (point (k + 1)) (point k)) k nan h in
        let step = chord-step v.factor (point (k + 1)) (point k) small (bounded (k + 1) (omega arith)) (bounded k (omega arith)) (subst (λ (x : Float). le x confusion ≡ false) is (apart k h)) in
        spacing-step v.spacing (at ds k) (subst Step (sym is) step)

    abbrev W : ℕ → ℕ
    W k = in_units (sum_to f k)

    exact : (k : ℕ) → k ≤ n - 1 → Exact (sum k) (W k)
    unfolding step_sums
    exact k h = subst (λ (x : Float). Exact x (W k)) (sym (sums_at f (n - 1) k h)) (sums-exact f (n - 1) (omega arith) steps k h)

    order : (j k : ℕ) → j ≤ k → k ≤ n - 1 → W j ≤ W k
    order j k h l = sums-order f (n - 1) (omega arith) steps j k h l

    least : least_step ≤ W (n - 1)
    least = total-least f (n - 1) (omega arith) steps (omega arith)

    most : W (n - 1) ≤ 2 ^ 40 * units_in_one
    most = total-most f (n - 1) (omega arith) steps

    last : Exact total (W (n - 1))
    last = exact (n - 1) (le_refl (n - 1))

    abbrev P : ℕ → Float
    P k = cond (eqb k 0) nought (cond (eqb k (n - 1)) one (g k))

    share-at : (k : ℕ) → k ≤ n - 1 → Share (P k)
    share-at k h = go (eqb k 0) (eqb k (n - 1))
      where
        go : (b c : Bool) → Share (cond b nought (cond c one (g k)))
        go true c = nought-share
        go false true = one-share
        go false false = part-share total (W (n - 1)) last least most (sum k) (W k) (exact k h) (order k (n - 1) h (le_refl (n - 1)))

    rises : (k : ℕ) → k + 1 ≤ n - 1 → le (P k) (P (k + 1)) ≡ true
    rises k h = go (eqb k 0) refl (eqb (k + 1) (n - 1)) refl
      where
        go : (b : Bool) → eqb k 0 ≡ b → (c : Bool) → eqb (k + 1) (n - 1) ≡ c → le (P k) (P (k + 1)) ≡ true
        go true p c q = rw p (share-from_zero (P (k + 1)) (share-at (k + 1) h))
        go false p true q =
            rw (p, ne_eqb k (n - 1) (λ e. omega arith), ne_eqb (k + 1) 0 (λ e. omega arith), q)
            (holds _ (part-to_one total (W (n - 1)) last least most (sum k) (W k) (exact k (omega arith)) (order k (n - 1) (omega arith) (le_refl (n - 1)))))
        go false p false q =
            rw (p, ne_eqb k (n - 1) (λ e. omega arith), ne_eqb (k + 1) 0 (λ e. omega arith), q)
            (holds _ (part-order total (W (n - 1)) last least most (sum k) (sum (k + 1)) (W k) (W (k + 1)) (exact k (omega arith)) (exact (k + 1) h) (order k (k + 1) (omega arith) h)))

    rising : Rising (from_zero_to_one n g) n
    unfolding from_zero_to_one
    rising =
        let here : (k : ℕ) → k < n → at (from_zero_to_one n g) k ≡ P k = λ k h. list_of-at n P k nan h in
        let long = length-zero_to-one n g in
        record {
          long = long;
          shares = λ k h. subst Share (sym (here k h)) (share-at k (omega arith));
          ascending = λ k h. let l : k + 1 < n = omega arith in rw (here k (omega arith), here (k + 1) l) (rises k (omega arith));
        }

  found : {A : Type 0} (b : Bool) (x y : A) → cond b none (some x) ≡ some y → b ≡ false
  found true x y e = let z : ◌≡◌ {A = ℕ} 0 1 = cc in absurd (omega arith)
  found false x y e = refl

  parameters_rise : (params : List Float) → point_parameters v n point ≡ some params → Rising params n
  unfolding point_parameters
  parameters_rise params e =
      let b = some_below (n - 1) (λ k. le (at ds k) confusion) in
      subst (λ (p : List Float). Rising p n) (unless-some b (from_zero_to_one n g) params e) (rising (λ k h. some_false (n - 1) (λ k. le (at ds k) confusion) (found b (from_zero_to_one n g) params e) k h))

-- ---- a ladder that passes the checks

module _ (call : Call) (s : List Float) (degree : ℕ) (v : Metric) (l : Lent) (e : ladder_checks call s degree v l ≡ pass) where
  last_two : (factor_verdict v.factor ≡ pass) × (coordinates_verdict s ≡ pass)
  unfolding ladder_verdict
  last_two =
      let a = both_pass (shape_verdict (length s) degree) _ e in
      let b = both_pass (count_verdict call (point_count s) degree) _ a.1 in
      let c = both_pass (room_verdict (point_count s) degree (room_of l)) _ b.1 in
      both_pass (factor_verdict v.factor) (coordinates_verdict s) c.1

  coordinate : (k : ℕ) → k < length s → Size (at s k) (2 ^ 20)
  unfolding coordinates_verdict
  coordinate k h = inside (at s k) (some_false (length s) (λ j. outside (at s j)) (sym (any_place outside nan s) ∙ test_fails _ _ last_two.1) k h)

  pub ladder-rises : (params : List Float) → point_parameters v (point_count s) (point_at s) ≡ some params → Rising params (point_count s)
  unfolding point_at
  ladder-rises params p =
      let shape = (checks_give call s degree v l e).0 in
      parameters_rise v (point_count s) (point_at s) shape.least shape.most (factor_size v.factor last_two.0)
      (λ k h. (coordinate (3 * k) (omega arith), coordinate (3 * k + 1) (omega arith), coordinate (3 * k + 2) (omega arith))) params p
