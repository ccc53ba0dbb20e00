-- What chords add to the parameters, between points of 1,048,576 at most and with a factor of 4 at most: steps are neither too small nor too large to be divided by their
-- sum, and their running sums never fall. Assumes nothing.
use mathlib.Core.Path.{◌≡◌, refl, sym, ap, ◌∙◌, subst}
use mathlib.Core.Logic.{◌⊎◌, inl, inr, ⊎_elim}
use mathlib.Core.Bool.{Bool, false, not}
use Prim.Native.Nat.{ℕ, zero, suc, ◌+◌, ◌-◌, ◌*◌, ◌^◌, ◌≤◌, ◌<◌, zero-le}
use native.Mathlib.Nat.{le_refl, le_trans, le_of_eq, lt_of_lt_of_le, lt_of_le_of_lt, not-le_of_lt, eq-zero-or-pos, mul-le-mul, mul-le-mul_right}
use native.Mathlib.Numerals.{add-one}
use native.Mathlib.Omega.{arith}
use lib.Dec.{T, lit<, lit≤}
use lib.Pow.{pow_pos}
use lib.Ieee.{Float, binary64, round, le, fits, is_nan, of_bits}
use lib.Ieee.Bits.{of_bits-fits}
use lib.Ieee.Fits.{add-fits}
use lib.Ieee.Order.{round_mono}
use lib.Ieee.Scale.{grid}
use Rattle.places.proofs.PlaceLaws.{le-or-lt}
use Rattle.geometry.specs.declared.Point.{Point}
use Rattle.geometry.specs.Doubles.{◌⊖◌, ◌⊗◌, nought}
use Rattle.geometry.specs.Nearest.{units_in_one, in_units, NearestToRoot}
use Rattle.geometry.specs.Points.{squared_distance, distance}
use Rattle.geometry.specs.Root.{sqrt_of}
use Rattle.geometry.proofs.ExactLaws.{Exact, exact-plain, exact_units, plain-exact, exact_same, nought-exact, exact-le, le-exact, round_exact, round-most, add-exact}
use Rattle.geometry.proofs.FloatOrder.{holds, test, above-le}
use Rattle.geometry.proofs.PointLaws.{distance_root, squared-fits}
use Rattle.geometry.proofs.RootOrder.{root_nan}
use Rattle.geometry.proofs.SizeLaws.{Size, size-sub, size-mul, square-exact, sum-exact, root_nearest, root-most, round_again}
use Rattle.geometry.proofs.UnitLaws.{units_pos}
use Rattle.knots.specs.declared.Spacing.{Spacing}
use Rattle.knots.specs.declared.Spacing.TheVariants.{Chordal, Centripetal}
use Rattle.knots.specs.Parameters.{confusion, step_of}
use Rattle.knots.proofs.ParameterLaws.{sum_to, sum-none, sum_more}

-- ---- the square of a chord

-- each coordinate at most 2 ^ 20 in size
abbrev pub Bounded : Point → Type 0
Bounded p = Size p.x (2 ^ 20) × Size p.y (2 ^ 20) × Size p.z (2 ^ 20)

squares : (f : Float) (p q : Point) → Size f 4 → Bounded p → Bounded q → (g : ℕ) × Exact (squared_distance f p q) g × (g ≤ 2 ^ 48 * units_in_one)
unfolding squared_distance
squares f p q s h k =
    let across = size-mul (q.x ⊖ p.x) f (2 ^ 21) 4 (size-sub q.x p.x (2 ^ 20) (2 ^ 20) k.0 h.0 (lit≤ tt)) s (lit≤ tt) in
    let x = square-exact ((q.x ⊖ p.x) ⊗ f) (2 ^ 23) across (lit≤ tt) in
    let y = square-exact (q.y ⊖ p.y) (2 ^ 21) (size-sub q.y p.y (2 ^ 20) (2 ^ 20) k.1 h.1 (lit≤ tt)) (lit≤ tt) in
    let z = square-exact (q.z ⊖ p.z) (2 ^ 21) (size-sub q.z p.z (2 ^ 20) (2 ^ 20) k.2 h.2 (lit≤ tt)) (lit≤ tt) in
    let two = sum-exact _ _ x.0 y.0 (2 ^ 47) x.1 y.1 (more x.0 y.0 units_in_one x.2 y.2) (lit≤ tt) in
    sum-exact _ _ two.0 z.0 (2 ^ 48) two.1 z.1 (most two.0 z.0 units_in_one two.2 z.2) (lit≤ tt)
  where
    more : (a b u : ℕ) → a ≤ 2 ^ 46 * u → b ≤ 2 ^ 42 * u → a + b ≤ 2 ^ 47 * u
    more a b u h k = omega arith

    most : (a b u : ℕ) → a ≤ 2 ^ 47 * u → b ≤ 2 ^ 42 * u → a + b ≤ 2 ^ 48 * u
    most a b u h k = omega arith

-- ---- steps: from 2 ^ -24 to 2 ^ 25

abbrev pub least_step : ℕ
least_step = 2 ^ 1050

abbrev longest : ℕ
longest = 2 ^ 25

pub record Step (x : Float) : Type 0 where
  pub held : T (fits binary64 x)
  pub exact : Exact x (in_units x)
  pub least : least_step ≤ in_units x
  pub most : in_units x ≤ longest * units_in_one

confusion-exact : Exact confusion (7555786372591432 * 2 ^ 998)
unfolding of_bits
confusion-exact = (refl, refl)

-- a number that is not at or below the bound is at or above it
beyond : (x : Float) → is_nan x ≡ false → le x confusion ≡ false → T (le confusion x)
unfolding is_nan of_bits
beyond x n e = test (above-le confusion x (subst (λ (b : Bool). T (not b)) (sym number) tt) (subst (λ (b : Bool). T (not b)) (sym n) tt) e)
  where
    number : is_nan confusion ≡ false
    number = refl

-- the chord between two points that are not confused
pub chord-step : (f : Float) (p q : Point) → Size f 4 → Bounded p → Bounded q → le (distance f p q) confusion ≡ false → Step (distance f p q)
unfolding sqrt_of of_bits
chord-step f p q small h k e = go (eq-zero-or-pos s.0)
  where
    x : Float
    x = squared_distance f p q

    s : (g : ℕ) × Exact x g × (g ≤ 2 ^ 48 * units_in_one)
    s = squares f p q small h k

    root : distance f p q ≡ sqrt_of x
    root = distance_root f p q

    number : is_nan (distance f p q) ≡ false
    number = ap is_nan root ∙ root_nan x ∙ ap not (holds (le nought x) (exact-le nought x 0 s.0 nought-exact s.1 zero-le))

    above : T (le confusion (distance f p q))
    above = beyond (distance f p q) number e

    go : (s.0 ≡ 0) ⊎ (0 < s.0) → Step (distance f p q)
    go (inl z) =
        let is : x ≡ nought = exact_same x nought 0 (squared-fits f p q) (of_bits-fits binary64 0) (subst (Exact x) z s.1) nought-exact in
        let none : Exact (distance f p q) 0 = subst (λ (y : Float). Exact y 0) (sym (root ∙ ap sqrt_of is)) nought-exact in
        absurd (not-le_of_lt (lit< tt) (le-exact confusion (distance f p q) (7555786372591432 * 2 ^ 998) 0 confusion-exact none above))
    go (inr c) =
        let near = root_nearest x s.0 (squared-fits f p q) s.1 c in
        let exact = plain-exact (sqrt_of x) near.held near.is_plain in
        subst Step (sym root)
        (record {
          held = near.held;
          exact = exact;
          least = le_trans (lit≤ tt) (le-exact confusion (sqrt_of x) (7555786372591432 * 2 ^ 998) (in_units (sqrt_of x)) confusion-exact exact (subst (λ (y : Float). T (le confusion y)) root above));
          most = root-most x s.0 (squared-fits f p q) s.1 c (2 ^ 24) s.2;
        })

-- and its root: that of 2 ^ -24 at least is no less
abbrev small : Float
small = of_bits binary64 0x3e70_0000_0000_0000

small-exact : Exact small least_step
unfolding of_bits
small-exact = (refl, refl)

root-step : (x : Float) → Step x → Step (sqrt_of x)
root-step x h =
    record {
      held = near.held;
      exact = plain-exact (sqrt_of x) near.held near.is_plain;
      least = ⊎_elim (λ l. l) (λ l. absurd (too_small near l)) (le-or-lt least_step (in_units (sqrt_of x)));
      most = root-most x (in_units x) h.held h.exact some (2 ^ 24) (le_trans h.most (lit≤ tt));
    }
  where
    some : 0 < in_units x
    some = lt_of_lt_of_le (pow_pos 1050) h.least

    near : NearestToRoot x (sqrt_of x)
    near = root_nearest x (in_units x) h.held h.exact some

    twice : (r y : ℕ) → r < y → r + y ≤ 2 * y
    twice r y h = omega arith

    too_small : NearestToRoot x (sqrt_of x) → in_units (sqrt_of x) < least_step → ⊥
    too_small n l =
        let r = in_units (sqrt_of x) in
        let is : in_units small ≡ least_step = exact_units small least_step small-exact in
        let less = n.below small (of_bits-fits binary64 0x3e70_0000_0000_0000) (exact-plain small least_step small-exact) (subst (λ (y : ℕ). r < y) (sym is) l) in
        let less' : 4 * (in_units x * 2 ^ 1074) < (r + least_step) * (r + least_step) = subst (λ (y : ℕ). 4 * (in_units x * 2 ^ 1074) < (r + y) * (r + y)) is less in
        let most : (r + least_step) * (r + least_step) ≤ 2 * least_step * (2 * least_step) = mul-le-mul (twice r least_step l) (twice r least_step l) in
        let low : 4 * (least_step * 2 ^ 1074) ≤ 4 * (in_units x * 2 ^ 1074) = mul-le-mul {n₁ = 4} {n₂ = 4} (lit≤ tt) (mul-le-mul_right (2 ^ 1074) h.least) in
        not-le_of_lt (lt_of_le_of_lt low (lt_of_lt_of_le less' most)) (lit≤ tt)

-- what a chord adds, in both spacings
pub spacing-step : (v : Spacing) (x : Float) → Step x → Step (step_of v x)
unfolding step_of
spacing-step Chordal x h = h
spacing-step Centripetal x h = root-step x h

-- ---- running sums of steps never fall

-- the least step, as it would be rounded
least-exact : Exact (round binary64 false least_step units_in_one) least_step
unfolding round
least-exact = (refl, refl)

module _ (f : ℕ → Float) (n : ℕ) (few : n ≤ 1024) (steps : (k : ℕ) → k < n → Step (f k)) where
  -- the sum before step k, in units
  abbrev S : ℕ → ℕ
  S k = in_units (sum_to f k)

  record Summed (k : ℕ) : Type 0 where
    held : T (fits binary64 (sum_to f k))
    exact : Exact (sum_to f k) (S k)
    most : S k ≤ k * longest * units_in_one

  none-summed : Summed 0
  none-summed =
      let is : S 0 ≡ 0 = ap in_units (sum-none f) ∙ exact_units nought 0 nought-exact in
      record {
        held = subst (λ (x : Float). T (fits binary64 x)) (sym (sum-none f)) (of_bits-fits binary64 0);
        exact = subst (λ (a : ℕ). Exact (sum_to f 0) a) (sym is) (subst (λ (x : Float). Exact x 0) (sym (sum-none f)) nought-exact);
        most = le_trans (le_of_eq is) zero-le;
      }

  module _ (k : ℕ) (h : k < n) (before : Summed k) where
    abbrev a : ℕ
    a = in_units (f k)

    is_round : sum_to f (k + 1) ≡ round binary64 false (S k + a) units_in_one
    is_round = sum_more f k ∙ add-exact (sum_to f k) (f k) (S k) a before.exact (steps k h).exact

    within : S k + a ≤ (k + 1) * longest * units_in_one
    within = both (S k) a k units_in_one before.most (steps k h).most
      where
        both : (s a k u : ℕ) → s ≤ k * longest * u → a ≤ longest * u → s + a ≤ (k + 1) * longest * u
        both s a k u h l = omega arith

    whole : (k + 1) * longest ≤ 2 ^ 53
    whole = omega arith

    sum-rounded : Exact (sum_to f (k + 1)) (grid binary64 (S k + a) units_in_one)
    sum-rounded = subst (λ (x : Float). Exact x (grid binary64 (S k + a) units_in_one)) (sym is_round) (round_exact (S k + a) units_in_one ((k + 1) * longest) units_pos within whole)

    next-summed : Summed (k + 1)
    next-summed =
        let is : S (k + 1) ≡ grid binary64 (S k + a) units_in_one = exact_units (sum_to f (k + 1)) (grid binary64 (S k + a) units_in_one) sum-rounded in
        record {
          held = subst (λ (x : Float). T (fits binary64 x)) (sym (sum_more f k)) (add-fits binary64 (sum_to f k) (f k));
          exact = subst (Exact (sum_to f (k + 1))) (sym is) sum-rounded;
          most = le_trans (le_of_eq is) (round-most (S k + a) units_in_one ((k + 1) * longest) units_pos within whole);
        }

    -- a sum is at or above a double whose exact value is no more
    above_double : (b : ℕ) (x : Float) → round binary64 false b units_in_one ≡ x → Exact x b → b ≤ S k + a → b ≤ S (k + 1)
    above_double b x again exact l =
        le-exact x (sum_to f (k + 1)) b (S (k + 1)) exact next-summed.exact
        (subst (λ (y : Float). T (le y (sum_to f (k + 1)))) again
        (subst (λ (y : Float). T (le (round binary64 false b units_in_one) y)) (sym is_round) (round_mono binary64 b units_in_one (S k + a) units_in_one units_pos units_pos (mul-le-mul_right units_in_one l))))

    grows : S k ≤ S (k + 1)
    grows = above_double (S k) (sum_to f k) (round_again (sum_to f k) (S k) before.held before.exact (le_trans before.most (mul-le-mul_right units_in_one small))) before.exact (more (S k) a)
      where
        small : k * longest ≤ 2 ^ 40
        small = omega arith

        more : (s a : ℕ) → s ≤ s + a
        more s a = omega arith

    at_least : least_step ≤ S (k + 1)
    at_least = above_double least_step (round binary64 false least_step units_in_one) refl least-exact (le_trans (steps k h).least (more (S k) a))
      where
        more : (s a : ℕ) → a ≤ s + a
        more s a = omega arith

  summed : (k : ℕ) → k ≤ n → Summed k
  summed zero h = none-summed
  summed (suc k) h = subst Summed (add-one k) (next-summed k h (summed k (omega arith)))

  far : (d k : ℕ) → k + d ≤ n → S k ≤ S (k + d)
  far zero k h = let e : k + zero ≡ k = omega arith in le_of_eq (ap S (sym e))
  far (suc d) k h =
      let e : k + suc d ≡ k + d + 1 = omega arith in
      le_trans (far d k (omega arith)) (le_trans (grows (k + d) (omega arith) (summed (k + d) (omega arith))) (le_of_eq (ap S (sym e))))

  pub sums-order : (j k : ℕ) → j ≤ k → k ≤ n → S j ≤ S k
  sums-order j k h l = let e : j + (k - j) ≡ k = omega arith in le_trans (far (k - j) j (omega arith)) (le_of_eq (ap S e))

  pub sums-exact : (k : ℕ) → k ≤ n → Exact (sum_to f k) (S k)
  sums-exact k h = (summed k h).exact

  pub total-least : 1 ≤ n → least_step ≤ S n
  total-least h =
      let e : n - 1 + 1 ≡ n = omega arith in
      le_trans (at_least (n - 1) (omega arith) (summed (n - 1) (omega arith))) (le_of_eq (ap S e))

  pub total-most : S n ≤ 2 ^ 40 * units_in_one
  total-most = le_trans (summed n (le_refl n)).most (mul-le-mul_right units_in_one small)
    where
      small : n * longest ≤ 2 ^ 40
      small = omega arith
