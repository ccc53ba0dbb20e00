-- The laws of running sums, of lines and of the parameters between 0 and 1. Assumes nothing.
use mathlib.Core.Path.{◌≡◌, refl, sym, ◌∙◌, ap}
use mathlib.Core.Bool.{Bool, true, false, cond, ◌||◌}
use mathlib.Core.List.{List, [], ◌∷◌, ◌++◌, append-nil}
use mathlib.Core.Logic.{⊎_elim}
use mathlib.Core.Option.{Option, none, some}
use Prim.Native.Nat.{ℕ, zero, suc, ◌+◌, ◌-◌, ◌<◌, ◌≤◌}
use native.Mathlib.Nat.{eq-or-lt_of_le, eq-zero-or-pos, ne_of_gt}
use native.Mathlib.Numerals.{add-one}
use native.Mathlib.Omega.{arith}
use borrow.Author.Tests.{eq-eqb, ne_eqb}
use lib.Dec.{eqb}
use lib.ListN.{length, set, drop, length-append, length-set, get_or-append}
use lib.Seq.{get_or_at, get_or-set_same, get_or-set_other, ext_get_or, take_at, drop-length}
use Rattle.std.proofs.Common.{◌≢◌, MatchBool, Ok, Err, below_more as below_next}
use Rattle.bspline.specs.declared.Refusal.TheVariants.{ConfusedPoints}
use lib.Ieee.{Float, nan, le}
use Rattle.places.specs.Places.{laid, list_of, some_below}
use Rattle.places.specs.Regions.{splice}
use Rattle.places.proofs.PlaceLaws.{length-list_of, list_of-at, laid-front, laid-above, laid0-next, laid_none, some-none, some_here, some_next, some_more}
use Rattle.geometry.specs.Doubles.{◌⊕◌, ◌⊗◌, ◌⊘◌, nought, one, at, sum_below}
use Rattle.geometry.specs.Points.{distance}
use Rattle.geometry.specs.declared.Point.{Point}
use Rattle.knots.specs.declared.Metric.{Metric}
use Rattle.knots.specs.declared.Spacing.{Spacing}
use Rattle.knots.specs.declared.parameters.LineChords.{LineChords}
use Rattle.knots.specs.declared.parameters.LineSums.{LineSums}
use Rattle.knots.specs.Parameters.{confusion, chords, step_of, step_sums, running_sums, from_zero_to_one, point_parameters}
use Rattle.knots.specs.Calls.{line_chords, line_sums, Found}

-- a value that a test may leave out: where there is one, it is that value
pub unless-some : {A : Type 0} (b : Bool) (x y : A) → cond b none (some x) ≡ some y → x ≡ y
unless-some true x y e = let z : ◌≡◌ {A = ℕ} 0 1 = cc in absurd (omega arith)
unless-some false x y e = cc

pub when-some : {A : Type 0} (b : Bool) (x y : A) → cond b (some x) none ≡ some y → x ≡ y
when-some true x y e = cc
when-some false x y e = let z : ◌≡◌ {A = ℕ} 0 1 = cc in absurd (omega arith)

-- n places that hold f k each
pub list_by : (n : ℕ) (f : ℕ → Float) (xs : List Float) → length xs ≡ n → ((k : ℕ) → k < n → at xs k ≡ f k) → xs ≡ list_of n f
list_by n f xs l e = ext_get_or nan _ _ (l ∙ sym (length-list_of n f)) (λ k h. let i : k < n = omega (arith, l) in e k i ∙ sym (list_of-at n f k nan i))

-- all places laid
pub laid-whole : (n : ℕ) (f : ℕ → Float) (xs : List Float) → length xs ≡ n → laid 0 n f xs ≡ list_of n f
laid-whole n f xs l = laid-front n f xs (omega arith) ∙ rw (← l, drop-length) (append-nil _)

-- a test of numbers below n, by what its answers mean
pub some_from : (r : Bool) (n : ℕ) (p : ℕ → Bool) → MatchBool r ((k : ℕ) × (k < n) × (p k ≡ true)) ((k : ℕ) → k < n → p k ≡ false) → r ≡ some_below n p
some_from true n p h = sym (some_here n p h.0 h.1 h.2)
some_from false n p h = sym (none_of n (λ k l. h k l))
  where
    none_of : (m : ℕ) → ((k : ℕ) → k < m → p k ≡ false) → some_below m p ≡ false
    none_of zero e = some-none p
    none_of (suc m) e = rw (← add-one m) (some_next m p (none_of m (λ k l. e k (omega arith))) (e m (omega arith)))

-- ---- running sums

-- the last of the sums up to f (k - 1)
unfoldable pub sum_to : (ℕ → Float) → ℕ → Float
sum_to f k = at (running_sums f k) k

module _ (f : ℕ → Float) where
  pub length-sums : (n : ℕ) → length (running_sums f n) ≡ n + 1
  unfolding running_sums
  length-sums zero = refl
  length-sums (suc n) = rw (length-append, length-sums n) (omega arith)

  pub sum-none : sum_to f 0 ≡ nought
  unfolding sum_to running_sums
  sum-none = refl

  pub sum_more : (k : ℕ) → sum_to f (k + 1) ≡ sum_to f k ⊕ f k
  unfolding sum_to running_sums
  sum_more k = rw (add-one k) (get_or_at (running_sums f k) (at (running_sums f k) k ⊕ f k) [] nan (suc k) (length-sums k ∙ add-one k))

  pub sums_at : (n k : ℕ) → k ≤ n → at (running_sums f n) k ≡ sum_to f k
  unfolding running_sums
  sums_at zero k h = let e : k ≡ 0 = omega arith in rw e (sym sum-none)
  sums_at (suc n) k h =
      ⊎_elim
      (λ (e : k ≡ suc n). rw (e, ← add-one n) (rw add-one (get_or_at (running_sums f n) (at (running_sums f n) n ⊕ f n) [] nan (suc n) (length-sums n ∙ add-one n)) ∙ ap (λ (x : Float). x ⊕ f n) (sums_at n n (omega arith)) ∙ sym (sum_more n)))
      (λ (l : k < suc n). get_or-append (running_sums f n) _ nan k (omega (arith, length-sums n)) ∙ sums_at n k (omega arith))
      (eq-or-lt_of_le h)

  -- the sums behind the first
  pub sums_listed : (n : ℕ) → running_sums f n ≡ nought ∷ list_of n (λ k. sum_to f (k + 1))
  unfolding running_sums sum_to list_of
  sums_listed zero = refl
  sums_listed (suc n) =
      ap (λ (l : List Float). l ++ ((at (running_sums f n) n ⊕ f n) ∷ [])) (sums_listed n)
      ∙ ap (λ (x : Float). (nought ∷ list_of n (λ k. sum_to f (k + 1))) ++ (x ∷ [])) (sym (sum_more n))

pub below_none : (f : ℕ → Float) → sum_below 0 f ≡ nought
unfolding sum_below
below_none f = refl

pub below_more : (f : ℕ → Float) (k : ℕ) → sum_below (k + 1) f ≡ sum_below k f ⊕ f k
unfolding sum_below
below_more f k = rw (add-one k)

pub length-chords : (f : Float) (n : ℕ) (point : ℕ → Point) → length (chords f n point) ≡ n - 1
unfolding chords
length-chords f n point = length-list_of (n - 1) _

-- ---- a line's chords, taken up one by one

-- what stands where k of the chords ds are taken up
pub record Chorded (ds : List Float) (k : ℕ) (out : List Float) (chord : Float) (confused : Bool) : Type 0 where
  pub chord_is : chord ≡ sum_below k (at ds)
  pub confused_is : confused ≡ some_below k (λ (j : ℕ). le (at ds j) confusion)
  pub out_is : (j : ℕ) → j < k → at out j ≡ at ds j

module _ (ds out : List Float) where
  pub chorded_none : Chorded ds 0 out nought false
  chorded_none = record { chord_is = sym (below_none (at ds)); confused_is = sym (some-none _); out_is = λ j h. absurd (omega arith) }

  -- the chord d is stored
  pub chorded_next : (k : ℕ) (chord : Float) (confused : Bool) (d : Float) → Chorded ds k out chord confused → k < length out → d ≡ at ds k → Chorded ds (k + 1) (set out k d) (chord ⊕ d) (confused || le d confusion)
  chorded_next k chord confused d s l h =
      record {
        chord_is = rw (below_more, ← h, s.chord_is);
        confused_is = rw (some_more, ← h, s.confused_is);
        out_is = below_next _ k (λ j i. let n : j ≢ k = omega arith in get_or-set_other out k j d nan n ∙ s.out_is j i) (get_or-set_same out k d nan l ∙ h);
      }

-- chord k of a line
pub chord_of : (f : Float) (n : ℕ) (point : ℕ → Point) (k : ℕ) → k + 1 < n → distance f (point (k + 1)) (point k) ≡ at (chords f n point) k
unfolding chords
chord_of f n point k h = sym (list_of-at (n - 1) (λ k. distance f (point (k + 1)) (point k)) k nan (omega arith))

-- all of them
pub chorded_all : (f : Float) (n : ℕ) (point : ℕ → Point) (out : List Float) (chord : Float) (confused : Bool) (k : ℕ) → k ≡ n - 1 → length out ≡ n - 1 → Chorded (chords f n point) k out chord confused
    → (record { length = chord; confused = confused } ≡ line_chords f n point) × (out ≡ chords f n point)
unfolding line_chords
chorded_all f n point out chord confused k e l s =
    let t = rw e at s in (
      rw (t.chord_is, t.confused_is),
      ext_get_or nan _ _ (l ∙ sym (length-chords f n point)) (λ j h. t.out_is j (omega (arith, l))),
    )

-- ---- the steps over the chords ds, summed up one by one in the chords' places

abbrev pub step_at : Spacing → List Float → ℕ → Float
step_at v ds k = step_of v (at ds k)

pub record Stepped (v : Spacing) (ds : List Float) (k : ℕ) (out : List Float) (total : Float) : Type 0 where
  pub total_is : total ≡ sum_to (step_at v ds) k
  pub out_is : out ≡ laid 0 k (λ (j : ℕ). sum_to (step_at v ds) (j + 1)) ds

module _ (v : Spacing) (ds : List Float) where
  abbrev sums : ℕ → Float
  sums j = sum_to (step_at v ds) (j + 1)

  pub stepped_none : Stepped v ds 0 ds nought
  stepped_none = record { total_is = sym (sum-none (step_at v ds)); out_is = sym (laid_none 0 sums ds) }

  module _ (k : ℕ) (out : List Float) (total : Float) (s : Stepped v ds k out total) where
    -- chord k still stands in its place, where the sum with its step is stored
    pub stepped_next : (e : Float) → e ≡ step_of v (at out k) → Stepped v ds (k + 1) (set out k (total ⊕ e)) (total ⊕ e)
    stepped_next e g =
        let h : at out k ≡ at ds k = rw s.out_is (laid-above 0 k sums ds k nan (omega arith)) in
        let more : total ⊕ e ≡ sums k = rw (sum_more, ← h, ← g, s.total_is) in
        record { total_is = more; out_is = laid0-next k sums ds out (total ⊕ e) s.out_is more }

    -- the sums behind the first
    pub stepped_all : k ≡ length ds → (total ≡ at (step_sums v (length ds + 1) ds) (length ds)) × (nought ∷ out ≡ step_sums v (length ds + 1) ds)
    unfolding step_sums sum_to
    stepped_all e =
        let z : length ds + 1 - 1 ≡ length ds = omega arith in
        rw z (
          s.total_is ∙ ap (sum_to (step_at v ds)) e,
          ap (λ (l : List Float). nought ∷ l) (s.out_is ∙ rw e (laid-whole (length ds) sums ds refl)) ∙ sym (sums_listed (step_at v ds) (length ds)),
        )

-- a place before the others
pub first_put : (v : Float) (xs ys : List Float) → 1 ≤ length xs → splice 1 (length (set xs 0 v)) ys (set xs 0 v) ≡ v ∷ ys
first_put v [] ys h = absurd (omega arith)
first_put v (x ∷ xs) ys h =
    let z : length (v ∷ xs) - 1 ≡ length xs = omega arith in
    ap (λ (l : List Float). v ∷ l) (ap (λ (k : ℕ). ys ++ drop k xs) z ∙ ap (λ (l : List Float). ys ++ l) (drop-length xs) ∙ append-nil ys)

-- what a line is summed up to, from its chords and then their steps
pub line_summed : (v : Metric) (n : ℕ) (point : ℕ → Point) (ds steps : List Float) (line : LineChords) (total : Float) → 1 ≤ n
    → line ≡ line_chords v.factor n point → ds ≡ chords v.factor n point
    → total ≡ at (step_sums v.spacing (length ds + 1) ds) (length ds) → nought ∷ steps ≡ step_sums v.spacing (length ds + 1) ds
    → (◌≡◌ {A = LineSums} (record { chords = line; total = total }) (line_sums v n point)) × (nought ∷ steps ≡ step_sums v.spacing n (chords v.factor n point))
unfolding line_sums
line_summed v n point ds steps line total h e f t g =
    let l : length ds ≡ n - 1 = ap length f ∙ length-chords v.factor n point in
    let m : length ds + 1 ≡ n = omega arith in
    (rw (e, t, m, l, f), rw (m, f) at g)

-- ---- from 0 to 1

between : (n : ℕ) (g : ℕ → Float) → ℕ → Float
between n g k = cond (eqb k 0) nought (cond (eqb k (n - 1)) one (g k))

-- the last and the first are stored among n places that hold g k each
pub ends_stored : (n : ℕ) (g : ℕ → Float) (xs : List Float) → 1 ≤ n → length xs ≡ n → ((k : ℕ) → k < n → at xs k ≡ g k) → set (set xs (n - 1) one) 0 nought ≡ from_zero_to_one n g
unfolding from_zero_to_one between
ends_stored n g xs h l e = list_by n (between n g) _ (simp length-set l) (λ k i. ⊎_elim (first k) (λ p. ⊎_elim (last k p) (inner k p) (eq-or-lt_of_le (le_before k i))) (eq-zero-or-pos k))
  where
    ys : List Float
    ys = set xs (n - 1) one

    le_before : (k : ℕ) → k < n → k ≤ n - 1
    le_before k i = omega arith

    first : (k : ℕ) → k ≡ 0 → at (set ys 0 nought) k ≡ between n g k
    first k z = rw z (get_or-set_same ys 0 nought nan (simp length-set (omega arith)))

    later : (k : ℕ) → 0 < k → at (set ys 0 nought) k ≡ at ys k
    later k p = let m : k ≢ 0 = omega arith in get_or-set_other ys 0 k nought nan m

    last : (k : ℕ) → 0 < k → k ≡ n - 1 → at (set ys 0 nought) k ≡ between n g k
    last k p z = later k p ∙ rw (z, get_or-set_same xs (n - 1) one nan (omega arith), ne_eqb (n - 1) 0 (ne_of_gt (omega arith)), eq-eqb (n - 1) (n - 1) refl)

    inner : (k : ℕ) → 0 < k → k < n - 1 → at (set ys 0 nought) k ≡ between n g k
    inner k p z =
        let m : k ≢ n - 1 = omega arith in
        later k p ∙ get_or-set_other xs (n - 1) k one nan m ∙ e k (omega arith) ∙ rw (ne_eqb k 0 (ne_of_gt p), ne_eqb k (n - 1) m)

-- n parameters
pub length-zero_to-one : (n : ℕ) (g : ℕ → Float) → length (from_zero_to_one n g) ≡ n
unfolding from_zero_to_one
length-zero_to-one n g = length-list_of n _

-- the first parameter is 0, and the last is 1
pub zero_to-one-ends : (n : ℕ) (g : ℕ → Float) → 2 ≤ n → (at (from_zero_to_one n g) 0 ≡ nought) × (at (from_zero_to_one n g) (n - 1) ≡ one)
unfolding from_zero_to_one between
zero_to-one-ends n g h = (
  list_of-at n (between n g) 0 nan (omega arith),
  list_of-at n (between n g) (n - 1) nan (omega arith) ∙ rw (ne_eqb (n - 1) 0 (ne_of_gt (omega arith)), eq-eqb (n - 1) (n - 1) refl),
)

-- ---- what stands in the first n places is found, or nothing is

pub found_here : {o : Option (List Float)} (n m : ℕ) (params rest out : List Float) → length params ≡ n → drop m (params ++ rest) ≡ drop m out → o ≡ some params → Found o n m out (params ++ rest) (Ok tt)
found_here n m params rest out l k e = record { answer = e ∙ ap some (sym (take_at params rest n l)); rest = k }

pub nothing_found : {o : Option (List Float)} (n m : ℕ) (out' out : List Float) → drop m out' ≡ drop m out → o ≡ none → Found o n m out out' (Err ConfusedPoints)
nothing_found n m out' out k e = record { answer = (e, refl); rest = k }

-- ---- a ladder's parameters, by what is computed

pub length_steps : (v : Spacing) (n : ℕ) (ds : List Float) → 1 ≤ n → length (step_sums v n ds) ≡ n
unfolding step_sums
length_steps v n ds h = length-sums _ (n - 1) ∙ omega arith

module _ (v : Metric) (n : ℕ) (point : ℕ → Point) (h : 1 ≤ n) (line : LineSums) (sums : List Float) (e : line ≡ line_sums v n point) (d : sums ≡ step_sums v.spacing n (chords v.factor n point)) where
  pub ladder-refused : line.chords.confused ≡ true → point_parameters v n point ≡ none
  unfolding point_parameters line_sums line_chords
  ladder-refused c = rw (sym (ap (λ (l : LineSums). l.chords.confused) e) ∙ c)

  pub ladder-accepted : line.chords.confused ≡ false → (params : List Float) → params ≡ from_zero_to_one (length sums) (λ k. at sums k ⊗ (one ⊘ line.total)) → point_parameters v n point ≡ some params
  unfolding point_parameters line_sums line_chords
  ladder-accepted c params f =
      let l : length sums ≡ n = ap length d ∙ length_steps v.spacing n _ h in
      rw (sym (ap (λ (l : LineSums). l.chords.confused) e) ∙ c, f, l, d, e)
