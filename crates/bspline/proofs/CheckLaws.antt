-- Checks one after the other, and what a curve that passes the reader's has. Assumes nothing.
use mathlib.Core.Path.{◌≡◌, refl, sym, ◌∙◌, ap}
use Rattle.std.specs.List.{zip}
use Rattle.std.proofs.lemmas.Slice.Zip.{length-zip, get_or-zip}
use mathlib.Core.Bool.{Bool, true, false, not, ◌||◌}
use mathlib.Core.List.{List}
use Prim.Native.Nat.{ℕ, ◌+◌, ◌-◌, ◌*◌, ◌/◌, ◌≤◌, ◌<◌}
use native.Mathlib.Omega.{arith}
use borrow.Author.Tests.{ltb-false, eqb-true, not-false}
use lib.Dec.{T, ltb, eqb, lit<}
use lib.Ieee.{Float, nan, le, is_nan}
use lib.ListN.{length, drop, get_or, length-drop}
use Rattle.places.proofs.PlaceLaws.{some_false, or_false}
use Rattle.places.proofs.ListLaws.{any_place}
use native.Mathlib.Nat.{add_comm}
use lib.Seq.{get_or-drop}
use Rattle.geometry.specs.declared.Point.{Point}
use Rattle.geometry.specs.Doubles.{at, is_finite}
use Rattle.geometry.proofs.DoubleLaws.{finite_number}
use Rattle.bspline.specs.declared.Refusal.{Refusal}
use Rattle.bspline.specs.declared.Refusal.TheVariants.{TooFewPoints, InvalidDegree, DegreeTooHigh, TooManyPoles, ConfusedPoints, PoleCountMismatch, NotTriples, TooLarge, BufferTooShort, CoordinateOutOfRange, TooFewKnots, KnotsNotIncreasing, MultiplicityTooLarge, NotReadable, InvalidTarget, FactorOutOfRange, WeightCountMismatch, NonPositiveWeight, NotConvertible, StepsNotRising, DifferenceTooLarge}
use Rattle.std.specs.Prelude.{Result, Ok, Err}
use Rattle.bspline.specs.Refusals.{Verdict, number_of, pass, stop_if, ◌next◌, degree_verdict}
use Rattle.bspline.specs.Spans.{NeverFalls, first_parameter, last_parameter}
use Rattle.bspline.specs.Reader.{multiplicity, not_increasing, inner_too_large, too_large, no_multiplicity, not_finite, not_readable, flat_knots, sizes_verdict, knots_verdict, reader_verdict, reading_of, number_in, curve_point, Sized, Counted, Reads}
use Rattle.bspline.proofs.ReaderLaws.{length-flat, flat_never_falls}

-- both pass where the two pass together
pub both_pass : (v w : Verdict) → (v next w) ≡ pass → (v ≡ pass) × (w ≡ pass)
both_pass (Ok p) w e = (refl, e)
both_pass (Err c) w e = let z : ◌≡◌ {A = ℕ} 0 1 = cc in absurd (omega arith)

pub test_fails : (b : Bool) (c : Refusal) → stop_if b c ≡ pass → b ≡ false
test_fails true c e = let z : ◌≡◌ {A = ℕ} 0 1 = cc in absurd (omega arith)
test_fails false c e = refl

-- every refusal has a number
pub numbered : (c : Refusal) → 0 < number_of c
numbered TooFewPoints = lit< tt
numbered InvalidDegree = lit< tt
numbered DegreeTooHigh = lit< tt
numbered TooManyPoles = lit< tt
numbered ConfusedPoints = lit< tt
numbered PoleCountMismatch = lit< tt
numbered NotTriples = lit< tt
numbered TooLarge = lit< tt
numbered BufferTooShort = lit< tt
numbered CoordinateOutOfRange = lit< tt
numbered TooFewKnots = lit< tt
numbered KnotsNotIncreasing = lit< tt
numbered MultiplicityTooLarge = lit< tt
numbered NotReadable = lit< tt
numbered InvalidTarget = lit< tt
numbered FactorOutOfRange = lit< tt
numbered WeightCountMismatch = lit< tt
numbered NonPositiveWeight = lit< tt
numbered NotConvertible = lit< tt
numbered StepsNotRising = lit< tt
numbered DifferenceTooLarge = lit< tt

-- ---- the answer of a check, and of those after it

pub refused : {A : Type 0} → (v : Verdict) (c : Refusal) (r : Result A Refusal) → v ≡ Err c → Err c ≡ (v next r)
refused v c r e = rw e

pub passed : {A : Type 0} → (v : Verdict) (r : Result A Refusal) → v ≡ pass → r ≡ (v next r)
passed v r e = rw e

-- what answers where the checks pass changes no number
number-next : (v : Verdict) (q : Point) → number_in (reading_of v q) ≡ number_in v
number-next (Ok p) q = refl
number-next (Err c) q = refl

-- the contract from its answer
pub reads : (poles : List Float) (d : ℕ) (knots : List Float) (mults : List ℕ) (u : Float) (r : Result Point Refusal)
    → r ≡ reading_of (reader_verdict poles d knots mults u) (curve_point (flat_knots knots mults) d poles u) → Reads poles d knots mults u r
reads poles d knots mults u r e = record {
  answer = e;
  number = ap number_in e ∙ number-next (reader_verdict poles d knots mults u) (curve_point (flat_knots knots mults) d poles u);
}

-- ---- what the checks give

pub degree_pass : (d : ℕ) → degree_verdict d ≡ pass → (1 ≤ d) × (d ≤ 25)
unfolding degree_verdict
degree_pass d e = let o = or_false _ _ (test_fails _ _ e) in (ltb-false d 1 o.0, ltb-false 25 d o.1)

pub sizes_pass : (places d knots mults : ℕ) → sizes_verdict places d knots mults ≡ pass → Sized places d knots mults
unfolding sizes_verdict
sizes_pass places d knots mults e =
    let e₁ = both_pass _ _ e in
    let e₂ = both_pass _ _ e₁.1 in
    let e₃ = both_pass _ _ e₂.1 in
    let large = or_false _ _ (test_fails _ _ e₂.0) in
    let degree = degree_pass d e₃.0 in
    let few = or_false _ _ (test_fails _ _ e₃.1) in
    record {
      triples = eqb-true _ _ (not-false _ (test_fails _ _ e₁.0));
      few = ltb-false _ _ large.0;
      short = ltb-false _ _ large.1;
      low = degree.0;
      high = degree.1;
      two = ltb-false _ _ few.0;
      pairs = eqb-true _ _ (not-false _ (or_false (ltb mults 2) (not (eqb knots mults)) few.1).1);
    }

pub knots_pass : (n d : ℕ) (knots : List Float) (mults : List ℕ) → knots_verdict n d knots mults ≡ pass → Counted n d knots mults
unfolding knots_verdict
knots_pass n d knots mults e =
    let e₁ = both_pass _ _ e in
    let e₂ = both_pass _ _ e₁.1 in
    record { rising = test_fails _ _ e₁.0; whole = eqb-true _ _ (not-false _ (test_fails _ _ e₂.1)) }

pub flat-count : (n d : ℕ) (knots : List Float) (mults : List ℕ) → length knots ≡ length mults → Counted n d knots mults → length (flat_knots knots mults) ≡ n + d + 1
flat-count n d knots mults pairs counted = length-flat knots mults pairs ∙ counted.whole

-- what the last check gives
pub record Readable (n d : ℕ) (knots : List Float) (mults : List ℕ) (u : Float) : Type 0 where
  pub counted : no_multiplicity mults ≡ false
  pub finite : not_finite knots ≡ false
  pub poles : ltb n (d + 1) ≡ false
  pub range : le (last_parameter (flat_knots knots mults) d) (first_parameter (flat_knots knots mults) d) ≡ false
  pub number : is_nan u ≡ false

pub readable : (n d : ℕ) (knots : List Float) (mults : List ℕ) (u : Float) → not_readable n d knots mults u ≡ false → Readable n d knots mults u
unfolding not_readable
readable n d knots mults u e =
    let flat = flat_knots knots mults in
    let empty = le (last_parameter flat d) (first_parameter flat d) in
    let first = or_false (no_multiplicity mults) (not_finite knots || (ltb n (d + 1) || (empty || is_nan u))) e in
    let second = or_false (not_finite knots) (ltb n (d + 1) || (empty || is_nan u)) first.1 in
    let third = or_false (ltb n (d + 1)) (empty || is_nan u) second.1 in
    let fourth = or_false empty (is_nan u) third.1 in
    record { counted = first.0; finite = second.0; poles = third.0; range = fourth.0; number = fourth.1 }

pub enough : (n d : ℕ) (knots : List Float) (mults : List ℕ) (u : Float) → not_readable n d knots mults u ≡ false → d + 1 ≤ n
enough n d knots mults u e = ltb-false n (d + 1) (readable n d knots mults u e).poles

-- no knot is a NaN
pub numbers : (n d : ℕ) (knots : List Float) (mults : List ℕ) (u : Float) → not_readable n d knots mults u ≡ false → (k : ℕ) → k < length knots → T (not (is_nan (at knots k)))
numbers n d knots mults u e k l =
    let none = sym (any_place (λ x. not (is_finite x)) nan knots) ∙ (readable n d knots mults u e).finite in
    finite_number (at knots k) (not-false _ (some_false (length knots) (λ j. not (is_finite (at knots j))) none k l))

-- each knot is above the one before it
pub rises : (knots : List Float) → not_increasing knots ≡ false → (k : ℕ) → k + 1 < length knots → le (at knots (k + 1)) (at knots k) ≡ false
rises knots e k l =
    let pairs = zip knots (drop 1 knots) in
    let many : length pairs ≡ length knots - 1 = omega (arith, length-zip knots (drop 1 knots), length-drop 1 knots) in
    let pair = get_or-zip knots (drop 1 knots) k (nan, nan) (omega arith) (omega (arith, length-drop 1 knots)) in
    let none = sym (any_place (λ (a, b). le b a) (nan, nan) pairs) ∙ e in
    let above = some_false (length pairs) (λ j. le (get_or pairs j (nan, nan)).1 (get_or pairs j (nan, nan)).0) none k (omega (arith, many)) in
    ap (λ (x : Float). le x (at knots k)) (ap (λ (i : ℕ). at knots i) (add_comm k 1) ∙ sym (get_or-drop 1 knots k nan))
    ∙ ap (λ (p : Float × Float). le p.1 p.0) (sym pair) ∙ above

pub never_falls : (n d : ℕ) (knots : List Float) (mults : List ℕ) (u : Float) → Counted n d knots mults → 1 ≤ length knots → not_readable n d knots mults u ≡ false → NeverFalls (flat_knots knots mults)
never_falls n d knots mults u counted h e = flat_never_falls knots mults (numbers n d knots mults u e) (rises knots counted.rising) h

-- ---- what a curve has that the reader takes

pub record Taken (poles : List Float) (d : ℕ) (knots : List Float) (mults : List ℕ) (u : Float) : Type 0 where
  pub sized : Sized (length poles) d (length knots) (length mults)
  pub counted : Counted (length poles / 3) d knots mults
  pub readable : not_readable (length poles / 3) d knots mults u ≡ false
  pub many : length (flat_knots knots mults) ≡ length poles / 3 + d + 1
  pub long : 2 * d + 2 ≤ length (flat_knots knots mults)
  pub falls : NeverFalls (flat_knots knots mults)
  -- neither end stands too often
  pub first : multiplicity mults 0 ≤ d + 1
  pub last : multiplicity mults (length mults - 1) ≤ d + 1

ends_pass : (n d : ℕ) (knots : List Float) (mults : List ℕ) → knots_verdict n d knots mults ≡ pass → (multiplicity mults 0 ≤ d + 1) × (multiplicity mults (length mults - 1) ≤ d + 1)
unfolding knots_verdict too_large
ends_pass n d knots mults e =
    let e₁ = both_pass _ _ e in
    let e₂ = both_pass _ _ e₁.1 in
    let a = or_false (ltb (d + 1) (multiplicity mults 0)) (ltb (d + 1) (multiplicity mults (length mults - 1)) || inner_too_large d mults) (test_fails _ _ e₂.0) in
    let b = or_false (ltb (d + 1) (multiplicity mults (length mults - 1))) (inner_too_large d mults) a.1 in
    (ltb-false _ _ a.0, ltb-false _ _ b.0)

module _ (poles : List Float) (d : ℕ) (knots : List Float) (mults : List ℕ) (u : Float) (e : reader_verdict poles d knots mults u ≡ pass) where
  abbrev n : ℕ
  n = length poles / 3

  each_passes : (sizes_verdict (length poles) d (length knots) (length mults) ≡ pass) × ((knots_verdict n d knots mults ≡ pass) × (not_readable n d knots mults u ≡ false))
  unfolding reader_verdict
  each_passes =
      let e₁ = both_pass _ _ e in
      let e₂ = both_pass _ _ e₁.1 in
      (e₁.0, (e₂.0, test_fails _ _ e₂.1))

  pub taken : Taken poles d knots mults u
  taken =
      let sized = sizes_pass (length poles) d (length knots) (length mults) each_passes.0 in
      let counted = knots_pass n d knots mults each_passes.1.0 in
      let ends = ends_pass n d knots mults each_passes.1.0 in
      let count = flat-count n d knots mults sized.pairs counted in
      record {
        sized = sized;
        counted = counted;
        readable = each_passes.1.1;
        many = count;
        long = omega (arith, count, enough n d knots mults u each_passes.1.1);
        falls = never_falls n d knots mults u counted (omega (arith, sized.two)) each_passes.1.1;
        first = ends.0;
        last = ends.1;
      }

  -- whether it is taken does not hang on the parameter, unless that is a NaN
  pub taken_there : (w : Float) → is_nan w ≡ false → reader_verdict poles d knots mults w ≡ pass
  unfolding reader_verdict not_readable
  taken_there w f =
      let r = readable n d knots mults u each_passes.1.1 in
      rw (each_passes.0, each_passes.1.0, r.counted, r.finite, r.poles, r.range, f)
