-- The reader's point is the table's, on knots that are handed out as runs and that the reader takes: the flat knots come back, they never fall, they begin at 0 and end at 1 as
-- the parameters do, and so both ways find the same span. Assumes nothing.
use mathlib.Core.Path.{◌≡◌, refl, ap, ◌∙◌, subst}
use mathlib.Core.Bool.{Bool, true, false, not, cond}
use mathlib.Core.List.{List}
use Prim.Native.Nat.{ℕ, ◌+◌, ◌-◌, ◌*◌, ◌/◌, ◌<◌, ◌≤◌}
use native.Mathlib.Omega.{arith}
use borrow.Author.Tests.{le-ltb}
use lib.Dec.{T, ltb}
use lib.ListN.{length, get_or}
use lib.Ieee.{Float, nan, le, is_nan}
use Rattle.places.specs.Places.{list_of}
use Rattle.places.proofs.PlaceLaws.{length-list_of, list_of-at}
use Rattle.geometry.specs.declared.Point.{Point}
use Rattle.geometry.specs.Doubles.{nought, one, at}
use Rattle.geometry.specs.Points.{put_point}
use Rattle.geometry.proofs.ShareLaws.{share-number, share-from_zero, share-to_one}
use Rattle.bspline.specs.Spans.{NeverFalls, first_parameter, last_parameter, InRange}
use Rattle.bspline.specs.Reader.{number_in, flat_knots, curve_point, reader_verdict, reading_of, Reads, Reading}
use Rattle.bspline.proofs.CheckLaws.{Taken, taken, taken_there, numbers, numbered}
use Rattle.knots.specs.Knots.{distinct_knots, knot_at, multiplicity_at}
use Rattle.knots.proofs.KnotLaws.{Ends}
use Rattle.tables.specs.BasisTable.{basis_table, table_point}
use Rattle.tables.proofs.TableLaws.{point_read}
use Rattle.checks.proofs.RisingLaws.{Rising}
use Rattle.telling.specs.ToldReading.{told_reading, told_point, ToldReads}
use Rattle.bspline.proofs.CheckLaws.{rises as knots-rise}
use Rattle.archive.proofs.RunLaws.{same-flat, last-wide, first-mult, first-knot, last-knot}
use Rattle.std.specs.Prelude.{Ok, Err}
use Rattle.bspline.specs.Refusals.{Verdict, pass}

-- what reads at some parameter is taken
pub reads-taken : (poles : List Float) (d : ℕ) (knots : List Float) (mults : List ℕ) (u : Float) (p : Point) → Reads poles d knots mults u (Ok p) → reader_verdict poles d knots mults u ≡ pass
reads-taken poles d knots mults u p h = go (reader_verdict poles d knots mults u) h.answer
  where
    go : (w : Verdict) → Ok p ≡ reading_of w (curve_point (flat_knots knots mults) d poles u) → w ≡ pass
    go (Ok p₀) e = refl
    go (Err c) e = let z : ◌≡◌ {A = ℕ} 0 1 = cc in absurd (omega arith)

module _ (flat : List Float) (d : ℕ) (ends : 2 * d + 2 ≤ length flat → Ends d flat) (poles : List Float) (count : length poles ≡ 3 * (length flat - d - 1)) where
  abbrev D : ℕ
  D = distinct_knots flat

  abbrev knots : List Float
  knots = list_of D (knot_at flat)

  abbrev mults : List ℕ
  mults = list_of D (multiplicity_at flat)

  module _ (w : Float) (passes : reader_verdict poles d knots mults w ≡ pass) where
    has : Taken poles d knots mults w
    has = taken poles d knots mults w passes

    many : length knots ≡ D
    many = length-list_of D (knot_at flat)

    many' : length mults ≡ D
    many' = length-list_of D (multiplicity_at flat)

    two : 2 ≤ D
    two = omega (arith, many, has.sized.two)

    number : (j : ℕ) → j < D → T (not (is_nan (knot_at flat j)))
    number j l =
        subst (λ (x : Float). T (not (is_nan x))) (list_of-at D (knot_at flat) j nan l)
        (numbers (length poles / 3) d knots mults w has.readable j (omega (arith, many)))

    rises : (j : ℕ) → j + 1 < D → le (knot_at flat (j + 1)) (knot_at flat j) ≡ false
    rises j l =
        rw (← list_of-at D (knot_at flat) j nan (omega arith), ← list_of-at D (knot_at flat) (j + 1) nan l)
        (knots-rise knots has.counted.rising j (omega (arith, many)))

    at_first : multiplicity_at flat 0 ≤ d + 1
    at_first = rw (list_of-at D (multiplicity_at flat) 0 0 (omega (arith, two))) at has.first

    at_last : multiplicity_at flat (D - 1) ≤ d + 1
    at_last = rw (many', list_of-at D (multiplicity_at flat) (D - 1) 0 (omega (arith, two))) at has.last

    long : 2 * d + 2 ≤ length flat
    long = omega (arith, count, has.long, has.many)

    back : flat_knots knots mults ≡ flat
    back = same-flat flat d (ends long) number rises two at_first at_last

    pub first-told : get_or mults 0 0 ≡ d + 1
    first-told = list_of-at D (multiplicity_at flat) 0 0 (omega (arith, two)) ∙ first-mult flat d (ends long) number rises two at_first at_last long

    pub ends-told : (at knots 0 ≡ nought) × (at knots (D - 1) ≡ one)
    ends-told = (
      list_of-at D (knot_at flat) 0 nan (omega (arith, two)) ∙ first-knot flat d (ends long) number rises two at_first at_last,
      list_of-at D (knot_at flat) (D - 1) nan (omega (arith, two)) ∙ last-knot flat d (ends long) number rises two at_first at_last,
    )

    module _ (params : List Float) (n : ℕ) (rising : Rising params n) where
      range : InRange flat d params
      range =
          let begin : first_parameter flat d ≡ nought = (ends long).first d (omega arith) in
          let end : last_parameter flat d ≡ one = (ends long).last (length flat - 1 - d) (omega (arith, long)) (omega (arith, long)) in
          record {
            rise = rising.ascending;
            from = λ k l. rw begin (share-from_zero (at params k) (rising.shares k (omega (arith, rising.long))));
            to = λ k l. rw end (share-to_one (at params k) (rising.shares k (omega (arith, rising.long))));
          }

      point-same : (k : ℕ) → k < n → curve_point (flat_knots knots mults) d poles (at params k) ≡ table_point (basis_table flat d params) poles 0 k
      point-same k l =
          let falls : NeverFalls flat = subst NeverFalls back has.falls in
          ap (λ (x : List Float). curve_point x d poles (at params k)) back
          ∙ point_read flat falls d long params range poles k (omega (arith, rising.long)) (λ x. last-wide flat d (ends long) number rises two at_first at_last long falls)

      -- at each of the parameters the answer is the table's point
      pub read-there : (k : ℕ) → k < n → reading_of (reader_verdict poles d knots mults (at params k)) (curve_point (flat_knots knots mults) d poles (at params k)) ≡ Ok (table_point (basis_table flat d params) poles 0 k)
      read-there k l =
          let there = taken_there poles d knots mults w passes (at params k) (share-number (at params k) (rising.shares k l)) in
          ap (λ (v : Verdict). reading_of v (curve_point (flat_knots knots mults) d poles (at params k))) there ∙ ap Ok (point-same k l)

-- ---- for C

-- a result of 0 is a reading
pub told-taken : (poles : List Float) (d : ℕ) (knots : List Float) (mults : List ℕ) (u : Float) (out out' : List Float) → ToldReads poles d knots mults u out out' 0 → reader_verdict poles d knots mults u ≡ pass
told-taken poles d knots mults u out out' h = go (ltb (length out) 3) (reader_verdict poles d knots mults u) h.value
  where
    go : (b : Bool) (v : Verdict) → 0 ≡ cond b 9 (number_in (reading_of v (curve_point (flat_knots knots mults) d poles u))) → v ≡ pass
    go true v e = absurd (omega arith)
    go false (Ok p₀) e = refl
    go false (Err c) e = absurd (omega (arith, numbered c))

-- where there is room, what is told of a reading is 0 and its point
pub told-read : (out out' : List Float) (r : ℕ) (a : Reading) (q : Point) → 3 ≤ length out → r ≡ told_reading out a → out' ≡ told_point out a → a ≡ Ok q → (r ≡ 0) × (out' ≡ put_point 0 q out)
told-read out out' r a q h value after is =
    let room = le-ltb (length out) 3 h in
    (rw (room, is) at value, rw (room, is) at after)
