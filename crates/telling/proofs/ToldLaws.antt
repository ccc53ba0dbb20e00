-- A call with room for its answer is the ladder call; one without is refused by the checks, and nothing is touched. Either way demand 3 is kept. Assumes nothing.
use mathlib.Core.Path.{◌≡◌, refl, sym, ap, ◌∙◌, subst}
use mathlib.Core.Bool.{Bool, true, false, cond, not, ◌&&◌}
use mathlib.Core.List.{List}
use Prim.Native.Nat.{ℕ, ◌<◌, ◌≤◌}
use native.Mathlib.Omega.{arith}
use lib.Dec.{ltb}
use lib.ListN.{length}
use lib.Ieee.{Float}
use borrow.Author.Tests.{lt-ltb, le-ltb}
use Rattle.geometry.specs.Doubles.{nought}
use Rattle.bspline.specs.declared.Refusal.{Refusal}
use Rattle.knots.specs.declared.Metric.{Metric}
use Rattle.checks.specs.declared.Call.{Call}
use Rattle.checks.specs.declared.Call.TheVariants.{ApproximateWithin, SearchSpread}
use Rattle.checks.specs.declared.Room.{Room}
use Rattle.checks.specs.LadderChecks.{Lent, room_of, ladder_verdict, ladder_checks, cleared}
use Rattle.making.specs.Results.{FitResult, fit_by}
use Rattle.ladders.specs.Ladders.{ladder_fit, result_of, answer_of, handed, handed_poles, handed_flat, handed_knots, handed_mults, LadderCall, Answer}
use Rattle.checks.proofs.CheckLaws.{checks_give}
use Rattle.ladders.proofs.LadderLaws.{within-handed, spread-handed}
use Rattle.telling.specs.Told.{tellable, nothing, judged, told_largest, told_counts, ToldBy, Told, ToldWithin, ToldSpread}
use Rattle.std.specs.Prelude.{Ok, Err}
use Rattle.bspline.specs.Refusals.{number_of, ◌next◌, Verdict, pass}
use Rattle.bspline.specs.Reader.{number_in}

-- the room that the slices have
pub few-largest : (largest : List Float) (counts : List ℕ) → length largest < 1 → tellable largest counts ≡ false
few-largest largest counts h = ap (λ (b : Bool). not b && not (ltb (length counts) 4)) (lt-ltb (length largest) 1 h)

pub few-counts : (largest : List Float) (counts : List ℕ) → 1 ≤ length largest → length counts < 4 → tellable largest counts ≡ false
few-counts largest counts h k =
    ap (λ (b : Bool). not b && not (ltb (length counts) 4)) (le-ltb (length largest) 1 h) ∙ ap not (lt-ltb (length counts) 4 k)

-- no places of any kind
abbrev NoPlaces : Room → Type 0
NoPlaces r = (r.poles ≡ 0) × (r.flat ≡ 0) × (r.knots ≡ 0) × (r.mults ≡ 0) × (r.work ≡ 0) × (r.index ≡ 0)

no_room : (r : Room) → NoPlaces r → r ≡ room_of nothing
no_room r z =
    let is : record { poles = r.poles; flat = r.flat; knots = r.knots; mults = r.mults; work = r.work; index = r.index } ≡ room_of nothing = cc in
    is

module _ (call : Call) (s : List Float) (degree : ℕ) (v : Metric) where
  -- with nothing lent the checks stop
  pub stops : ladder_checks call s degree v nothing ≡ pass → ⊥
  stops e = let g = checks_give call s degree v nothing e in omega (arith, g.0.least, g.2.for_poles)

  -- no room is that of nothing lent
  pub stopped-number : (r : Room) → NoPlaces r → (c : Refusal) → Err c ≡ ladder_verdict call s degree v.factor r → number_of c ≡ number_in (result_of call s degree v nothing)
  unfolding result_of
  stopped-number r z c e =
      ap (λ (w : Verdict). number_in (w next ladder_fit v s degree (fit_by call))) (e ∙ ap (ladder_verdict call s degree v.factor) (no_room r z))

  -- judged with nothing lent, the call is refused and touches nothing
  refused_untouched : (w : Verdict) → ladder_checks call s degree v nothing ≡ w → (l : Lent) (largest : List Float) (counts : List ℕ) (r : ℕ) → r ≡ number_in (result_of call s degree v nothing)
      → ToldBy nothing call s degree v l l largest largest counts counts r
  unfolding result_of answer_of handed cleared
  refused_untouched (Ok p) e l largest counts r n = absurd (stops e)
  refused_untouched (Err c) e l largest counts r n =
      let q : result_of call s degree v nothing ≡ Err c = ap (λ (w : Verdict). w next ladder_fit v s degree (fit_by call)) e in
      record {
        number = n;
        hands = record { answer = refl; poles = ap (λ (x : FitResult). handed_poles x l.poles) (sym q); flat = ap (λ (x : FitResult). handed_flat x l.flat) (sym q); knots = ap (λ (x : FitResult). handed_knots x l.knots) (sym q); mults = ap (λ (x : FitResult). handed_mults x l.mults) (sym q) };
        work = ap (λ (w : Verdict). cleared nought w l.work) (sym e);
        index = ap (λ (w : Verdict). cleared 0 w l.index) (sym e);
        most = ap (λ (x : FitResult). told_largest (answer_of degree x) largest) (sym q);
        told = ap (λ (x : FitResult). told_counts (answer_of degree x) counts) (sym q);
      }

  -- no room
  pub told-short : (l : Lent) (largest : List Float) (counts : List ℕ) (r : ℕ) → tellable largest counts ≡ false → r ≡ number_in (result_of call s degree v nothing)
      → Told call s degree v l l largest largest counts counts r
  told-short l largest counts r e n =
      subst (λ (b : Bool). ToldBy (cond b l nothing) call s degree v l l largest largest counts counts r) (sym e)
      (refused_untouched (ladder_checks call s degree v nothing) refl l largest counts r n)

  -- room
  pub told-room : (l l' : Lent) (largest largest' : List Float) (counts counts' : List ℕ) (a : Answer) (r : ℕ) → tellable largest counts ≡ true → LadderCall call s degree v l l' a
      → r ≡ number_in a → largest' ≡ told_largest a largest → counts' ≡ told_counts a counts → Told call s degree v l l' largest largest' counts counts' r
  told-room l l' largest largest' counts counts' a r e x n p q =
      let h = x.hands in
      subst (λ (b : Bool). ToldBy (cond b l nothing) call s degree v l l' largest largest' counts counts' r) (sym e)
      (record {
        number = n ∙ x.number;
        hands = record { answer = refl; poles = h.poles; flat = h.flat; knots = h.knots; mults = h.mults };
        work = x.work;
        index = x.index;
        most = p ∙ ap (λ (y : Answer). told_largest y largest) h.answer;
        told = q ∙ ap (λ (y : Answer). told_counts y counts) h.answer;
      })

  -- what passes the checks as it is judged passes them as it is lent
  lends : (b : Bool) (l : Lent) → ladder_checks call s degree v (cond b l nothing) ≡ pass → ladder_checks call s degree v l ≡ pass
  lends true l e = e
  lends false l e = absurd (stops e)

-- so the calls within a tolerance keep demand 3
module _ (s : List Float) (degree : ℕ) (t : Float) (v : Metric) (l l' : Lent) (largest largest' : List Float) (counts counts' : List ℕ) (r : ℕ) where
  pub told-within : Told (ApproximateWithin t) s degree v l l' largest largest' counts counts' r → ToldWithin s degree t v l l' largest largest' counts counts' r
  told-within x = record { call = x; kept = within-handed s degree t v l l' _ (judged l largest counts) (lends (ApproximateWithin t) s degree v (tellable largest counts) l) x.hands }

  pub told-spread : Told (SearchSpread t) s degree v l l' largest largest' counts counts' r → ToldSpread s degree t v l l' largest largest' counts counts' r
  told-spread x = record { call = x; kept = spread-handed s degree t v l l' _ (judged l largest counts) (lends (SearchSpread t) s degree v (tellable largest counts) l) x.hands }

-- for the number of a call with no room, and for any call
pub ruleset refusing = (stopped-number)

pub ruleset telling = (told-short, told-room, few-largest, few-counts)
