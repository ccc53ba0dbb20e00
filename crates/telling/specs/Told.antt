-- The ladder calls as C sees them: the number, and the mark and the counts in lent slices. Definitions only.
use Rattle.std.specs.Prelude.{◌≡◌, Bool, cond, not, ◌&&◌, List, [], ℕ, ◌+◌, ltb, length, set, Float, Ok, Err}
use Rattle.std.proofs.Math.Option.{none}
use Rattle.geometry.specs.Doubles.{nought}
use Rattle.knots.specs.declared.Metric.{Metric}
use Rattle.checks.specs.declared.Call.{Call}
use Rattle.checks.specs.declared.Call.TheVariants.{ApproximateWithin, SearchSpread}
use Rattle.fitting.specs.declared.Fit.{Fit}
use Rattle.fitting.specs.Marks.{largest_deviation, mark_number}
use Rattle.checks.specs.LadderChecks.{Lent, lent, ladder_checks, cleared}
use Rattle.ladders.specs.Ladders.{result_of, answer_of, HandsOut, ladder_of, LadderKept, Answer}
use Rattle.fitting.specs.Within.{fit_with_refined_knots}
use Rattle.bspline.specs.Reader.{number_in}

-- room for the largest deviation, and for mark, poles, distinct knots and unreadable deviations
abbrev pub tellable : List Float → List ℕ → Bool
tellable largest counts = not (ltb (length largest) 1) && not (ltb (length counts) 4)

-- where there is none, a lent slice is too short: the call is judged as one with nothing lent
abbrev pub nothing : Lent
nothing = lent [] [] [] [] [] []

abbrev pub judged : Lent → List Float → List ℕ → Lent
judged l largest counts = cond (tellable largest counts) l nothing

-- a fit's mark and counts in the four places from k on
abbrev pub put_fit : ℕ → Fit → List ℕ → List ℕ
put_fit k f xs = set (set (set (set xs k (mark_number f.mark)) (k + 1) f.poles) (k + 2) f.knots) (k + 3) f.unreadable

-- what is told of an answer
abbrev pub told_largest : Answer → List Float → List Float
told_largest (Err c) xs = xs
told_largest (Ok f) xs = set xs 0 (largest_deviation f.mark)

abbrev pub told_counts : Answer → List ℕ → List ℕ
told_counts (Err c) xs = xs
told_counts (Ok f) xs = put_fit 0 f xs

-- What a ladder call for C leaves, judged by the slices m.
pub record ToldBy (m : Lent) (call : Call) (s : List Float) (degree : ℕ) (v : Metric) (l l' : Lent) (largest largest' : List Float) (counts counts' : List ℕ) (r : ℕ) : Type 0 where
  pub number : r ≡ number_in (result_of call s degree v m)
  pub hands : HandsOut degree (result_of call s degree v m) l l' (answer_of degree (result_of call s degree v m))
  pub work : l'.work ≡ cleared nought (ladder_checks call s degree v m) l.work
  pub index : l'.index ≡ cleared 0 (ladder_checks call s degree v m) l.index
  pub most : largest' ≡ told_largest (answer_of degree (result_of call s degree v m)) largest
  pub told : counts' ≡ told_counts (answer_of degree (result_of call s degree v m)) counts

-- The contract of a ladder call for C.
abbrev pub Told : Call → List Float → ℕ → Metric → Lent → Lent → List Float → List Float → List ℕ → List ℕ → ℕ → Type 0
Told call s degree v l l' largest largest' counts counts' r = ToldBy (judged l largest counts) call s degree v l l' largest largest' counts counts' r

-- The contracts of the two ladder calls within a tolerance for C: with demand 3 of the answer that is told, and of the knots and poles in the slices at exit.
pub record ToldWithin (s : List Float) (degree : ℕ) (t : Float) (v : Metric) (l l' : Lent) (largest largest' : List Float) (counts counts' : List ℕ) (r : ℕ) : Type 0 where
  pub call : Told (ApproximateWithin t) s degree v l l' largest largest' counts counts' r
  pub kept : LadderKept v s degree t (fit_with_refined_knots (ladder_of v s degree) t) l' (answer_of degree (result_of (ApproximateWithin t) s degree v (judged l largest counts)))

pub record ToldSpread (s : List Float) (degree : ℕ) (t : Float) (v : Metric) (l l' : Lent) (largest largest' : List Float) (counts counts' : List ℕ) (r : ℕ) : Type 0 where
  pub call : Told (SearchSpread t) s degree v l l' largest largest' counts counts' r
  pub kept : LadderKept v s degree t none l' (answer_of degree (result_of (SearchSpread t) s degree v (judged l largest counts)))
