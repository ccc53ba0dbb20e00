-- The text that is printed for a judged text, with the points that were read. Definitions only.
use Rattle.std.specs.Prelude as std
use Rattle.std.specs.Prelude.{ℕ, Option, Some, None, Ok, Err, ◌*◌, ◌≤◌, ◌<◌, ◌≡◌, List, Float, length, take, replicate}
use Rattle.std.specs.Float.{binary64}
use Rattle.std.specs.Float.Ieee.{of_bits}
use Rattle.places.specs.Places.{list_of}
use Rattle.geometry.specs.Doubles.{nought}
use Rattle.bspline.specs.Refusals.{number_of}
use Rattle.knots.specs.Parameters.{plain_metric}
use Rattle.knots.specs.Knots.{distinct_knots, knot_at, multiplicity_at}
use Rattle.tables.specs.Deviations.{unreadable}
use Rattle.checks.specs.declared.Call.{Call}
use Rattle.checks.specs.declared.Call.TheVariants.{Interpolate, ApproximateWithin}
use Rattle.fitting.specs.Within.{Marked}
use Rattle.fitting.specs.Marks.{unmarked, mark_of}
use Rattle.checks.specs.LadderChecks.{Lent, lent}
use Rattle.making.specs.Results.{FitResult}
use Rattle.ladders.specs.Ladders.{result_of, Answer}
use Rattle.card_reader.specs.declared.Head.{Head}
use Rattle.card_reader.specs.declared.Card.{Card}
use Rattle.card_reader.specs.declared.CardError.{CardError}
use Rattle.card_reader.specs.Card.{Row, IsCard, doubles}
use Rattle.card_reader.specs.Judged.{refusal_number}
use Rattle.card_printer.specs.Answer.{answer_text, refusal_text}

-- `none` interpolates, and a word is the tolerance
abbrev pub call_of : Option ℕ → Call
call_of None = Interpolate
call_of (Some w) = ApproximateWithin (of_bits binary64 w)

-- the slices that the program lends: room for 64 points of degree 25
abbrev pub buffers : Lent
buffers = lent (replicate 192 nought) (replicate 90 nought) (replicate 90 nought) (replicate 90 0) (replicate 7488 nought) (replicate 256 0)

-- the text of a fit: its mark and counts, its distinct knots, its poles
unfoldable pub fit_text : Marked → List ℕ
fit_text a =
    let f = unmarked a in
    let n = distinct_knots f.flat in
    answer_text (mark_of a) (unreadable f.distances) (list_of n (knot_at f.flat)) (list_of n (multiplicity_at f.flat)) f.poles

unfoldable pub result_text : FitResult → List ℕ
result_text (Err c) = refusal_text (number_of c)
result_text (Ok a) = fit_text a

-- the text of a ladder's fit, or of its refusal
abbrev pub ladder_text : Head → List Float → List ℕ
ladder_text h points = result_text (result_of (call_of h.tolerance) points h.degree (plain_metric h.spacing) buffers)

-- what is printed: 11 for an unreadable text, 8 for a card with over 64 points, else the text of the fit of the card's points or of its refusal
abbrev pub printed : std.Result Card CardError → List Float → List ℕ
printed (Ok c) points = ladder_text c.head (take (3 * c.points) points)
printed (Err e) points = refusal_text (refusal_number e)

-- What is printed for a whole text: for a card within the limits the text of the fit of its points or of its refusal, 8 for a card with over 64 points, 11 for
-- every other text. (The reader's judgement and what is printed for it come to this: `judged_answered` of proofs/TextLaws.antt.)
pub record Answered (text out : List ℕ) : Type 0 where
  pub card : (h : Head) (ps : List Row) → IsCard text h ps → length ps ≤ 64 → out ≡ ladder_text h (doubles ps)
  pub too_many : (h : Head) (ps : List Row) → IsCard text h ps → 64 < length ps → out ≡ refusal_text 8
  pub unreadable : ((h : Head) (ps : List Row) → IsCard text h ps → ⊥) → out ≡ refusal_text 11

-- the text of an answer whose poles, knots and multiplicities stand at the front of the slices that it was handed out in
unfoldable pub handed_text : Answer → List Float → List Float → List ℕ → List ℕ
handed_text (Err c) poles knots mults = refusal_text (number_of c)
handed_text (Ok f) poles knots mults = answer_text f.mark f.unreadable (take f.knots knots) (take f.knots mults) (take (3 * f.poles) poles)

-- no more poles and knots than 64 points of degree 25 have
abbrev pub FewIn : Answer → Type 0
FewIn (Err c) = Unit
FewIn (Ok f) = (f.poles ≤ 64) × (f.knots ≤ 90)
