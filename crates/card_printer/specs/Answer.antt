-- The text of an answer and of a refusal, document 01's output, and a text put into a lent slice. Definitions only.
use Rattle.std.specs.Prelude.{ℕ, ◌+◌, ◌/◌, ◌≤◌, ◌<◌, ◌≡◌, Bool, true, ◌&&◌, List, [], ◌∷◌, ◌++◌, codes, Option, Some, None, eqb, leb, Float, length, get_or}
use Rattle.places.specs.Places.{joined}
use Rattle.places.specs.Regions.{splice}
use Rattle.geometry.specs.declared.Point.{Point}
use Rattle.geometry.specs.Doubles.{at}
use Rattle.geometry.specs.Points.{point_at}
use Rattle.fitting.specs.declared.Mark.{Mark}
use Rattle.fitting.specs.declared.Mark.TheVariants.{Refined, Spread, Interpolated, Chosen}
use Rattle.fitting.specs.Marks.{largest_deviation}
use Rattle.card_printer.specs.declared.Curve.{Curve}
use Rattle.card_printer.specs.declared.text.Text.{Text}
use Rattle.card_text.specs.Text.{line, double_text, decimal_text, coordinate_names}

-- the mark in lower case
abbrev pub mark_name : Mark → List ℕ
mark_name (Refined d) = codes "refined"
mark_name (Spread d) = codes "spread"
mark_name (Interpolated d) = codes "interpolated"
mark_name (Chosen d) = codes "chosen"

-- the names of the mark's line and of the knots'
abbrev pub mark_names : List ℕ
mark_names = line (codes "mark") (codes "largest" ∷ codes "unreadable" ∷ [])

abbrev pub knot_names : List ℕ
knot_names = line (codes "knot") (codes "multiplicity" ∷ [])

-- the mark with the largest deviation and the unreadable count
abbrev pub mark_line : Mark → ℕ → List ℕ
mark_line mark unreadable = line (mark_name mark) (double_text (largest_deviation mark) ∷ decimal_text unreadable ∷ [])

-- knot k with its multiplicity
abbrev pub knot_line : List Float → List ℕ → ℕ → List ℕ
knot_line knots mults k = line (double_text (at knots k)) (decimal_text (get_or mults k 0) ∷ [])

-- a pole's coordinates, and those of pole k
abbrev pub point_line : Point → List ℕ
point_line q = line (double_text q.x) (double_text q.y ∷ double_text q.z ∷ [])

abbrev pub pole_line : List Float → ℕ → List ℕ
pole_line poles k = point_line (point_at poles k)

-- the text of an answer
abbrev pub answer_text : Mark → ℕ → List Float → List ℕ → List Float → List ℕ
answer_text mark unreadable knots mults poles =
    mark_names
    ++ mark_line mark unreadable
    ++ knot_names
    ++ joined (length knots) (knot_line knots mults)
    ++ coordinate_names
    ++ joined (length poles / 3) (pole_line poles)

abbrev pub curve_text : Curve → List ℕ
curve_text c = answer_text c.mark c.unreadable c.knots.now c.mults.now c.poles.now

-- the text of a refusal
abbrev pub refusal_text : ℕ → List ℕ
refusal_text n = line (codes "refused") [] ++ line (decimal_text n) []

-- a text stands from place a on, e is the place after it, and all other places are as they were
pub record Put (old now : List ℕ) (a e : ℕ) (text : List ℕ) : Type 0 where
  pub place : e ≡ a + length text
  pub bytes : now ≡ splice a e text old

-- a text is put after another into the same slice, in which it ends
pub record Puts (old new : Text) (text : List ℕ) : Type 0 where
  pub same : new.out.ghost_name ≡ old.out.ghost_name
  pub long : length new.out.now ≡ length old.out.now
  pub inside : new.at ≤ length new.out.now
  pub put : Put old.out.now new.out.now old.at new.at text

-- a multiplicity for each knot, and no more knots and poles' places than 64 points of degree 25 have
abbrev pub is_printable : Curve → Bool
is_printable c = eqb (length c.knots.now) (length c.mults.now) && leb (length c.knots.now) 90 && leb (length c.poles.now) 192

-- the text at the front of a slice of any length; where it is not printable, or there are fewer than `room` places, the slice stays as it was
abbrev pub PrintedAs : Bool → ℕ → List ℕ → List ℕ → List ℕ → Option ℕ → Type 0
PrintedAs printable room old new text (Some e) = (printable ≡ true) × (room ≤ length old) × Put old new 0 e text
PrintedAs printable room old new text None = ((printable ≡ true) → length old < room) × (new ≡ old)
