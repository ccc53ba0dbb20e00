-- An answer beside the list's: bit for bit, and one NaN equals any other. Definitions only.
use Rattle.std.specs.Prelude.{ℕ, ◌+◌, ◌*◌, Bool, false, cond, ◌&&◌, Ok, Err, List, eqb, ltb, length, get_or, map, Float}
use Rattle.std.specs.Float.{binary64}
use Rattle.std.specs.Float.Ieee.{to_bits}
use Rattle.places.specs.Places.{all_below}
use Rattle.places.specs.Regions.{part}
use Rattle.bspline.specs.Refusals.{number_of}
use Rattle.fitting.specs.declared.Fit.{Fit}
use Rattle.fitting.specs.Marks.{largest_deviation, mark_number}
use Rattle.ladders.specs.Ladders.{Answer}
use Rattle.replay_list.specs.declared.answers.ListedFit.{ListedFit}

-- there are as many values as words, or more, and the first of them have these words
unfoldable pub same_words : {A : Type 0} → (A → ℕ) → List A → List ℕ → Bool
same_words word xs ws = cond (ltb (length xs) (length ws)) false (all_below (length ws) (λ k. eqb (get_or (map word xs) k 0) (get_or ws k 0)))

-- of doubles. `to_bits` gives every NaN the one word 7ff8000000000000, as the list has it.
abbrev pub same_doubles : List Float → List ℕ → Bool
same_doubles = same_words (to_bits binary64)

-- of numbers
abbrev pub same_numbers : List ℕ → List ℕ → Bool
same_numbers = same_words (λ x. x)

unfoldable pub refused_with : Answer → ℕ → Bool
refused_with (Err c) number = eqb (number_of c) number
refused_with (Ok f) number = false

-- mark, largest deviation and counts
unfoldable pub same_told : Fit → ListedFit → Bool
same_told f l =
    eqb (mark_number f.mark) l.mark
    && (eqb (to_bits binary64 (largest_deviation f.mark)) l.largest
    && (eqb f.poles l.poles && (eqb f.knots l.knots && eqb f.unreadable l.unreadable)))

module _ (w : List ℕ) (l : ListedFit) (poles flat knots : List Float) (mults : List ℕ) where
  -- flat knots, distinct knots, multiplicities and poles
  unfoldable pub same_values : Bool
  same_values =
      let at_knots = l.values + (l.poles + l.degree + 1) in
      let at_mults = at_knots + l.knots in
      let at_poles = at_mults + l.knots in
      same_doubles flat (part l.values at_knots w)
      && (same_doubles knots (part at_knots at_mults w)
      && (same_numbers mults (part at_mults at_poles w)
      && same_doubles poles (part at_poles (at_poles + 3 * l.poles) w)))

  unfoldable pub same_fit : Answer → Bool
  same_fit (Err c) = false
  same_fit (Ok f) = same_told f l && same_values
