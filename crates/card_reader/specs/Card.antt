-- The card: what it holds, and its text, document 01's input. Definitions only.
use Rattle.std.specs.Prelude.{ℕ, Option, Some, None, ◌*◌, ◌^◌, ◌<◌, ◌≡◌, List, [], ◌∷◌, ◌++◌, codes, Float, length, take, drop}
use Rattle.std.specs.Float.{binary64}
use Rattle.std.specs.Float.Ieee.{of_bits}
use Rattle.geometry.specs.declared.Point.{Point}
use Rattle.geometry.specs.Points.{coordinates}
use Rattle.knots.specs.declared.Spacing.{Spacing}
use Rattle.knots.specs.declared.Spacing.TheVariants.{Chordal, Centripetal}
use Rattle.card_text.specs.Text.{word_text, decimal_text, line, coordinate_names}
use Rattle.card_reader.specs.declared.Head.{Head}

-- the names of what stands before the points
abbrev pub head_names : List ℕ
head_names = line (codes "degree") (codes "spacing" ∷ codes "tolerance" ∷ [])

-- the name of a spacing
abbrev pub spacing_text : Spacing → List ℕ
spacing_text Chordal = codes "chordal"
spacing_text Centripetal = codes "centripetal"

-- a tolerance is a word, or `none`
abbrev pub tolerance_text : Option ℕ → List ℕ
tolerance_text None = codes "none"
tolerance_text (Some w) = word_text w

-- a point's three words
pub record Row : Type 0 where
  pub x : ℕ
  pub y : ℕ
  pub z : ℕ

abbrev pub row : ℕ → ℕ → ℕ → Row
row x y z = record { x = x; y = y; z = z }

-- the point of these words
abbrev pub point_of : Row → Point
point_of p = record { x = of_bits binary64 p.x; y = of_bits binary64 p.y; z = of_bits binary64 p.z }

-- one line a point
abbrev pub row_text : Row → List ℕ
row_text p = line (word_text p.x) (word_text p.y ∷ word_text p.z ∷ [])

abbrev pub rows_text : List Row → List ℕ
rows_text [] = []
rows_text (p ∷ ps) = row_text p ++ rows_text ps

-- the three lines before the points
unfoldable pub head_text : Head → List ℕ
head_text h = head_names ++ (line (decimal_text h.degree) (spacing_text h.spacing ∷ tolerance_text h.tolerance ∷ []) ++ coordinate_names)

-- the text of a card
abbrev pub card_text : Head → List Row → List ℕ
card_text h ps = head_text h ++ rows_text ps

-- the limits: a degree of at most nine digits, words of 64 bits
abbrev pub Bounded : Option ℕ → Type 0
Bounded None = Unit
Bounded (Some w) = w < 2 ^ 64

pub record HeadFits (h : Head) : Type 0 where
  pub degree : h.degree < 10 ^ 9
  pub tolerance : Bounded h.tolerance

pub record RowFits (p : Row) : Type 0 where
  pub x : p.x < 2 ^ 64
  pub y : p.y < 2 ^ 64
  pub z : p.z < 2 ^ 64

abbrev pub RowsFit : List Row → Type 0
RowsFit [] = Unit
RowsFit (p ∷ ps) = RowFits p × RowsFit ps

-- the coordinates of the points, three places each
abbrev pub doubles : List Row → List Float
doubles [] = []
doubles (p ∷ ps) = coordinates (point_of p) ++ doubles ps

-- t is the text of the card with the head h and the points ps
pub record IsCard (t : List ℕ) (h : Head) (ps : List Row) : Type 0 where
  pub head : HeadFits h
  pub points : RowsFit ps
  pub text : t ≡ card_text h ps

-- the lent slice: the first 64 points, then what stood there
abbrev pub laid_over : List Float → List Row → List Float
laid_over xs ps = doubles (take 64 ps) ++ drop (3 * length (take 64 ps)) xs
