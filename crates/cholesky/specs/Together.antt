-- Lines of n points each, one after the other, and what is made of each by itself. Definitions only.
use Rattle.std.specs.Prelude.{◌≡◌, List, ℕ, ◌+◌, ◌*◌, ◌≤◌, ◌<◌, length, drop, Float}
use denote.Ref.{MutBor}
use Rattle.places.specs.Regions.{part}

-- line r
abbrev pub line_at : ℕ → ℕ → List Float → List Float
line_at n r poles = part (3 * (r * n)) (3 * (r * n) + 3 * n) poles

-- each line r was x and is f r x, and every place behind the lines stays
pub record EachLine (n lines : ℕ) (f : ℕ → List Float → List Float) (poles poles' : List Float) : Type 0 where
  pub long : length poles' ≡ length poles
  pub back : drop (3 * (lines * n)) poles' ≡ drop (3 * (lines * n)) poles
  pub line : (r : ℕ) → r < lines → line_at n r poles' ≡ f r (line_at n r poles)

-- a step may be called on each line of n points
abbrev pub TakesLine : ℕ → (MutBor (List Float) → Type 0) → Type 0
TakesLine n pre = (x : MutBor (List Float)) → length x.now ≡ 3 * n → pre x

-- each call of a step makes g of a line of n points
pub record MakesLine (n : ℕ) (post : MutBor (List Float) → Unit {0} → MutBor (List Float) → Type 0) (g : List Float → List Float) : Type 0 where
  pub long : (x : List Float) → length x ≡ 3 * n → length (g x) ≡ 3 * n
  pub line : (x y : MutBor (List Float)) → length x.now ≡ 3 * n → post x tt y → y.now ≡ g x.now

-- n rows of a factor of half-width h, and the lines
pub record SolvableLines (lines h n : ℕ) (lower poles : List Float) : Type 0 where
  pub width : h ≤ 25
  pub rows : n * (h + 1) ≤ length lower
  pub fits : 3 * (lines * n) ≤ length poles
