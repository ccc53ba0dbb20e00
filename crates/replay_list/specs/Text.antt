-- The text of a list of words. Definitions only.
use Rattle.std.specs.Prelude.{ℕ, Option, Some, None, IsSome, unwrap_or, zero, suc, ◌+◌, ◌*◌, ◌≤◌, ◌<◌, ◌≡◌, List, length, get_or}
use Rattle.places.specs.Places.{laid}
use Rattle.card_text.specs.Text.{digit_of}

-- the number that the k digits from a on write
unfoldable pub value_of : List ℕ → ℕ → ℕ → ℕ
value_of s a zero = 0
value_of s a (suc k) = value_of s a k * 16 + unwrap_or (digit_of (get_or s (a + k) 0)) 0

-- from a on stand 16 digits and a newline
pub record Line (s : List ℕ) (a : ℕ) : Type 0 where
  pub digits : (k : ℕ) → k < 16 → IsSome (digit_of (get_or s (a + k) 0))
  pub newline : get_or s (a + 16) 0 ≡ 10

-- the word of the line from a on, or no line stands there
abbrev pub ReadAt : List ℕ → ℕ → Option ℕ → Type 0
ReadAt s a (Some w) = Line s a × (w ≡ value_of s a 16)
ReadAt s a None = Line s a → ⊥

-- the text is n lines
pub record AreLines (s : List ℕ) (n : ℕ) : Type 0 where
  pub whole : length s ≡ 17 * n
  pub each : (k : ℕ) → k < n → Line s (17 * k)

-- the words of n lines are laid from the first place on; or the text is no lines, or more than there are places
abbrev pub ReadAs : List ℕ → List ℕ → List ℕ → Option ℕ → Type 0
ReadAs s old new (Some n) = AreLines s n × (n ≤ length old) × (new ≡ laid 0 n (λ k. value_of s (17 * k) 16) old)
ReadAs s old new None = (n : ℕ) → AreLines s n → n ≤ length old → ⊥
