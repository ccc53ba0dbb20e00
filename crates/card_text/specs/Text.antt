-- Words, decimals and lines of document 01's texts. A text is a list of bytes. Definitions only.
use Rattle.std.specs.Prelude.{ℕ, Option, Some, None, zero, suc, ◌+◌, ◌-◌, ◌/◌, ◌%◌, cond, List, [], ◌∷◌, ◌++◌, codes, ltb, Float}
use Rattle.std.specs.Float.{binary64}
use Rattle.std.specs.Float.Ieee.{to_bits}

-- the byte of a digit below 16: `0` to `9`, then `a` to `f`
abbrev pub glyph : ℕ → ℕ
glyph d = cond (ltb d 10) (48 + d) (87 + d)

-- and back: the value of a lowercase hexadecimal digit, and none of another byte
unfoldable pub digit_of : ℕ → Option ℕ
digit_of b = cond (ltb b 48) None (cond (ltb b 58) (Some (b - 48)) (cond (ltb b 97) None (cond (ltb b 103) (Some (b - 87)) None)))

-- the last k digits of n in base b, the highest first
abbrev pub digits : ℕ → ℕ → ℕ → List ℕ
digits b zero n = []
digits b (suc k) n = digits b k (n / b) ++ (glyph (n % b) ∷ [])

-- a word: 16 hexadecimal digits
unfoldable pub word_text : ℕ → List ℕ
word_text w = digits 16 16 w

-- the word of a double; `to_bits` is 7ff8000000000000 at a NaN
abbrev pub double_text : Float → List ℕ
double_text x = word_text (to_bits binary64 x)

-- n without a needless leading zero, where it has at most f digits
unfoldable pub decimal_of : ℕ → ℕ → List ℕ
decimal_of zero n = []
decimal_of (suc f) n = cond (ltb n 10) [] (decimal_of f (n / 10)) ++ (glyph (n % 10) ∷ [])

-- a decimal: a number of 64 bits has at most 20 digits
abbrev pub decimal_text : ℕ → List ℕ
decimal_text n = decimal_of 20 n

-- fields one blank apart, and a newline
abbrev pub line : List ℕ → List (List ℕ) → List ℕ
line f [] = f ++ (10 ∷ [])
line f (g ∷ fs) = f ++ (32 ∷ line g fs)

-- the names before points and before poles
abbrev pub coordinate_names : List ℕ
coordinate_names = line (codes "x") (codes "y" ∷ codes "z" ∷ [])
