-- A digit's byte and a byte's digit. Assumes nothing.
use Prim.Native.Nat.{ℕ, ◌+◌, ◌-◌, ◌≤◌, ◌<◌}
use mathlib.Core.Path.{◌≡◌, ap}
use lib.Dec.{ltb}
use borrow.Author.Tests.{lt-ltb, le-ltb, ltb-true, ltb-false}
use native.Mathlib.Omega.{arith}
use Rattle.std.specs.Prelude.{Option, Some}
use Rattle.card_text.specs.Text.{digit_of, glyph}
use Rattle.card_reader.proofs.CaseLaws.{test}

-- the byte of a digit: the digit is below 16, and the byte is its own
pub record IsGlyph (b d : ℕ) : Type 0 where
  pub small : d < 16
  pub byte : glyph d ≡ b

pub glyph_digit : (b d : ℕ) → digit_of b ≡ Some d → IsGlyph b d
unfolding digit_of
glyph_digit b =
    test P (ltb b 48) _ _ (λ e d h. cc)
    (λ e. test P (ltb b 58) _ _ (λ f d h. low (ltb-false _ _ e) (ltb-true _ _ f) d cc)
    (λ f. test P (ltb b 97) _ _ (λ g d h. cc)
    (λ g. test P (ltb b 103) _ _ (λ i d h. high (ltb-false _ _ g) (ltb-true _ _ i) d cc) (λ i d h. cc))))
  where
    P : Option ℕ → Type 0
    P o = (d : ℕ) → o ≡ Some d → IsGlyph b d

    low : 48 ≤ b → b < 58 → (d : ℕ) → b - 48 ≡ d → IsGlyph b d
    low l u d e = record { small = omega arith; byte = rw (lt-ltb d 10 (omega arith)) (omega arith) }

    high : 97 ≤ b → b < 103 → (d : ℕ) → b - 87 ≡ d → IsGlyph b d
    high l u d e = record { small = omega arith; byte = rw (le-ltb d 10 (omega arith)) (omega arith) }

pub digit_glyph : (d : ℕ) → d < 16 → digit_of (glyph d) ≡ Some d
unfolding digit_of
digit_glyph d h = test (λ g. digit_of g ≡ Some d) (ltb d 10) _ _ (λ e. low (ltb-true _ _ e)) (λ e. high (ltb-false _ _ e))
  where
    low : d < 10 → digit_of (48 + d) ≡ Some d
    low l = rw (le-ltb (48 + d) 48 (omega arith), lt-ltb (48 + d) 58 (omega arith)) (ap Some (omega arith))

    high : 10 ≤ d → digit_of (87 + d) ≡ Some d
    high l = rw (le-ltb (87 + d) 48 (omega arith), le-ltb (87 + d) 58 (omega arith), le-ltb (87 + d) 97 (omega arith), lt-ltb (87 + d) 103 (omega arith)) (ap Some (omega arith))
