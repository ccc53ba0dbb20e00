-- A state in its ranges goes to a state in its ranges. Assumes nothing.
use Prim.Native.Nat.{ℕ, ◌+◌, ◌<◌}
use mathlib.Core.Path.{◌≡◌}
use native.Mathlib.Numerals.{add-one}
use native.Mathlib.Nat.{pow-zero}
use native.Mathlib.Omega.{arith}
use Rattle.card_text.proofs.NumberLaws.{more-digits}
use Rattle.card_reader.specs.Reading.{no_digits, digit_more, reached, next, Held, DigitsOf, after, kept, kept_after}
use Rattle.card_reader.specs.declared.Digits.{Digits}
use Rattle.card_reader.specs.declared.State.{State}
use Rattle.card_reader.specs.declared.State.TheVariants.{Names, Degree, Chordal, Centripetal, Bound, Without, Axes, X, Y, Z, Unreadable}
use Rattle.card_reader.proofs.CaseLaws.{literal_cases, word_cases, degree_cases, both, Reaches}
use Rattle.card_reader.proofs.DigitLaws.{glyph_digit}
use mathlib.Core.List.{List}
use lib.ListN.{length, get_or, drop}
use lib.Seq.{drop-cons}
use lib.Ieee.{Float}
use lib.Dec.{eqb, lit<}

-- a digit more
pub one_digit_more : (b most : ℕ) (r : Digits) (d : ℕ) → DigitsOf b most r → (r.count ≡ most → ⊥) → d < b → DigitsOf b most (digit_more b r d)
one_digit_more b most r d h n l = (omega arith, rw add-one (more-digits b r.count r.value d h.1 l))

-- no digit is read yet
pub none_yet : (b most : ℕ) → DigitsOf b most no_digits
none_yet b most = (omega arith, rw (pow-zero b) (lit< tt))

-- every byte keeps the ranges
pub held_next : (s : State) (b : ℕ) → Held s → Held (next s b)
unfolding reached
held_next (Names k) b h = literal_cases Held _ k b _ _ (λ e l. none_yet 10 9) (λ e l. omega arith) tt
held_next (Degree r) b h = degree_cases Held r b (λ e l. lit< tt) (λ d e l n z. one_digit_more 10 9 r d h n l) tt
held_next (Chordal d k) b h =
    both (Reaches Held) (eqb k 1) (eqb b 101) _ _ (λ e f. lit< tt)
    (λ n. literal_cases Held _ k b _ _ (λ e l. none_yet 16 16) (λ e l. omega arith) tt)
held_next (Centripetal d k) b h = literal_cases Held _ k b _ _ (λ e l. none_yet 16 16) (λ e l. omega arith) tt
held_next (Bound d s r) b h =
    both (Reaches Held) (eqb r.count 0) (eqb b 110) _ _ (λ e f. lit< tt)
    (λ n. word_cases Held (Bound d s) _ r b 10 (λ f l. lit< tt) (λ f c e. one_digit_more 16 16 r c h f (glyph_digit b c e).small) tt)
held_next (Without d s k) b h = literal_cases Held _ k b _ _ (λ e l. lit< tt) (λ e l. omega arith) tt
held_next (Axes g k) b h = literal_cases Held _ k b _ _ (λ e l. none_yet 16 16) (λ e l. omega arith) tt
held_next (X c r) b h = word_cases Held (X c) _ r b 32 (λ e l. none_yet 16 16) (λ f d e. one_digit_more 16 16 r d h f (glyph_digit b d e).small) tt
held_next (Y c x r) b h = word_cases Held (Y c x) _ r b 32 (λ e l. none_yet 16 16) (λ f d e. one_digit_more 16 16 r d h f (glyph_digit b d e).small) tt
held_next (Z c x y r) b h = word_cases Held (Z c x y) _ r b 10 (λ e l. none_yet 16 16) (λ f d e. one_digit_more 16 16 r d h f (glyph_digit b d e).small) tt
held_next Unreadable b h = tt

-- a text a byte longer
pub after_more : (s : State) (t : List ℕ) (i : ℕ) → i < length t → after s (drop i t) ≡ after (next s (get_or t i 0)) (drop (i + 1) t)
unfolding after
after_more s t i h = rw (add-one, drop-cons t i 0)

pub kept_after-more : (s : State) (t : List ℕ) (ps : List Float) (i : ℕ) → i < length t
    → kept_after s (drop i t) ps ≡ kept_after (next s (get_or t i 0)) (drop (i + 1) t) (kept s (get_or t i 0) ps)
unfolding kept_after
kept_after-more s t ps i h = rw (add-one, drop-cons t i 0)
