-- `sqrt_of` is the square root of IEEE 754 for every value (`root_is`), and nothing else is (`root_only`). Assumes nothing.
use Rattle.std.proofs.Common.{◌≡◌, zero, suc, ◌*◌, Bool, true, false, T, ℤ, pos, sym, refl, ◌∙◌, inl, inr, true≢false, zero-lt-suc, zero-mul, arith, lt→ltb, ltb-true}
use lib.Ieee.{Float, nan, inf, fin, binary64, up, down, div, lt, eq, of_bits, fits}
use lib.Ieee.Positive.{positive}
use Rattle.geometry.specs.Doubles.{nought, is_finite}
use Rattle.geometry.specs.Root.{sqrt_of}
use Rattle.geometry.specs.SquareRoot.{IsSquareRoot}
use Rattle.geometry.proofs.Correct.{correct, only}
use Rattle.geometry.proofs.FloatOrder.{holds}
use Rattle.geometry.proofs.RootOrder.{above_zero, negative}
use Rattle.geometry.proofs.Special.{at_zero, at_negative}

positive_is : (x : Float) → lt nought x ≡ true → is_finite x ≡ true → T (positive x)
unfolding lt of_bits is_finite
positive_is nan l f = absurd (true≢false (sym f))
positive_is (inf s) l f = absurd (true≢false (sym f))
positive_is (fin true m e) l f = absurd (true≢false (sym l))
positive_is (fin false zero e) l f = let h = ltb-true (0 * 1 * down e) (0 * up e * 1) l in absurd (omega arith)
positive_is (fin false (suc m) e) l f = lt→ltb 0 (suc m) (zero-lt-suc m)

pub root_is : (x : Float) → T (fits binary64 x) → IsSquareRoot x (sqrt_of x)
root_is x h =
    record {
      invalid = λ w. elim w [ inl e ↦ rw e (unfold sqrt_of in refl) | inr l ↦ sym (at_negative x l) ∙ (unfold div of_bits in refl) ];
      zeros = λ e. sym (at_zero x e);
      infinity = λ e. rw e (unfold sqrt_of in refl);
      rounded = λ l f. correct x h (positive_is x l f);
    }

zero_is : (s : Bool) (e : ℤ) → eq (fin s zero e) nought ≡ true
unfolding eq of_bits
zero_is true e = rw (zero-mul (up e), zero-mul (down e)) refl
zero_is false e = rw (zero-mul (up e), zero-mul (down e)) refl

pub root_only : (x r s : Float) → IsSquareRoot x r → IsSquareRoot x s → r ≡ s
unfolding lt of_bits is_finite
root_only nan r s R S = R.invalid (inl refl) ∙ sym (S.invalid (inl refl))
root_only (inf true) r s R S = R.invalid (inr refl) ∙ sym (S.invalid (inr refl))
root_only (inf false) r s R S = R.infinity refl ∙ sym (S.infinity refl)
root_only (fin t zero e) r s R S = let z = zero_is t e in R.zeros z ∙ sym (S.zeros z)
root_only (fin true (suc m) e) r s R S = let l = holds _ (negative m e) in R.invalid (inr l) ∙ sym (S.invalid (inr l))
root_only (fin false (suc m) e) r s R S =
    let x = fin false (suc m) e in
    let l = holds _ (above_zero false (pos 0) x (lt→ltb 0 (suc m) (zero-lt-suc m))) in
    only x r s (R.rounded l refl) (S.rounded l refl)
