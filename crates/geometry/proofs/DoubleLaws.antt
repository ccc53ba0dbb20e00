-- What tests on doubles say of them. Assumes nothing.
use Rattle.std.proofs.Common.{◌≡◌, true, false, not, T, refl, true≢false}
use mathlib.Core.Bool.{false≢true}
use lib.Ieee.{Float, nan, inf, fin, lt, neg, div, of_bits, is_nan}
use Rattle.geometry.specs.Doubles.{nought, one, ◌⊘◌, is_finite}

-- a finite double is a number
pub finite_number : (x : Float) → is_finite x ≡ true → T (not (is_nan x))
unfolding is_finite is_nan
finite_number nan e = false≢true e
finite_number (inf s) e = tt
finite_number (fin s m d) e = tt

-- the infinity, as the program makes it
abbrev pub infinity : Float
infinity = one ⊘ nought

-- below the infinity: finite unless it is the other one
pub below_infinity : (x : Float) → lt x infinity ≡ true → lt (neg infinity) x ≡ is_finite x
unfolding lt neg div of_bits is_finite
below_infinity nan e = absurd (false≢true e)
below_infinity (inf true) e = refl
below_infinity (inf false) e = absurd (false≢true e)
below_infinity (fin s m d) e = refl

pub not-below_infinity : (x : Float) → lt x infinity ≡ false → false ≡ is_finite x
unfolding lt div of_bits is_finite
not-below_infinity nan e = refl
not-below_infinity (inf true) e = refl
not-below_infinity (inf false) e = refl
not-below_infinity (fin s m d) e = absurd (true≢false e)
