-- With the lightness factor one the distance is the plain one: a double times one is that double. Assumes nothing.
use Rattle.std.proofs.Common.{◌≡◌, ℕ, ◌+◌, ◌-◌, ◌*◌, ◌/◌, ◌^◌, ◌<◌, Bool, true, false, cond, T, ℤ, pos, sym, refl, ap, ◌∙◌, subst, mul-one, mul_right_comm}
use lib.Ieee.{Float, nan, inf, fin, binary64, unlike, up, down, size, round, mul, of_bits, to_bits, top, hid, fits}
use lib.Ieee.Bits.{of_bits-to_bits}
use lib.Ieee.Exact.{HasValue, round_exact}
use lib.Ieee.Fits.{down_pos, round-fits, sub-fits}
use lib.Ieee.Nearest.{div_same}
use Rattle.geometry.specs.declared.Point.{Point}
use Rattle.geometry.specs.Doubles.{◌⊕◌, ◌⊖◌, ◌⊗◌, one}
use Rattle.geometry.specs.Root.{sqrt_of}
use Rattle.geometry.specs.Points.{squared_distance, distance, plain_distance}
use Rattle.geometry.specs.Nearest.{in_units}
use Rattle.geometry.proofs.Correct.{form}

-- a double's bits, by its sign and its size in units of 2 ^ -1074
abbrev bits_at : Bool → ℕ → ℕ
bits_at s n = cond s (top binary64) 0 + (size n - 53) * hid binary64 + n / 2 ^ (size n - 53)

bits_of_value : (x : Float) (s : Bool) (a c : ℕ) → 0 < c → HasValue x s a c → to_bits binary64 x ≡ bits_at s (a * 2 ^ 1074 / c)
unfolding to_bits
bits_of_value nan s a c p v = absurd v
bits_of_value (inf t) s a c p v = absurd v
bits_of_value (fin t m e) s a c p v =
    let n = m * up e * 2 ^ 1074 / down e in
    let same : n ≡ a * 2 ^ 1074 / c =
    div_same (m * up e * 2 ^ 1074) (down e) (a * 2 ^ 1074) c (down_pos e) p
    (mul_right_comm (m * up e) (2 ^ 1074) c ∙ ap (λ (y : ℕ). y * 2 ^ 1074) v.1 ∙ mul_right_comm a (down e) (2 ^ 1074)) in
    ap (λ (b : Bool). bits_at b n) v.0 ∙ ap (bits_at s) same

-- two doubles of one value are one double
pub one_value : (x y : Float) (s : Bool) (a c : ℕ) → 0 < c → T (fits binary64 x) → T (fits binary64 y) → HasValue x s a c → HasValue y s a c → x ≡ y
one_value x y s a c p f g v w =
    sym (of_bits-to_bits binary64 x f) ∙ ap (of_bits binary64) (bits_of_value x s a c p v ∙ sym (bits_of_value y s a c p w)) ∙ of_bits-to_bits binary64 y g

-- a double is not rounded
rounds-back : (s : Bool) (m : ℕ) (e : ℤ) → T (fits binary64 (fin s m e)) → round binary64 s (m * up e) (down e) ≡ fin s m e
rounds-back s m e h =
    let f = form s m e h in
    let u = in_units (fin s m e) in
    let exact : m * up e * 2 ^ 1074 ≡ f.0 * 2 ^ f.1 * down e = f.4 ∙ ap (λ (y : ℕ). y * down e) f.2 in
    one_value (round binary64 s (m * up e) (down e)) (fin s m e) s (m * up e) (down e) (down_pos e) (round-fits binary64 s (m * up e) (down e)) h
    (round_exact binary64 s (m * up e) (down e) f.0 f.1 (down_pos e) f.3 (subst (λ (y : ℕ). y < 2 ^ 2098) f.2 f.5) exact)
    (refl, refl)

unlike_plus : (s : Bool) → unlike s false ≡ s
unlike_plus true = refl
unlike_plus false = refl

one_is : one ≡ fin false 1 (pos 0)
unfolding of_bits
one_is = refl

times-plain : (x : Float) → T (fits binary64 x) → mul binary64 x (fin false 1 (pos 0)) ≡ x
unfolding mul
times-plain nan h = refl
times-plain (inf true) h = refl
times-plain (inf false) h = refl
times-plain (fin s m e) h =
    ap (λ (b : Bool). round binary64 b (m * up e * (1 * 1)) (down e * 1)) (unlike_plus s)
    ∙ ap (λ (y : ℕ). round binary64 s y (down e * 1)) (mul-one (m * up e))
    ∙ ap (round binary64 s (m * up e)) (mul-one (down e))
    ∙ rounds-back s m e h

pub times-one : (x : Float) → T (fits binary64 x) → x ⊗ one ≡ x
times-one x h = ap (mul binary64 x) one_is ∙ times-plain x h

-- whatever the points: infinite and NaN coordinates too
pub distance_by-one : (p q : Point) → distance one p q ≡ plain_distance p q
unfolding distance plain_distance squared_distance
distance_by-one p q =
    ap (λ (dx : Float). sqrt_of (dx ⊗ dx ⊕ (q.y ⊖ p.y) ⊗ (q.y ⊖ p.y) ⊕ (q.z ⊖ p.z) ⊗ (q.z ⊖ p.z))) (times-one (q.x ⊖ p.x) (sub-fits binary64 q.x p.x))
