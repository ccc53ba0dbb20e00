-- The ranks are those of the total order of IEEE 754 (`total_order`), and what `sorted` makes of a list is the list sorted (`is_sorted`). Assumes nothing.
use Rattle.std.proofs.Common.{◌≡◌, ℕ, ◌+◌, ◌-◌, ◌*◌, ◌/◌, ◌^◌, ◌<◌, ◌≤◌, Bool, true, false, cond, T, ltb, List, [], ◌∷◌, count_by, ℤ, pos, sym, refl, ap, ◌∙◌, subst, ⊎_elim, true≢false, le_trans, le_of_eq, eq-or-lt_of_le, add_assoc, le-div_iff_mul-le, arith, lit<, pow-add, pow_pos, lt-ltb, le-ltb, ltb-false, le_of_lt, lt_of_le_of_lt, div-mul-le_self, ltb→lt, inl, inr, le_of_mul-le-mul_right, le_antisymm, lt_irrefl, lt_of_lt_of_le, mul-pos, zero-lt-suc, zero, suc, eqb, eqb→eq}
use Rattle.std.proofs.lemmas.List.Sums.{sum_by-cons}
use lib.Ieee.{Float, nan, inf, fin, binary64, up, down, size, below, lt, eq, is_nan, of_bits, to_bits, fits}
use lib.Ieee.Digits.{size-lt, size-le, size_reaches}
use lib.Ieee.Fits.{up_pos, down_pos, kept-lt, and_l, and_r}
use lib.Ieee.Order.{transfer}
use lib.Ieee.Bits.{of_bits-to_bits, to_bits-lt}
use Rattle.geometry.specs.Nearest.{in_units}
use Rattle.geometry.specs.Order.{rank_of, inserted, sorted_onto, sorted, IsTotalOrder, IsSorted}
use Rattle.geometry.proofs.Correct.{form}
use Rattle.geometry.proofs.FloatOrder.{le_not_lt, lt-le, test}
use Rattle.geometry.proofs.SortLaws.{nan_rank, ascending-sorted}

-- ---- the pattern of a magnitude of n units does not fall as n grows

abbrev pattern : ℕ → ℕ
pattern n = (size n - 53) * 2 ^ 52 + n / 2 ^ (size n - 53)

pattern_up : (a n : ℕ) → a ≤ n → pattern a ≤ pattern n
pattern_up a n h = ⊎_elim equal fewer (eq-or-lt_of_le drops)
  where
    k : ℕ
    k = size n - 53

    drops : size a - 53 ≤ k
    drops = omega (arith, size-le a (size n) (lt_of_le_of_lt h (size-lt n)))

    -- as many digits dropped
    equal : size a - 53 ≡ k → pattern a ≤ pattern n
    equal e =
        let q : a / 2 ^ k ≤ n / 2 ^ k = (le-div_iff_mul-le (pow_pos k)).1 (le_trans (div-mul-le_self a (2 ^ k)) h) in
        subst (λ (j : ℕ). j * 2 ^ 52 + a / 2 ^ j ≤ pattern n) (sym e) (omega arith)

    fewer : size a - 53 < k → pattern a ≤ pattern n
    fewer l =
        let q : a / 2 ^ (size a - 53) < 2 ^ 53 = kept-lt 53 a in
        let reached : 2 ^ 52 ≤ n / 2 ^ k = (le-div_iff_mul-le (pow_pos k)).1 (le_trans (le_of_eq (sym (pow-add 2 52 k))) (size_reaches n (52 + k) (omega arith))) in
        omega arith

pattern_range : (n : ℕ) → n < 2 ^ 2098 → pattern n < 9218868437227405312
pattern_range n h =
    let s : size n ≤ 2098 = size-le n 2098 h in
    let q : n / 2 ^ (size n - 53) < 2 ^ 53 = kept-lt 53 n in
    let k : size n - 53 ≤ 2045 = omega arith in
    omega arith

-- ---- ranks

rank_above : (x : Float) (b : ℕ) → to_bits binary64 x ≡ b → b < 2 ^ 63 → rank_of x ≡ 2 ^ 63 + b
unfolding rank_of
rank_above x b e h = rw (e, lt-ltb b (2 ^ 63) h)

rank_below : (x : Float) (b : ℕ) → to_bits binary64 x ≡ 2 ^ 63 + b → rank_of x ≡ 2 ^ 64 - 1 - (2 ^ 63 + b)
unfolding rank_of
rank_below x b e = rw (e, le-ltb (2 ^ 63 + b) (2 ^ 63) (omega arith))

abbrev ranked : Bool → ℕ → ℕ
ranked false b = 2 ^ 63 + b
ranked true b = 2 ^ 64 - 1 - (2 ^ 63 + b)

bits_of : (s : Bool) (m : ℕ) (e : ℤ) → to_bits binary64 (fin s m e) ≡ cond s (2 ^ 63) 0 + pattern (in_units (fin s m e))
unfolding to_bits
bits_of s m e = let n : ℕ = in_units (fin s m e) in add_assoc (cond s (2 ^ 63) 0) ((size n - 53) * 2 ^ 52) (n / 2 ^ (size n - 53))

small_pattern : (s : Bool) (m : ℕ) (e : ℤ) → T (fits binary64 (fin s m e)) → pattern (in_units (fin s m e)) < 9218868437227405312
small_pattern s m e h = pattern_range (in_units (fin s m e)) (form s m e h).5

fin_rank : (s : Bool) (m : ℕ) (e : ℤ) → T (fits binary64 (fin s m e)) → rank_of (fin s m e) ≡ ranked s (pattern (in_units (fin s m e)))
fin_rank false m e h = let b = small_pattern false m e h in rank_above (fin false m e) _ (bits_of false m e ∙ omega arith) (omega arith)
fin_rank true m e h = rank_below (fin true m e) _ (bits_of true m e)

inf_rank : (s : Bool) → rank_of (inf s) ≡ ranked s 9218868437227405312
unfolding rank_of to_bits
inf_rank true = refl
inf_rank false = refl

-- ---- the order of two finite values is that of their units
units_order : (u v de dd X Y : ℕ) → 0 < de → 0 < dd → u * 2 ^ 1074 ≡ X * de → v * 2 ^ 1074 ≡ Y * dd → u * dd ≤ v * de → X ≤ Y
units_order u v de dd X Y A B p q l = le_of_mul-le-mul_right (transfer X Y (2 ^ 1074) (2 ^ 1074) u v de dd A B (sym p) (sym q) l) (pow_pos 1074)

ordered : (s t : Bool) (m n : ℕ) (e d : ℤ) → T (fits binary64 (fin s m e)) → T (fits binary64 (fin t n d)) → m * up e * down d ≤ n * up d * down e → in_units (fin s m e) ≤ in_units (fin t n d)
ordered s t m n e d h g l = units_order (m * up e) (n * up d) (down e) (down d) _ _ (down_pos e) (down_pos d) (form s m e h).4 (form t n d g).4 l

finite_order : (s t : Bool) (m n : ℕ) (e d : ℤ) → T (fits binary64 (fin s m e)) → T (fits binary64 (fin t n d)) → T (below s (m * up e * down d) t (n * up d * down e)) → rank_of (fin s m e) ≤ rank_of (fin t n d)
finite_order false false m n e d h g l = let p = pattern_up _ _ (ordered false false m n e d h g (le_of_lt (ltb→lt _ _ l))) in rw (fin_rank false m e h, fin_rank false n d g) (omega arith)
finite_order false true m n e d h g l = absurd l
finite_order true false m n e d h g l = rw (fin_rank true m e h, fin_rank false n d g) (omega arith)
finite_order true true m n e d h g l = let p = pattern_up _ _ (ordered true true n m d e g h (le_of_lt (ltb→lt _ _ l))) in rw (fin_rank true m e h, fin_rank true n d g) (omega arith)

-- every finite value ranks between the infinities
between : (s : Bool) (m : ℕ) (e : ℤ) → T (fits binary64 (fin s m e)) → (rank_of (inf true) ≤ rank_of (fin s m e)) × (rank_of (fin s m e) ≤ rank_of (inf false))
between false m e h = let q = small_pattern false m e h in rw (inf_rank true, inf_rank false, fin_rank false m e h) (omega arith, omega arith)
between true m e h = let q = small_pattern true m e h in rw (inf_rank true, inf_rank false, fin_rank true m e h) (omega arith, omega arith)

order : (x y : Float) → T (fits binary64 x) → T (fits binary64 y) → T (lt x y) → rank_of x ≤ rank_of y
unfolding lt
order nan y h g l = absurd l
order (inf s) nan h g l = absurd l
order (inf true) (inf true) h g l = absurd l
order (inf true) (inf false) h g l = rw (inf_rank true, inf_rank false) (omega arith)
order (inf false) (inf t) h g l = absurd l
order (inf true) (fin t n d) h g l = (between t n d g).0
order (inf false) (fin t n d) h g l = absurd l
order (fin s m e) nan h g l = absurd l
order (fin s m e) (inf true) h g l = absurd l
order (fin s m e) (inf false) h g l = (between s m e h).1
order (fin s m e) (fin t n d) h g l = finite_order s t m n e d h g l

-- ---- two values of one rank have one pattern
rank_is : (x : Float) → rank_of x ≡ cond (ltb (to_bits binary64 x) (2 ^ 63)) (2 ^ 63 + to_bits binary64 x) (2 ^ 64 - 1 - to_bits binary64 x)
unfolding rank_of
rank_is x = refl

one_pattern : (b c : ℕ) → b < 2 ^ 64 → c < 2 ^ 64 → cond (ltb b (2 ^ 63)) (2 ^ 63 + b) (2 ^ 64 - 1 - b) ≡ cond (ltb c (2 ^ 63)) (2 ^ 63 + c) (2 ^ 64 - 1 - c) → b ≡ c
one_pattern b c h g e = go (ltb b (2 ^ 63)) (ltb c (2 ^ 63)) refl refl e
  where
    go : (s t : Bool) → ltb b (2 ^ 63) ≡ s → ltb c (2 ^ 63) ≡ t → cond s (2 ^ 63 + b) (2 ^ 64 - 1 - b) ≡ cond t (2 ^ 63 + c) (2 ^ 64 - 1 - c) → b ≡ c
    go true true p q z = omega arith
    go true false p q z = let y : 2 ^ 63 ≤ c = ltb-false _ _ q in omega arith
    go false true p q z = let y : 2 ^ 63 ≤ b = ltb-false _ _ p in omega arith
    go false false p q z = omega arith

alone : (x y : Float) → T (fits binary64 x) → T (fits binary64 y) → rank_of x ≡ rank_of y → x ≡ y
alone x y h g e =
    sym (of_bits-to_bits binary64 x h)
    ∙ ap (of_bits binary64) (one_pattern (to_bits binary64 x) (to_bits binary64 y) (to_bits-lt binary64 x h) (to_bits-lt binary64 y g) (sym (rank_is x) ∙ e ∙ rank_is y))
    ∙ of_bits-to_bits binary64 y g

-- nothing is less than itself
less : (x y : Float) → T (fits binary64 x) → T (fits binary64 y) → lt x y ≡ true → rank_of x < rank_of y
less x y h g l =
    elim (eq-or-lt_of_le (order x y h g (test l))) [
      | inl e ↦ (let t : T (lt x x) = subst (λ (z : Float). T (lt x z)) (sym (alone x y h g e)) (test l) in absurd (le_not_lt x x (lt-le x x t) t))
      | inr r ↦ r
    ]

nan_last : (x : Float) → T (fits binary64 x) → is_nan x ≡ false → rank_of x < rank_of nan
unfolding is_nan
nan_last nan h l = absurd (true≢false l)
nan_last (inf true) h l = omega (arith, inf_rank true, nan_rank nan refl)
nan_last (inf false) h l = omega (arith, inf_rank false, nan_rank nan refl)
nan_last (fin s m e) h l = omega (arith, (between s m e h).1, inf_rank false, nan_rank nan refl)

zeros : rank_of (fin true 0 (pos 0)) < rank_of (fin false 0 (pos 0))
unfolding rank_of to_bits size
zeros = lit< tt

pub total_order : IsTotalOrder rank_of
total_order = record { less = less; zeros = zeros; nan_last = nan_last; alone = alone }

-- ---- equal numbers are one double, but for -0 and 0
same_number : (s : Bool) (m n : ℕ) (e d : ℤ) → T (fits binary64 (fin s m e)) → T (fits binary64 (fin s n d)) → m * up e * down d ≡ n * up d * down e → fin s m e ≡ fin s n d
same_number s m n e d h g z =
    let u : in_units (fin s m e) ≡ in_units (fin s n d) = le_antisymm (ordered s s m n e d h g (le_of_eq z)) (ordered s s n m d e g h (le_of_eq (sym z))) in
    alone _ _ h g (fin_rank s m e h ∙ ap (λ (x : ℕ). ranked s (pattern x)) u ∙ sym (fin_rank s n d g))

-- a negative number of no size is -0
no_size : (m : ℕ) (e d : ℤ) → T (fits binary64 (fin true m e)) → m * up e * down d ≡ 0 → fin true m e ≡ fin true 0 (pos 0)
no_size zero e d h z = same_number true 0 0 e (pos 0) h (unfold fits in tt) (omega arith)
no_size (suc m) e d h z = absurd (lt_irrefl 0 (lt_of_lt_of_le (mul-pos (mul-pos (zero-lt-suc m) (up_pos e)) (down_pos d)) (le_of_eq z)))

pub equal_same : (x y : Float) → T (fits binary64 x) → T (fits binary64 y) → (x ≡ fin true 0 (pos 0) → ⊥) → (y ≡ fin true 0 (pos 0) → ⊥) → T (eq x y) → x ≡ y
unfolding eq
equal_same nan y h g a b l = absurd l
equal_same (inf s) nan h g a b l = absurd l
equal_same (inf true) (inf true) h g a b l = refl
equal_same (inf true) (inf false) h g a b l = absurd l
equal_same (inf false) (inf true) h g a b l = absurd l
equal_same (inf false) (inf false) h g a b l = refl
equal_same (inf s) (fin t n d) h g a b l = absurd l
equal_same (fin s m e) nan h g a b l = absurd l
equal_same (fin s m e) (inf t) h g a b l = absurd l
equal_same (fin true m e) (fin true n d) h g a b l = same_number true m n e d h g (eqb→eq _ _ (and_l _ true l))
equal_same (fin false m e) (fin false n d) h g a b l = same_number false m n e d h g (eqb→eq _ _ (and_l _ true l))
equal_same (fin true m e) (fin false n d) h g a b l = absurd (a (no_size m e d h (eqb→eq _ _ (and_r (eqb (m * up e * down d) (n * up d * down e)) _ l))))
equal_same (fin false m e) (fin true n d) h g a b l =
    let A = eqb (m * up e * down d) (n * up d * down e) in
    let B = eqb (m * up e * down d) 0 in
    absurd (b (no_size n d e g (sym (eqb→eq _ _ (and_l A B l)) ∙ eqb→eq _ _ (and_r A B l))))

-- ---- sorting keeps the values
module _ (p : Float → Bool) where
  first : (x : Float) (xs : List Float) → count_by p (x ∷ xs) ≡ cond (p x) 1 0 + count_by p xs
  first = sum_by-cons (λ x. cond (p x) 1 0)

  count_inserted : (v : Float) (xs : List Float) → count_by p (inserted v xs) ≡ cond (p v) 1 0 + count_by p xs
  unfolding inserted
  count_inserted v [] = first v []
  count_inserted v (x ∷ xs) = go (ltb (rank_of v) (rank_of x)) (count_inserted v xs)
    where
      go : (b : Bool) → count_by p (inserted v xs) ≡ cond (p v) 1 0 + count_by p xs → count_by p (cond b (v ∷ x ∷ xs) (x ∷ inserted v xs)) ≡ cond (p v) 1 0 + count_by p (x ∷ xs)
      go true e = first v (x ∷ xs)
      go false e = omega (arith, e, first x xs, first x (inserted v xs))

  count_onto : (done xs : List Float) → count_by p (sorted_onto done xs) ≡ count_by p done + count_by p xs
  unfolding sorted_onto
  count_onto done [] = omega arith
  count_onto done (v ∷ xs) = omega (arith, count_onto (inserted v done) xs, count_inserted v done, first v xs)

pub is_sorted : (xs : List Float) → IsSorted xs (sorted xs)
unfolding sorted
is_sorted xs = record { ascending = ascending-sorted xs; same = λ p. omega (arith, count_onto p [] xs) }
