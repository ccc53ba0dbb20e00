-- The order of floats, for every value: NaN, both infinities, and both zeros. `le` is transitive, `lt` is its converse's negation where no NaN
-- stands. A finite value is (P - N) / D over whole numbers, one of P and N being 0, so one inequality of whole numbers serves all signs. Assumes nothing.
use Rattle.std.proofs.Common.{◌≡◌, ℕ, ◌+◌, ◌*◌, ◌<◌, ◌≤◌, Bool, true, false, not, ◌&&◌, ◌||◌, T, eqb, ltb, ◌⊎◌, sym, refl, subst, inl, inr, mul-le-mul_right, add-mul, eq-or-lt_of_le, zero-mul, mul_right_comm, le_of_mul-le-mul_right, arith, eqb→eq, ltb→lt, lt→ltb, ltb-false, ltb-true}
use mathlib.Core.Bool.{beq}
use lib.Dec.{eqb_refl}
use lib.Ieee.{Float, nan, inf, fin, up, down, below, level, lt, eq, le, is_nan}
use lib.Ieee.Fits.{down_pos, and_l, and_r}

-- ---- a signed number ±a as P - N
abbrev P : Bool → ℕ → ℕ
P false a = a
P true a = 0

abbrev N : Bool → ℕ → ℕ
N false a = 0
N true a = a

P-mul : (s : Bool) (a k : ℕ) → P s (a * k) ≡ P s a * k
P-mul false a k = refl
P-mul true a k = sym (zero-mul k)

N-mul : (s : Bool) (a k : ℕ) → N s (a * k) ≡ N s a * k
N-mul false a k = sym (zero-mul k)
N-mul true a k = refl

or_l : (a b : Bool) → T a → T (a || b)
or_l true b t = tt
or_l false b t = absurd t

or_r : (a b : Bool) → T b → T (a || b)
or_r true b t = tt
or_r false b t = t

or_split : (a b : Bool) → T (a || b) → T a ⊎ T b
or_split true b t = inl tt
or_split false b t = inr t

both : (a b : Bool) → T a → T b → T (a && b)
both true b s t = t
both false b s t = s

eqb_of : (a b : ℕ) → a ≡ b → T (eqb a b)
eqb_of a b e = subst (λ (x : ℕ). T (eqb a x)) e (eqb_refl a)

-- ---- the tests `below` and `below or level` as orders of whole numbers
lt→N : (s t : Bool) (a b : ℕ) → T (below s a t b) → P s a + N t b < P t b + N s a
lt→N false false a b h = let k = ltb→lt a b h in omega arith
lt→N false true a b h = absurd h
lt→N true false a b h = let k = ltb→lt 0 (a + b) h in omega arith
lt→N true true a b h = let k = ltb→lt b a h in omega arith

N→lt : (s t : Bool) (a b : ℕ) → P s a + N t b < P t b + N s a → T (below s a t b)
N→lt false false a b h = lt→ltb a b (omega arith)
N→lt false true a b h = absurd (no a b h)
  where
    no : (a b : ℕ) → a + b < 0 + 0 → ⊥
    no a b h = omega arith
N→lt true false a b h = lt→ltb 0 (a + b) (omega arith)
N→lt true true a b h = lt→ltb b a (omega arith)

le→N : (s t : Bool) (a b : ℕ) → T (below s a t b || level s a t b) → P s a + N t b ≤ P t b + N s a
le→N s t a b h = elim (or_split (below s a t b) (level s a t b) h) [ inl u ↦ (let k = lt→N s t a b u in omega arith) | inr u ↦ same s t (eqb→eq a b (and_l (eqb a b) (beq s t || eqb a 0) u)) (and_r (eqb a b) (beq s t || eqb a 0) u) ]
  where
    same : (s t : Bool) → a ≡ b → T (beq s t || eqb a 0) → P s a + N t b ≤ P t b + N s a
    same false false e h = omega arith
    same false true e h = let z = eqb→eq a 0 h in omega arith
    same true false e h = omega arith
    same true true e h = omega arith

N→le : (s t : Bool) (a b : ℕ) → P s a + N t b ≤ P t b + N s a → T (below s a t b || level s a t b)
N→le s t a b h = elim (eq-or-lt_of_le h) [ inl e ↦ or_r (below s a t b) (level s a t b) (same s t e) | inr l ↦ or_l (below s a t b) (level s a t b) (N→lt s t a b l) ]
  where
    same : (s t : Bool) → P s a + N t b ≡ P t b + N s a → T (level s a t b)
    same false false e = both (eqb a b) true (eqb_of a b (omega arith)) tt
    same false true e = both (eqb a b) (eqb a 0) (eqb_of a b (omega arith)) (eqb_of a 0 (omega arith))
    same true false e = both (eqb a b) (eqb a 0) (eqb_of a b (omega arith)) (eqb_of a 0 (omega arith))
    same true true e = both (eqb a b) true (eqb_of a b (omega arith)) tt

-- ---- three fractions: (x - x') / p ≤ (y - y') / q ≤ (z - z') / r
through : (x x' p y y' q z z' r : ℕ) → 0 < q → x * q + y' * p ≤ y * p + x' * q → y * r + z' * q ≤ z * q + y' * r → x * r + z' * p ≤ z * p + x' * r
through x x' p y y' q z z' r Q h k =
    le_of_mul-le-mul_right {k = q}
    (omega (
      arith,
      mul-le-mul_right r h,
      mul-le-mul_right p k,
      add-mul (x * q) (y' * p) r,
      add-mul (y * p) (x' * q) r,
      add-mul (y * r) (z' * q) p,
      add-mul (z * q) (y' * r) p,
      add-mul (x * r) (z' * p) q,
      add-mul (z * p) (x' * r) q,
      mul_right_comm x q r,
      mul_right_comm y' p r,
      mul_right_comm y p r,
      mul_right_comm x' q r,
      mul_right_comm z' q p,
      mul_right_comm z q p,
    ))
    Q

-- ---- all values
fin_trans : (s t u : Bool) (m n o p q r : ℕ) → 0 < q
    → P s (m * q) + N t (n * p) ≤ P t (n * p) + N s (m * q)
    → P t (n * r) + N u (o * q) ≤ P u (o * q) + N t (n * r)
    → P s (m * r) + N u (o * p) ≤ P u (o * p) + N s (m * r)
fin_trans s t u m n o p q r Q h k =
    simp (P-mul, N-mul)
    (through (P s m) (N s m) p (P t n) (N t n) q (P u o) (N u o) r Q (simp (P-mul, N-mul) at h) (simp (P-mul, N-mul) at k))

pub le_trans_float : (x y z : Float) → T (le x y) → T (le y z) → T (le x z)
unfolding le
le_trans_float nan y z h k = absurd h
le_trans_float (inf s) nan z h k = absurd h
le_trans_float (inf s) (inf t) nan h k = absurd k
le_trans_float (inf true) (inf t) (inf true) h k = tt
le_trans_float (inf true) (inf t) (inf false) h k = tt
le_trans_float (inf true) (inf t) (fin u o c) h k = tt
le_trans_float (inf false) (inf true) (inf u) h k = absurd h
le_trans_float (inf false) (inf false) (inf u) h k = k
le_trans_float (inf false) (inf true) (fin u o c) h k = absurd h
le_trans_float (inf false) (inf false) (fin u o c) h k = absurd k
le_trans_float (inf s) (fin t n d) nan h k = absurd k
le_trans_float (inf true) (fin t n d) (inf true) h k = tt
le_trans_float (inf true) (fin t n d) (inf false) h k = tt
le_trans_float (inf true) (fin t n d) (fin u o c) h k = tt
le_trans_float (inf false) (fin t n d) (inf u) h k = absurd h
le_trans_float (inf false) (fin t n d) (fin u o c) h k = absurd h
le_trans_float (fin s m e) nan z h k = absurd h
le_trans_float (fin s m e) (inf t) nan h k = absurd k
le_trans_float (fin s m e) (inf true) (inf u) h k = absurd h
le_trans_float (fin s m e) (inf false) (inf true) h k = absurd k
le_trans_float (fin s m e) (inf false) (inf false) h k = tt
le_trans_float (fin s m e) (inf true) (fin u o c) h k = absurd h
le_trans_float (fin s m e) (inf false) (fin u o c) h k = absurd k
le_trans_float (fin s m e) (fin t n d) nan h k = absurd k
le_trans_float (fin s m e) (fin t n d) (inf true) h k = absurd k
le_trans_float (fin s m e) (fin t n d) (inf false) h k = tt
le_trans_float (fin s m e) (fin t n d) (fin u o c) h k =
    N→le s u (m * up e * down c) (o * up c * down e)
    (fin_trans s t u (m * up e) (n * up d) (o * up c) (down e) (down d) (down c) (down_pos d)
    (le→N s t (m * up e * down d) (n * up d * down e) h) (le→N t u (n * up d * down c) (o * up c * down d) k))

-- not above
pub le_not_lt : (x y : Float) → T (le x y) → T (lt y x) → ⊥
unfolding le lt
le_not_lt nan y h k = h
le_not_lt (inf s) nan h k = h
le_not_lt (inf true) (inf true) h k = k
le_not_lt (inf true) (inf false) h k = k
le_not_lt (inf false) (inf true) h k = h
le_not_lt (inf false) (inf false) h k = k
le_not_lt (inf true) (fin t n d) h k = k
le_not_lt (inf false) (fin t n d) h k = h
le_not_lt (fin s m e) nan h k = h
le_not_lt (fin s m e) (inf true) h k = h
le_not_lt (fin s m e) (inf false) h k = k
le_not_lt (fin s m e) (fin t n d) h k =
    clash (P s (m * up e * down d) + N t (n * up d * down e)) (P t (n * up d * down e) + N s (m * up e * down d))
    (le→N s t (m * up e * down d) (n * up d * down e) h) (lt→N t s (n * up d * down e) (m * up e * down d) k)
  where
    clash : (a b : ℕ) → a ≤ b → b < a → ⊥
    clash a b h k = omega arith

lt-or-le_nat : (a b : ℕ) → (a < b) ⊎ (b ≤ a)
lt-or-le_nat a b = go (ltb a b) refl
  where
    go : (c : Bool) → ltb a b ≡ c → (a < b) ⊎ (b ≤ a)
    go true e = inl (ltb-true a b e)
    go false e = inr (ltb-false a b e)

-- where neither is a NaN one of the two holds
pub lt-or-le : (x y : Float) → T (not (is_nan x)) → T (not (is_nan y)) → T (lt y x) ⊎ T (le x y)
unfolding le lt is_nan
lt-or-le nan y a b = absurd a
lt-or-le (inf s) nan a b = absurd b
lt-or-le (inf true) (inf true) a b = inr tt
lt-or-le (inf true) (inf false) a b = inr tt
lt-or-le (inf false) (inf true) a b = inl tt
lt-or-le (inf false) (inf false) a b = inr tt
lt-or-le (inf true) (fin t n d) a b = inr tt
lt-or-le (inf false) (fin t n d) a b = inl tt
lt-or-le (fin s m e) nan a b = absurd b
lt-or-le (fin s m e) (inf true) a b = inl tt
lt-or-le (fin s m e) (inf false) a b = inr tt
lt-or-le (fin s m e) (fin t n d) a b =
    elim (lt-or-le_nat (P t (n * up d * down e) + N s (m * up e * down d)) (P s (m * up e * down d) + N t (n * up d * down e))) [
      | inl l ↦ inl (N→lt t s (n * up d * down e) (m * up e * down d) l)
      | inr l ↦ inr (N→le s t (m * up e * down d) (n * up d * down e) l)
    ]

pub lt-le : (x y : Float) → T (lt x y) → T (le x y)
unfolding le
lt-le x y h = or_l (lt x y) (eq x y) h

-- an order holds only where no NaN stands
pub le_left : (x y : Float) → T (le x y) → T (not (is_nan x))
unfolding le is_nan
le_left nan y h = h
le_left (inf s) y h = tt
le_left (fin s m e) y h = tt

pub le_right : (x y : Float) → T (le x y) → T (not (is_nan y))
unfolding le is_nan
le_right nan y h = absurd h
le_right (inf s) nan h = h
le_right (inf s) (inf t) h = tt
le_right (inf s) (fin t n d) h = tt
le_right (fin s m e) nan h = h
le_right (fin s m e) (inf t) h = tt
le_right (fin s m e) (fin t n d) h = tt

pub le_lt_trans : (x y z : Float) → T (le x y) → T (lt y z) → T (lt x z)
le_lt_trans x y z h k =
    elim (lt-or-le z x (le_right y z (lt-le y z k)) (le_left x y h)) [ inl l ↦ l | inr l ↦ absurd (le_not_lt z y (le_trans_float z x y l h) k) ]

pub lt-le_trans : (x y z : Float) → T (lt x y) → T (le y z) → T (lt x z)
lt-le_trans x y z h k =
    elim (lt-or-le z x (le_right y z k) (le_left x y (lt-le x y h))) [ inl l ↦ l | inr l ↦ absurd (le_not_lt y x (le_trans_float y z x k l) h) ]

pub le_self : (x : Float) → T (not (is_nan x)) → T (le x x)
le_self x n = elim (lt-or-le x x n n) [ inl l ↦ lt-le x x l | inr l ↦ l ]

-- ---- a test as a type and as an equation
pub holds : (b : Bool) → T b → b ≡ true
holds true t = refl
holds false t = absurd t

pub test : {b : Bool} → b ≡ true → T b
test e = subst T (sym e) tt

pub fails : (b : Bool) → (T b → ⊥) → b ≡ false
fails true f = absurd (f tt)
fails false f = refl

pub refute : {b : Bool} → b ≡ false → T b → ⊥
refute e t = subst T e t

pub le_transitive : (x y z : Float) → le x y ≡ true → le y z ≡ true → le x z ≡ true
le_transitive x y z h k = holds (le x z) (le_trans_float x y z (test h) (test k))

pub not-above : (d t : Float) → le d t ≡ true → lt t d ≡ false
not-above d t h = fails (lt t d) (le_not_lt d t (test h))

-- of two numbers, one that is not at or below the other is above it
pub above-le : (x y : Float) → T (not (is_nan x)) → T (not (is_nan y)) → le y x ≡ false → le x y ≡ true
above-le x y a b e = elim (lt-or-le y x b a) [ inl l ↦ holds (le x y) (lt-le x y l) | inr l ↦ absurd (refute e l) ]
