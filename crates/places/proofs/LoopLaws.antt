-- The laws of counting loops: by them a loop's proof goes. Assumes nothing.
use mathlib.Core.Path.{◌≡◌, refl, sym, ◌∙◌, ap}
use mathlib.Core.Bool.{Bool, true, false, cond}
use mathlib.Core.Logic.{⊎_elim}
use Prim.Native.Nat.{ℕ, zero, suc, ◌+◌, ◌-◌, ◌<◌, ◌≤◌}
use native.Mathlib.Nat.{zero-add, suc-add, add-zero, add-suc, eq-or-lt_of_le}
use native.Mathlib.Numerals.{add-one}
use native.Mathlib.Omega.{arith}
use Rattle.places.specs.Loops.{times, each, down, Outcome, outcome, and_then, times_while, each_while}

pub each_done : {S : Type 0} (a b : ℕ) (f : ℕ → S → S) (s : S) → b ≤ a → each a b f s ≡ s
unfolding each times
each_done a b f s h = let z : b - a ≡ 0 = omega arith in rw z

pub each_step : {S : Type 0} (a b : ℕ) (f : ℕ → S → S) (s : S) → a < b → each a b f s ≡ each (a + 1) b f (f a s)
unfolding each times
each_step a b f s h = let z : b - a ≡ suc (b - (a + 1)) = omega arith in rw (z, add-one)

pub down_done : {S : Type 0} (f : ℕ → S → S) (s : S) → down 0 f s ≡ s
unfolding down
down_done f s = refl

-- k is the last number passed: the loop's own, less 1
pub down_step : {S : Type 0} (k : ℕ) (f : ℕ → S → S) (s : S) → down (k + 1) f s ≡ down k f (f k s)
unfolding down
down_step k f s = rw add-one

module _ {S : Type 0} (a b : ℕ) (f : ℕ → S → Outcome S) (s : S) where
  pub while_done : b ≤ a → each_while a b f s ≡ outcome true s
  unfolding each_while times_while
  while_done h = let z : b - a ≡ 0 = omega arith in rw z

  pub while_on : a < b → (t : S) → outcome true t ≡ f a s → each_while a b f s ≡ each_while (a + 1) b f t
  unfolding each_while times_while and_then
  while_on h t e = let z : b - a ≡ suc (b - (a + 1)) = omega arith in rw (z, add-one, ← e)

  pub while_off : a < b → (t : S) → outcome false t ≡ f a s → each_while a b f s ≡ outcome false t
  unfolding each_while times_while and_then
  while_off h t e = let z : b - a ≡ suc (b - (a + 1)) = omega arith in rw (z, ← e)

times-add : {S : Type 0} (m r a : ℕ) (f : ℕ → S → S) (s : S) → times (m + r) a f s ≡ times r (a + m) f (times m a f s)
unfolding times
times-add zero r a f s = rw (zero-add, add-zero)
times-add (suc m) r a f s = rw (suc-add, add-suc) (times-add m r (suc a) f (f a s) ∙ rw suc-add)

-- up to j, and from there on
pub each_split : {S : Type 0} (a j b : ℕ) (f : ℕ → S → S) (s : S) → a ≤ j → j ≤ b → each a b f s ≡ each j b f (each a j f s)
unfolding each
each_split a j b f s h k =
    let m : b - a ≡ (j - a) + (b - j) = omega arith in
    let n : a + (j - a) ≡ j = omega arith in
    rw m (times-add (j - a) (b - j) a f s ∙ rw n)

-- the last turn
pub each_last : {S : Type 0} (a b : ℕ) (f : ℕ → S → S) (s : S) → a ≤ b → each a (b + 1) f s ≡ f b (each a b f s)
each_last a b f s h =
    each_split a b (b + 1) f s h (omega arith)
    ∙ each_step b (b + 1) f (each a b f s) (omega arith)
    ∙ each_done (b + 1) (b + 1) f (f b (each a b f s)) (omega arith)

-- what each turn leaves alone, the loop does: p of the state
module _ {S T : Type 0} (p : S → T) (f : ℕ → S → S) where
  times-same : (m a : ℕ) (s : S) → ((k : ℕ) (t : S) → a ≤ k → k < a + m → p (f k t) ≡ p t) → p (times m a f s) ≡ p s
  unfolding times
  times-same zero a s h = refl
  times-same (suc m) a s h = times-same m (suc a) (f a s) (λ k t i j. h k t (omega arith) (omega arith)) ∙ h a s (omega arith) (omega arith)

  pub each_same : (a b : ℕ) (s : S) → ((k : ℕ) (t : S) → a ≤ k → k < b → p (f k t) ≡ p t) → p (each a b f s) ≡ p s
  unfolding each
  each_same a b s h = times-same (b - a) a s (λ k t i j. h k t i (omega arith))

-- what only turn j and those before it touch: p of the state
pub each_only : {S T : Type 0} (p : S → T) (f : ℕ → S → S) (a j b : ℕ) (s : S) → a ≤ j → j < b
    → ((k : ℕ) (t : S) → j < k → k < b → p (f k t) ≡ p t)
    → p (each a b f s) ≡ p (f j (each a j f s))
each_only p f a j b s h k e =
    ap p (each_split a j b f s h (omega arith) ∙ each_step j b f (each a j f s) k)
    ∙ each_same p f (j + 1) b (f j (each a j f s)) (λ i t u v. e i t (omega arith) v)

-- what only turn j touches, and makes g of: p of the state; q of it stays throughout
pub each_once : {S T R : Type 0} (p : S → T) (q : S → R) (f : ℕ → S → S) (g : T → T) (a j b : ℕ) (s : S) → a ≤ j → j < b → ((k : ℕ) (t : S) → q (f k t) ≡ q t)
    → ((k : ℕ) (t : S) → a ≤ k → k < b → (k ≡ j → ⊥) → p (f k t) ≡ p t) → ((t : S) → q t ≡ q s → p (f j t) ≡ g (p t)) → p (each a b f s) ≡ g (p s)
each_once p q f g a j b s h k keeps stays turn =
    each_only p f a j b s h k (λ i t u v. stays i t (omega arith) v (λ e. omega arith))
    ∙ turn (each a j f s) (each_same q f a j s (λ i t u v. keeps i t))
    ∙ ap g (each_same p f a j s (λ i t u v. stays i t u (omega arith) (λ e. omega arith)))

-- two loops whose turns agree
module _ {S : Type 0} (f g : ℕ → S → S) where
  times_cong : (m a : ℕ) (s : S) → ((k : ℕ) (t : S) → a ≤ k → k < a + m → f k t ≡ g k t) → times m a f s ≡ times m a g s
  unfolding times
  times_cong zero a s h = refl
  times_cong (suc m) a s h = times_cong m (suc a) (f a s) (λ k t i j. h k t (omega arith) (omega arith)) ∙ ap (times m (suc a) g) (h a s (omega arith) (omega arith))

  pub each_cong : (a b : ℕ) (s : S) → ((k : ℕ) (t : S) → a ≤ k → k < b → f k t ≡ g k t) → each a b f s ≡ each a b g s
  unfolding each
  each_cong a b s h = times_cong (b - a) a s (λ k t i j. h k t i (omega arith))

-- One loop seen through another, its numbers shifted and its state within a larger one: φ shows the small state x, of which P holds, in the large one.
-- Where each turn of the large loop is the small loop's, so is the loop.
module _ {S T : Type 0} (φ : T → S) (P : T → Type 0) (f : ℕ → S → S) (g : ℕ → T → T) where
  times_shift : (m a b : ℕ) (t : T) → P t
      → ((i j : ℕ) (x : T) → a ≤ i → i < a + m → i + b ≡ j + a → P x → (f i (φ x) ≡ φ (g j x)) × P (g j x))
      → times m a f (φ t) ≡ φ (times m b g t)
  unfolding times
  times_shift zero a b t p h = refl
  times_shift (suc m) a b t p h =
      let s : (f a (φ t) ≡ φ (g b t)) × P (g b t) = h a b t (omega arith) (omega arith) (omega arith) p in
      ap (times m (suc a) f) s.0 ∙ times_shift m (suc a) (suc b) (g b t) s.1 (λ i j x u v r q. h i j x (omega arith) (omega arith) (omega arith) q)

  pub each_shift : (a e b c : ℕ) (t : T) → e - a ≡ c - b → P t
      → ((i j : ℕ) (x : T) → a ≤ i → i < e → i + b ≡ j + a → P x → (f i (φ x) ≡ φ (g j x)) × P (g j x))
      → each a e f (φ t) ≡ φ (each b c g t)
  unfolding each
  each_shift a e b c t z p h = rw (← z) (times_shift (e - a) a b t p (λ i j x u v r q. h i j x u (omega arith) r q))

-- the same with its numbers as they are: what each turn shows, the loop shows
pub each_seen : {S T : Type 0} (φ : T → S) (f : ℕ → S → S) (g : ℕ → T → T) (a b : ℕ) (t : T) → ((k : ℕ) (x : T) → f k (φ x) ≡ φ (g k x)) → each a b f (φ t) ≡ φ (each a b g t)
each_seen φ f g a b t h = each_shift φ (λ x. x ≡ x) f g a b a b t refl refl (λ i j x u v e p. let z : i ≡ j = omega arith in (rw z (h j x), refl))

-- A loop that goes down: the state t before turn i - 1, of which P holds, and from there on
pub down_split : {S : Type 0} (P : S → Type 0) (i n : ℕ) (f : ℕ → S → S) (s : S) → i ≤ n → P s → ((k : ℕ) (t : S) → i ≤ k → k < n → P t → P (f k t)) → (t : S) × (down n f s ≡ down i f t) × P t
unfolding down
down_split P i zero f s h p e = let z : i ≡ 0 = omega arith in (s, rw z refl, p)
down_split P i (suc n) f s h p e =
    ⊎_elim
    (λ z. (s, rw z refl, p))
    (λ l. down_split P i n f (f n s) (omega arith) (e n s (omega arith) (omega arith) p) (λ k t u v. e k t u (omega arith)))
    (eq-or-lt_of_le h)

-- and what each turn of it leaves alone: p of the state
pub down_same : {S T : Type 0} (p : S → T) (n : ℕ) (f : ℕ → S → S) (s : S) → ((k : ℕ) (t : S) → k < n → p (f k t) ≡ p t) → p (down n f s) ≡ p s
unfolding down
down_same p zero f s h = refl
down_same p (suc n) f s h = down_same p n f (f n s) (λ k t l. h k t (omega arith)) ∙ h n s (omega arith)

-- what both choices show, the choice shows: p of them
pub cond_both : {S T : Type 0} (p : S → T) (b : Bool) (x y : S) (v : T) → p x ≡ v → p y ≡ v → p (cond b x y) ≡ v
cond_both p true x y v h k = h
cond_both p false x y v h k = k

-- a choice seen through φ
pub cond_shift : {S T : Type 0} (φ : T → S) (b : Bool) (x y : T) → cond b (φ x) (φ y) ≡ φ (cond b x y)
cond_shift φ true x y = refl
cond_shift φ false x y = refl

-- a step that went through, and what came after it
went : {S : Type 0} (v : Outcome S) (k : S → Outcome S) (t : S) → and_then v k ≡ outcome true t → (s : S) × (v ≡ outcome true s) × (k s ≡ outcome true t)
unfolding and_then
went (outcome true s) k t e = (s, refl, e)
went (outcome false s) k t e = (s, cc, cc)

-- a loop that may stop: up to j, and from there on
then_same : {S : Type 0} (v : Outcome S) (f g k : S → Outcome S) → ((s : S) → f s ≡ and_then (g s) k) → and_then v f ≡ and_then (and_then v g) k
unfolding and_then
then_same (outcome true s) f g k h = h s
then_same (outcome false s) f g k h = refl

module _ {S : Type 0} (f : ℕ → S → Outcome S) where
  times_while-add : (m r a : ℕ) (s : S) → times_while (m + r) a f s ≡ and_then (times_while m a f s) (times_while r (a + m) f)
  unfolding times_while and_then
  times_while-add zero r a s = rw (zero-add, add-zero)
  times_while-add (suc m) r a s =
      rw (suc-add, add-suc) (then_same (f a s) (times_while (m + r) (suc a) f) (times_while m (suc a) f) (times_while r (suc (a + m)) f) (λ t. times_while-add m r (suc a) t ∙ rw suc-add))

  pub while_split : (a j b : ℕ) (s : S) → a ≤ j → j ≤ b → each_while a b f s ≡ and_then (each_while a j f s) (each_while j b f)
  unfolding each_while
  while_split a j b s h k =
      let m : b - a ≡ (j - a) + (b - j) = omega arith in
      let n : a + (j - a) ≡ j = omega arith in
      rw m (times_while-add (j - a) (b - j) a s ∙ rw n)

  while_step : (a b : ℕ) (s : S) → a < b → each_while a b f s ≡ and_then (f a s) (each_while (a + 1) b f)
  unfolding each_while times_while
  while_step a b s h = let m : b - a ≡ suc (b - (a + 1)) = omega arith in rw (m, add-one)

  -- a loop that went through: each turn did
  pub each_went : (i n : ℕ) (s t : S) → i < n → each_while 0 n f s ≡ outcome true t
      → (u : S) × (v : S) × (each_while 0 i f s ≡ outcome true u) × (f i u ≡ outcome true v) × (each_while (i + 1) n f v ≡ outcome true t)
  each_went i n s t h e =
      let w = went (each_while 0 i f s) (each_while i n f) t (sym (while_split 0 i n s (omega arith) (omega arith)) ∙ e) in
      let g = went (f i w.0) (each_while (i + 1) n f) t (sym (while_step i n w.0 h) ∙ w.2) in
      (w.0, g.0, w.1, g.1, g.2)

  module _ {T : Type 0} (p : S → T) where
    times_while-same : (m a : ℕ) (s t : S) → times_while m a f s ≡ outcome true t → ((k : ℕ) (u v : S) → a ≤ k → k < a + m → f k u ≡ outcome true v → p v ≡ p u) → p t ≡ p s
    unfolding times_while
    times_while-same zero a s t e h = ap p (sym (cc))
    times_while-same (suc m) a s t e h =
        let w = went (f a s) (times_while m (suc a) f) t e in
        times_while-same m (suc a) w.0 t w.2 (λ k u v i j q. h k u v (omega arith) (omega arith) q) ∙ h a s w.0 (omega arith) (omega arith) w.1

    pub while-same : (a b : ℕ) (s t : S) → each_while a b f s ≡ outcome true t → ((k : ℕ) (u v : S) → a ≤ k → k < b → f k u ≡ outcome true v → p v ≡ p u) → p t ≡ p s
    unfolding each_while
    while-same a b s t e h = times_while-same (b - a) a s t e (λ k u v i j q. h k u v i (omega arith) q)
