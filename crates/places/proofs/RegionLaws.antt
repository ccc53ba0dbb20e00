-- The laws of regions, and of loops that write one region and read another. Assumes nothing.
use mathlib.Core.Path.{◌≡◌, refl, sym, ◌∙◌, ap}
use mathlib.Core.List.{List, [], ◌∷◌, ◌++◌, append_assoc}
use Prim.Native.Nat.{ℕ, zero, suc, ◌+◌, ◌-◌, ◌≤◌, ◌<◌}
use native.Mathlib.Omega.{arith}
use native.Mathlib.Nat.{zero-add, suc-add}
use mathlib.Core.Logic.{◌⊎◌, ⊎_elim}
use Rattle.places.specs.Loops.{times, each, down}
use Rattle.places.proofs.LoopLaws.{each_step, each_done, down_step, down_done}
use Rattle.places.specs.Regions.{part, splice}
use lib.ListN.{length, get_or, take, drop, set, length-append, length-drop, take-append-drop, get_or-append}
use lib.Seq.{length-take-le, take_at, drop_at, take-append-le, drop-append-le, drop-append-add, set-append_left, drop-drop, get_or-take, get_or-drop, take-nil, take-take}

-- a list is what is before a region, the region, and what is after it
pub parted {ℓ} : {A : Type ℓ} (a e : ℕ) (l : List A) → l ≡ take a l ++ (part a e l ++ drop (e - a) (drop a l))
parted a e l = rw (take-append-drop (e - a) (drop a l), take-append-drop a l)

-- a part that ends before the seam, and one that starts after it
pub part-front {ℓ} : {A : Type ℓ} (a e : ℕ) (p q : List A) → a ≤ e → e ≤ length p → part a e (p ++ q) ≡ part a e p
part-front a e p q h k =
    let m : a ≤ length p = omega arith in
    let n : e - a ≤ length (drop a p) = simp length-drop (omega arith) in
    rw (drop-append-le a p q m, take-append-le (e - a) (drop a p) q n)

pub part-back {ℓ} : {A : Type ℓ} (a e : ℕ) (p q : List A) → length p ≤ a → part a e (p ++ q) ≡ take (e - a) (drop (a - length p) q)
part-back a e p q h =
    let m : a ≡ length p + (a - length p) = omega arith in
    ap (take (e - a)) (ap (λ (k : ℕ). drop k (p ++ q)) m ∙ drop-append-add p q (a - length p))

module _ {ℓ} {A : Type ℓ} (a e : ℕ) (ys l : List A) (h : a ≤ e) (k : e ≤ length l) (n : length ys ≡ e - a) where
  private-take : length (take a l) ≡ a
  private-take = length-take-le a l (omega arith)

  pub length-splice : length (splice a e ys l) ≡ length l
  length-splice = simp (length-append, length-drop) (omega (arith, private-take))

  -- the region itself
  pub part-splice : part a e (splice a e ys l) ≡ ys
  part-splice = rw (drop_at (take a l) (ys ++ drop (e - a) (drop a l)) a private-take, take_at ys (drop (e - a) (drop a l)) (e - a) n)

  private-head : length (take a l ++ ys) ≡ e
  private-head = simp length-append (omega (arith, private-take))

  private_assoc : splice a e ys l ≡ (take a l ++ ys) ++ drop (e - a) (drop a l)
  private_assoc = rw append_assoc

  private-whole : l ≡ (take a l ++ part a e l) ++ drop (e - a) (drop a l)
  private-whole = parted a e l ∙ rw append_assoc

  private-part : length (part a e l) ≡ e - a
  private-part = length-take-le (e - a) (drop a l) (simp length-drop (omega arith))

  private-whole-head : length (take a l ++ part a e l) ≡ e
  private-whole-head = simp length-append (omega (arith, private-take, private-part))

  -- a region that ends before it, and one that starts after it
  pub part-before : (b f : ℕ) → b ≤ f → f ≤ a → part b f (splice a e ys l) ≡ part b f l
  part-before b f i j =
      let m : f ≤ length (take a l) = omega (arith, private-take) in
      part-front b f (take a l) _ i m
      ∙ sym (part-front b f (take a l) (drop a l) i m)
      ∙ ap (part b f) (take-append-drop a l)

  pub part-after : (b f : ℕ) → e ≤ b → part b f (splice a e ys l) ≡ part b f l
  part-after b f i =
      ap (part b f) private_assoc
      ∙ part-back b f (take a l ++ ys) (drop (e - a) (drop a l)) (omega (arith, private-head))
      ∙ ap (λ (m : ℕ). take (f - b) (drop (b - m) (drop (e - a) (drop a l)))) (private-head ∙ sym private-whole-head)
      ∙ sym (part-back b f (take a l ++ part a e l) (drop (e - a) (drop a l)) (omega (arith, private-whole-head)))
      ∙ sym (ap (part b f) private-whole)

  -- the region written twice
  pub splice_again : (zs : List A) → splice a e zs (splice a e ys l) ≡ splice a e zs l
  splice_again zs =
      rw (take_at (take a l) (ys ++ drop (e - a) (drop a l)) a private-take, drop_at (take a l) (ys ++ drop (e - a) (drop a l)) a private-take, drop_at ys (drop (e - a) (drop a l)) (e - a) n)

-- what stands before and behind a region that is replaced
module _ {A : Type 0} (a e : ℕ) (ys l : List A) (h : a ≤ e) (k : e ≤ length l) (n : length ys ≡ e - a) where
  pub take-splice : take a (splice a e ys l) ≡ take a l
  take-splice = take_at (take a l) _ a (length-take-le a l (omega arith))

  pub drop-splice : drop e (splice a e ys l) ≡ drop e l
  drop-splice =
      let w : a + (e - a) ≡ e = omega arith in
      let t : drop a (splice a e ys l) ≡ ys ++ drop (e - a) (drop a l) = drop_at (take a l) _ a (length-take-le a l (omega arith)) in
      rw w at (
      sym (drop-drop (e - a) a (splice a e ys l))
      ∙ ap (drop (e - a)) t
      ∙ drop_at ys (drop (e - a) (drop a l)) (e - a) n
      ∙ drop-drop (e - a) a l)

-- a region that is put back as it is
pub splice-part {ℓ} : {A : Type ℓ} (a e : ℕ) (l : List A) → splice a e (part a e l) l ≡ l
splice-part a e l = sym (parted a e l)

pub length_part {ℓ} : {A : Type ℓ} (a e : ℕ) (l : List A) → e ≤ length l → length (part a e l) ≡ e - a
length_part a e l k = length-take-le (e - a) (drop a l) (simp length-drop (omega arith))

-- place by place
pub get_d_part {ℓ} : {A : Type ℓ} (a e : ℕ) (l : List A) (i : ℕ) (d : A) → a + i < e → get_or (part a e l) i d ≡ get_or l (a + i) d
get_d_part a e l i d h = get_or-take (e - a) (drop a l) i d (omega arith) ∙ get_or-drop a l i d

pub set-append-add {ℓ} : {A : Type ℓ} (p q : List A) (i : ℕ) (v : A) → set (p ++ q) (length p + i) v ≡ p ++ set q i v
set-append-add [] q i v = rw zero-add
set-append-add (x ∷ p) q i v = rw (suc-add, set-append-add p q i v)

module _ {ℓ} {A : Type ℓ} (a e : ℕ) (ys l : List A) (h : a ≤ e) (k : e ≤ length l) (n : length ys ≡ e - a) (d : A) where
  pub get_or_in : (i : ℕ) → a + i < e → get_or (splice a e ys l) (a + i) d ≡ get_or ys i d
  get_or_in i m = sym (get_d_part a e (splice a e ys l) i d m) ∙ ap (λ (x : List A). get_or x i d) (part-splice a e ys l h k n)

  pub get_or-before : (i : ℕ) → i < a → get_or (splice a e ys l) i d ≡ get_or l i d
  get_or-before i m =
      let t : i < length (take a l) = omega (arith, length-take-le a l (omega arith)) in
      get_or-append (take a l) _ d i t ∙ get_or-take a l i d m

  pub get_d_after : (i : ℕ) → e ≤ i → get_or (splice a e ys l) i d ≡ get_or l i d
  get_d_after i m =
      let z : i + 0 ≡ i = omega arith in
      rw z at (
      sym (get_d_part i (i + 1) (splice a e ys l) 0 d (omega arith))
      ∙ ap (λ (x : List A). get_or x 0 d) (part-after a e ys l h k n i (i + 1) m)
      ∙ get_d_part i (i + 1) l 0 d (omega arith))

-- What a loop does that works in one region alone
abbrev pub within : {A : Type 0} → ℕ → ℕ → (ℕ → List A → List A) → ℕ → List A → List A
within p q f k w = splice p q (f k (part p q w)) w

module _ {A : Type 0} (p q : ℕ) (h : p ≤ q) (f : ℕ → List A → List A) (keeps : (k : ℕ) (x : List A) → length (f k x) ≡ length x) where
  pub times-within : (m a : ℕ) (w : List A) → q ≤ length w → times m a (within p q f) w ≡ splice p q (times m a f (part p q w)) w
  unfolding times
  times-within zero a w k = sym (splice-part p q w)
  times-within (suc m) a w k =
      let n : length (f a (part p q w)) ≡ q - p = keeps a (part p q w) ∙ length_part p q w k in
      times-within m (suc a) (within p q f a w) (omega (arith, length-splice p q (f a (part p q w)) w h k n))
      ∙ rw (part-splice p q (f a (part p q w)) w h k n) (splice_again p q (f a (part p q w)) w h k n (times m (suc a) f (f a (part p q w))))

  pub each_within : (a b : ℕ) (w : List A) → q ≤ length w → each a b (within p q f) w ≡ splice p q (each a b f (part p q w)) w
  unfolding each
  each_within a b w k = times-within (b - a) a w k

  pub down-within : (m : ℕ) (w : List A) → q ≤ length w → down m (within p q f) w ≡ splice p q (down m f (part p q w)) w
  unfolding down
  down-within zero w k = sym (splice-part p q w)
  down-within (suc m) w k =
      let n : length (f m (part p q w)) ≡ q - p = keeps m (part p q w) ∙ length_part p q w k in
      down-within m (within p q f m w) (omega (arith, length-splice p q (f m (part p q w)) w h k n))
      ∙ rw (part-splice p q (f m (part p q w)) w h k n) (splice_again p q (f m (part p q w)) w h k n (down m f (f m (part p q w))))

-- a loop whose turns keep the length keeps it
module _ {A : Type 0} (f : ℕ → List A → List A) (keeps : (k : ℕ) (x : List A) → length (f k x) ≡ length x) where
  pub length-times : (m a : ℕ) (x : List A) → length (times m a f x) ≡ length x
  unfolding times
  length-times zero a x = refl
  length-times (suc m) a x = length-times m (suc a) (f a x) ∙ keeps a x

  pub length-each : (a b : ℕ) (x : List A) → length (each a b f x) ≡ length x
  unfolding each
  length-each a b x = length-times (b - a) a x

  pub length-down : (m : ℕ) (x : List A) → length (down m f x) ≡ length x
  unfolding down
  length-down zero x = refl
  length-down (suc m) x = length-down m (f m x) ∙ keeps m x

-- a step in a region that was replaced
pub splice_on : {A : Type 0} (p q : ℕ) (f : List A → List A) (ys w w₁ w₂ : List A) → p ≤ q → q ≤ length w → length ys ≡ q - p → w₁ ≡ splice p q ys w → w₂ ≡ splice p q (f (part p q w₁)) w₁
    → w₂ ≡ splice p q (f ys) w
splice_on p q f ys w w₁ w₂ h k n e₁ e₂ = e₂ ∙ rw (e₁, part-splice p q ys w h k n) (splice_again p q ys w h k n (f ys))

-- two steps in one region, each of which reads another region that stands before it
pub splice_then : {A : Type 0} (b c p q : ℕ) (f : List A → List A → List A) (ys w w₁ w₂ : List A) → b ≤ c → c ≤ p → p ≤ q → q ≤ length w → length ys ≡ q - p
    → w₁ ≡ splice p q ys w
    → w₂ ≡ splice p q (f (part b c w₁) (part p q w₁)) w₁
    → w₂ ≡ splice p q (f (part b c w) ys) w
splice_then b c p q f ys w w₁ w₂ h i j k n e₁ e₂ =
    e₂ ∙ rw (e₁, part-splice p q ys w j k n, part-before p q ys w j k n b c h i) (splice_again p q ys w j k n (f (part b c w) ys))

-- a store within a region that is put in a list
pub set_in : {A : Type 0} (a e : ℕ) (ys l : List A) (i : ℕ) (v : A) → a ≤ length l → i < length ys → set (splice a e ys l) (a + i) v ≡ splice a e (set ys i v) l
set_in a e ys l i v h k =
    ap (λ (m : ℕ). set (splice a e ys l) (m + i) v) (sym (length-take-le a l h))
    ∙ set-append-add (take a l) (ys ++ drop (e - a) (drop a l)) i v
    ∙ ap (λ (x : List _). take a l ++ x) (set-append_left ys (drop (e - a) (drop a l)) i v k)

-- A loop over k from a to n that writes the region p..q and reads, beside it, the region b..c, which stays.
-- `Going` is its invariant, and the three laws are what its proof cites: at the start, at a turn, at the end.
abbrev pub Going : {A : Type 0} → ℕ → ℕ → ℕ → ℕ → (List A → ℕ → List A → List A) → ℕ → ℕ → List A → List A → ℕ → Type 0
Going p q b c g a n w₀ w k =
    (length w ≡ length w₀)
    × ((part b c w ≡ part b c w₀)
    × (each k n (within p q (g (part b c w₀))) w ≡ splice p q (each a n (g (part b c w₀)) (part p q w₀)) w₀))

-- the same for a loop that counts down to 0
abbrev pub GoingDown : {A : Type 0} → ℕ → ℕ → ℕ → ℕ → (List A → ℕ → List A → List A) → ℕ → List A → List A → ℕ → Type 0
GoingDown p q b c g n w₀ w k =
    (length w ≡ length w₀)
    × ((part b c w ≡ part b c w₀)
    × (down k (within p q (g (part b c w₀))) w ≡ splice p q (down n (g (part b c w₀)) (part p q w₀)) w₀))

-- the two regions: one is before the other
pub record Apart {A : Type 0} (p q b c : ℕ) (w : List A) : Type 0 where
  pub writes : p ≤ q
  pub reads : b ≤ c
  pub fits : q ≤ length w
  pub apart : (c ≤ p) ⊎ (q ≤ b)

module _ {A : Type 0} (p q b c : ℕ) (g : List A → ℕ → List A → List A) (keeps : (x : List A) (k : ℕ) (y : List A) → length (g x k y) ≡ length y) where
  part_apart : (ys w : List A) → Apart p q b c w → length ys ≡ q - p → part b c (splice p q ys w) ≡ part b c w
  part_apart ys w d n = ⊎_elim (λ h. part-before p q ys w d.writes d.fits n b c d.reads h) (λ h. part-after p q ys w d.writes d.fits n b c h) d.apart

  module _ (w₀ : List A) (d : Apart p q b c w₀) where
    -- one turn, whichever way the loop counts
    turned : (w w' : List A) (k : ℕ) → length w ≡ length w₀ → part b c w ≡ part b c w₀ → w' ≡ splice p q (g (part b c w) k (part p q w)) w
        → (length w' ≡ length w₀) × (part b c w' ≡ part b c w₀) × (w' ≡ within p q (g (part b c w₀)) k w)
    turned w w' k long read e =
        let ys : List A = g (part b c w₀) k (part p q w) in
        let step : w' ≡ splice p q ys w = rw read at e in
        let fits : q ≤ length w = rw long d.fits in
        let m : length ys ≡ q - p = keeps (part b c w₀) k (part p q w) ∙ length_part p q w fits in
        let d' : Apart p q b c w = record { writes = d.writes; reads = d.reads; fits = fits; apart = d.apart } in
        (rw step (length-splice p q ys w d.writes fits m ∙ long), rw step (part_apart ys w d' m ∙ read), step)

    module _ (a n : ℕ) where
      pub going_start : Going p q b c g a n w₀ w₀ a
      going_start = (refl, (refl, each_within p q d.writes (g (part b c w₀)) (λ k x. keeps (part b c w₀) k x) a n w₀ d.fits))

      pub going-turn : (w w' : List A) (k : ℕ) → Going p q b c g a n w₀ w k → k < n → w' ≡ splice p q (g (part b c w) k (part p q w)) w → Going p q b c g a n w₀ w' (k + 1)
      going-turn w w' k v h e =
          let t = turned w w' k v.0 v.1.0 e in
          let f : ℕ → List A → List A = within p q (g (part b c w₀)) in
          (t.0, (t.1, ap (each (k + 1) n f) t.2 ∙ sym (each_step k n f w h) ∙ v.1.1))

      pub going_end : (w : List A) (k : ℕ) → Going p q b c g a n w₀ w k → n ≤ k → w ≡ splice p q (each a n (g (part b c w₀)) (part p q w₀)) w₀
      going_end w k v h = sym (each_done k n (within p q (g (part b c w₀))) w h) ∙ v.1.1

    module _ (n : ℕ) where
      pub down-start : GoingDown p q b c g n w₀ w₀ n
      down-start = (refl, (refl, down-within p q d.writes (g (part b c w₀)) (λ k x. keeps (part b c w₀) k x) n w₀ d.fits))

      pub down_turn : (w w' : List A) (k : ℕ) → GoingDown p q b c g n w₀ w (k + 1) → w' ≡ splice p q (g (part b c w) k (part p q w)) w → GoingDown p q b c g n w₀ w' k
      down_turn w w' k v e =
          let t = turned w w' k v.0 v.1.0 e in
          let f : ℕ → List A → List A = within p q (g (part b c w₀)) in
          (t.0, (t.1, ap (down k f) t.2 ∙ sym (down_step k f w) ∙ v.1.1))

      pub down_end : (w : List A) → GoingDown p q b c g n w₀ w 0 → w ≡ splice p q (down n (g (part b c w₀)) (part p q w₀)) w₀
      down_end w v = sym (down_done (within p q (g (part b c w₀))) w) ∙ v.1.1

-- what stands before a place

module _ {A : Type 0} where
  drop-take : (a n : ℕ) (l : List A) → drop a (take (a + n) l) ≡ take n (drop a l)
  drop-take zero n l = rw zero-add
  drop-take (suc a) n [] = simp take-nil
  drop-take (suc a) n (x ∷ l) = rw suc-add (drop-take a n l)

  pub part-take : (a b e : ℕ) (l : List A) → a ≤ b → b ≤ e → part a b (take e l) ≡ part a b l
  part-take a b e l h k =
      let w : e ≡ a + (e - a) = omega arith in
      ap (λ (n : ℕ). part a b (take n l)) w ∙ ap (take (b - a)) (drop-take a (e - a) l) ∙ take-take (b - a) (e - a) (drop a l) (omega arith)

  -- two lists that agree before place e agree in each part there
  pub part_same : (e : ℕ) (l l' : List A) → take e l' ≡ take e l → (a b : ℕ) → a ≤ b → b ≤ e → part a b l' ≡ part a b l
  part_same e l l' same a b h k = sym (part-take a b e l' h k) ∙ ap (part a b) same ∙ part-take a b e l h k

  pub get-same : (e : ℕ) (l l' : List A) (d : A) → take e l' ≡ take e l → (i : ℕ) → i < e → get_or l' i d ≡ get_or l i d
  get-same e l l' d same i h = sym (get_or-take e l' i d h) ∙ ap (λ (x : List A). get_or x i d) same ∙ get_or-take e l i d h

  pub take_less : (a e : ℕ) (l l' : List A) → a ≤ e → take e l' ≡ take e l → take a l' ≡ take a l
  take_less a e l l' h same = sym (take-take a e l' h) ∙ ap (take a) same ∙ take-take a e l h

  -- two neighbouring regions, one written after the other
  pub splice_join : (a b e : ℕ) (ys zs l : List A) → a ≤ b → b ≤ e → e ≤ length l → length ys ≡ b - a → splice b e zs (splice a b ys l) ≡ splice a e (ys ++ zs) l
  splice_join a b e ys zs l h k i n =
      let x : List A = drop (b - a) (drop a l) in
      let t : length (take a l) ≡ a = length-take-le a l (omega arith) in
      let p : length (take a l ++ ys) ≡ b = length-append (take a l) ys ∙ omega arith in
      let whole : splice a b ys l ≡ (take a l ++ ys) ++ x = sym (append_assoc (take a l) ys x) in
      let front : take b (splice a b ys l) ≡ take a l ++ ys = ap (take b) whole ∙ take_at (take a l ++ ys) x b p in
      let back : drop b (splice a b ys l) ≡ x = ap (drop b) whole ∙ drop_at (take a l ++ ys) x b p in
      let wide : (b - a) + (e - b) ≡ e - a = omega arith in
      let rest : drop (e - b) (drop b (splice a b ys l)) ≡ drop (e - a) (drop a l) =
      ap (drop (e - b)) back ∙ drop-drop (e - b) (b - a) (drop a l) ∙ ap (λ (m : ℕ). drop m (drop a l)) wide in
      rw (front, rest) (append_assoc (take a l) ys (zs ++ drop (e - a) (drop a l)) ∙ ap (λ (m : List A). take a l ++ m) (sym (append_assoc ys zs (drop (e - a) (drop a l)))))
