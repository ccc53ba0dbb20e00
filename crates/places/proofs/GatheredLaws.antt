-- The laws of lists gathered place by place, and of lists written into others: at the front (`front`), and from a place on (`pasted`). Assumes nothing.
use mathlib.Core.Path.{◌≡◌, refl, sym, ◌∙◌, ap}
use mathlib.Core.Bool.{Bool, true, false, cond}
use mathlib.Core.List.{List, [], ◌∷◌, ◌++◌, append_assoc, append-nil}
use mathlib.Core.Logic.{◌⊎◌, ⊎_elim}
use Prim.Native.Nat.{ℕ, zero, suc, ◌+◌, ◌-◌, ◌≤◌, ◌<◌}
use native.Mathlib.Numerals.{add-one}
use native.Mathlib.Omega.{arith}
use lib.ListN.{length, get_or, set, take, drop, length-append, length-drop, length-take, take-append-drop, get_or-append}
use lib.Seq.{set_at, drop-cons, length-take-le, get_or-append-add, get_or-drop, get_or-take, take-add, drop-drop, drop-append-add, drop-append-le, take-append-le, take-take, take-suc, drop_at, take_at}
use Rattle.places.specs.Places.{gathered, count_below}
use Rattle.places.specs.Regions.{part, splice}

-- w with xs in its first places
abbrev pub front : {A : Type 0} → List A → List A → List A
front xs w = xs ++ drop (length xs) w

-- w with xs from place a on: what `splice a (a + length xs) xs w` is (`pasted_is`)
abbrev pub pasted : {A : Type 0} → ℕ → List A → List A → List A
pasted a xs w = take a w ++ (xs ++ drop (a + length xs) w)

-- ---- counting

pub count_yes : (k : ℕ) (p : ℕ → Bool) → p k ≡ true → count_below (k + 1) p ≡ count_below k p + 1
unfolding count_below
count_yes k p e = rw (add-one k, e)

pub count_no : (k : ℕ) (p : ℕ → Bool) → p k ≡ false → count_below (k + 1) p ≡ count_below k p
unfolding count_below
count_no k p e = rw (add-one k, e) (omega arith)

pub count_most : (n : ℕ) (p : ℕ → Bool) → count_below n p ≤ n
unfolding count_below
count_most zero p = omega arith
count_most (suc n) p = go (p n) (count_most n p)
  where
    go : (b : Bool) → count_below n p ≤ n → count_below n p + cond b 1 0 ≤ suc n
    go true h = omega arith
    go false h = omega arith

count-rises : (p : ℕ → Bool) (m k : ℕ) → count_below m p ≤ count_below (m + k) p
unfolding count_below
count-rises p m zero = let e : m + zero ≡ m = omega arith in rw e (omega arith)
count-rises p m (suc k) = let e : m + suc k ≡ suc (m + k) = omega arith in rw e (omega (arith, count-rises p m k))

pub count_mono : (p : ℕ → Bool) (m n : ℕ) → m ≤ n → count_below m p ≤ count_below n p
count_mono p m n h = let e : m + (n - m) ≡ n = omega arith in rw e at (count-rises p m (n - m))

module _ {A : Type 0} where
  -- ---- gathered

  pub gathered_yes : (k : ℕ) (p : ℕ → Bool) (f : ℕ → A) → p k ≡ true → gathered (k + 1) p f ≡ gathered k p f ++ (f k ∷ [])
  unfolding gathered
  gathered_yes k p f e = rw (add-one, e)

  pub gathered_no : (k : ℕ) (p : ℕ → Bool) (f : ℕ → A) → p k ≡ false → gathered (k + 1) p f ≡ gathered k p f
  unfolding gathered
  gathered_no k p f e = rw (add-one, e) (append-nil (gathered k p f))

  pub length-gathered : (n : ℕ) (p : ℕ → Bool) (f : ℕ → A) → length (gathered n p f) ≡ count_below n p
  unfolding gathered count_below
  length-gathered zero p f = refl
  length-gathered (suc n) p f = length-append (gathered n p f) _ ∙ go (p n) (length-gathered n p f)
    where
      go : (b : Bool) → length (gathered n p f) ≡ count_below n p → length (gathered n p f) + length (cond b (f n ∷ []) []) ≡ count_below n p + cond b 1 0
      go true e = omega arith
      go false e = omega arith

  -- ---- front

  pub length-front_is : (xs w : List A) → length xs ≤ length w → length (front xs w) ≡ length w
  length-front_is xs w h = simp (length-append, length-drop) (omega arith)

  pub front-next : (xs w : List A) (i : ℕ) (v d : A) → i ≡ length xs → i < length w → set (front xs w) i v ≡ front (xs ++ (v ∷ [])) w
  front-next xs w i v d e h =
      let n : length (xs ++ (v ∷ [])) ≡ suc (length xs) = simp length-append (omega arith) in
      rw (drop-cons w (length xs) d (omega arith), set_at xs (get_or w (length xs) d) (drop (suc (length xs)) w) v i (sym e), n, append_assoc xs (v ∷ []) (drop (suc (length xs)) w))

  pub front-after : (xs w : List A) (i : ℕ) (d : A) → length xs ≤ i → get_or (front xs w) i d ≡ get_or w i d
  front-after xs w i d h =
      let e : i ≡ length xs + (i - length xs) = omega arith in
      ap (λ (k : ℕ). get_or (front xs w) k d) e ∙ get_or-append-add xs (drop (length xs) w) (i - length xs) d ∙ get_or-drop (length xs) w (i - length xs) d
      ∙ ap (λ (k : ℕ). get_or w k d) (sym e)

  pub front-part : (xs w : List A) (a e : ℕ) → length xs ≤ a → part a e (front xs w) ≡ part a e w
  front-part xs w a e h =
      let z : a ≡ length xs + (a - length xs) = omega arith in
      ap (take (e - a))
      (ap (λ (k : ℕ). drop k (front xs w)) z ∙ drop-append-add xs (drop (length xs) w) (a - length xs) ∙ drop-drop (a - length xs) (length xs) w ∙ ap (λ (k : ℕ). drop k w) (sym z))

  -- ---- pasted

  pub pasted-none : (a : ℕ) (w : List A) → w ≡ pasted a [] w
  pasted-none a w = let z : a + 0 ≡ a = omega arith in rw z (sym (take-append-drop a w))

  pub length_pasted : (a : ℕ) (xs w : List A) → a + length xs ≤ length w → length (pasted a xs w) ≡ length w
  length_pasted a xs w h = simp (length-append, length-drop, length-take) (omega arith)

  -- one place more
  pub pasted-next : (a : ℕ) (xs w : List A) (i : ℕ) (v d : A) → i ≡ a + length xs → i < length w → set (pasted a xs w) i v ≡ pasted a (xs ++ (v ∷ [])) w
  pasted-next a xs w i v d e h =
      let m : length (take a w ++ xs) ≡ i = simp (length-append, length-take) (omega arith) in
      let n : a + length (xs ++ (v ∷ [])) ≡ suc (a + length xs) = simp length-append (omega arith) in
      rw (n, drop-cons w (a + length xs) d (omega arith), ← append_assoc (take a w) xs (get_or w (a + length xs) d ∷ drop (suc (a + length xs)) w), set_at (take a w ++ xs) (get_or w (a + length xs) d) (drop (suc (a + length xs)) w) v i m, append_assoc (take a w) xs (v ∷ drop (suc (a + length xs)) w), append_assoc xs (v ∷ []) (drop (suc (a + length xs)) w))

  -- what stands before is as it was, and what stands after
  pub take_pasted : (n a : ℕ) (xs w : List A) → n ≤ a → a ≤ length w → take n (pasted a xs w) ≡ take n w
  take_pasted n a xs w h l =
      let m : n ≤ length (take a w) = omega (arith, length-take-le a w l) in
      rw (take-append-le n (take a w) (xs ++ drop (a + length xs) w) m, take-take n a w h)

  pub drop_pasted : (a b : ℕ) (xs w : List A) → b ≡ a + length xs → a ≤ length w → drop b (pasted a xs w) ≡ drop b w
  drop_pasted a b xs w e l =
      let m : length (take a w ++ xs) ≡ b = simp (length-append, length-take) (omega arith) in
      rw (← append_assoc (take a w) xs (drop (a + length xs) w), drop_at (take a w ++ xs) (drop (a + length xs) w) b m, e)

  -- a part of what stands before
  part_is : (d e a : ℕ) (w r : List A) → d ≤ e → e ≤ a → a ≤ length w → part d e (take a w ++ r) ≡ part d e w
  part_is d e a w r h k l =
      let m : d ≤ length (take a w) = omega (arith, length-take-le a w l) in
      let n : e - d ≤ length (drop d (take a w)) = rw (length-drop, length-take-le a w l) (omega arith) in
      rw (drop-append-le d (take a w) r m, take-append-le (e - d) (drop d (take a w)) r n)
      (sym (ap (part d e) (sym (take-append-drop a w)) ∙ rw (drop-append-le d (take a w) (drop a w) m) (take-append-le (e - d) (drop d (take a w)) (drop a w) n)))

  pub part_pasted : (d e a : ℕ) (xs w : List A) → d ≤ e → e ≤ a → a ≤ length w → part d e (pasted a xs w) ≡ part d e w
  part_pasted d e a xs w h k l = part_is d e a w (xs ++ drop (a + length xs) w) h k l

  -- what was pasted
  pub part_pasted_self : (a b : ℕ) (xs w : List A) → a ≤ length w → b ≡ a + length xs → part a b (pasted a xs w) ≡ xs
  part_pasted_self a b xs w l e =
      let n : length xs ≡ b - a = omega arith in
      rw (drop_at (take a w) (xs ++ drop (a + length xs) w) a (length-take-le a w l), take_at xs (drop (a + length xs) w) (b - a) (n))

  drop-after : (a f : ℕ) (xs w : List A) → a + length xs ≤ f → a ≤ length w → drop f (pasted a xs w) ≡ drop f w
  drop-after a f xs w h l =
      let b = a + length xs in
      let z : b + (f - b) ≡ f = omega arith in
      ap (λ (k : ℕ). drop k (pasted a xs w)) (sym z) ∙ sym (drop-drop (f - b) b (pasted a xs w)) ∙ ap (drop (f - b)) (drop_pasted a b xs w refl l) ∙ drop-drop (f - b) b w ∙ ap (λ (k : ℕ). drop k w) z

  pub part_pasted-after : (a f g : ℕ) (xs w : List A) → a + length xs ≤ f → a ≤ length w → part f g (pasted a xs w) ≡ part f g w
  part_pasted-after a f g xs w h l = ap (take (g - f)) (drop-after a f xs w h l)

  -- what stands from b on, before the place that is pasted
  drop-before : (b g : ℕ) (ys u : List A) → b ≤ g → g ≤ length u → drop b (pasted g ys u) ≡ part b g u ++ (ys ++ drop (g + length ys) u)
  drop-before b g ys u h l =
      let p = drop b (take g u) in
      let m : b ≤ length (take g u) = omega (arith, length-take-le g u l) in
      let n : length p ≡ g - b = simp length-drop (omega (arith, length-take-le g u l)) in
      let old : part b g u ≡ p = ap (part b g) (sym (take-append-drop g u)) ∙ rw (drop-append-le b (take g u) (drop g u) m) (take_at p (drop g u) (g - b) n) in
      drop-append-le b (take g u) (ys ++ drop (g + length ys) u) m ∙ ap (λ (z : List A). z ++ (ys ++ drop (g + length ys) u)) (sym old)

  -- what is pasted last covers what was pasted there first, with something pasted further on between the two
  pub pasted_over : (f g : ℕ) (xs ys zs w : List A) → length zs ≤ length xs → f + length xs ≤ g → g + length ys ≤ length w → pasted f xs (pasted g ys (pasted f zs w)) ≡ pasted f xs (pasted g ys w)
  pasted_over f g xs ys zs w h k l =
      let u = pasted f zs w in
      let n : length u ≡ length w = length_pasted f zs w (omega arith) in
      let b = f + length xs in
      let a : take f (pasted g ys u) ≡ take f (pasted g ys w) = take_pasted f g ys u (omega arith) (omega arith) ∙ take_pasted f f zs w (omega arith) (omega arith) ∙ sym (take_pasted f g ys w (omega arith) (omega arith)) in
      let c : part b g u ≡ part b g w = part_pasted-after f b g zs w (omega arith) (omega arith) in
      let e : drop (g + length ys) u ≡ drop (g + length ys) w = drop-after f (g + length ys) zs w (omega arith) (omega arith) in
      let d : drop b (pasted g ys u) ≡ drop b (pasted g ys w) =
      drop-before b g ys u k (omega arith) ∙ rw (c, e) (sym (drop-before b g ys w k (omega arith))) in
      rw (a, d)

  pub pasted_again : (a : ℕ) (xs ys w : List A) → length xs ≡ length ys → a ≤ length w → pasted a xs (pasted a ys w) ≡ pasted a xs w
  pasted_again a xs ys w e l = rw (take_pasted a a ys w (omega arith) l, drop_pasted a (a + length xs) ys w (omega arith) l)

  -- one place before
  pub pasted-before : (a b : ℕ) (xs w : List A) (v d : A) → b ≡ a + 1 → b + length xs ≤ length w → set (pasted b xs w) a v ≡ pasted a (v ∷ xs) w
  pasted-before a b xs w v d e h =
      let k : a + length (v ∷ xs) ≡ b + length xs = omega arith in
      let t : take b w ≡ take a w ++ (get_or w a d ∷ []) = rw (e, add-one a) (take-suc w a d (omega arith)) in
      rw (k, t, append_assoc (take a w) (get_or w a d ∷ []) (xs ++ drop (b + length xs) w))
      (set_at (take a w) (get_or w a d) (xs ++ drop (b + length xs) w) v a (length-take-le a w (omega arith)))

  pub get_or_pasted-before : (a : ℕ) (xs w : List A) (p : ℕ) (d : A) → p < a → a ≤ length w → get_or (pasted a xs w) p d ≡ get_or w p d
  get_or_pasted-before a xs w p d h l = get_or-append (take a w) (xs ++ drop (a + length xs) w) d p (omega (arith, length-take-le a w l)) ∙ get_or-take a w p d h

  pub get_or_pasted-after : (a : ℕ) (xs w : List A) (p : ℕ) (d : A) → a + length xs ≤ p → a ≤ length w → get_or (pasted a xs w) p d ≡ get_or w p d
  get_or_pasted-after a xs w p d h l =
      let b = a + length xs in
      let z : b + (p - b) ≡ p = omega arith in
      ap (λ (k : ℕ). get_or (pasted a xs w) k d) (sym z) ∙ sym (get_or-drop b (pasted a xs w) (p - b) d)
      ∙ ap (λ (x : List A). get_or x (p - b) d) (drop_pasted a b xs w refl l) ∙ get_or-drop b w (p - b) d ∙ ap (λ (k : ℕ). get_or w k d) z

  -- what stands before is pasted too
  pub pasted_join : (f i l : ℕ) (xs w : List A) → i ≤ l → f + l ≤ length w → pasted (f + i) xs w ≡ pasted f (take i (part f (f + l) w) ++ xs) w
  pasted_join f i l xs w h k =
      let y : f + l - f ≡ l = omega arith in
      let z : take i (part f (f + l) w) ≡ take i (drop f w) = rw y (take-take i l (drop f w) h) in
      let n : f + length (take i (drop f w) ++ xs) ≡ f + i + length xs = simp (length-append, length-take, length-drop) (omega arith) in
      rw (z, n, take-add f i w, append_assoc (take f w) (take i (drop f w)) (xs ++ drop (f + i + length xs) w), append_assoc (take i (drop f w)) xs (drop (f + i + length xs) w))

  -- a part that is replaced, and one whose front is written
  pub splice_is : (a e : ℕ) (xs w : List A) → a ≤ e → length xs ≡ e - a → splice a e xs w ≡ pasted a xs w
  splice_is a e xs w h n = rw (drop-drop (e - a) a w, n)

  pub splice_front : (d e : ℕ) (xs w : List A) → length xs ≤ e - d → e ≤ length w → splice d e (front xs (part d e w)) w ≡ pasted d xs w
  splice_front d e xs w h l =
      let z = drop d w in
      let m : length xs ≤ length (take (e - d) z) = omega (arith, length-take-le (e - d) z (rw length-drop (omega arith))) in
      let n : drop (length xs) (take (e - d) z) ++ drop (e - d) z ≡ drop (d + length xs) w =
      sym (drop-append-le (length xs) (take (e - d) z) (drop (e - d) z) m) ∙ ap (drop (length xs)) (take-append-drop (e - d) z) ∙ drop-drop (length xs) d w in
      rw (append_assoc xs (drop (length xs) (take (e - d) z)) (drop (e - d) z), n)

  pub pasted_is : (a : ℕ) (xs w : List A) → splice a (a + length xs) xs w ≡ pasted a xs w
  pasted_is a xs w = splice_is a (a + length xs) xs w (omega arith) (omega arith)

  -- a region beside it
  pub part_beside : (b e a : ℕ) (xs w : List A) → b ≤ e → a ≤ length w → (e ≤ a) ⊎ (a + length xs ≤ b) → part b e (pasted a xs w) ≡ part b e w
  part_beside b e a xs w h l s = ⊎_elim (λ k. part_pasted b e a xs w h k l) (λ k. part_pasted-after a b e xs w k l) s
