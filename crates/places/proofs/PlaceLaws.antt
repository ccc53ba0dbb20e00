-- The laws of `laid`, `list_of`, `joined`, `some_below` and `all_below`. Assumes nothing.
use mathlib.Core.Path.{◌≡◌, refl, sym, ◌∙◌, ap, subst}
use mathlib.Core.Bool.{Bool, true, false, cond, ◌||◌, ◌&&◌}
use mathlib.Core.List.{List, [], ◌∷◌, ◌++◌, append_assoc, append-nil}
use mathlib.Core.Logic.{⊎_elim, ◌⊎◌, inl, inr}
use Prim.Native.Nat.{ℕ, zero, suc, ◌+◌, ◌-◌, ◌*◌, ◌<◌, ◌≤◌}
use native.Mathlib.Nat.{add-zero, add-suc, add_assoc, ne_of_lt, ne_of_gt, eq-or-lt_of_le, le_of_suc-le-suc, not-suc-le-zero, zero-add, zero-mul, suc-mul, mul-le-mul_right}
use native.Mathlib.Numerals.{add-one}
use lib.Dec.{leb, eqb}
use borrow.Author.Tests.{leb-true, leb-false, eq-eqb, ne_eqb}
use native.Mathlib.Omega.{arith}
use lib.ListN.{length, get_or, set, take, drop, replicate, length-set, length-append, length-drop, length-replicate, get_or-replicate, take-append-drop, get_or-append}
use lib.Seq.{get_or-set_same, get_or-set_other, set_comm, set-set, set-append_left, length-take-le, get_or_at, get_or-take, get_or-drop, ext_get_or, drop-cons, set_at, drop_at, take_at, drop-drop, drop-length, drop-set-lt, take_all, append_snoc}
use Rattle.places.specs.Loops.{each}
use Rattle.places.proofs.LoopLaws.{each_done, each_last}
use Rattle.places.specs.Regions.{part, splice}
use Rattle.places.proofs.RegionLaws.{part-front, length_part, set-append-add, get_d_part}
use Rattle.places.specs.Places.{laid, list_of, joined, some_below, all_below}

module _ {A : Type 0} where
  pub length-laid : (a n : ℕ) (f : ℕ → A) (xs : List A) → length (laid a n f xs) ≡ length xs
  unfolding laid
  length-laid a zero f xs = refl
  length-laid a (suc n) f xs = rw length-set (length-laid a n f xs)

  pub laid_none : (a : ℕ) (f : ℕ → A) (xs : List A) → laid a 0 f xs ≡ xs
  unfolding laid
  laid_none a f xs = refl

  pub laid_more : (a n : ℕ) (f : ℕ → A) (xs : List A) → laid a (n + 1) f xs ≡ set (laid a n f xs) (a + n) (f n)
  unfolding laid
  laid_more a n f xs = rw (add-one n)

  pub laid0-more : (n : ℕ) (f : ℕ → A) (xs : List A) → laid 0 (n + 1) f xs ≡ set (laid 0 n f xs) n (f n)
  laid0-more n f xs = laid_more 0 n f xs ∙ ap (λ (i : ℕ). set (laid 0 n f xs) i (f n)) (zero-add n)

  -- one store more, in a loop
  pub laid_next : (a m : ℕ) (f : ℕ → A) (xs out : List A) (v : A) → out ≡ laid a m f xs → v ≡ f m → set out (a + m) v ≡ laid a (m + 1) f xs
  laid_next a m f xs out v e h = rw (e, h, laid_more)

  -- one store more, in a loop that lays from the front
  pub laid0-next : (m : ℕ) (f : ℕ → A) (xs out : List A) (v : A) → out ≡ laid 0 m f xs → v ≡ f m → set out m v ≡ laid 0 (m + 1) f xs
  laid0-next m f xs out v e h = rw (e, h, laid0-more)

  -- places outside are kept
  pub laid-below : (a n : ℕ) (f : ℕ → A) (xs : List A) (j : ℕ) (d : A) → j < a → get_or (laid a n f xs) j d ≡ get_or xs j d
  unfolding laid
  laid-below a zero f xs j d h = refl
  laid-below a (suc n) f xs j d h = get_or-set_other (laid a n f xs) (a + n) j (f n) d (ne_of_lt (omega arith)) ∙ laid-below a n f xs j d h

  pub laid-above : (a n : ℕ) (f : ℕ → A) (xs : List A) (j : ℕ) (d : A) → a + n ≤ j → get_or (laid a n f xs) j d ≡ get_or xs j d
  unfolding laid
  laid-above a zero f xs j d h = refl
  laid-above a (suc n) f xs j d h = get_or-set_other (laid a n f xs) (a + n) j (f n) d (ne_of_gt (omega arith)) ∙ laid-above a n f xs j d (omega arith)

  -- the places that are laid
  pub laid-at : (a n : ℕ) (f : ℕ → A) (xs : List A) (k : ℕ) (d : A) → k < n → a + n ≤ length xs → get_or (laid a n f xs) (a + k) d ≡ f k
  unfolding laid
  laid-at a zero f xs k d h l = absurd (not-suc-le-zero h)
  laid-at a (suc n) f xs k d h l =
      ⊎_elim
      (λ e. rw e (get_or-set_same (laid a n f xs) (a + n) (f n) d (omega (arith, length-laid a n f xs))))
      (λ lt. get_or-set_other (laid a n f xs) (a + n) (a + k) (f n) d (ne_of_lt (omega arith)) ∙ laid-at a n f xs k d lt (omega arith))
      (eq-or-lt_of_le (le_of_suc-le-suc h))

  pub laid0-at : (n : ℕ) (f : ℕ → A) (xs : List A) (k : ℕ) (d : A) → k < n → n ≤ length xs → get_or (laid 0 n f xs) k d ≡ f k
  laid0-at n f xs k d h l = ap (λ (i : ℕ). get_or (laid 0 n f xs) i d) (sym (zero-add k)) ∙ laid-at 0 n f xs k d h (omega arith)

  -- only the values below n count
  pub laid_same : (a n : ℕ) (f g : ℕ → A) (xs : List A) → ((k : ℕ) → k < n → f k ≡ g k) → laid a n f xs ≡ laid a n g xs
  unfolding laid
  laid_same a zero f g xs e = refl
  laid_same a (suc n) f g xs e = rw (e n (omega arith), laid_same a n f g xs (λ k h. e k (omega arith)))

  -- two neighbouring regions are one
  pub laid_join : (a m n : ℕ) (f g h : ℕ → A) (xs : List A) → ((k : ℕ) → k < m → f k ≡ h k) → ((k : ℕ) → k < n → g k ≡ h (m + k)) → laid (a + m) n g (laid a m f xs) ≡ laid a (m + n) h xs
  unfolding laid
  laid_join a m zero f g h xs e e' = rw add-zero (laid_same a m f h xs e)
  laid_join a m (suc n) f g h xs e e' =
      rw (add-suc, laid_join a m n f g h xs e (λ k l. e' k (omega arith)), e' n (omega arith), add_assoc)

  -- a store past the places that are laid
  laid-set : (a n : ℕ) (f : ℕ → A) (xs : List A) (i : ℕ) (v : A) → a + n ≤ i → laid a n f (set xs i v) ≡ set (laid a n f xs) i v
  unfolding laid
  laid-set a zero f xs i v h = refl
  laid-set a (suc n) f xs i v h =
      ap (λ (l : List A). set l (a + n) (f n)) (laid-set a n f xs i v (omega arith)) ∙ set_comm (laid a n f xs) i (a + n) v (f n) (ne_of_gt (omega arith))

  -- two regions, one before the other, are laid in either order
  pub laid-order : (a m b n : ℕ) (f g : ℕ → A) (xs : List A) → a + m ≤ b → laid a m f (laid b n g xs) ≡ laid b n g (laid a m f xs)
  unfolding laid
  laid-order a m b zero f g xs h = refl
  laid-order a m b (suc n) f g xs h = laid-set a m f (laid b n g xs) (b + n) (g n) (omega arith) ∙ ap (λ (l : List A). set l (b + n) (g n)) (laid-order a m b n f g xs h)

  -- a store into a place that is laid later
  pub laid_again : (a n : ℕ) (f : ℕ → A) (xs : List A) (i : ℕ) (v : A) → i < n → laid a n f (set xs (a + i) v) ≡ laid a n f xs
  unfolding laid
  laid_again a zero f xs i v h = absurd (not-suc-le-zero h)
  laid_again a (suc n) f xs i v h =
      ⊎_elim
      (λ e. rw e (ap (λ (l : List A). set l (a + n) (f n)) (laid-set a n f xs (a + n) v (omega arith)) ∙ set-set (laid a n f xs) (a + n) v (f n)))
      (λ lt. ap (λ (l : List A). set l (a + n) (f n)) (laid_again a n f xs i v lt))
      (eq-or-lt_of_le (le_of_suc-le-suc h))

  -- a store into a place that is laid
  pub laid_put : (n : ℕ) (f : ℕ → A) (xs : List A) (i : ℕ) (v : A) → i < n → set (laid 0 n f xs) i v ≡ laid 0 n (λ k. cond (eqb k i) v (f k)) xs
  unfolding laid
  laid_put zero f xs i v h = absurd (not-suc-le-zero h)
  laid_put (suc n) f xs i v h =
      ⊎_elim
      (λ (e : i ≡ n). rw (eq-eqb n i (sym e), e, zero-add)
      (set-set (laid 0 n f xs) n (f n) v
      ∙ ap (λ (l : List A). set l n v) (laid_same 0 n f (λ k. cond (eqb k n) v (f k)) xs (λ k l. rw (ne_eqb k n (ne_of_lt l))))))
      (λ (lt : i < n). rw (zero-add, ne_eqb n i (ne_of_gt lt))
      (set_comm (laid 0 n f xs) n i (f n) v (ne_of_gt lt) ∙ ap (λ (l : List A). set l n (f n)) (laid_put n f xs i v lt)))
      (eq-or-lt_of_le (le_of_suc-le-suc h))

  -- what is laid last stands
  pub laid-laid : (a n : ℕ) (f g : ℕ → A) (xs : List A) → laid a n f (laid a n g xs) ≡ laid a n f xs
  unfolding laid
  laid-laid a zero f g xs = refl
  laid-laid a (suc n) f g xs =
      ap (λ (l : List A). set l (a + n) (f n)) (laid-set a n f (laid a n g xs) (a + n) (g n) (omega arith) ∙ ap (λ (l : List A). set l (a + n) (g n)) (laid-laid a n f g xs))
      ∙ set-set (laid a n f xs) (a + n) (g n) (f n)

-- ---- regions of a buffer: a part that is lent and comes back, and a part that is read

module _ {A : Type 0} where
  -- The k places from a on are lent as `&mut xs[a..a + k]`. What is laid from the part's front is laid in the whole from a on.
  pub laid-part : (a k n : ℕ) (f : ℕ → A) (xs : List A) → n ≤ k → a + k ≤ length xs → take a xs ++ (laid 0 n f (take k (drop a xs)) ++ drop k (drop a xs)) ≡ laid a n f xs
  unfolding laid
  laid-part a k zero f xs h l = rw (take-append-drop, take-append-drop)
  laid-part a k (suc n) f xs h l =
      let inside : n < length (laid 0 n f (take k (drop a xs))) = omega (arith, length-laid 0 n f (take k (drop a xs)), length-take-le k (drop a xs) (omega (arith, length-drop a xs))) in
      rw (zero-add, ← set-append_left (laid 0 n f (take k (drop a xs))) (drop k (drop a xs)) n (f n) inside)
      (sym (set-append-add (take a xs) (laid 0 n f (take k (drop a xs)) ++ drop k (drop a xs)) n (f n))
      ∙ rw (length-take-le a xs (omega arith), laid-part a k n f xs (omega arith) l))

  pub length-list_of : (n : ℕ) (f : ℕ → A) → length (list_of n f) ≡ n
  unfolding list_of
  length-list_of zero f = refl
  length-list_of (suc n) f = rw (length-append, length-list_of n f) (omega arith)

  pub list_of-at : (n : ℕ) (f : ℕ → A) (k : ℕ) (d : A) → k < n → get_or (list_of n f) k d ≡ f k
  unfolding list_of
  list_of-at zero f k d h = absurd (not-suc-le-zero h)
  list_of-at (suc n) f k d h =
      ⊎_elim
      (λ e. rw e (get_or_at (list_of n f) (f n) [] d n (length-list_of n f)))
      (λ lt. get_or-append (list_of n f) (f n ∷ []) d k (omega (arith, length-list_of n f)) ∙ list_of-at n f k d lt)
      (eq-or-lt_of_le (le_of_suc-le-suc h))

  -- The k places from a on are read as `&xs[a..a + k]`, once they are laid.
  pub part-laid : (a k : ℕ) (f : ℕ → A) (xs : List A) (d : A) → a + k ≤ length xs → take k (drop a (laid a k f xs)) ≡ list_of k f
  part-laid a k f xs d h =
      let long : length (take k (drop a (laid a k f xs))) ≡ k = length-take-le k _ (omega (arith, length-drop a (laid a k f xs), length-laid a k f xs)) in
      ext_get_or d _ _ (long ∙ sym (length-list_of k f))
      (λ i l. let l' : i < k = omega arith in get_or-take k _ i d l' ∙ get_or-drop a _ i d ∙ laid-at a k f xs i d l' h ∙ sym (list_of-at k f i d l'))

  -- A region that does not meet the places that are laid reads as before.
  pub part-before-laid : (a n : ℕ) (f : ℕ → A) (xs : List A) (b k : ℕ) (d : A) → b + k ≤ a → b + k ≤ length xs → take k (drop b (laid a n f xs)) ≡ take k (drop b xs)
  part-before-laid a n f xs b k d h l =
      let long : length (take k (drop b (laid a n f xs))) ≡ k = length-take-le k _ (omega (arith, length-drop b (laid a n f xs), length-laid a n f xs)) in
      let long' : length (take k (drop b xs)) ≡ k = length-take-le k _ (omega (arith, length-drop b xs)) in
      ext_get_or d _ _ (long ∙ sym long')
      (λ i q. let q' : i < k = omega arith in
      get_or-take k _ i d q' ∙ get_or-drop b _ i d ∙ laid-below a n f xs (b + i) d (omega arith) ∙ sym (get_or-take k _ i d q' ∙ get_or-drop b _ i d))

  -- what is laid over a narrower region is laid alone
  pub laid_wider : (a m n : ℕ) (f g : ℕ → A) (xs : List A) → m ≤ n → laid a n f (laid a m g xs) ≡ laid a n f xs
  unfolding laid
  laid_wider a zero n f g xs h = refl
  laid_wider a (suc m) n f g xs h = laid_again a n f (laid a m g xs) m (g m) (omega arith) ∙ laid_wider a m n f g xs (omega arith)

  -- what is laid past a list's first part
  pub laid-append : (p q : List A) (a n : ℕ) (f : ℕ → A) → laid (length p + a) n f (p ++ q) ≡ p ++ laid a n f q
  unfolding laid
  laid-append p q a zero f = refl
  laid-append p q a (suc n) f = rw (laid-append p q a n f, add_assoc) (set-append-add p (laid a n f q) (a + n) (f n))

  -- every place the same
  pub laid_all : (n : ℕ) (v : A) (xs : List A) → length xs ≡ n → laid 0 n (λ (k : ℕ). v) xs ≡ replicate n v
  laid_all n v xs e =
      ext_get_or v _ _ (length-laid 0 n _ xs ∙ e ∙ sym (length-replicate n v))
      (λ i l. let l' : i < n = omega (arith, length-laid 0 n (λ (k : ℕ). v) xs) in laid0-at n (λ (k : ℕ). v) xs i v l' (omega arith) ∙ sym (get_or-replicate n i v v l'))

-- ---- bridges between the ways to say what stands where

module _ {A : Type 0} where
  -- what is laid from the front stands before the places that stay
  pub laid-front : (n : ℕ) (f : ℕ → A) (xs : List A) → n ≤ length xs → laid 0 n f xs ≡ list_of n f ++ drop n xs
  unfolding laid list_of
  laid-front zero f xs h = refl
  laid-front (suc n) f xs h =
      rw (zero-add, laid-front n f xs (omega arith), drop-cons xs n (f n) (omega arith))
      (set_at (list_of n f) (get_or xs n (f n)) (drop (suc n) xs) (f n) n (length-list_of n f) ∙ sym (append_snoc (list_of n f) (f n) (drop (suc n) xs)))

  -- a region all of which is laid
  pub laid_region : (a n : ℕ) (f : ℕ → A) (xs : List A) → a + n ≤ length xs → laid a n f xs ≡ splice a (a + n) (list_of n f) xs
  laid_region a n f xs h =
      let w : a + n - a ≡ n = omega arith in
      let l : length (take n (drop a xs)) ≡ n = length-take-le n (drop a xs) (omega (arith, length-drop a xs)) in
      rw w
      (sym (laid-part a n n f xs (omega arith) h)
      ∙ ap (λ (ys : List A). take a xs ++ (ys ++ drop n (drop a xs))) (laid-front n f (take n (drop a xs)) (omega arith) ∙ ap (λ (ys : List A). list_of n f ++ ys) (ap (λ (m : ℕ). drop m (take n (drop a xs))) (sym l) ∙ drop-length (take n (drop a xs))) ∙ append-nil (list_of n f)))

  -- the places behind those that are laid
  pub drop-laid : (m n : ℕ) (f : ℕ → A) (xs : List A) → n ≤ m → drop m (laid 0 n f xs) ≡ drop m xs
  unfolding laid
  drop-laid m zero f xs h = refl
  drop-laid m (suc n) f xs h = rw zero-add (drop-set-lt m (laid 0 n f xs) n (f n) (omega arith) ∙ drop-laid m n f xs (omega arith))

  -- places laid from the second on, and a store into the first
  pub laid-second : (m : ℕ) (f : ℕ → A) (xs : List A) (v : A) → m < length xs → set (laid 1 m f xs) 0 v ≡ (v ∷ list_of m f) ++ drop (m + 1) xs
  laid-second m f [] v h = absurd (not-suc-le-zero h)
  laid-second m f (x ∷ ys) v h =
      rw add-one
      (ap (λ (l : List A). set l 0 v) (laid-append (x ∷ []) ys 0 m f) ∙ ap (λ (l : List A). v ∷ l) (laid-front m f ys (omega arith)))

  -- all places of a list
  pub list_of_all : (n : ℕ) (xs : List A) (d : A) → length xs ≡ n → list_of n (λ k. get_or xs k d) ≡ xs
  list_of_all n xs d e =
      ext_get_or d _ _ (length-list_of n _ ∙ sym e) (λ i h. list_of-at n (λ k. get_or xs k d) i d (omega (arith, length-list_of n (λ k. get_or xs k d))))

  -- a list copied place by place into another's front
  pub laid_copy : (from to : List A) (d : A) → length from ≤ length to → laid 0 (length from) (λ k. get_or from k d) to ≡ from ++ drop (length from) to
  laid_copy from to d h =
      laid-front (length from) (λ k. get_or from k d) to h ∙ ap (λ (l : List A). l ++ drop (length from) to) (list_of_all (length from) from d refl)

  -- a list that is filled from the front, by a store
  pub list_of-next : (k : ℕ) (f : ℕ → A) (old now : List A) (v : A) → k < length old → now ≡ list_of k f ++ drop k old → v ≡ f k → set now k v ≡ list_of (k + 1) f ++ drop (k + 1) old
  list_of-next k f old now v h e g =
      laid0-next k f old now v (e ∙ sym (laid-front k f old (omega arith))) g ∙ laid-front (k + 1) f old (omega arith)

  pub length_filled : (n : ℕ) (xs old now : List A) → n ≤ length old → length xs ≡ n → now ≡ xs ++ drop n old → length now ≡ length old
  length_filled n xs old now h l e = rw e (simp (length-append, length-drop) (omega arith))

  -- the same value in each place
  pub list_of-replicate : (n : ℕ) (v : A) → list_of n (λ (k : ℕ). v) ≡ replicate n v
  list_of-replicate n v =
      ext_get_or v _ _ (length-list_of n _ ∙ sym (length-replicate n v))
      (λ i l. let l' : i < n = omega (arith, length-list_of n (λ (k : ℕ). v)) in list_of-at n (λ (k : ℕ). v) i v l' ∙ sym (get_or-replicate n i v v l'))

  -- a list that is filled from the front, by a run of m places
  pub laid_run : (m : ℕ) (v : A) (xs old : List A) → length xs + m ≤ length old
      → laid (length xs) m (λ (k : ℕ). v) (xs ++ drop (length xs) old) ≡ (xs ++ replicate m v) ++ drop (length xs + m) old
  laid_run m v xs old h =
      let q = drop (length xs) old in
      let long : m ≤ length q = omega (arith, length-drop (length xs) old) in
      ap (λ (a : ℕ). laid a m (λ (k : ℕ). v) (xs ++ q)) (sym (add-zero (length xs)))
      ∙ laid-append xs q 0 m (λ (k : ℕ). v)
      ∙ ap (λ (l : List A). xs ++ l) (laid-front m (λ (k : ℕ). v) q long ∙ rw (list_of-replicate m v, drop-drop m (length xs) old))
      ∙ sym (append_assoc xs (replicate m v) (drop (length xs + m) old))

  -- a loop of stores lays
  pub laid_each : (a n : ℕ) (f : ℕ → A) (xs : List A) → each 0 n (λ k l. set l (a + k) (f k)) xs ≡ laid a n f xs
  unfolding laid
  laid_each a zero f xs = each_done 0 0 (λ k l. set l (a + k) (f k)) xs (omega arith)
  laid_each a (suc n) f xs =
      ap (λ (m : ℕ). each 0 m (λ k l. set l (a + k) (f k)) xs) (sym (add-one n))
      ∙ each_last 0 n (λ k l. set l (a + k) (f k)) xs (omega arith)
      ∙ ap (λ (l : List A). set l (a + n) (f n)) (laid_each a n f xs)

  -- one place more
  pub list_of-more : (k : ℕ) (f : ℕ → A) → list_of (k + 1) f ≡ list_of k f ++ (f k ∷ [])
  unfolding list_of
  list_of-more k f = rw add-one

  -- only the values below n count
  pub list_of-same : (n : ℕ) (f g : ℕ → A) → ((k : ℕ) → k < n → f k ≡ g k) → list_of n f ≡ list_of n g
  unfolding list_of
  list_of-same zero f g e = refl
  list_of-same (suc n) f g e = rw (e n (omega arith), list_of-same n f g (λ k h. e k (omega arith)))

  -- rows of w places, one after the other
  pub length-joined : (n w : ℕ) (f : ℕ → List A) → ((k : ℕ) → k < n → length (f k) ≡ w) → length (joined n f) ≡ n * w
  unfolding joined
  length-joined zero w f e = sym (zero-mul w)
  length-joined (suc n) w f e =
      rw (length-append, length-joined n w f (λ k h. e k (omega arith)), e n (omega arith), suc-mul) refl

  pub part-joined : (n w : ℕ) (f : ℕ → List A) → ((k : ℕ) → k < n → length (f k) ≡ w) → (k : ℕ) → k < n → part (k * w) (k * w + w) (joined n f) ≡ f k
  unfolding joined
  part-joined zero w f e k h = absurd (not-suc-le-zero h)
  part-joined (suc n) w f e k h =
      let m : length (joined n f) ≡ n * w = length-joined n w f (λ j i. e j (omega arith)) in
      ⊎_elim
      (λ q. rw q (ap (take (n * w + w - n * w)) (drop_at (joined n f) (f n) (n * w) m) ∙ take_all (n * w + w - n * w) (f n) (omega (arith, e n (omega arith)))))
      (λ lt. let l : k + 1 ≤ n = omega arith in let b : (k + 1) * w ≤ n * w = mul-le-mul_right w l in part-front (k * w) (k * w + w) (joined n f) (f n) (omega arith) (omega arith) ∙ part-joined n w f (λ j i. e j (omega arith)) k lt)
      (eq-or-lt_of_le (le_of_suc-le-suc h))

-- row k of n, of w places each
pub row_inside : (k n w : ℕ) → k < n → k * w + w ≤ n * w
row_inside k n w h = subst (λ (m : ℕ). m ≤ n * w) (suc-mul k w) (mul-le-mul_right w h)

module _ {A : Type 0} where
  pub joined-more : (k : ℕ) (f : ℕ → List A) → joined (k + 1) f ≡ joined k f ++ f k
  unfolding joined
  joined-more k f = rw add-one

  -- a list that is filled from the front, by rows: the part k * w .. k * w + w is lent, and comes back with row k in it
  pub joined-next : (k w : ℕ) (f : ℕ → List A) (old now ys : List A) → ((i : ℕ) → i < k → length (f i) ≡ w) → k * w + w ≤ length old → length now ≡ length old
      → now ≡ joined k f ++ drop (k * w) old
      → ys ≡ f k ++ drop w (part (k * w) (k * w + w) now)
      → splice (k * w) (k * w + w) ys now ≡ joined (k + 1) f ++ drop ((k + 1) * w) old
  joined-next k w f old now ys rows h long e put =
      let n : length (joined k f) ≡ k * w = length-joined k w f rows in
      let width : k * w + w - k * w ≡ w = omega arith in
      let p : length (part (k * w) (k * w + w) now) ≡ w = length_part (k * w) (k * w + w) now (omega arith) ∙ width in
      let whole : ys ≡ f k = put ∙ ap (λ (l : List A). f k ++ l) (ap (λ (n : ℕ). drop n (part (k * w) (k * w + w) now)) (sym p) ∙ drop-length (part (k * w) (k * w + w) now)) ∙ append-nil (f k) in
      let front : take (k * w) now ≡ joined k f = ap (take (k * w)) e ∙ take_at (joined k f) (drop (k * w) old) (k * w) n in
      let back : drop (k * w) now ≡ drop (k * w) old = ap (drop (k * w)) e ∙ drop_at (joined k f) (drop (k * w) old) (k * w) n in
      let on : k * w + w ≡ (k + 1) * w = omega arith in
      let rest : drop (k * w + w - k * w) (drop (k * w) now) ≡ drop ((k + 1) * w) old =
      ap (drop (k * w + w - k * w)) back ∙ ap (λ (m : ℕ). drop m (drop (k * w) old)) width ∙ drop-drop w (k * w) old ∙ ap (λ (m : ℕ). drop m old) on in
      rw (front, whole, rest, joined-more k f) (sym (append_assoc (joined k f) (f k) (drop ((k + 1) * w) old)))

  -- only the rows below n count
  pub joined_same : (n : ℕ) (f g : ℕ → List A) → ((k : ℕ) → k < n → f k ≡ g k) → joined n f ≡ joined n g
  unfolding joined
  joined_same zero f g e = refl
  joined_same (suc n) f g e = rw (e n (omega arith), joined_same n f g (λ k h. e k (omega arith)))

-- a place of rows of w places
pub joined_at : {A : Type 0} (n w : ℕ) (f : ℕ → List A) (d : A) → ((k : ℕ) → k < n → length (f k) ≡ w) → (i j : ℕ) → i < n → j < w → get_or (joined n f) (i * w + j) d ≡ get_or (f i) j d
joined_at {A} n w f d e i j h l =
    sym (get_d_part (i * w) (i * w + w) (joined n f) j d (omega arith)) ∙ ap (λ (x : List A). get_or x j d) (part-joined n w f e i h)

-- one of two numbers is at most the other, or above it
le-or-lt_by : (a b : ℕ) (t : Bool) → leb a b ≡ t → (a ≤ b) ⊎ (b < a)
le-or-lt_by a b true e = inl (leb-true a b e)
le-or-lt_by a b false e = inr (leb-false a b e)

pub le-or-lt : (a b : ℕ) → (a ≤ b) ⊎ (b < a)
le-or-lt a b = le-or-lt_by a b (leb a b) refl

pub differ : (b : Bool) → b ≡ true → b ≡ false → ⊥
differ b e f = let z : ◌≡◌ {A = Bool} true false = cc in let y : ◌≡◌ {A = ℕ} 0 1 = cc in omega arith

pub or_true : (b : Bool) → (b || true) ≡ true
or_true true = refl
or_true false = refl

pub some-none : (p : ℕ → Bool) → some_below 0 p ≡ false
unfolding some_below
some-none p = refl

-- one that holds makes the test true of every count above it
pub some_here : (n : ℕ) (p : ℕ → Bool) (k : ℕ) → k < n → p k ≡ true → some_below n p ≡ true
unfolding some_below
some_here zero p k h e = absurd (not-suc-le-zero h)
some_here (suc n) p k h e =
    ⊎_elim (λ q. rw (← q, e) (or_true (some_below k p))) (λ lt. rw (some_here n p k lt e)) (eq-or-lt_of_le (le_of_suc-le-suc h))

pub some_more : (n : ℕ) (p : ℕ → Bool) → some_below (n + 1) p ≡ (some_below n p || p n)
unfolding some_below
some_more n p = rw (add-one n)

pub some_next : (n : ℕ) (p : ℕ → Bool) → some_below n p ≡ false → p n ≡ false → some_below (n + 1) p ≡ false
some_next n p e h = rw (some_more, e, h)

-- where the test fails, none holds
pub some_false : (n : ℕ) (p : ℕ → Bool) → some_below n p ≡ false → (k : ℕ) → k < n → p k ≡ false
some_false n p e k h = by_test (p k) refl
  where
    by_test : (b : Bool) → p k ≡ b → p k ≡ false
    by_test true t = absurd (differ (some_below n p) (some_here n p k h t) e)
    by_test false t = t

-- both parts of a test that fails
pub or_false : (a b : Bool) → (a || b) ≡ false → (a ≡ false) × (b ≡ false)
or_false true b e = absurd (differ true refl e)
or_false false b e = (refl, e)

and_false : (b : Bool) → (b && false) ≡ false
and_false true = refl
and_false false = refl

pub all_none : (p : ℕ → Bool) → all_below 0 p ≡ true
unfolding all_below
all_none p = refl

-- one that does not hold makes the test false of every count above it
pub all_here : (n : ℕ) (p : ℕ → Bool) (k : ℕ) → k < n → p k ≡ false → all_below n p ≡ false
unfolding all_below
all_here zero p k h e = absurd (not-suc-le-zero h)
all_here (suc n) p k h e =
    ⊎_elim (λ q. rw (← q, e) (and_false (all_below k p))) (λ lt. rw (all_here n p k lt e)) (eq-or-lt_of_le (le_of_suc-le-suc h))

pub all-next : (n : ℕ) (p : ℕ → Bool) → all_below n p ≡ true → p n ≡ true → all_below (n + 1) p ≡ true
unfolding all_below
all-next n p e h = rw (add-one n, e, h)
