-- Merging two sorted lists from the back is sorting one onto the other. Assumes nothing.
use Rattle.std.proofs.Common.{◌≡◌, ℕ, zero, suc, ◌+◌, ◌-◌, ◌<◌, ◌≤◌, Bool, true, false, cond, ltb, List, [], ◌∷◌, ◌++◌, length, take, drop, set, sym, refl, ap, ◌∙◌, subst, append_assoc, le_refl, lt_of_lt_of_le, lt_of_le_of_lt, le_of_lt, add-one, arith, length-take-le, get_or-take, take-take, take_at, drop_at, drop-drop, take-suc, ltb-false, ltb-true, le-ltb, lt-ltb}
use lib.Ieee.{Float, nan}
use Rattle.std.proofs.lemmas.List.{get_or_at}
use Rattle.places.proofs.GatheredLaws.{pasted, pasted-before, take_pasted}
use Rattle.geometry.specs.Doubles.{at}
use Rattle.geometry.specs.Order.{rank_of, inserted, sorted_onto, sorted, NoneBelow, Ascending}
use Rattle.geometry.proofs.SortLaws.{NoneAbove, none-above-snoc, none-above_up, inserted-last, inserted-before, ascending-last, ascending-inserted, length-sorted}

-- every value ranks below w
abbrev pub AllBelow : Float → List Float → Type 0
AllBelow w [] = Unit {0}
AllBelow w (x ∷ xs) = (rank_of x < rank_of w) × AllBelow w xs

pub all-below : (v w : Float) (xs : List Float) → rank_of v < rank_of w → NoneAbove v xs → AllBelow w xs
all-below v w [] h a = tt
all-below v w (x ∷ xs) h a = (lt_of_le_of_lt a.0 h, all-below v w xs h a.1)

-- ---- one after the other

pub onto-append : (done xs ys : List Float) → sorted_onto done (xs ++ ys) ≡ sorted_onto (sorted_onto done xs) ys
unfolding sorted_onto
onto-append done [] ys = refl
onto-append done (x ∷ xs) ys = onto-append (inserted x done) xs ys

none-above-inserted : (w v : Float) (xs : List Float) → rank_of v ≤ rank_of w → NoneAbove w xs → NoneAbove w (inserted v xs)
unfolding inserted
none-above-inserted w v [] h a = (h, tt)
none-above-inserted w v (x ∷ xs) h a = go (ltb (rank_of v) (rank_of x)) (none-above-inserted w v xs h a.1)
  where
    go : (b : Bool) → NoneAbove w (inserted v xs) → NoneAbove w (cond b (v ∷ x ∷ xs) (x ∷ inserted v xs))
    go true e = (h, a)
    go false e = (a.0, e)

none-above_onto : (w : Float) (done xs : List Float) → NoneAbove w done → NoneAbove w xs → NoneAbove w (sorted_onto done xs)
unfolding sorted_onto
none-above_onto w done [] a b = a
none-above_onto w done (x ∷ xs) a b = none-above_onto w (inserted x done) xs (none-above-inserted w x done b.0 a) b.1

-- the last of the new ones is the last of all
pub onto-new : (v : Float) (done xs : List Float) → NoneAbove v done → NoneAbove v xs → sorted_onto done (xs ++ (v ∷ [])) ≡ sorted_onto done xs ++ (v ∷ [])
unfolding sorted_onto
onto-new v done xs a b = onto-append done xs (v ∷ []) ∙ inserted-last v (sorted_onto done xs) (none-above_onto v done xs a b)

-- the last of the old ones is
pub onto_old : (w : Float) (done xs : List Float) → AllBelow w xs → sorted_onto (done ++ (w ∷ [])) xs ≡ sorted_onto done xs ++ (w ∷ [])
unfolding sorted_onto
onto_old w done [] b = refl
onto_old w done (x ∷ xs) b = ap (λ (z : List Float). sorted_onto z xs) (inserted-before x w done b.0) ∙ onto_old w (inserted x done) xs b.1

-- ---- what is sorted first may be sorted in

commute : (v x : Float) (ys : List Float) → rank_of v < rank_of x → inserted v (inserted x ys) ≡ inserted x (inserted v ys)
unfolding inserted
commute v x [] h = rw (lt-ltb (rank_of v) (rank_of x) h, le-ltb (rank_of x) (rank_of v) (le_of_lt h))
commute v x (y ∷ ys) h = go (ltb (rank_of x) (rank_of y)) (ltb (rank_of v) (rank_of y)) refl refl (commute v x ys h)
  where
    go : (a b : Bool) → ltb (rank_of x) (rank_of y) ≡ a → ltb (rank_of v) (rank_of y) ≡ b → inserted v (inserted x ys) ≡ inserted x (inserted v ys)
        → inserted v (cond a (x ∷ y ∷ ys) (y ∷ inserted x ys)) ≡ inserted x (cond b (v ∷ y ∷ ys) (y ∷ inserted v ys))
    go true true p q ih = rw (lt-ltb (rank_of v) (rank_of x) h, le-ltb (rank_of x) (rank_of v) (le_of_lt h), p)
    go true false p q ih = let z : rank_of y ≤ rank_of v = ltb-false _ _ q in let u : rank_of x < rank_of y = ltb-true _ _ p in absurd (omega arith)
    go false true p q ih = rw (q, le-ltb (rank_of x) (rank_of v) (le_of_lt h), p)
    go false false p q ih = rw (q, p, ih)

abbrev AllAbove : Float → List Float → Type 0
AllAbove v [] = Unit {0}
AllAbove v (x ∷ xs) = (rank_of v < rank_of x) × AllAbove v xs

all_above : (v x : Float) (xs : List Float) → rank_of v < rank_of x → NoneBelow x xs → AllAbove v xs
all_above v x [] h a = tt
all_above v x (y ∷ xs) h a = (lt_of_lt_of_le h a.0, all_above v x xs h a.1)

swap_all : (v : Float) (done xs : List Float) → AllAbove v xs → sorted_onto (inserted v done) xs ≡ inserted v (sorted_onto done xs)
unfolding sorted_onto
swap_all v done [] a = refl
swap_all v done (x ∷ xs) a = ap (λ (z : List Float). sorted_onto z xs) (sym (commute v x done a.0)) ∙ swap_all v (inserted x done) xs a.1

onto-inserted : (v : Float) (done xs : List Float) → Ascending xs → sorted_onto done (inserted v xs) ≡ inserted v (sorted_onto done xs)
unfolding sorted_onto inserted
onto-inserted v done [] a = refl
onto-inserted v done (x ∷ xs) a = go (ltb (rank_of v) (rank_of x)) refl (onto-inserted v (inserted x done) xs a.1)
  where
    go : (b : Bool) → ltb (rank_of v) (rank_of x) ≡ b → sorted_onto (inserted x done) (inserted v xs) ≡ inserted v (sorted_onto (inserted x done) xs)
        → sorted_onto done (cond b (v ∷ x ∷ xs) (x ∷ inserted v xs)) ≡ inserted v (sorted_onto (inserted x done) xs)
    go true e ih = let h = ltb-true (rank_of v) (rank_of x) e in
        ap (λ (z : List Float). sorted_onto z xs) (sym (commute v x done h)) ∙ swap_all v (inserted x done) xs (all_above v x xs h a.0)
    go false e ih = ih

-- the new ones sorted by themselves first
pub onto_onto : (done xs ys : List Float) → Ascending xs → sorted_onto done (sorted_onto xs ys) ≡ sorted_onto (sorted_onto done xs) ys
unfolding sorted_onto
onto_onto done xs [] a = refl
onto_onto done xs (y ∷ ys) a = onto_onto done (inserted y xs) ys (ascending-inserted y xs a) ∙ ap (λ (z : List Float). sorted_onto z ys) (onto-inserted y done xs a)

pub sorted_both : (xs ys : List Float) → sorted_onto (sorted xs) (sorted ys) ≡ sorted (xs ++ ys)
unfolding sorted sorted_onto
sorted_both xs ys = onto_onto (sorted_onto [] xs) [] ys tt ∙ ap (λ (z : List Float). sorted_onto z ys) (nil (sorted_onto [] xs)) ∙ sym (onto-append [] xs ys)
  where
    nil : (z : List Float) → sorted_onto z [] ≡ z
    nil z = refl

-- ---- the loop of `merge_back`: i of the old ones and j of the new ones are left, and `tail` stands behind where they go

ascending-take : (k : ℕ) (xs : List Float) → Ascending xs → Ascending (take k xs)
ascending-take zero xs a = tt
ascending-take (suc k) [] a = tt
ascending-take (suc k) (x ∷ xs) a = (none-below-take k xs a.0, ascending-take k xs a.1)
  where
    none-below-take : (k : ℕ) (ys : List Float) → NoneBelow x ys → NoneBelow x (take k ys)
    none-below-take zero ys b = tt
    none-below-take (suc k) [] b = tt
    none-below-take (suc k) (y ∷ ys) b = (b.0, none-below-take k ys b.1)

-- the first k of a sorted list rank at or below the last of them
pub none-above-take : (k : ℕ) (xs : List Float) (v : Float) → k < length xs → Ascending xs → rank_of (at xs k) ≤ rank_of v → NoneAbove v (take (k + 1) xs)
none-above-take k xs v h a l =
    let e : take (k + 1) xs ≡ take k xs ++ (at xs k ∷ []) = rw (add-one k) (take-suc xs k nan h) in
    let b : Ascending (take k xs ++ (at xs k ∷ [])) = subst Ascending (take-suc xs k nan h) (ascending-take (suc k) xs a) in
    rw e (none-above-snoc v (at xs k) (take k xs) (none-above_up (at xs k) v (take k xs) l (ascending-last (at xs k) (take k xs) b).0) l)

-- i of the old ones, the first in w, and j of the new ones are left, and `tail` stands behind where they go
module _ (old new w : List Float) where
  pub record Merging (now : List Float) (i j : ℕ) : Type 0 where
    pub olds : i ≤ length old
    pub news : j ≤ length new
    pub tail : List Float
    pub long : i + j + length tail ≡ length old + length new
    pub whole : now ≡ pasted (i + j) tail w
    pub rest : sorted_onto (take i old) (take j new) ++ tail ≡ sorted_onto old new

  module _ (room : length old + length new ≤ length w) (up : Ascending old) (up' : Ascending new) (now : List Float) (i j : ℕ) (v : Merging now i (j + 1)) where
    new_is : take (j + 1) new ≡ take j new ++ (at new j ∷ [])
    new_is = rw (add-one j) (take-suc new j nan (omega (arith, v.news)))

    -- the last of the new ones
    pub merging-new : (k : ℕ) → k ≡ i + j → NoneAbove (at new j) (take i old) → Merging (set now k (at new j)) i j
    merging-new k e a =
        let b : NoneAbove (at new j) (take j new) = (ascending-last (at new j) (take j new) (subst Ascending new_is (ascending-take (j + 1) new up'))).0 in
        record {
          olds = v.olds;
          news = omega (arith, v.news);
          tail = at new j ∷ v.tail;
          long = omega (arith, v.long);
          whole = rw (v.whole, e) (pasted-before (i + j) (i + (j + 1)) v.tail w (at new j) nan (omega arith) (omega (arith, v.long, v.olds)));
          rest = sym (append_assoc (sorted_onto (take i old) (take j new)) (at new j ∷ []) v.tail)
              ∙ ap (λ (z : List Float). z ++ v.tail) (sym (onto-new (at new j) (take i old) (take j new) a b))
              ∙ rw new_is at v.rest;
        }

  module _ (room : length old + length new ≤ length w) (up : Ascending old) (up' : Ascending new) (now : List Float) (i j : ℕ) (v : Merging now (i + 1) (j + 1)) where
    old_is : take (i + 1) old ≡ take i old ++ (at old i ∷ [])
    old_is = rw (add-one i) (take-suc old i nan (omega (arith, v.olds)))

    -- the last of the old ones
    pub merging_old : (k : ℕ) → k ≡ i + (j + 1) → rank_of (at new j) < rank_of (at old i) → Merging (set now k (at old i)) i (j + 1)
    merging_old k e h =
        let b : AllBelow (at old i) (take (j + 1) new) = all-below (at new j) (at old i) (take (j + 1) new) h (none-above-take j new (at new j) (omega (arith, v.news)) up' (le_refl _)) in
        record {
          olds = omega (arith, v.olds);
          news = v.news;
          tail = at old i ∷ v.tail;
          long = omega (arith, v.long);
          whole = rw (v.whole, e) (pasted-before (i + (j + 1)) (i + 1 + (j + 1)) v.tail w (at old i) nan (omega arith) (omega (arith, v.long, v.olds)));
          rest = sym (append_assoc (sorted_onto (take i old) (take (j + 1) new)) (at old i ∷ []) v.tail)
              ∙ ap (λ (z : List Float). z ++ v.tail) (sym (onto_old (at old i) (take i old) (take (j + 1) new) b))
              ∙ rw old_is at v.rest;
        }

none-above-first : (i : ℕ) (xs : List Float) (x : Float) → i ≤ length xs → Ascending xs → (0 < i → rank_of (at xs (i - 1)) ≤ rank_of x) → NoneAbove x (take i xs)
none-above-first zero xs x h a l = tt
none-above-first (suc k) xs x h a l =
    let z : suc k - 1 ≡ k = omega arith in
    let q : rank_of (at xs k) ≤ rank_of x = rw z at (l (omega arith)) in
    rw add-one at (none-above-take k xs x (omega arith) a q)

-- a turn, in the code's own places: the first l of `flat` are the old ones
module _ (flat : List Float) (l : ℕ) (new : List Float) (room : l + length new ≤ length flat) where
  abbrev old : List Float
  old = take l flat

  olds_are : length (take l flat) ≡ l
  olds_are = length-take-le l flat (omega arith)

  module _ (now : List Float) (i j : ℕ) (v : Merging (take l flat) new flat now i j) where
    -- the old ones that are left still stand there
    left_is : take i now ≡ take i old
    left_is = rw v.whole (take_pasted i (i + j) v.tail flat (omega arith) (omega (arith, v.long, olds_are)) ∙ sym (take-take i l flat (omega (arith, v.olds, olds_are))))

    left_long : length (take i now) ≡ i
    left_long = ap length left_is ∙ length-take-le i old v.olds

    last_is : 0 < i → at (take i now) (length (take i now) - 1) ≡ at old (i - 1)
    last_is p = rw (left_long, left_is) (get_or-take i old (i - 1) nan (omega arith))

    read_old : 0 < i → at now (i - 1) ≡ at old (i - 1)
    read_old p = sym (get_or-take i now (i - 1) nan (omega arith)) ∙ rw left_is (get_or-take i old (i - 1) nan (omega arith))

    pub merge_end : j ≡ 0 → now ≡ sorted_onto (take l flat) new ++ drop (l + length new) flat
    unfolding sorted_onto
    merge_end z =
        let y : i + j ≡ i = omega arith in
        let e : i + length v.tail ≡ l + length new = omega (arith, v.long, olds_are) in
        let r : take i old ++ v.tail ≡ sorted_onto old new = rw z at v.rest in
        let t : take i flat ≡ take i old = sym (take-take i l flat (omega (arith, v.olds, olds_are))) in
        v.whole ∙ rw (y, e, t) (sym (append_assoc (take i old) v.tail (drop (l + length new) flat)) ∙ ap (λ (xs : List Float). xs ++ drop (l + length new) flat) r)

  module _ (up : Ascending (take l flat)) (up' : Ascending new) (now : List Float) (i j : ℕ) (v : Merging (take l flat) new flat now i (j + 1)) where
    -- the last of the new ones goes behind the old ones that are left
    pub merge-new : (0 < length (take i now) → rank_of (at (take i now) (length (take i now) - 1)) ≤ rank_of (at new j)) → Merging (take l flat) new flat (set now (i + j) (at new j)) i j
    merge-new h =
        merging-new old new flat (omega (arith, olds_are)) up up' now i j v (i + j) (omega arith)
        (none-above-first i old (at new j) v.olds up (λ q. rw (last_is now i (j + 1) v q) at (h (omega (arith, left_long now i (j + 1) v)))))

    -- the last of those ranks above it, and moves up
    pub merge_old : (0 < length (take i now)) × (rank_of (at new j) < rank_of (at (take i now) (length (take i now) - 1))) → Merging (take l flat) new flat (set now (i + j) (at now (i - 1))) (i - 1) (j + 1)
    merge_old h =
        let q : 0 < i = omega (arith, h.0, left_long now i (j + 1) v) in
        let y : i ≡ i - 1 + 1 = omega arith in
        rw (read_old now i (j + 1) v q)
        (merging_old old new flat (omega (arith, olds_are)) up up' now (i - 1) j (subst (λ (k : ℕ). Merging old new flat now k (j + 1)) y v) (i + j) (omega arith) (rw (last_is now i (j + 1) v q) at h.1))

-- what is left of a list that is walked from the back
pub record FrontOf (xs left : List Float) : Type 0 where
  pub behind : List Float
  pub whole : xs ≡ left ++ behind

-- the last of it is taken, which has the number j
pub front_less : (xs left left' : List Float) (v : Float) (j count : ℕ) → FrontOf xs left → left ≡ left' ++ (v ∷ []) → count ≡ 0 → j ≡ count + length left' → FrontOf xs left' × (j ≡ length left') × (v ≡ at xs j)
front_less xs left left' v j count f e z n =
    let w : xs ≡ left' ++ (v ∷ f.behind) = f.whole ∙ ap (λ (z : List Float). z ++ f.behind) e ∙ append_assoc left' (v ∷ []) f.behind in
    let m : j ≡ length left' = omega arith in
    (record { behind = v ∷ f.behind; whole = w }, m, sym (ap (λ (z : List Float). at z j) w ∙ get_or_at left' v f.behind nan j (sym m)))

-- ---- `take_in`: both are sorted, then merged

module _ (flat : List Float) (l : ℕ) (h : l ≤ length flat) where
  -- the first l values, sorted in their own place
  abbrev placed : List Float
  placed = sorted (take l flat) ++ drop l flat

  placed_long : length (sorted (take l flat)) ≡ l
  placed_long = length-sorted (take l flat) ∙ length-take-le l flat h

  pub placed-front : take l (sorted (take l flat) ++ drop l flat) ≡ sorted (take l flat)
  placed-front = take_at (sorted (take l flat)) (drop l flat) l placed_long

  placed_behind : (k : ℕ) → drop (l + k) placed ≡ drop (l + k) flat
  placed_behind k = sym (drop-drop k l placed) ∙ ap (drop k) (drop_at (sorted (take l flat)) (drop l flat) l placed_long) ∙ drop-drop k l flat

  pub merged : (ys : List Float)
      → sorted_onto (take l (sorted (take l flat) ++ drop l flat)) (sorted ys) ++ drop (l + length (sorted ys)) (sorted (take l flat) ++ drop l flat)
      ≡ sorted (take l flat ++ ys) ++ drop (l + length ys) flat
  merged ys = rw (placed-front, placed_behind (length (sorted ys)), length-sorted ys, sorted_both (take l flat) ys)
