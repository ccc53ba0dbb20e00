-- The laws of inserting into a sorted list, and of sorting. Assumes nothing.
use Rattle.std.proofs.Common.{◌≡◌, ℕ, zero, suc, ◌+◌, ◌<◌, ◌≤◌, Bool, true, false, cond, ltb, leb, List, [], ◌∷◌, ◌++◌, length, get_or, take, drop, set, sym, refl, ap, ◌∙◌, subst, append_assoc, append-nil, le_trans, le_of_lt, add-one, arith, length-append, drop_of_length-le, length-take-le, take_all, drop-cons, take-suc, take_at, drop_at, ltb-false, ltb-true, le-ltb, lt-ltb, le-leb, leb-false, leb-true}
use borrow.Author.Tests.{lt-leb}
use lib.Seq.{take-length, split_at, set_at, get_or_at}
use mathlib.Core.Bool.{false≢true}
use lib.Ieee.{Float, nan, inf, fin, is_nan, to_bits}
use Rattle.places.specs.Places.{list_of}
use Rattle.geometry.specs.Order.{rank_of, inserted, sorted_onto, sorted, NoneBelow, Ascending}

-- ---- ranks

pub nan_rank : (x : Float) → is_nan x ≡ true → 18444492273895866368 ≡ rank_of x
unfolding is_nan rank_of to_bits
nan_rank nan t = refl
nan_rank (inf s) t = absurd (false≢true t)
nan_rank (fin s m e) t = absurd (false≢true t)

-- every value ranks at or below v
abbrev pub NoneAbove : Float → List Float → Type 0
NoneAbove v [] = Unit {0}
NoneAbove v (x ∷ xs) = (rank_of x ≤ rank_of v) × NoneAbove v xs

pub none-above_up : (w v : Float) (xs : List Float) → rank_of w ≤ rank_of v → NoneAbove w xs → NoneAbove v xs
none-above_up w v [] h a = tt
none-above_up w v (x ∷ xs) h a = (le_trans a.0 h, none-above_up w v xs h a.1)

pub none-above-snoc : (v w : Float) (xs : List Float) → NoneAbove v xs → rank_of w ≤ rank_of v → NoneAbove v (xs ++ (w ∷ []))
none-above-snoc v w [] a h = (h, tt)
none-above-snoc v w (x ∷ xs) a h = (a.0, none-above-snoc v w xs a.1 h)

none-below-down : (w v : Float) (xs : List Float) → rank_of v ≤ rank_of w → NoneBelow w xs → NoneBelow v xs
none-below-down w v [] h a = tt
none-below-down w v (x ∷ xs) h a = (le_trans h a.0, none-below-down w v xs h a.1)

-- ---- inserting

pub length_inserted : (v : Float) (xs : List Float) → length (inserted v xs) ≡ suc (length xs)
unfolding inserted
length_inserted v [] = refl
length_inserted v (x ∷ xs) = go (ltb (rank_of v) (rank_of x)) (length_inserted v xs)
  where
    go : (b : Bool) → length (inserted v xs) ≡ suc (length xs) → length (cond b (v ∷ x ∷ xs) (x ∷ inserted v xs)) ≡ suc (suc (length xs))
    go true e = refl
    go false e = ap suc e

none-below-inserted : (w v : Float) (xs : List Float) → rank_of w ≤ rank_of v → NoneBelow w xs → NoneBelow w (inserted v xs)
unfolding inserted
none-below-inserted w v [] h a = (h, tt)
none-below-inserted w v (x ∷ xs) h a = go (ltb (rank_of v) (rank_of x)) (none-below-inserted w v xs h a.1)
  where
    go : (b : Bool) → NoneBelow w (inserted v xs) → NoneBelow w (cond b (v ∷ x ∷ xs) (x ∷ inserted v xs))
    go true e = (h, a)
    go false e = (a.0, e)

pub ascending-inserted : (v : Float) (xs : List Float) → Ascending xs → Ascending (inserted v xs)
unfolding inserted
ascending-inserted v [] a = (tt, tt)
ascending-inserted v (x ∷ xs) a = go (ltb (rank_of v) (rank_of x)) refl (ascending-inserted v xs a.1)
  where
    go : (b : Bool) → ltb (rank_of v) (rank_of x) ≡ b → Ascending (inserted v xs) → Ascending (cond b (v ∷ x ∷ xs) (x ∷ inserted v xs))
    go true e i = let h : rank_of v ≤ rank_of x = le_of_lt (ltb-true _ _ e) in ((h, none-below-down x v xs h a.0), a)
    go false e i = (none-below-inserted x v xs (ltb-false _ _ e) a.0, i)

-- after all that rank at or below it
pub inserted-last : (v : Float) (xs : List Float) → NoneAbove v xs → inserted v xs ≡ xs ++ (v ∷ [])
unfolding inserted
inserted-last v [] a = refl
inserted-last v (x ∷ xs) a = rw (le-ltb (rank_of v) (rank_of x) a.0, inserted-last v xs a.1)

-- before one that ranks above it
pub inserted-before : (v w : Float) (xs : List Float) → rank_of v < rank_of w → inserted v (xs ++ (w ∷ [])) ≡ inserted v xs ++ (w ∷ [])
unfolding inserted
inserted-before v w [] h = rw (lt-ltb (rank_of v) (rank_of w) h)
inserted-before v w (x ∷ xs) h = go (ltb (rank_of v) (rank_of x)) (inserted-before v w xs h)
  where
    go : (b : Bool) → inserted v (xs ++ (w ∷ [])) ≡ inserted v xs ++ (w ∷ [])
        → cond b (v ∷ x ∷ (xs ++ (w ∷ []))) (x ∷ inserted v (xs ++ (w ∷ []))) ≡ cond b (v ∷ x ∷ xs) (x ∷ inserted v xs) ++ (w ∷ [])
    go true e = refl
    go false e = ap (λ (l : List Float). x ∷ l) e

none-below-front : (w x : Float) (xs : List Float) → NoneBelow x (xs ++ (w ∷ [])) → NoneBelow x xs × (rank_of x ≤ rank_of w)
none-below-front w x [] a = (tt, a.0)
none-below-front w x (y ∷ xs) a = let r = none-below-front w x xs a.1 in ((a.0, r.0), r.1)

-- the last of a sorted list, and the others
pub ascending-last : (w : Float) (xs : List Float) → Ascending (xs ++ (w ∷ [])) → NoneAbove w xs × Ascending xs
ascending-last w [] a = (tt, tt)
ascending-last w (x ∷ xs) a =
    let r = ascending-last w xs a.1 in
    let f = none-below-front w x xs a.0 in
    ((f.1, r.0), (f.0, r.1))

-- ---- where a value goes: ys is xs with v at a place behind what ranks at or below it

pub record Placed (v : Float) (xs ys : List Float) : Type 0 where
  pub place : ℕ
  pub within : place ≤ length xs
  pub before : (i : ℕ) → i < place → get_or ys i nan ≡ get_or xs i nan
  pub here : get_or ys place nan ≡ v
  pub after : (i : ℕ) → place ≤ i → get_or ys (suc i) nan ≡ get_or xs i nan
  pub next : place < length xs → rank_of v < rank_of (get_or xs place nan)
  pub prior : (i : ℕ) → suc i ≡ place → rank_of (get_or xs i nan) ≤ rank_of v

pub inserted-placed : (v : Float) (xs : List Float) → Placed v xs (inserted v xs)
unfolding inserted
inserted-placed v [] =
    record {
      place = 0;
      within = omega arith;
      before = λ i h. absurd (omega arith);
      here = refl;
      after = λ i h. refl;
      next = λ h. absurd (omega arith);
      prior = λ i e. absurd (omega arith);
    }
inserted-placed v (x ∷ xs) = go (ltb (rank_of v) (rank_of x)) refl (inserted-placed v xs)
  where
    behind : (r : Placed v xs (inserted v xs)) (i : ℕ) → i < suc r.place → get_or (x ∷ inserted v xs) i nan ≡ get_or (x ∷ xs) i nan
    behind r zero h = refl
    behind r (suc i) h = r.before i (omega arith)

    beyond : (r : Placed v xs (inserted v xs)) (i : ℕ) → suc r.place ≤ i → get_or (x ∷ inserted v xs) (suc i) nan ≡ get_or (x ∷ xs) i nan
    beyond r zero h = absurd (omega arith)
    beyond r (suc i) h = r.after i (omega arith)

    under : ltb (rank_of v) (rank_of x) ≡ false → (r : Placed v xs (inserted v xs)) (i : ℕ) → suc i ≡ suc r.place → rank_of (get_or (x ∷ xs) i nan) ≤ rank_of v
    under e r zero q = ltb-false (rank_of v) (rank_of x) e
    under e r (suc i) q = r.prior i (omega arith)

    go : (b : Bool) → ltb (rank_of v) (rank_of x) ≡ b → Placed v xs (inserted v xs) → Placed v (x ∷ xs) (cond b (v ∷ x ∷ xs) (x ∷ inserted v xs))
    go true e r =
        record {
          place = 0;
          within = omega arith;
          before = λ i h. absurd (omega arith);
          here = refl;
          after = λ i h. refl;
          next = λ h. ltb-true (rank_of v) (rank_of x) e;
          prior = λ i q. absurd (omega arith);
        }
    go false e r =
        record {
          place = suc r.place;
          within = omega (arith, r.within);
          before = behind r;
          here = r.here;
          after = beyond r;
          next = λ h. r.next (omega arith);
          prior = under e r;
        }

-- ---- what the loop of `sink` does: the value v looks for its place from place i down, each greater one moving up by one

unfoldable pub sink_from : ℕ → Float → List Float → List Float
sink_from zero v l = set l 0 v
sink_from (suc i) v l =
    let on = sink_from i v (set l (suc i) (get_or l i nan)) in
    cond (leb (rank_of (get_or l i nan)) (rank_of v)) (set l (suc i) v) on

pub sink_stop : (i j : ℕ) (v : Float) (l : List Float) → i ≡ j + 1 → rank_of (get_or l j nan) ≤ rank_of v → sink_from i v l ≡ set l i v
unfolding sink_from
sink_stop i j v l e h = rw (e, add-one j, le-leb (rank_of (get_or l j nan)) (rank_of v) h)

pub sink_on : (i j : ℕ) (v : Float) (l : List Float) → i ≡ j + 1 → rank_of v < rank_of (get_or l j nan) → sink_from i v l ≡ sink_from j v (set l i (get_or l j nan))
unfolding sink_from
sink_on i j v l e h = rw (e, add-one j, lt-leb (rank_of (get_or l j nan)) (rank_of v) h)

pub sink-none : (i : ℕ) (v : Float) (l : List Float) → i ≡ 0 → sink_from i v l ≡ set l 0 v
unfolding sink_from
sink-none i v l e = rw e

snoc : (xs : List Float) (i : ℕ) → length xs ≡ suc i → xs ≡ take i xs ++ (get_or xs i nan ∷ [])
snoc xs i e = sym (take-length xs) ∙ ap (λ (n : ℕ). take n xs) e ∙ take-suc xs i nan (omega arith)

pub sink-inserted : (i : ℕ) (v : Float) (xs : List Float) (h : Float) (ys : List Float) → length xs ≡ i → Ascending xs → sink_from i v (xs ++ h ∷ ys) ≡ inserted v xs ++ ys
unfolding sink_from inserted
sink-inserted zero v [] h ys e a = refl
sink-inserted zero v (x ∷ xs) h ys e a = absurd (omega arith)
sink-inserted (suc i) v xs h ys e a =
    let q = take i xs in
    let w = get_or xs i nan in
    let l : length q ≡ i = length-take-le i xs (omega arith) in
    let s = snoc xs i e in
    subst (λ (z : List Float). sink_from (suc i) v (z ++ h ∷ ys) ≡ inserted v z ++ ys) (sym s)
    (go q w (leb (rank_of w) (rank_of v)) refl l (subst Ascending s a) (sink-inserted i v q w (w ∷ ys) l (ascending-last w q (subst Ascending s a)).1))
  where
    go : (q : List Float) (w : Float) (b : Bool) → leb (rank_of w) (rank_of v) ≡ b → length q ≡ i → Ascending (q ++ (w ∷ []))
        → sink_from i v (q ++ w ∷ w ∷ ys) ≡ inserted v q ++ w ∷ ys
        → sink_from (suc i) v ((q ++ (w ∷ [])) ++ h ∷ ys) ≡ inserted v (q ++ (w ∷ [])) ++ ys
    go q w true e l a ih =
        let n : length (q ++ (w ∷ [])) ≡ suc i = simp length-append (omega arith) in
        let at : get_or ((q ++ (w ∷ [])) ++ h ∷ ys) i nan ≡ w = ap (λ (z : List Float). get_or z i nan) (append_assoc q (w ∷ []) (h ∷ ys)) ∙ get_or_at q w (h ∷ ys) nan i l in
        let low : NoneAbove v (q ++ (w ∷ [])) = none-above-snoc v w q (none-above_up w v q (leb-true _ _ e) (ascending-last w q a).0) (leb-true _ _ e) in
        rw (at, e, set_at (q ++ (w ∷ [])) h ys v (suc i) n, inserted-last v (q ++ (w ∷ [])) low) (sym (append_assoc (q ++ (w ∷ [])) (v ∷ []) ys))
    go q w false e l a ih =
        let n : length (q ++ (w ∷ [])) ≡ suc i = simp length-append (omega arith) in
        let at : get_or ((q ++ (w ∷ [])) ++ h ∷ ys) i nan ≡ w = ap (λ (z : List Float). get_or z i nan) (append_assoc q (w ∷ []) (h ∷ ys)) ∙ get_or_at q w (h ∷ ys) nan i l in
        rw (at, e, set_at (q ++ (w ∷ [])) h ys w (suc i) n, append_assoc q (w ∷ []) (w ∷ ys), inserted-before v w q (leb-false _ _ e), append_assoc (inserted v q) (w ∷ []) ys) ih

-- ---- sorting

pub ascending_onto : (done xs : List Float) → Ascending done → Ascending (sorted_onto done xs)
unfolding sorted_onto
ascending_onto done [] a = a
ascending_onto done (v ∷ xs) a = ascending_onto (inserted v done) xs (ascending-inserted v done a)

pub ascending-sorted : (xs : List Float) → Ascending (sorted xs)
unfolding sorted
ascending-sorted xs = ascending_onto [] xs tt

pub length_onto : (done xs : List Float) → length (sorted_onto done xs) ≡ length done + length xs
unfolding sorted_onto
length_onto done [] = omega arith
length_onto done (v ∷ xs) = omega (arith, length_onto (inserted v done) xs, length_inserted v done)

pub length-sorted : (xs : List Float) → length (sorted xs) ≡ length xs
unfolding sorted
length-sorted xs = omega (arith, length_onto [] xs)

-- what ascends stays as it is
ascending-front : (xs ys : List Float) → Ascending (xs ++ ys) → Ascending xs
ascending-front [] ys a = tt
ascending-front (x ∷ xs) ys a = (front xs a.0, ascending-front xs ys a.1)
  where
    front : (xs : List Float) → NoneBelow x (xs ++ ys) → NoneBelow x xs
    front [] b = tt
    front (z ∷ xs) b = (b.0, front xs b.1)

onto_ascending : (done xs : List Float) → Ascending (done ++ xs) → sorted_onto done xs ≡ done ++ xs
unfolding sorted_onto
onto_ascending done [] a = sym (append-nil done)
onto_ascending done (v ∷ xs) a =
    let e : (done ++ (v ∷ [])) ++ xs ≡ done ++ v ∷ xs = append_assoc done (v ∷ []) xs in
    let b : Ascending ((done ++ (v ∷ [])) ++ xs) = subst Ascending (sym e) a in
    let low : NoneAbove v done = (ascending-last v done (ascending-front (done ++ (v ∷ [])) xs b)).0 in
    ap (λ (l : List Float). sorted_onto l xs) (inserted-last v done low) ∙ onto_ascending (done ++ (v ∷ [])) xs b ∙ e

pub sorted_ascending : (xs : List Float) → Ascending xs → sorted xs ≡ xs
unfolding sorted
sorted_ascending xs a = onto_ascending [] xs a

-- a list of values whose ranks do not fall
ascending-snoc : (v : Float) (xs : List Float) → NoneAbove v xs → Ascending xs → Ascending (xs ++ (v ∷ []))
ascending-snoc v [] h a = (tt, tt)
ascending-snoc v (x ∷ xs) h a = (back xs a.0, ascending-snoc v xs h.1 a.1)
  where
    back : (xs : List Float) → NoneBelow x xs → NoneBelow x (xs ++ (v ∷ []))
    back [] b = (h.0, tt)
    back (y ∷ xs) b = (b.0, back xs b.1)

none-above_list : (n : ℕ) (f : ℕ → Float) (v : Float) → ((j : ℕ) → j < n → rank_of (f j) ≤ rank_of v) → NoneAbove v (list_of n f)
unfolding list_of
none-above_list zero f v h = tt
none-above_list (suc n) f v h = none-above-snoc v (f n) (list_of n f) (none-above_list n f v (λ j l. h j (omega arith))) (h n (omega arith))

pub ascending_list : (n : ℕ) (f : ℕ → Float) → ((j k : ℕ) → j < k → rank_of (f j) ≤ rank_of (f k)) → Ascending (list_of n f)
unfolding list_of
ascending_list zero f h = tt
ascending_list (suc n) f h = ascending-snoc (f n) (list_of n f) (none-above_list n f (f n) (λ j l. h j n l)) (ascending_list n f h)

-- a turn of `sort`: the value at place k is put among those before it
pub sink_all : (l : List Float) (k : ℕ) → k < length l → Ascending (take k l) → sink_from k (get_or l k nan) l ≡ inserted (get_or l k nan) (take k l) ++ drop (k + 1) l
sink_all l k h a =
    ap (sink_from k (get_or l k nan)) (split_at l k nan h)
    ∙ sink-inserted k (get_or l k nan) (take k l) (get_or l k nan) (drop (suc k) l) (length-take-le k l (omega arith)) a
    ∙ rw add-one

pub sort-turn : (l m : List Float) (k : ℕ) → k < length l → m ≡ inserted (get_or l k nan) (take k l) ++ drop (k + 1) l
    → (take (k + 1) m ≡ inserted (get_or l k nan) (take k l)) × (drop (k + 1) m ≡ drop (k + 1) l)
sort-turn l m k h e =
    let v = get_or l k nan in
    let n : length (inserted v (take k l)) ≡ k + 1 = omega (arith, length_inserted v (take k l), length-take-le k l (omega arith)) in
    (rw e (take_at (inserted v (take k l)) (drop (k + 1) l) (k + 1) n), rw e (drop_at (inserted v (take k l)) (drop (k + 1) l) (k + 1) n))

pub onto-next : (done l : List Float) (k : ℕ) → k < length l → sorted_onto done (drop k l) ≡ sorted_onto (inserted (get_or l k nan) done) (drop (k + 1) l)
unfolding sorted_onto
onto-next done l k h = rw (add-one, drop-cons l k nan h)

pub onto_done : (done l : List Float) (k : ℕ) → length l ≤ k → sorted_onto (take k l) (drop k l) ≡ l
unfolding sorted_onto
onto_done done l k h = rw (drop_of_length-le l h, take_all k l h)
