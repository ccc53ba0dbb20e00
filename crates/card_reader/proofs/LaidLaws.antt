-- The lent slice holds the doubles of the points read. Assumes nothing.
use Prim.Native.Nat.{ℕ, suc, ◌+◌, ◌-◌, ◌*◌, ◌≤◌, ◌<◌, min}
use mathlib.Core.Path.{◌≡◌, refl, sym, ap, ◌∙◌, subst}
use mathlib.Core.Bool.{cond, Bool, true, false}
use mathlib.Core.List.{List, [], ◌∷◌, ◌++◌, append_assoc, append-nil}
use native.Mathlib.Numerals.{add-one}
use native.Mathlib.Omega.{arith}
use lib.Dec.{ltb, lit<}
use lib.ListN.{length, take, drop, length-append, length-drop}
use lib.Seq.{take_all, take-append-le, take_at, drop-append-add, drop-drop, sets-eq}
use lib.Ieee.{Float}
use Rattle.geometry.specs.Points.{coordinates, put_point}
use borrow.Author.Tests.{ltb-true, ltb-false}
use Rattle.card_reader.specs.Card.{Row, row, point_of, doubles, laid_over}
use Rattle.card_reader.specs.Reading.{on_whole, word_next, next, kept, kept_after}
use Rattle.card_reader.specs.declared.State.{State}
use Rattle.card_reader.specs.declared.State.TheVariants.{Names, Degree, Chordal, Centripetal, Bound, Without, Axes, X, Y, Z, Unreadable}
use Rattle.std.specs.Prelude.{Option, Some, None}
use Rattle.card_reader.specs.declared.steps.Word.{Word}
use Rattle.card_reader.specs.declared.steps.Word.TheVariants.{More, Whole}
use Rattle.card_reader.proofs.SoundLaws.{Seen, rows, rows_after, seen_next}

-- three places a point
pub doubles-length : (ps : List Row) → length (doubles ps) ≡ 3 * length ps
unfolding coordinates
doubles-length [] = refl
doubles-length (p ∷ ps) = let h = doubles-length ps in omega arith

doubles-more : (ps : List Row) (p : Row) → doubles (ps ++ (p ∷ [])) ≡ doubles ps ++ coordinates (point_of p)
doubles-more [] p = append-nil (coordinates (point_of p))
doubles-more (q ∷ ps) p = ap (λ (l : List Float). coordinates (point_of q) ++ l) (doubles-more ps p) ∙ sym (append_assoc (coordinates (point_of q)) (doubles ps) (coordinates (point_of p)))

-- three stores
put_is : (n : ℕ) (p : Row) (l : List Float) → 3 * n + 3 ≤ length l
    → put_point n (point_of p) l ≡ take (3 * n) l ++ coordinates (point_of p) ++ drop (3 * n + 3) l
unfolding put_point coordinates
put_is n p l h =
    let a : 3 * n + 1 ≡ suc (3 * n) = add-one (3 * n) in
    let b : 3 * n + 2 ≡ suc (suc (3 * n)) = omega arith in
    rw (a, b) (sets-eq (coordinates (point_of p)) l (3 * n) h)

-- one point more, after n
put_front : (n : ℕ) (p : Row) (ps : List Row) (l : List Float) → length ps ≡ n → 3 * n + 3 ≤ length l
    → put_point n (point_of p) (doubles ps ++ drop (3 * n) l) ≡ doubles (ps ++ (p ∷ [])) ++ drop (3 * n + 3) l
put_front n p ps l e h =
    let front : List Float = doubles ps in
    let rest : List Float = drop (3 * n) l in
    let dl : length front ≡ 3 * n = doubles-length ps ∙ ap (λ m. 3 * m) e in
    let rl : length rest ≡ length l - 3 * n = length-drop (3 * n) l in
    let al : length (front ++ rest) ≡ length front + length rest = length-append front rest in
    let t : take (3 * n) (front ++ rest) ≡ front = take_at front rest (3 * n) dl in
    let d : drop (3 * n + 3) (front ++ rest) ≡ drop (3 * n + 3) l =
    subst (λ k. drop (k + 3) (front ++ rest) ≡ drop 3 rest) dl (drop-append-add front rest 3) ∙ drop-drop 3 (3 * n) l in
    put_is n p (front ++ rest) (omega arith)
    ∙ ap (λ (u : List Float). u ++ coordinates (point_of p) ++ drop (3 * n + 3) (front ++ rest)) t
    ∙ ap (λ (u : List Float). front ++ coordinates (point_of p) ++ u) d
    ∙ ap (λ (u : List Float). u ++ drop (3 * n + 3) l) (sym (doubles-more ps p))

put_over : (n : ℕ) (p : Row) (ps : List Row) (l : List Float) → n ≡ min 65 (length ps) → n < 64 → 192 ≤ length l
    → put_point n (point_of p) (laid_over l ps) ≡ laid_over l (ps ++ (p ∷ []))
put_over n p ps l e s h =
    let m : length ps ≡ n = omega arith in
    let al : length (ps ++ (p ∷ [])) ≡ length ps + 1 = length-append ps (p ∷ []) in
    let a : take 64 ps ≡ ps = take_all 64 ps (omega arith) in
    let b : take 64 (ps ++ (p ∷ [])) ≡ ps ++ (p ∷ []) = take_all 64 (ps ++ (p ∷ [])) (omega arith) in
    let c : 3 * length (ps ++ (p ∷ [])) ≡ 3 * n + 3 = omega arith in
    rw (a, b, m, c) (put_front n p ps l m (omega arith))

full_over : (n : ℕ) (p : Row) (ps : List Row) (l : List Float) → n ≡ min 65 (length ps) → 64 ≤ n → laid_over l ps ≡ laid_over l (ps ++ (p ∷ []))
full_over n p ps l e s = ap (λ (q : List Row). doubles q ++ drop (3 * length q) l) (sym (take-append-le 64 ps (p ∷ []) (omega arith)))

kept_next : (s : State) (b : ℕ) (ps : List Row) (t : List ℕ) (l : List Float) → Seen s ps t → 192 ≤ length l → kept s b (laid_over l ps) ≡ laid_over l (rows s b ps)
unfolding kept rows
kept_next (Z c x y r) b ps t l h m = go (word_next r b 10)
  where
    pick : (o : Bool) (u w z : List Float) → (o ≡ true → u ≡ z) → (o ≡ false → w ≡ z) → cond o u w ≡ z
    pick true u w z f g = f refl
    pick false u w z f g = g refl

    go : (w : Option Word)
        → on_whole (λ z. cond (ltb c.points 64) (put_point c.points (point_of (row x y z)) (laid_over l ps)) (laid_over l ps)) (laid_over l ps) w ≡ laid_over l (on_whole (λ z. ps ++ (row x y z ∷ [])) ps w)
    go (Some (Whole z)) = pick (ltb c.points 64) _ _ _ (λ e. put_over c.points (row x y z) ps l h.2.count (ltb-true c.points 64 e) m) (λ e. full_over c.points _ ps l h.2.count (ltb-false c.points 64 e))
    go (Some (More d)) = refl
    go None = refl
kept_next (Names k) b ps t l h m = refl
kept_next (Degree r) b ps t l h m = refl
kept_next (Chordal d k) b ps t l h m = refl
kept_next (Centripetal d k) b ps t l h m = refl
kept_next (Bound d s r) b ps t l h m = refl
kept_next (Without d s k) b ps t l h m = refl
kept_next (Axes g k) b ps t l h m = refl
kept_next (X c r) b ps t l h m = refl
kept_next (Y c x r) b ps t l h m = refl
kept_next Unreadable b ps t l h m = refl

kept-after : (s : State) (ps : List Row) (done t : List ℕ) (l : List Float) → Seen s ps done → 192 ≤ length l
    → kept_after s t (laid_over l ps) ≡ laid_over l (rows_after s t ps)
unfolding kept_after rows_after
kept-after s ps done [] l h m = refl
kept-after s ps done (b ∷ t) l h m =
    ap (kept_after (next s b) t) (kept_next s b ps done l h m)
    ∙ kept-after (next s b) (rows s b ps) (done ++ (b ∷ [])) t l (seen_next s b ps done h) m

-- from the start
pub kept_all : (t : List ℕ) (l : List Float) → 192 ≤ length l → kept_after (Names 0) t l ≡ laid_over l (rows_after (Names 0) t [])
kept_all t l m = kept-after (Names 0) [] [] t l (refl, lit< tt, refl) m

-- the points of a card with at most 64 are the front of the slice
pub front-laid : (ps : List Row) (l : List Float) → length ps ≤ 64 → take (3 * length ps) (laid_over l ps) ≡ doubles ps
front-laid ps l h =
    let a : take 64 ps ≡ ps = take_all 64 ps h in
    rw a (take_at (doubles ps) (drop (3 * length ps) l) (3 * length ps) (doubles-length ps))
