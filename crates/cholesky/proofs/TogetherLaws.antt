-- Loops over lines that stand one after the other, and over the rows of each of them. Assumes nothing.
use mathlib.Core.Path.{◌≡◌, sym, ap, ◌∙◌}
use mathlib.Core.List.{List, ◌++◌}
use mathlib.Core.Logic.{⊎_elim}
use Prim.Native.Nat.{ℕ, zero, suc, ◌+◌, ◌-◌, ◌*◌, ◌≤◌, ◌<◌}
use native.Mathlib.Nat.{eq-or-lt_of_le, suc-mul}
use native.Mathlib.Omega.{arith}
use lib.ListN.{length, take, drop, take-append-drop}
use lib.Seq.{drop-drop, take-add}
use lib.Ieee.{Float}
use Rattle.places.specs.Places.{joined}
use Rattle.places.specs.Regions.{part, splice}
use Rattle.places.proofs.PlaceLaws.{row_inside}
use Rattle.places.proofs.RegionLaws.{length_part, length-splice, part-splice, part-before, part-after, drop-splice}
use Rattle.cholesky.specs.Together.{line_at, EachLine}

drop_more : (a e : ℕ) (l l' : List Float) → a ≤ e → drop a l' ≡ drop a l → drop e l' ≡ drop e l
drop_more a e l l' h same =
    let z : a + (e - a) ≡ e = omega arith in
    rw z at (sym (drop-drop (e - a) a l') ∙ ap (drop (e - a)) same ∙ drop-drop (e - a) a l)

-- ---- a loop over the lines

-- the first r lines are done, and the others are as they were
pub record DoneTo (n lines : ℕ) (f : ℕ → List Float → List Float) (w w' : List Float) (r : ℕ) : Type 0 where
  pub long : length w' ≡ length w
  pub back : drop (3 * (lines * n)) w' ≡ drop (3 * (lines * n)) w
  pub done : (k : ℕ) → k < r → line_at n k w' ≡ f k (line_at n k w)
  pub left : (k : ℕ) → r ≤ k → k < lines → line_at n k w' ≡ line_at n k w

module _ (n lines : ℕ) (f : ℕ → List Float → List Float) (w : List Float) where
  module _ (keeps : (k : ℕ) (x : List Float) → length x ≡ 3 * n → length (f k x) ≡ 3 * n) (fits : 3 * (lines * n) ≤ length w) where
    pub done_next : (w' w'' : List Float) (r : ℕ) → DoneTo n lines f w w' r → r < lines
        → w'' ≡ splice (3 * (r * n)) (3 * (r * n) + 3 * n) (f r (line_at n r w')) w' → DoneTo n lines f w w'' (r + 1)
    done_next w' w'' r to h put =
        let p : ℕ = 3 * (r * n) in
        let q : ℕ = p + 3 * n in
        let ys : List Float = f r (line_at n r w') in
        let in_all = row_inside r lines n h in
        let room : q ≤ length w' = omega (arith, to.long, in_all) in
        let some : p ≤ q = omega arith in
        let three : q - p ≡ 3 * n = omega arith in
        let size : length ys ≡ q - p = keeps r (line_at n r w') (length_part p q w' room ∙ three) ∙ sym three in
        record {
          long = ap length put ∙ length-splice p q ys w' some room size ∙ to.long;
          back = ap (drop (3 * (lines * n))) put ∙ drop_more q (3 * (lines * n)) w' (splice p q ys w') (omega (arith, in_all)) (drop-splice p q ys w' some room size) ∙ to.back;
          done = λ k g.
              ⊎_elim
              (λ (e : k ≡ r). rw e (ap (part p q) put ∙ part-splice p q ys w' some room size ∙ ap (f r) (to.left r (omega arith) h)))
              (λ (l : k < r). ap (line_at n k) put ∙ part-before p q ys w' some room size (3 * (k * n)) (3 * (k * n) + 3 * n) (omega arith) (omega (arith, row_inside k r n l)) ∙ to.done k l)
              (eq-or-lt_of_le (omega arith));
          left = λ k g l. ap (line_at n k) put ∙ part-after p q ys w' some room size (3 * (k * n)) (3 * (k * n) + 3 * n) (omega (arith, row_inside r k n (omega arith))) ∙ to.left k (omega arith) l;
        }

-- ---- loops over the rows, in all lines at a time

-- what is left to be done with the lines, F, makes of them what all of it, G, makes of those at the start
pub record Toward (n lines : ℕ) (F G : ℕ → List Float → List Float) (w₀ w : List Float) : Type 0 where
  pub long : length w ≡ length w₀
  pub back : drop (3 * (lines * n)) w ≡ drop (3 * (lines * n)) w₀
  pub line : (r : ℕ) → r < lines → F r (line_at n r w) ≡ G r (line_at n r w₀)

module _ (n lines : ℕ) (G : ℕ → List Float → List Float) (w₀ : List Float) where
  module _ (F : ℕ → List Float → List Float) (w : List Float) (to : Toward n lines F G w₀ w) where
    pub toward-turn : (f F' : ℕ → List Float → List Float) (w' : List Float) → EachLine n lines f w w' → ((r : ℕ) (x : List Float) → F' r (f r x) ≡ F r x) → Toward n lines F' G w₀ w'
    toward-turn f F' w' e on =
        record {
          long = e.long ∙ to.long;
          back = e.back ∙ to.back;
          line = λ r h. ap (F' r) (e.line r h) ∙ on r (line_at n r w) ∙ to.line r h;
        }

    pub toward_end : ((r : ℕ) (x : List Float) → F r x ≡ x) → EachLine n lines G w₀ w
    toward_end all = record { long = to.long; back = to.back; line = λ r h. sym (all r (line_at n r w)) ∙ to.line r h }

-- ---- lines that are made of nothing that stood in their places

module _ (n lines : ℕ) (g : ℕ → List Float) (w w' : List Float) (e : EachLine n lines (λ r x. g r) w w') where
  front_to : (j : ℕ) → j ≤ lines → take (3 * (j * n)) w' ≡ joined j g
  unfolding joined
  front_to zero h = let z : 3 * (0 * n) ≡ 0 = omega arith in rw z
  front_to (suc j) h =
      let p : ℕ = 3 * (j * n) in
      let on : 3 * (suc j * n) ≡ p + 3 * n = rw (suc-mul j n) (omega arith) in
      let three : p + 3 * n - p ≡ 3 * n = omega arith in
      let here : take (3 * n) (drop p w') ≡ g j = ap (λ (k : ℕ). take k (drop p w')) (sym three) ∙ e.line j (omega arith) in
      ap (λ (k : ℕ). take k w') on ∙ take-add p (3 * n) w' ∙ rw (front_to j (omega arith), here)

  -- they stand one after the other
  pub lines-joined : w' ≡ joined lines g ++ drop (3 * (lines * n)) w
  lines-joined = sym (take-append-drop (3 * (lines * n)) w') ∙ rw (front_to lines (omega arith), e.back)

-- two passes over the lines
pub each_then : {n lines : ℕ} {f g : ℕ → List Float → List Float} {w w₁ w₂ : List Float} → EachLine n lines f w w₁ → EachLine n lines g w₁ w₂ → EachLine n lines (λ r x. g r (f r x)) w w₂
each_then {n} {lines} {f} {g} {w} {w₁} {w₂} d e =
    record {
      long = e.long ∙ d.long;
      back = e.back ∙ d.back;
      line = λ r h. e.line r h ∙ ap (g r) (d.line r h);
    }
