-- A row of half-width 3 below three rows: its entries one after the other, without a loop. Assumes nothing.
use mathlib.Core.Path.{◌≡◌, sym, ◌∙◌, ap}
use mathlib.Core.List.{List}
use Prim.Native.Nat.{ℕ, ◌+◌, ◌-◌, ◌*◌, ◌<◌, ◌≤◌}
use native.Mathlib.Omega.{arith}
use lib.ListN.{length, set, length-set}
use lib.Seq.{get_or-set_same, get_or-set_other}
use lib.Ieee.{Float, nan}
use Rattle.places.specs.Loops.{each}
use Rattle.places.proofs.LoopLaws.{each_done, each_last}
use Rattle.geometry.specs.Doubles.{◌⊖◌, ◌⊗◌, ◌⊘◌, at}
use Rattle.bands.specs.Bands.{place}
use Rattle.cholesky.specs.Cholesky.{lower_entry, reduced_entry, factor_entry, factor_left}
use Rattle.cholesky.specs.declared.carried.Triangle.{Triangle}
use Rattle.cholesky.specs.Carried.{Above}

-- one turn more
turn : {S : Type 0} (a k m : ℕ) (f : ℕ → S → S) (s : S) → a ≤ k → k + 1 ≡ m → each a m f s ≡ f k (each a k f s)
turn a k m f s h e = rw (← e) (each_last a k f s h)

-- the entries of row i
module _ (i : ℕ) (low : 3 ≤ i) (l : List Float) where
  -- the products of rows i and j over the columns before k
  less : ℕ → ℕ → Float → Float
  less j k s = each (i - 3) k (λ k s. s ⊖ lower_entry 3 l i k ⊗ lower_entry 3 l j k) s

  none : (j k : ℕ) (s : Float) → k ≤ i - 3 → less j k s ≡ s
  unfolding less
  none j k s h = each_done (i - 3) k _ s h

  next : (j k m p q : ℕ) (s t : Float) → i - 3 ≤ k → k + 1 ≡ m → place 4 3 i k ≡ p → place 4 3 j k ≡ q → less j k s ≡ t → less j m s ≡ t ⊖ at l p ⊗ at l q
  unfolding less
  next j k m p q s t h e a b c = turn (i - 3) k m (λ k s. s ⊖ lower_entry 3 l i k ⊗ lower_entry 3 l j k) s h e ∙ rw (a, b, c)

  reduced : (j p : ℕ) (x : Float) → place 4 3 i j ≡ p → less j j (at l p) ≡ x → reduced_entry 3 l i j ≡ x
  unfolding reduced_entry less
  reduced j p x e h = rw e h

  put : (j p q : ℕ) (x : Float) → place 4 3 i j ≡ p → place 4 3 j j ≡ q → less j j (at l p) ≡ x → factor_entry 3 i j l ≡ set l p (x ⊘ at l q)
  unfolding factor_entry
  put j p q x e d h = rw (reduced j p x e h, e, d)

  first : factor_entry 3 i (i - 3) l ≡ set l (4 * i) (at l (4 * i) ⊘ at l (4 * i - 9))
  first = put (i - 3) (4 * i) (4 * i - 9) _ (omega arith) (omega arith) (none (i - 3) (i - 3) _ (omega arith))

  second : factor_entry 3 i (i - 2) l ≡ set l (4 * i + 1) ((at l (4 * i + 1) ⊖ at l (4 * i) ⊗ at l (4 * i - 6)) ⊘ at l (4 * i - 5))
  second =
      put (i - 2) (4 * i + 1) (4 * i - 5) _ (omega arith) (omega arith)
      (next (i - 2) (i - 3) (i - 2) (4 * i) (4 * i - 6) _ _ (omega arith) (omega arith) (omega arith) (omega arith) (none (i - 2) (i - 3) _ (omega arith)))

  third : factor_entry 3 i (i - 1) l ≡ set l (4 * i + 2) ((at l (4 * i + 2) ⊖ at l (4 * i) ⊗ at l (4 * i - 3) ⊖ at l (4 * i + 1) ⊗ at l (4 * i - 2)) ⊘ at l (4 * i - 1))
  third =
      put (i - 1) (4 * i + 2) (4 * i - 1) _ (omega arith) (omega arith)
      (next (i - 1) (i - 2) (i - 1) (4 * i + 1) (4 * i - 2) _ _ (omega arith) (omega arith) (omega arith) (omega arith)
      (next (i - 1) (i - 3) (i - 2) (4 * i) (4 * i - 3) _ _ (omega arith) (omega arith) (omega arith) (omega arith) (none (i - 1) (i - 3) _ (omega arith))))

  diagonal : reduced_entry 3 l i i ≡ at l (4 * i + 3) ⊖ at l (4 * i) ⊗ at l (4 * i) ⊖ at l (4 * i + 1) ⊗ at l (4 * i + 1) ⊖ at l (4 * i + 2) ⊗ at l (4 * i + 2)
  diagonal =
      reduced i (4 * i + 3) _ (omega arith)
      (next i (i - 1) i (4 * i + 2) (4 * i + 2) _ _ (omega arith) (omega arith) (omega arith) (omega arith)
      (next i (i - 2) (i - 1) (4 * i + 1) (4 * i + 1) _ _ (omega arith) (omega arith) (omega arith) (omega arith)
      (next i (i - 3) (i - 2) (4 * i) (4 * i) _ _ (omega arith) (omega arith) (omega arith) (omega arith) (none i (i - 3) _ (omega arith)))))

-- the row up to its diagonal, from what is carried
module _ (i : ℕ) (low : 3 ≤ i) (t : Triangle) (l : List Float) (fits : i * 4 + 4 ≤ length l) (above : Above i t l) where
  abbrev far : Float
  far = at l (4 * i) ⊘ t.a

  abbrev middle : Float
  middle = (at l (4 * i + 1) ⊖ far ⊗ t.b) ⊘ t.c

  abbrev near : Float
  near = (at l (4 * i + 2) ⊖ far ⊗ t.d ⊖ middle ⊗ t.e) ⊘ t.f

  abbrev one : List Float
  one = set l (4 * i) far

  abbrev two : List Float
  two = set one (4 * i + 1) middle

  abbrev all : List Float
  all = set two (4 * i + 2) near

  kept-one : (x : ℕ) → (x ≡ 4 * i → ⊥) → at one x ≡ at l x
  kept-one x a = get_or-set_other l (4 * i) x far nan a

  kept-two : (x : ℕ) → (x ≡ 4 * i → ⊥) → (x ≡ 4 * i + 1 → ⊥) → at two x ≡ at l x
  kept-two x a b = get_or-set_other one (4 * i + 1) x middle nan b ∙ kept-one x a

  kept : (x : ℕ) → (x ≡ 4 * i → ⊥) → (x ≡ 4 * i + 1 → ⊥) → (x ≡ 4 * i + 2 → ⊥) → at all x ≡ at l x
  kept x a b c = get_or-set_other two (4 * i + 2) x near nan c ∙ kept-two x a b

  far-one : at one (4 * i) ≡ far
  far-one = get_or-set_same l (4 * i) far nan (omega arith)

  far-two : at two (4 * i) ≡ far
  far-two = get_or-set_other one (4 * i + 1) (4 * i) middle nan (λ e. omega arith) ∙ far-one

  middle-two : at two (4 * i + 1) ≡ middle
  middle-two = get_or-set_same one (4 * i + 1) middle nan (omega (arith, length-set l (4 * i) far))

  pub far_all : at all (4 * i) ≡ far
  far_all = get_or-set_other two (4 * i + 2) (4 * i) near nan (λ e. omega arith) ∙ far-two

  pub middle_all : at all (4 * i + 1) ≡ middle
  middle_all = get_or-set_other two (4 * i + 2) (4 * i + 1) near nan (λ e. omega arith) ∙ middle-two

  pub near_all : at all (4 * i + 2) ≡ near
  near_all = get_or-set_same two (4 * i + 2) near nan (omega (arith, length-set l (4 * i) far, length-set one (4 * i + 1) middle))

  pub left_all : factor_left 3 i l ≡ all
  unfolding factor_left
  left_all =
      let f = factor_entry 3 i in
      let a : each (i - 3) (i - 2) f l ≡ one =
      turn (i - 3) (i - 3) (i - 2) f l (omega arith) (omega arith) ∙ ap (f (i - 3)) (each_done (i - 3) (i - 3) f l (omega arith)) ∙ first i low l ∙ rw above.a in
      let b : each (i - 3) (i - 1) f l ≡ two =
      turn (i - 3) (i - 2) (i - 1) f l (omega arith) (omega arith) ∙ ap (f (i - 2)) a ∙ second i low one
      ∙ rw (far-one, kept-one (4 * i + 1) (λ e. omega arith), kept-one (4 * i - 6) (λ e. omega arith), kept-one (4 * i - 5) (λ e. omega arith), above.b, above.c) in
      turn (i - 3) (i - 1) i f l (omega arith) (omega arith) ∙ ap (f (i - 1)) b ∙ third i low two
      ∙ rw (
        far-two,
        middle-two,
        kept-two (4 * i + 2) (λ e. omega arith) (λ e. omega arith),
        kept-two (4 * i - 3) (λ e. omega arith) (λ e. omega arith),
        kept-two (4 * i - 2) (λ e. omega arith) (λ e. omega arith),
        kept-two (4 * i - 1) (λ e. omega arith) (λ e. omega arith),
        above.d,
        above.e,
        above.f,
      )

  pub rest_all : reduced_entry 3 all i i ≡ at l (4 * i + 3) ⊖ far ⊗ far ⊖ middle ⊗ middle ⊖ near ⊗ near
  rest_all = diagonal i low all ∙ rw (far_all, middle_all, near_all, kept (4 * i + 3) (λ e. omega arith) (λ e. omega arith) (λ e. omega arith))

  pub above_all : Above i t all
  above_all =
      let stays : (x : ℕ) → x < 4 * i → at l x ≡ at all x = λ x h. sym (kept x (λ e. omega arith) (λ e. omega arith) (λ e. omega arith)) in
      record {
        a = above.a ∙ stays (4 * i - 9) (omega arith);
        b = above.b ∙ stays (4 * i - 6) (omega arith);
        c = above.c ∙ stays (4 * i - 5) (omega arith);
        d = above.d ∙ stays (4 * i - 3) (omega arith);
        e = above.e ∙ stays (4 * i - 2) (omega arith);
        f = above.f ∙ stays (4 * i - 1) (omega arith);
      }
