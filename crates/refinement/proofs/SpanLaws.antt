-- The spans that hold parameters: their ends rise and are at most the number of parameters, and the loops that find them and their worst deviations.
-- Assumes nothing.
use Rattle.std.proofs.Common.{◌≡◌, ℕ, zero, suc, ◌+◌, ◌-◌, ◌<◌, ◌≤◌, Bool, true, false, cond, eqb, List, [], ◌∷◌, ◌++◌, length, get_or, take, drop, set, sym, refl, ◌∙◌, subst, ⊎_elim, eq-or-lt_of_le, add-one, arith, length-append, take_at, ne_eqb}
use lib.ListN.{get_or-append}
use lib.Seq.{get_or_at}
use lib.Ieee.{Float}
use Rattle.places.specs.Places.{gathered}
use Rattle.places.proofs.PlaceLaws.{length-list_of}
use Rattle.places.proofs.GatheredLaws.{front, gathered_yes, gathered_no, length-gathered, count_most, front-next, front-after, length-front_is}
use Rattle.refinement.specs.Refinement.{closes, span_ends, start_of, end_of, worst_of, span_worsts}
use Rattle.refinement.specs.Round.{Rising, Within}

-- the places before k may be written over
pub closes-front : (xs firsts : List ℕ) (k : ℕ) → length xs ≤ k → k < length firsts → closes (front xs firsts) k ≡ closes firsts k
unfolding closes
closes-front xs firsts k h l =
    rw (length-front_is xs firsts (omega arith), front-after xs firsts k 0 h, front-after xs firsts (k + 1) 0 (omega arith))

-- as the program tests it
pub start_is : (ends : List ℕ) (s : ℕ) → start_of ends s ≡ cond (eqb s 0) 0 (get_or ends (s - 1) 0)
unfolding start_of
start_is ends zero = refl
start_is ends (suc s) = let z : suc s - 1 ≡ s = omega arith in rw (ne_eqb (suc s) 0 (λ e. omega arith), z)

pub start_next : (ends : List ℕ) (s : ℕ) → start_of ends (s + 1) ≡ get_or ends s 0
unfolding start_of
start_next ends s = rw add-one

-- each span before s has one parameter or more
pub start-far : (ends : List ℕ) → Rising ends → (s : ℕ) → s ≤ length ends → s ≤ start_of ends s
unfolding start_of
start-far ends r zero h = omega arith
start-far ends r (suc s) h = omega (arith, start-far ends r s (omega arith), r s (omega arith))

-- span s starts at place s or after it, is not empty, and ends within the parameters
pub span_inside : (n : ℕ) (ends : List ℕ) → Rising ends → Within n ends → (s : ℕ) → s < length ends → (s ≤ start_of ends s) × (start_of ends s < end_of ends s) × (end_of ends s ≤ n)
span_inside n ends r w s h = (start-far ends r s (omega arith), r s h, w s h)

-- ---- the ends of the spans rise, and are at most the number of parameters

-- of the ends gathered up to parameter k, the last is at most k, and each is above the one before
pub record Gathers (k : ℕ) (ends : List ℕ) : Type 0 where
  pub rising : Rising ends
  pub within : Within k ends

start-append : (ends more : List ℕ) (s : ℕ) → s ≤ length ends → start_of (ends ++ more) s ≡ start_of ends s
unfolding start_of
start-append ends more zero h = refl
start-append ends more (suc s) h = get_or-append ends more 0 s (omega arith)

start-within : (k : ℕ) (ends : List ℕ) (s : ℕ) → Within k ends → s ≤ length ends → start_of ends s ≤ k
unfolding start_of
start-within k ends zero w h = omega arith
start-within k ends (suc s) w h = w s (omega arith)

gathers-more : (k : ℕ) (ends : List ℕ) → Gathers k ends → Gathers (k + 1) (ends ++ ((k + 1) ∷ []))
gathers-more k ends g = record { rising = rise; within = low }
  where
    long : length (ends ++ ((k + 1) ∷ [])) ≡ length ends + 1
    long = simp length-append

    last : (s : ℕ) → s ≡ length ends → get_or (ends ++ ((k + 1) ∷ [])) s 0 ≡ k + 1
    last s e = get_or_at ends (k + 1) [] 0 s (sym e)

    rise : Rising (ends ++ ((k + 1) ∷ []))
    rise s h =
        ⊎_elim
        (λ e. rw (start-append ends ((k + 1) ∷ []) s (omega arith), last s e) (omega (arith, start-within k ends s g.within (omega arith))))
        (λ l. rw (start-append ends ((k + 1) ∷ []) s (omega arith), get_or-append ends ((k + 1) ∷ []) 0 s l) (g.rising s l))
        (eq-or-lt_of_le (let z : s ≤ length ends = omega (arith, long) in z))

    low : Within (k + 1) (ends ++ ((k + 1) ∷ []))
    low s h =
        ⊎_elim
        (λ e. rw (last s e) (omega arith))
        (λ l. rw (get_or-append ends ((k + 1) ∷ []) 0 s l) (omega (arith, g.within s l)))
        (eq-or-lt_of_le (let z : s ≤ length ends = omega (arith, long) in z))

gathers-none : (p : ℕ → Bool) → Gathers 0 (gathered 0 p (λ k. k + 1))
unfolding gathered
gathers-none p = record { rising = λ s h. absurd (omega arith); within = λ s h. absurd (omega arith) }

gathers : (p : ℕ → Bool) (k : ℕ) → Gathers k (gathered k p (λ k. k + 1))
gathers p zero = gathers-none p
gathers p (suc k) = subst (λ (n : ℕ). Gathers n (gathered n p (λ k. k + 1))) (add-one k) (go (p k) refl (gathers p k))
  where
    go : (b : Bool) → p k ≡ b → Gathers k (gathered k p (λ k. k + 1)) → Gathers (k + 1) (gathered (k + 1) p (λ k. k + 1))
    go true e g = rw (gathered_yes k p (λ k. k + 1) e) (gathers-more k _ g)
    go false e g = rw (gathered_no k p (λ k. k + 1) e) (record { rising = g.rising; within = λ s h. omega (arith, g.within s h) })

pub spans : (firsts : List ℕ) → Gathers (length firsts) (span_ends firsts)
unfolding span_ends
spans firsts = gathers (closes firsts) (length firsts)

pub spans-most : (firsts : List ℕ) → length (span_ends firsts) ≤ length firsts
unfolding span_ends
spans-most firsts = omega (arith, length-gathered (length firsts) (closes firsts) (λ k. k + 1), count_most (length firsts) (closes firsts))

-- the ends are the part that is handed on
pub ends-front : (firsts now : List ℕ) (r : ℕ) → r ≡ length (span_ends firsts) → now ≡ front (span_ends firsts) firsts → take r now ≡ span_ends firsts
ends-front firsts now r e g = rw g (take_at (span_ends firsts) (drop (length (span_ends firsts)) firsts) r (sym e))

pub length-worsts : (deviations : List Float) (ends : List ℕ) → length (span_worsts deviations ends) ≡ length ends
unfolding span_worsts
length-worsts deviations ends = length-list_of (length ends) (worst_of deviations ends)

-- ---- the loop of `span_ends`

-- the ends of the spans that close below parameter k stand in front
abbrev ends_below : List ℕ → ℕ → List ℕ
ends_below firsts k = gathered k (closes firsts) (λ k. k + 1)

pub record Ending (firsts now : List ℕ) (s k : ℕ) : Type 0 where
  pub count : s ≡ length (ends_below firsts k)
  pub behind : s ≤ k
  pub laid : now ≡ front (ends_below firsts k) firsts

pub ending-none : (firsts : List ℕ) → Ending firsts firsts 0 0
unfolding gathered
ending-none firsts = record { count = refl; behind = omega arith; laid = refl }

module _ (firsts now : List ℕ) (s k : ℕ) (h : k < length firsts) (v : Ending firsts now s k) where
  same : closes now k ≡ closes firsts k
  same = rw v.laid (closes-front (ends_below firsts k) firsts k (omega (arith, v.count, v.behind)) h)

  pub ending_yes : closes now k ≡ true → Ending firsts (set now s (k + 1)) (s + 1) (k + 1)
  ending_yes e =
      let g = gathered_yes k (closes firsts) (λ k. k + 1) (sym same ∙ e) in
      record {
        count = rw g (simp length-append (omega (arith, v.count)));
        behind = omega (arith, v.behind);
        laid = rw (g, v.laid) (front-next (ends_below firsts k) firsts s (k + 1) 0 v.count (omega (arith, v.behind)));
      }

  pub ending_no : closes now k ≡ false → Ending firsts now s (k + 1)
  ending_no e =
      let g = gathered_no k (closes firsts) (λ k. k + 1) (sym same ∙ e) in
      record { count = rw g v.count; behind = omega (arith, v.behind); laid = rw g v.laid }
