-- The cases of the reader's step, each with what it has learnt. Assumes nothing.
use Prim.Native.Nat.{ℕ, ◌+◌, ◌<◌}
use mathlib.Core.Path.{◌≡◌, refl}
use mathlib.Core.Bool.{cond, Bool, true, false, ◌&&◌}
use mathlib.Core.List.{List}
use lib.Dec.{ltb, eqb}
use lib.ListN.{length, get_or}
use borrow.Author.Tests.{eqb-true, eqb-false, ltb-true, lt-ltb, eq-eqb}
use Rattle.std.specs.Prelude.{Option, Some, None, option_map, option_and_then, unwrap_or}
use Rattle.card_text.specs.Text.{digit_of}
use Rattle.card_reader.specs.Reading.{literal_next, word_next, degree_next, degree_digit, on_word, on_whole, digit_more}
use Rattle.card_reader.specs.declared.Digits.{Digits}
use Rattle.card_reader.specs.declared.State.{State}
use Rattle.card_reader.specs.declared.State.TheVariants.{Degree, Chordal, Unreadable}
use Rattle.card_reader.specs.declared.steps.Word.{Word}
use Rattle.card_reader.specs.declared.steps.Word.TheVariants.{More, Whole}

-- a property of both ways is a property of the choice
pub test {ℓ} : {A : Type ℓ} (P : A → Type 0) (t : Bool) (x y : A) → (t ≡ true → P x) → (t ≡ false → P y) → P (cond t x y)
test P true x y f g = f refl
test P false x y f g = g refl

-- the same of two tests, one after the other
pub both {ℓ} : {A : Type ℓ} (P : A → Type 0) (s t : Bool) (x y : A) → (s ≡ true → t ≡ true → P x) → (((s ≡ true) × (t ≡ true) → ⊥) → P y) → P (cond (s && t) x y)
both P true true x y f g = f refl refl
both P true false x y f g = g (λ h. cc)
both P false t x y f g = g (λ h. cc)

-- a state that follows, or no state
abbrev pub Reaches : (State → Type 0) → Option State → Type 0
Reaches P o = P (unwrap_or o Unreadable)

-- a byte of a fixed text
pub literal_cases : (P : State → Type 0) (t : List ℕ) (k b : ℕ) (done more : State)
    → (b ≡ get_or t k 0 → k + 1 ≡ length t → P done)
    → (b ≡ get_or t k 0 → (k + 1 ≡ length t → ⊥) → P more)
    → P Unreadable
    → Reaches P (literal_next t k b done more)
unfolding literal_next
literal_cases P t k b done more f g h =
    test (Reaches P) (eqb b (get_or t k 0)) (Some (cond (eqb (k + 1) (length t)) done more)) None
    (λ e. test P (eqb (k + 1) (length t)) done more (λ l. f (eqb-true _ _ e) (eqb-true _ _ l)) (λ l. g (eqb-true _ _ e) (eqb-false _ _ l)))
    (λ e. h)

-- a byte of a word
pub word_parts : (Q : Option Word → Type 0) (r : Digits) (b end : ℕ)
    → (r.count ≡ 16 → b ≡ end → Q (Some (Whole r.value)))
    → ((r.count ≡ 16 → ⊥) → (d : ℕ) → digit_of b ≡ Some d → Q (Some (More (digit_more 16 r d))))
    → Q None
    → Q (word_next r b end)
unfolding word_next
word_parts Q r b end f g h =
    test Q (eqb r.count 16) _ _
    (λ e. test Q (eqb b end) (Some (Whole r.value)) None (λ l. f (eqb-true _ _ e) (eqb-true _ _ l)) (λ l. h))
    (λ e. go (digit_of b) (λ d l. g (eqb-false _ _ e) d l))
  where
    go : (o : Option ℕ) → ((d : ℕ) → o ≡ Some d → Q (Some (More (digit_more 16 r d)))) → Q (option_map (λ d. More (digit_more 16 r d)) o)
    go (Some d) k = k d refl
    go None k = h

-- before its end a word is not whole
pub word_goes_on : {A : Type 0} (f : ℕ → A) (x : A) (r : Digits) (b end : ℕ) → ((r.count ≡ 16) × (b ≡ end) → ⊥) → on_whole f x (word_next r b end) ≡ x
word_goes_on f x r b end h = word_parts (λ w. on_whole f x w ≡ x) r b end (λ e l. absurd (h (e, l))) (λ e d l. refl) refl

pub word_cases : (P : State → Type 0) (more : Digits → State) (whole : ℕ → State) (r : Digits) (b end : ℕ)
    → (r.count ≡ 16 → b ≡ end → P (whole r.value))
    → ((r.count ≡ 16 → ⊥) → (d : ℕ) → digit_of b ≡ Some d → P (more (digit_more 16 r d)))
    → P Unreadable
    → Reaches P (option_map (on_word more whole) (word_next r b end))
word_cases P more whole = word_parts (λ w. Reaches P (option_map (on_word more whole) w))

-- a byte of the degree
pub degree_cases : (P : State → Type 0) (r : Digits) (b : ℕ)
    → (b ≡ 32 → 0 < r.count → P (Chordal r.value 0))
    → ((d : ℕ) → digit_of b ≡ Some d → d < 10 → (r.count ≡ 9 → ⊥) → ((0 < r.count) × (r.value ≡ 0) → ⊥) → P (Degree (digit_more 10 r d)))
    → P Unreadable
    → Reaches P (degree_next r b)
unfolding degree_next
degree_cases P r b f g h =
    test (Reaches P) (eqb b 32) _ _ (λ e. test (Reaches P) (ltb 0 r.count) _ _ (λ l. f (eqb-true _ _ e) (ltb-true _ _ l)) (λ l. h))
    (λ e. go (digit_of b) (λ d l. g d l))
  where
    go : (o : Option ℕ) → ((d : ℕ) → o ≡ Some d → d < 10 → (r.count ≡ 9 → ⊥) → ((0 < r.count) × (r.value ≡ 0) → ⊥) → P (Degree (digit_more 10 r d)))
        → Reaches P (option_and_then (degree_digit r) o)
    go (Some d) k =
        test (Reaches P) (ltb d 10) _ _
        (λ l. test (Reaches P) (eqb r.count 9) _ _ (λ n. h)
        (λ n. both (Reaches P) (ltb 0 r.count) (eqb r.value 0) _ _ (λ z v. h)
        (λ z. k d refl (ltb-true _ _ l) (eqb-false _ _ n) (λ w. z (lt-ltb _ _ w.0, eq-eqb _ _ w.1)))))
        (λ l. h)
    go None k = h
