-- The reader's promise: a text is accepted just where it is a card's, with that card; else it is unreadable. Assumes nothing.
use Prim.Native.Nat.{ℕ, ◌≤◌, ◌<◌, min}
use mathlib.Core.Path.{◌≡◌, refl, sym, ap, ◌∙◌, subst}
use mathlib.Core.Bool.{Bool, true, false}
use mathlib.Core.List.{List, [], ◌∷◌, ◌++◌, append-nil}
use native.Mathlib.Omega.{arith}
use lib.Dec.{eqb, ltb}
use lib.ListN.{length}
use lib.Ieee.{Float}
use Rattle.std.specs.Prelude.{Result, Ok, Err}
use borrow.Author.Tests.{ltb-true, ltb-false, eqb-true, lt-ltb}
use Rattle.card_text.specs.Text.{digits}
use Rattle.card_reader.specs.Card.{Row, IsCard, laid_over, card_text}
use Rattle.card_reader.specs.Reading.{no_digits, card_of, next, kept, after, kept_after, HasRead, judgement_of}
use Rattle.card_reader.specs.Judged.{Judged}
use Rattle.card_reader.specs.declared.Head.{Head}
use Rattle.card_reader.specs.declared.State.{State}
use Rattle.card_reader.specs.declared.State.TheVariants.{Names, Degree, Chordal, Centripetal, Bound, Without, Axes, X, Y, Z, Unreadable}
use Rattle.card_reader.specs.declared.Card.{Card}
use Rattle.card_reader.specs.declared.CardError.{CardError}
use Rattle.card_reader.specs.declared.CardError.TheVariants as error
use Rattle.card_reader.proofs.CaseLaws.{test}
use Rattle.card_reader.proofs.SoundLaws.{Seen, rows_after, seen}
use Rattle.card_reader.proofs.CompleteLaws.{Page, read, read_is, at-card}
use Rattle.card_reader.proofs.LaidLaws.{kept_all}

-- what the reader says of a whole text
abbrev pub judged : List ℕ → Result Card CardError
judged t = judgement_of (after (Names 0) t)

-- what a judgement says of a text and the rows read
abbrev Said : List ℕ → List Row → Result Card CardError → Type 0
Said t ps (Ok c) = IsCard t c.head ps × (length ps ≡ c.points) × (c.points ≤ 64)
Said t ps (Err error.TooMany) = ((h : Head) × IsCard t h ps) × (64 < length ps)
Said t ps (Err error.Unreadable) = Unit

said : (s : State) (ps : List Row) (t : List ℕ) → Seen s ps t → Said t ps (judgement_of s)
said (X c r) ps t f =
    test (Said t ps) (eqb r.count 0) _ _
    (λ e. test (Said t ps) (ltb c.points 65) _ _ (λ l. (card r.count r.value (eqb-true r.count 0 e) f.0, (few (ltb-true c.points 65 l)).0, (few (ltb-true c.points 65 l)).1)) (λ l. ((c.head, card r.count r.value (eqb-true r.count 0 e) f.0), many (ltb-false c.points 65 l))))
    (λ e. tt)
  where
    card : (k v : ℕ) → k ≡ 0 → t ≡ card_text c.head ps ++ digits 16 k v → IsCard t c.head ps
    card k v e g = record { head = f.2.head; points = f.2.rows; text = (rw e at g) ∙ append-nil (card_text c.head ps) }

    few : c.points < 65 → (length ps ≡ c.points) × (c.points ≤ 64)
    few l = let n = f.2.count in omega arith

    many : 65 ≤ c.points → 64 < length ps
    many l = let n = f.2.count in omega arith
said (Names k) ps t f = tt
said (Degree r) ps t f = tt
said (Chordal d k) ps t f = tt
said (Centripetal d k) ps t f = tt
said (Bound d s r) ps t f = tt
said (Without d s k) ps t f = tt
said (Axes h k) ps t f = tt
said (Y c x r) ps t f = tt
said (Z c x y r) ps t f = tt
said Unreadable ps t f = tt

-- an accepted text is the text of a card with that head and that number of points, which lie in the slice
pub accepted : (t : List ℕ) (xs : List Float) (c : Card) → 192 ≤ length xs → judged t ≡ Ok c
    → (ps : List Row) × IsCard t c.head ps × (length ps ≡ c.points) × (c.points ≤ 64) × (kept_after (Names 0) t xs ≡ laid_over xs ps)
accepted t xs c l e =
    let ps : List Row = rows_after (Names 0) t [] in
    let s = subst (Said t ps) e (said (after (Names 0) t) ps t (seen t)) in
    (ps, s.0, s.1, s.2, kept_all t xs l)

pub too_many : (t : List ℕ) → judged t ≡ Err error.TooMany → (h : Head) × (ps : List Row) × IsCard t h ps × (64 < length ps)
too_many t e =
    let ps : List Row = rows_after (Names 0) t [] in
    let s = subst (Said t ps) e (said (after (Names 0) t) ps t (seen t)) in
    (s.0.0, ps, s.0.1, s.1)

-- the state and the rows after the text of a card
at_end : (t : List ℕ) (h : Head) (ps : List Row) → IsCard t h ps
    → (after (Names 0) t ≡ X (card_of h (min 65 (length ps))) no_digits) × (rows_after (Names 0) t [] ≡ ps)
at_end t h ps c =
    let e = sym (read_is (Names 0) [] t) ∙ ap (read (record { state = Names 0; points = [] })) c.text ∙ at-card h ps c.head c.points in
    (ap (λ (p : Page). p.state) e, ap (λ (p : Page). p.points) e)

-- the text of a card is accepted with that card
pub card-accepted : (t : List ℕ) (h : Head) (ps : List Row) → IsCard t h ps → length ps ≤ 64
    → judged t ≡ Ok (card_of h (length ps))
card-accepted t h ps c l =
    let m : min 65 (length ps) ≡ length ps = omega arith in
    rw ((at_end t h ps c).0, m, lt-ltb (length ps) 65 (omega arith))

pub card_too_many : (t : List ℕ) (h : Head) (ps : List Row) → IsCard t h ps → 64 < length ps → judged t ≡ Err error.TooMany
card_too_many t h ps c l =
    let m : min 65 (length ps) ≡ 65 = omega arith in
    rw ((at_end t h ps c).0, m)

-- and its points lie in the slice
pub card-laid : (t : List ℕ) (xs : List Float) (h : Head) (ps : List Row) → 192 ≤ length xs → IsCard t h ps → kept_after (Names 0) t xs ≡ laid_over xs ps
card-laid t xs h ps l c = kept_all t xs l ∙ ap (laid_over xs) (at_end t h ps c).1

-- so a text that is no card's, and only such a text, is unreadable
pub unreadable : (t : List ℕ) → judged t ≡ Err error.Unreadable → (h : Head) (ps : List Row) → IsCard t h ps → ⊥
unreadable t e h ps c = go (ltb 64 (length ps)) refl
  where
    go : (b : Bool) → ltb 64 (length ps) ≡ b → ⊥
    go true f = let m = card_too_many t h ps c (ltb-true 64 (length ps) f) in let z : ◌≡◌ {A = ℕ} 0 1 = cc in omega arith
    go false f = let m = card-accepted t h ps c (ltb-false 64 (length ps) f) in let z : ◌≡◌ {A = ℕ} 0 1 = cc in omega arith

-- a text is that of one card at most
pub one-card : (t : List ℕ) (h g : Head) (ps qs : List Row) → IsCard t h ps → IsCard t g qs → (h ≡ g) × (ps ≡ qs)
one-card t h g ps qs c d =
    let e = sym (at_end t h ps c).0 ∙ (at_end t g qs d).0 in
    let same : card_of h (min 65 (length ps)) ≡ card_of g (min 65 (length qs)) = cc in
    (ap (λ (k : Card). k.head) same, sym (at_end t h ps c).1 ∙ (at_end t g qs d).1)

-- all of it in one
pub judged-right : (t : List ℕ) (xs : List Float) → 192 ≤ length xs → Judged t xs (kept_after (Names 0) t xs) (judged t)
judged-right t xs l = go (judged t) refl
  where
    go : (v : Result Card CardError) → judged t ≡ v → Judged t xs (kept_after (Names 0) t xs) v
    go (Ok c) e = accepted t xs c l e
    go (Err error.TooMany) e =
        let m = too_many t e in
        (m.0, m.1, m.2, m.3, card-laid t xs m.0 m.1 l m.2)
    go (Err error.Unreadable) e = (unreadable t e, (rows_after (Names 0) t [], kept_all t xs l))

-- a text may be read in parts
pub after_parts : (s : State) (a b : List ℕ) → after s (a ++ b) ≡ after (after s a) b
unfolding after
after_parts s [] b = refl
after_parts s (x ∷ a) b = after_parts (next s x) a b

pub kept_parts : (s : State) (a b : List ℕ) (xs : List Float) → kept_after s (a ++ b) xs ≡ kept_after (after s a) b (kept_after s a xs)
unfolding after kept_after
kept_parts s [] b xs = refl
kept_parts s (x ∷ a) b xs = kept_parts (next s x) a b (kept s x xs)

-- one part more
pub read_more : {t : List ℕ} {old : List Float} {s s₁ : State} {new new₁ : List Float} (u : List ℕ) → HasRead t old s new
    → s₁ ≡ after s u → new₁ ≡ kept_after s u new → HasRead (t ++ u) old s₁ new₁
read_more {t} {old} {s} {s₁} {new} {new₁} u h e f = record {
  state = e ∙ ap (λ (r : State). after r u) h.state ∙ sym (after_parts (Names 0) t u);
  slice = f ∙ (λ i. kept_after (h.state i) u (h.slice i)) ∙ sym (kept_parts (Names 0) t u old);
}

-- and at the end
pub read-judged : (t : List ℕ) (old : List Float) (s : State) (new : List Float) → 192 ≤ length old → HasRead t old s new → Judged t old new (judgement_of s)
read-judged t old s new l h = rw (h.state, h.slice) (judged-right t old l)
