-- What is printed for the judgement of a whole text is that text's answer, also where the text was read in parts. Assumes nothing.
use Prim.Native.Nat.{ℕ, ◌*◌, ◌≤◌}
use mathlib.Core.Path.{◌≡◌, refl, sym, ap, ◌∙◌}
use mathlib.Core.List.{List}
use native.Mathlib.Omega.{arith}
use lib.Ieee.{Float}
use lib.ListN.{length, take}
use Rattle.card_reader.specs.declared.Head.{Head}
use Rattle.card_reader.specs.declared.Card.{Card}
use Rattle.card_reader.specs.declared.CardError.{CardError}
use Rattle.card_reader.specs.declared.CardError.TheVariants.{TooMany, Unreadable}
use Rattle.std.specs.Prelude.{Result, Ok, Err}
use Rattle.card_reader.specs.Card.{Row, IsCard, doubles, laid_over}
use Rattle.card_reader.specs.Judged.{Judged}
use Rattle.card_reader.specs.declared.State.{State}
use Rattle.card_reader.specs.Reading.{HasRead, judgement_of}
use Rattle.card_reader.proofs.LaidLaws.{front-laid}
use Rattle.card_reader.proofs.JudgedLaws.{one-card, read-judged}
use Rattle.card.specs.Answers.{ladder_text, printed, Answered}

-- the points at the front of the slice are the card's
card-text : (h : Head) (ps : List Row) (n : ℕ) (old new : List Float) → length ps ≡ n → n ≤ 64 → new ≡ laid_over old ps → ladder_text h (take (3 * n) new) ≡ ladder_text h (doubles ps)
card-text h ps n old new e m f =
    ap (ladder_text h) (ap (take (3 * n)) f ∙ ap (λ (k : ℕ). take (3 * k) (laid_over old ps)) (sym e) ∙ front-laid ps old (omega arith))

pub judged_answered : (t : List ℕ) (old new : List Float) (j : Result Card CardError) → Judged t old new j → Answered t (printed j new)
judged_answered t old new (Ok k) j =
    let h = k.head in
    let n = k.points in
    let ps = j.0 in
    let c = j.1 in
    let e = j.2 in
    let m = j.3 in
    let f = j.4 in
    let same : (g : Head) (qs : List Row) → IsCard t g qs → (h ≡ g) × (ps ≡ qs) = λ g qs d. one-card t h g ps qs c d in
    record {
      card = λ g qs d l. card-text h ps n old new e m f ∙ (λ i. ladder_text ((same g qs d).0 i) (doubles ((same g qs d).1 i)));
      too_many = λ g qs d l. let k : length ps ≡ length qs = ap length (same g qs d).1 in absurd (omega arith);
      unreadable = λ d. absurd (d h ps c);
    }
judged_answered t old new (Err TooMany) j =
    let h = j.0 in
    let ps = j.1 in
    let c = j.2 in
    let m = j.3 in
    record {
      card = λ g qs d l. let k : length ps ≡ length qs = ap length (one-card t h g ps qs c d).1 in absurd (omega arith);
      too_many = λ g qs d l. refl;
      unreadable = λ d. absurd (d h ps c);
    }
judged_answered t old new (Err Unreadable) j =
    record { card = λ g qs d l. absurd (j.0 g qs d); too_many = λ g qs d l. absurd (j.0 g qs d); unreadable = λ d. refl }

-- the same of a text that was read in parts
pub read_answered : (t : List ℕ) (old : List Float) (s : State) (new : List Float) → 192 ≤ length old → HasRead t old s new
    → Answered t (printed (judgement_of s) new)
read_answered t old s new l h = judged_answered t old new (judgement_of s) (read-judged t old s new l h)
