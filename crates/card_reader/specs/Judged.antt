-- What the reader promises of a whole text. Definitions only.
use Rattle.std.specs.Prelude.{ℕ, Option, Some, None, Result, Ok, Err, ◌≤◌, ◌<◌, ◌≡◌, List, Float, length}
use Rattle.bspline.specs.declared.Refusal.TheVariants.{TooLarge}
use Rattle.bspline.specs.Refusals.{number_of}
use Rattle.card_reader.specs.Card.{Row, IsCard, laid_over}
use Rattle.card_reader.specs.Reading.{begun, kept_after}
use Rattle.card_reader.specs.declared.Head.{Head}
use Rattle.card_reader.specs.declared.Card.{Card}
use Rattle.card_reader.specs.declared.CardError.{CardError}
use Rattle.card_reader.specs.declared.CardError.TheVariants.{TooMany, Unreadable}

-- The text t is judged, and a slice that held old holds new. A card: t is the text of the card with that head and so many points, at most 64, which
-- lie in the slice. TooMany: it is the text of a card with more, and the first 64 lie there. Unreadable: it is the text of no card, and the points
-- of some rows lie there. (A text is the text of one card at most: `one-card` of proofs/JudgedLaws.antt.)
abbrev pub Judged : List ℕ → List Float → List Float → Result Card CardError → Type 0
Judged t old new (Ok c) = (ps : List Row) × IsCard t c.head ps × (length ps ≡ c.points) × (c.points ≤ 64) × (new ≡ laid_over old ps)
Judged t old new (Err TooMany) = (h : Head) × (ps : List Row) × IsCard t h ps × (64 < length ps) × (new ≡ laid_over old ps)
Judged t old new (Err Unreadable) = ((h : Head) (ps : List Row) → IsCard t h ps → ⊥) × ((ps : List Row) × (new ≡ laid_over old ps))

-- document 01's number of a refused text
abbrev pub refusal_number : CardError → ℕ
refusal_number TooMany = number_of TooLarge
refusal_number Unreadable = 11

-- a card that is fitted has at most 64 points
abbrev pub Few : Result Card CardError → Type 0
Few (Ok c) = c.points ≤ 64
Few (Err e) = Unit

-- the same for a slice of any length, and what it holds after every text; where it has no room for 64 points, nothing is read, and it stays as it was
abbrev pub ReadInto : List ℕ → List Float → List Float → Option (Result Card CardError) → Type 0
ReadInto t old new (Some j) = (192 ≤ length old) × Judged t old new j × (new ≡ kept_after begun t old)
ReadInto t old new None = (length old < 192) × (new ≡ old)
