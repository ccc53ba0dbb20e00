-- What a read leaves of the reader's state and of the points. Definitions only.
use Rattle.std.specs.Prelude.{ℕ, Bool, true, false, ◌≤◌, ◌≡◌, List, length, Float}
use Rattle.card_reader.specs.declared.State.{State}
use Rattle.card_reader.specs.Reading.{after, kept_after}

-- A read in the state s took a part of the text, of a byte at least, and left the state s'; the points that were old are new: both are as they are after that part's
-- bytes. At the end it took nothing, and both are as they were.
abbrev pub Took : State → List Float → State → List Float → Bool → Type 0
Took s old s' new true = (u : List ℕ) × (1 ≤ length u) × (s' ≡ after s u) × (new ≡ kept_after s u old)
Took s old s' new false = (s' ≡ s) × (new ≡ old)
