-- A round in the lent slices: what holds of its spans, what it hands back, and what it leaves in the slices. Definitions only.
use Rattle.std.specs.Prelude.{ℕ, ◌<◌, ◌≤◌, List, ◌++◌, length, drop, Float}
use Rattle.std.specs.Prelude as prelude
use Rattle.std.proofs.Math.Option.{Option, none, some}
use Rattle.geometry.specs.Order.{sorted}
use Rattle.geometry.specs.Root.{roots_of}
use Rattle.refinement.specs.Refinement.{span_ends, start_of, end_of, span_worsts, new_knots}

-- spans of n parameters: each has one or more, and none ends past the n
abbrev pub Rising : List ℕ → Type 0
Rising ends = (s : ℕ) → s < length ends → start_of ends s < end_of ends s

abbrev pub Within : ℕ → List ℕ → Type 0
Within n ends = (s : ℕ) → s < length ends → end_of ends s ≤ n

-- the new knots of a round, by the squares of the deviations
abbrev pub round_knots : List Float → List Float → List ℕ → Float → Float → List Float
round_knots params squares firsts most tolerance = let ends = span_ends firsts in new_knots params ends (span_worsts (roots_of squares) ends) tolerance most

-- what the program hands back of a round's flat knots: how many there are
abbrev pub round_of : Option (List Float) → prelude.Option ℕ
round_of none = prelude.None
round_of (some flat) = prelude.Some (length flat)

-- a slice with these values in its first places
abbrev pub headed : {A : Type 0} → List A → List A → List A
headed xs slice = xs ++ drop (length xs) slice

-- the slice of the flat knots, with all of them in front; as it was, where the round has none
abbrev pub flat_after : Option (List Float) → List Float → List Float
flat_after none flat = flat
flat_after (some all) flat = headed all flat

-- the slice of the new knots, with them in front, sorted; as it was, where the round has none
abbrev pub fresh_after : Option (List Float) → List Float → List Float → List Float
fresh_after none new fresh = fresh
fresh_after (some all) new fresh = headed (sorted new) fresh
