-- What was read so far is one text, which the state and the points are of, and a read adds its part at the end (the law `read_more`). Assumes nothing.
use Prim.Native.Nat.{ℕ}
use mathlib.Core.Path.{◌≡◌}
use mathlib.Core.List.{List}
use lib.ListN.{length}
use Rattle.card_reader.specs.Reading.{Held, HasRead}
use Rattle.card.proofs.read_all.Given as goal

abbrev pub invariant-loop : goal.invariant-loop
invariant-loop l = record {
  held : Held l.state;
  room : length l.points ≡ length l.initial.points;
  read : (t : List ℕ) × HasRead t l.initial.points l.state l.points;
}
