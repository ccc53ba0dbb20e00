-- What is still to be read leads from the present state to the same end as the whole text from the first. Assumes nothing.
use mathlib.Core.Path.{◌≡◌}
use lib.ListN.{length, drop}
use Rattle.card_reader.specs.Reading.{Held, after, kept_after}
use Rattle.card_reader.proofs.State.feed.Given as goal

abbrev pub invariant-loop-b : goal.invariant-loop-b
invariant-loop-b l = record {
  held : Held l.state;
  room : length l.points ≡ length l.initial.points;
  state : after l.state (drop l.b-index l.text) ≡ after l.initial.state l.text;
  points : kept_after l.state (drop l.b-index l.text) l.points ≡ kept_after l.initial.state l.text l.initial.points;
}
