-- A line more each time. Assumes nothing.
use Prim.Native.Nat.{◌+◌, ◌*◌, ◌≤◌}
use lib.ListN.{length}
use Rattle.places.specs.Places.{joined}
use Rattle.card_printer.specs.Answer.{Puts, knot_line}
use Rattle.card_printer.proofs.text.Text.put_knots.Given as goal

abbrev pub invariant-loop-knot : goal.invariant-loop-knot
invariant-loop-knot l = record {
  puts : Puts l.initial.self l.self (joined (length l.yielded) (knot_line l.knots l.mults));
  place : l.self.at ≤ l.initial.self.at + length l.yielded * 38;
}
