-- A line more each time. Assumes nothing.
use Prim.Native.Nat.{◌+◌, ◌*◌, ◌≤◌}
use Rattle.places.specs.Places.{joined}
use Rattle.card_printer.specs.Answer.{Puts, pole_line}
use Rattle.card_printer.proofs.text.Text.put_poles.Given as goal

abbrev pub invariant-loop-k : goal.invariant-loop-k
invariant-loop-k l = record {
  puts : Puts l.initial.self l.self (joined l.k (pole_line l.poles));
  place : l.self.at ≤ l.initial.self.at + l.k * 51;
}
