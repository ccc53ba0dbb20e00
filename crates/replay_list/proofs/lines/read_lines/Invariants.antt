-- The invariant: the first k lines are lines, and their words are laid. Assumes nothing.
use Rattle.std.proofs.Common.{◌≡◌, ℕ, ◌*◌, ◌<◌}
use Rattle.replay_list.specs.Text.{value_of, Line}
use Rattle.places.specs.Places.{laid}
use Rattle.replay_list.proofs.lines.read_lines.Given as goal

abbrev pub invariant-loop-k : goal.invariant-loop-k
invariant-loop-k l = record {
  lines : (j : ℕ) → j < l.k → Line l.text (17 * j);
  words : l.word-items ≡ laid 0 l.k (λ (j : ℕ). value_of l.text (17 * j) 16) l.initial.word-items;
}
