-- The invariant: w is the number that the digits passed write, and they are digits. Assumes nothing.
use Rattle.std.proofs.Common.{◌≡◌, ℕ, ◌+◌, ◌^◌, ◌<◌, get_or}
use Rattle.std.specs.Prelude.{IsSome}
use Rattle.card_text.specs.Text.{digit_of}
use Rattle.replay_list.specs.Text.{value_of}
use Rattle.replay_list.proofs.lines.word_at.Given as goal

abbrev pub invariant-loop-b : goal.invariant-loop-b
invariant-loop-b l = record {
  value : l.w ≡ value_of l.text l.start l.b-index;
  small : l.w < 16 ^ l.b-index;
  digits : (j : ℕ) → j < l.b-index → IsSome (digit_of (get_or l.text (l.start + j) 0));
}
