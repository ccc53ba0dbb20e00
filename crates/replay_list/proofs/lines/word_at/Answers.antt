-- The invariant: w is the number that the digits passed write, and they are digits; the 16 bytes stand in the text from the start on. Assumes nothing.
use Rattle.std.proofs.Common.{◌≡◌, ℕ, ◌+◌, ◌*◌, List, get_or, refl, arith, add-one}
use lib.Dec.{lit<}
use borrow.Author.Count.{below_more}
use Rattle.std.specs.Prelude.{unwrap_or}
use Rattle.places.proofs.RegionLaws.{get_d_part}
use Rattle.card_text.specs.Text.{digit_of}
use Rattle.card_text.proofs.NumberLaws.{more-digits}
use Rattle.replay_list.specs.Text.{value_of}
use Rattle.replay_list.proofs.lines.word_at.Goals as goal

value-more : (s : List ℕ) (a k : ℕ) → value_of s a (k + 1) ≡ value_of s a k * 16 + unwrap_or (digit_of (get_or s (a + k) 0)) 0
unfolding value_of
value-more s a k = rw (add-one k)

pub loop-b-init : goal.loop-b-init
unfolding value_of
loop-b-init c = record { value = refl; small = lit< tt; digits = λ j h. absurd (omega arith) }

pub loop-b-preserved : goal.loop-b-preserved
loop-b-preserved c =
    let h = c.loop-b.invariant in
    let d = c.in_ok-d.ensures in
    let there = get_d_part c.args.start (c.args.start + 16) c.args.text.now c.loop-b.b-index 0 (omega arith) in record {
      value = rw (value-more, ← there, ← h.value, ← d.value);
      small = rw add-one (more-digits 16 c.loop-b.b-index c.loop-b.w c.in_ok-d.d h.small d.small);
      digits = below_more _ _ h.digits (rw (← there, ← d.value));
    }
