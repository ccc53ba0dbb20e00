-- What is still to be read leads from the present state to the same end as the whole text from the first. Assumes nothing.
use Prim.Native.Nat.{◌<◌}
use mathlib.Core.List.{[]}
use mathlib.Core.Path.{◌≡◌, sym, ◌∙◌}
use native.Mathlib.Omega.{arith}
use lib.ListN.{length, drop, get_or, drop_of_length-le}
use Rattle.card_reader.specs.Reading.{after, kept_after}
use Rattle.card_reader.proofs.RangeLaws.{held_next, after_more, kept_after-more}
use Rattle.card_reader.proofs.State.feed.Goals as goal

pub loop-b-preserved : goal.loop-b-preserved
loop-b-preserved c =
    let text = c.args.text.now in
    let state = c.loop-b.state in
    let i = c.loop-b.b-index in
    let h = c.loop-b.invariant in
    let inside : i < length text = omega arith in record {
      held = rw c.step-state.ensures (held_next state (get_or text i 0) h.held);
      room = c.keep.auto.points ∙ h.room;
      state = rw c.step-state.ensures (sym (after_more state text i inside) ∙ h.state);
      points = rw (c.step-state.ensures, c.keep.ensures) (sym (kept_after-more state text c.loop-b.points i inside) ∙ h.points);
    }

pub returns-clause-state : goal.returns-clause-state
unfolding after
returns-clause-state c =
    let done : drop c.loop-b.b-index c.args.text.now ≡ [] = drop_of_length-le c.args.text.now c.loop-b-test.false in rw done at c.loop-b.invariant.state

pub returns-clause-points : goal.returns-clause-points
unfolding kept_after
returns-clause-points c =
    let done : drop c.loop-b.b-index c.args.text.now ≡ [] = drop_of_length-le c.args.text.now c.loop-b-test.false in rw done at c.loop-b.invariant.points
