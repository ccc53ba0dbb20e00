-- What was read so far is one text, which the state and the points are of, and a read adds its part at the end (the law `read_more`). Assumes nothing.
use mathlib.Core.Path.{refl, sym, ◌∙◌, subst}
use mathlib.Core.List.{[], ◌++◌}
use borrow.Author.Rules.{rules}
use lib.Dec.{lit<}
use Rattle.card_reader.specs.Reading.{Held, after, kept_after}
use Rattle.card_reader.proofs.JudgedLaws.{read_more}
use Rattle.card.proofs.read_all.Goals as goal

pub loop-init : goal.loop-init
unfolding after kept_after
loop-init c = record {
  held = subst Held (sym c.start-state.ensures) (lit< tt);
  room = refl;
  read = ([], record { state = c.start-state.ensures; slice = refl });
}

pub loop-preserved : goal.loop-preserved
loop-preserved c =
    let took = rw c.if-is_none.ensures at c.read_some.ensures.took in
    let so_far = c.loop.invariant.read in record {
      held = search rules;
      room = c.read_some.auto.points ∙ c.loop.invariant.room;
      read = (so_far.0 ++ took.0, read_more took.0 so_far.1 took.2 took.3);
    }
