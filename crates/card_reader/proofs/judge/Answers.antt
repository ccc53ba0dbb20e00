-- From the start through the whole text to its end: the law `judged-right`. Assumes nothing.
use Rattle.card_reader.proofs.JudgedLaws.{judged-right}
use Rattle.card_reader.proofs.judge.Goals as goal

pub returns-clause-judged : goal.returns-clause-judged
returns-clause-judged c =
    rw (c.finish.ensures.judged, c.feed.ensures.points, c.feed.ensures.state, c.start.ensures) (judged-right c.args.text.now c.args.points.now c.requires)
