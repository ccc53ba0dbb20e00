-- The state and the points are of one text (`read_all`), whose judgement and points are answered with its answer (the law `read_answered`), at the front of
-- the slice. Assumes nothing.
use native.Mathlib.Omega.{arith}
use Rattle.card_printer.proofs.PutLaws.{put_front}
use Rattle.card.proofs.TextLaws.{read_answered}
use Rattle.card.proofs.run.Goals as goal

pub returns-clause-answered : goal.returns-clause-answered
returns-clause-answered c =
    let read = c.read_all-state.ensures in
    (read.0, rw ((put_front _ c.answer.ensures.put).0, c.finish.ensures.judged) (read_answered read.0 _ _ _ (omega arith) read.1))

pub returns-clause-rest : goal.returns-clause-rest
returns-clause-rest c = (put_front _ c.answer.ensures.put).1
