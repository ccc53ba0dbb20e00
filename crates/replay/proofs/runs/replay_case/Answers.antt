-- The points are the case's own places. Assumes nothing.
use Rattle.std.proofs.Common.{take, ap, ◌∙◌, inr, arith}
use Rattle.geometry.specs.Doubles.{nought}
use Rattle.places.proofs.PlaceLaws.{part-laid}
use Rattle.replay.proofs.runs.replay_case.Goals as goal

pub returns : goal.returns
returns c =
    let p = c.in_ok-case.case in
    let e = ap (take p.count) c.lay_places.ensures ∙ part-laid 0 p.count _ _ nought (omega arith) in
    inr (record { given = p; found = c.in_ok-case.ensures; ran = rw e at c.run_case.ensures })
