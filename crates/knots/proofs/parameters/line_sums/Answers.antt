-- The chords stand behind the first place, and then the sums of their steps in their place. Assumes nothing.
use Rattle.std.proofs.Common.{◌∙◌, arith}
use Rattle.geometry.specs.Doubles.{nought}
use Rattle.knots.proofs.ParameterLaws.{line_summed, first_put}
use Rattle.knots.proofs.parameters.line_sums.Goals as goal

pub returns : goal.returns
returns c =
    let a = c.args in
    let e = c.line_chords-chords.ensures in
    let f = c.sum_steps-total.ensures in
    let s = line_summed a.metric a.line.count _ _ _ _ _ (omega arith) e.come_to e.stand f.last f.stand in
    record { come_to = s.0; stand = first_put nought a.out.now c.sum_steps-total.new.out (omega arith) ∙ s.1 }
