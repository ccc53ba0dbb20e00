-- Before turn k the first k chords stand in their places, summed and compared with the bound. Assumes nothing.
use Rattle.std.proofs.Common.{◌∙◌, arith}
use Rattle.knots.proofs.ParameterLaws.{chorded_none, chorded_next, chorded_all, chord_of}
use Rattle.knots.proofs.parameters.line_chords.Goals as goal

pub loop-k-init : goal.loop-k-init
loop-k-init c = chorded_none _ _

pub loop-k-preserved : goal.loop-k-preserved
loop-k-preserved c =
    let a = c.args in
    let l = c.loop-k in
    chorded_next _ l.out l.k l.length l.confused _ l.invariant (omega arith) (c.chord.ensures ∙ chord_of a.factor a.line.count _ l.k (omega arith))

pub returns : goal.returns
returns c =
    let a = c.args in
    let l = c.loop-k in
    let all = chorded_all a.factor a.line.count _ l.out l.length l.confused l.k (omega arith) (omega arith) l.invariant in
    record { come_to = all.0; stand = all.1 }
