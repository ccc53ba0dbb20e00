-- A line more each time, that of the pair at the number of lines so far. Assumes nothing.
use native.Mathlib.Omega.{arith}
use borrow.Author.Rules.{rules}
use lib.Ieee.{nan}
use lib.ListN.{length}
use Rattle.std.proofs.lemmas.List.{length_push}
use Rattle.std.proofs.lemmas.Slice.Zip.{zip_turn}
use Rattle.card_printer.specs.Answer.{knot_line}
use Rattle.card_printer.proofs.PutLaws.{puts-start, puts-line}
use Rattle.card_printer.proofs.text.Text.put_knots.Goals as goal

pub loop-knot-init : goal.loop-knot-init
loop-knot-init c = record { puts = puts-start _ (knot_line c.args.knots.now c.args.mults.now) (omega arith); place = omega arith }

pub loop-knot-preserved : goal.loop-knot-preserved
loop-knot-preserved c =
    let knots = c.args.knots.now in
    let mults = c.args.mults.now in
    let done = c.loop-knot.yielded in
    let turn = zip_turn knots mults done c.into_iter-knot-iterator.result _ c.next.new.self _ (search rules) (search rules) c.loop-knot.yielded_by _ c.in-Some.is c.next.ensures.steps in
    let line = rw (turn.2 nan, c.from.ensures, turn.3 0) at c.put_knot.ensures.puts in
    rw (length_push done _) (record { puts = puts-line (knot_line knots mults) (length done) c.loop-knot.invariant.puts line; place = omega arith })
