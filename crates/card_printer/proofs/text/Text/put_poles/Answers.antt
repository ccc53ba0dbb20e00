-- A line more each time. Assumes nothing.
use mathlib.Core.Path.{ap, subst}
use native.Mathlib.Omega.{arith}
use Rattle.card_printer.specs.Answer.{Puts, point_line, pole_line}
use Rattle.card_printer.proofs.PutLaws.{puts-start, puts-line}
use Rattle.card_printer.proofs.text.Text.put_poles.Goals as goal

pub loop-k-init : goal.loop-k-init
loop-k-init c = record { puts = puts-start _ (pole_line c.args.poles.now) (omega arith); place = omega arith }

pub loop-k-preserved : goal.loop-k-preserved
loop-k-preserved c = record {
  puts = puts-line (pole_line c.args.poles.now) c.loop-k.k c.loop-k.invariant.puts (subst (Puts _ _) (ap point_line c.point_at.ensures) c.put_pole.ensures.puts);
  place = omega arith;
}
