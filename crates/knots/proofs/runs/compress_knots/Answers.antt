-- k runs are listed, and the next starts at `start` and has the values passed from there on. Assumes nothing.
use Rattle.std.proofs.Common.{◌+◌, ◌-◌, ◌≡◌, ◌∙◌, sym, arith, length}
use Rattle.knots.specs.Knots.{run_length}
use Rattle.knots.proofs.RunLaws.{closed_none, closed_next, runs_from, runs_on, runs_until, runs_out, distinct_is}
use Rattle.knots.proofs.runs.compress_knots.Goals as goal
use Rattle.knots.proofs.runs.compress_knots.Goals.{then-flat-start, else-flat-start}

pub loop-i-init : goal.loop-i-init
loop-i-init c = (omega arith, omega arith, omega arith, closed_none _ _ _, runs_from c.args.flat.now 0)

pub loop-i-preserved : goal.loop-i-preserved
loop-i-preserved c =
    let l = c.loop-i in
    let closed = l.invariant.3 in
    let run = l.invariant.4 in
    elim c.if-flat-start.branch [
      | then-flat-start w ↦
          let ends = runs_until c.args.flat.now l.start l.i run w.if-flat-start.true in
          let there : l.start + (l.i - l.start) ≡ l.i = omega arith in
          rw (w.k-is, w.knots-is, w.mults-is, w.start-is) (
            omega arith,
            omega arith,
            omega arith,
            rw there at (closed_next _ _ l.knots _ l.mults l.start l.k (l.i - l.start) closed ends),
            runs_from c.args.flat.now l.i,
          )
      | else-flat-start w ↦
          rw (w.k-is, w.knots-is, w.mults-is, w.start-is) (
            omega arith,
            omega arith,
            omega arith,
            closed,
            runs_on c.args.flat.now l.start l.i (omega arith) c.loop-i-test.true run w.if-flat-start.false,
          )
    ]

pub returns-then-start-flat : goal.returns-then-start-flat
returns-then-start-flat c =
    let l = c.loop-i in
    let flat = c.args.flat.now in
    let ends = runs_out flat l.start l.i l.invariant.4 (omega arith) in
    let all : run_length flat l.start ≡ length flat - l.start = omega (arith, ends) in
    let t = closed_next _ _ l.knots _ l.mults l.start l.k (length flat - l.start) l.invariant.3 all in
    let d = distinct_is flat (l.k + 1) (t.here ∙ omega arith) in
    record { count = sym d; values = rw d t.knots_are; multiplicities = rw d t.mults_are }

pub returns-else-start-flat : goal.returns-else-start-flat
returns-else-start-flat c =
    let l = c.loop-i in
    let t = l.invariant.3 in
    let d = distinct_is c.args.flat.now l.k (t.here ∙ omega arith) in
    record { count = sym d; values = rw d t.knots_are; multiplicities = rw d t.mults_are }
