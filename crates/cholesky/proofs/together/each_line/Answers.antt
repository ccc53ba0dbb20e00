-- Before turn r the first r lines are done, and the other lines are as they were. Assumes nothing.
use Rattle.std.proofs.Common.{◌≡◌, ◌∙◌, ℕ, ◌+◌, ◌*◌, length, arith}
use Rattle.places.proofs.PlaceLaws.{row_inside}
use Rattle.places.proofs.RegionLaws.{length_part}
use Rattle.cholesky.specs.Together.{line_at}
use Rattle.cholesky.proofs.TogetherLaws.{done_next}
use Rattle.cholesky.proofs.together.each_line.Goals as goal

pub loop-r-preserved : goal.loop-r-preserved
loop-r-preserved g c = λ f m.
    let a = c.args in
    let l = c.loop-r in
    let p : ℕ = 3 * (l.r * a.n) in
    let line : length (line_at a.n l.r l.poles) ≡ 3 * a.n =
    length_part p (p + 3 * a.n) l.poles (omega (arith, l.auto.poles, c.requires.fits, row_inside l.r a.lines a.n c.loop-r-test.true)) ∙ omega arith in
    done_next a.n a.lines (λ (r : ℕ). f) a.poles.now (λ (k : ℕ). m.long) c.requires.fits l.poles _ l.r (l.invariant f m) c.loop-r-test.true
    (rw (m.line _ _ line c.step.ensures))
