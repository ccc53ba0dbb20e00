-- Before each turn the rows that are left make of each line what all of them make of the line at the start. Assumes nothing.
use Rattle.std.proofs.Common.{rules}
use mathlib.Core.Path.{◌≡◌, sym, ap, ◌∙◌}
use mathlib.Core.List.{List}
use Prim.Native.Nat.{ℕ, ◌+◌, ◌-◌}
use native.Mathlib.Omega.{arith}
use lib.Ieee.{Float}
use Rattle.places.specs.Loops.{down}
use Rattle.places.proofs.LoopLaws.{down_step}
use Rattle.bands.proofs.Rows.{down_none}
use Rattle.cholesky.specs.Cholesky.{back_row}
use Rattle.cholesky.proofs.Lengths.{length-back-row}
use Rattle.cholesky.proofs.TogetherLaws.{toward-turn, toward_end}
use Rattle.cholesky.proofs.together.back_together.Goals as goal

pub loop-i-preserved : goal.loop-i-preserved
loop-i-preserved c =
    let a = c.args in
    let l = c.loop-i in
    let g : ℕ → List Float → List Float = back_row a.h a.n a.lower.now in
    let i : (l.i - 1) + 1 ≡ l.i = omega arith in
    toward-turn a.n a.lines (λ (r : ℕ). down a.n g) a.poles.now (λ (r : ℕ). down l.i g) l.poles l.invariant
    (λ (r : ℕ). g (l.i - 1)) (λ (r : ℕ). down (l.i - 1) g) _ (c.each_line.ensures (g (l.i - 1)) (record {
      long = λ x e. length-back-row a.h a.n a.lower.now (l.i - 1) x ∙ e;
      line = λ x y e m. search rules;
    }))
    (λ (r : ℕ) (x : List Float). sym (down_step (l.i - 1) g x) ∙ ap (λ (k : ℕ). down k g x) i)

pub returns : goal.returns
returns c =
    let a = c.args in
    let l = c.loop-i in
    let g : ℕ → List Float → List Float = back_row a.h a.n a.lower.now in
    toward_end a.n a.lines (λ (r : ℕ). down a.n g) a.poles.now (λ (r : ℕ). down l.i g) l.poles l.invariant
    (λ (r : ℕ) (x : List Float). down_none l.i g x (omega arith))
