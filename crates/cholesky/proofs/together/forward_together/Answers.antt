-- Before turn i the rows that are left make of each line what all of them make of the line at the start. Assumes nothing.
use mathlib.Core.Path.{sym, ◌∙◌}
use Rattle.std.proofs.Common.{rules}
use mathlib.Core.List.{List}
use Prim.Native.Nat.{ℕ, ◌+◌}
use native.Mathlib.Omega.{arith}
use lib.Ieee.{Float}
use Rattle.places.specs.Loops.{each}
use Rattle.places.proofs.LoopLaws.{each_step, each_done}
use Rattle.cholesky.specs.Cholesky.{forward_row}
use Rattle.cholesky.proofs.Lengths.{length_forward-row}
use Rattle.cholesky.proofs.TogetherLaws.{toward-turn, toward_end}
use Rattle.cholesky.proofs.together.forward_together.Goals as goal

pub loop-i-preserved : goal.loop-i-preserved
loop-i-preserved c =
    let a = c.args in
    let l = c.loop-i in
    let g : ℕ → List Float → List Float = forward_row a.h a.lower.now in
    toward-turn a.n a.lines (λ (r : ℕ). each 0 a.n g) a.poles.now (λ (r : ℕ). each l.i a.n g) l.poles l.invariant
    (λ (r : ℕ). g l.i) (λ (r : ℕ). each (l.i + 1) a.n g) _ (c.each_line.ensures (g l.i) (record {
      long = λ x e. length_forward-row a.h a.lower.now l.i x ∙ e;
      line = λ x y e m. search rules;
    }))
    (λ (r : ℕ) (x : List Float). sym (each_step l.i a.n g x c.loop-i-test.true))

pub returns : goal.returns
returns c =
    let a = c.args in
    let l = c.loop-i in
    let g : ℕ → List Float → List Float = forward_row a.h a.lower.now in
    toward_end a.n a.lines (λ (r : ℕ). each 0 a.n g) a.poles.now (λ (r : ℕ). each l.i a.n g) l.poles l.invariant
    (λ (r : ℕ) (x : List Float). each_done l.i a.n g x (omega arith))
