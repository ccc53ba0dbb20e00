-- The values that are summed are the basis functions. Assumes nothing.
use Prim.Native.Nat.{◌+◌}
use mathlib.Core.Path.{◌≡◌, ◌∙◌}
use lib.ListN.{take}
use Rattle.std.proofs.Math.Seq.{take-append_seam}
use Rattle.bspline.specs.Basis.{basis_at}
use Rattle.bspline.proofs.Recurrence.{length-basis_at}
use Rattle.bspline.proofs.reader.span_point.Goals as goal

pub returns : goal.returns
returns c =
    let a = c.args in
    let N = basis_at a.flat.now a.degree a.span a.u in
    let long = length-basis_at a.flat.now a.degree a.span a.u in
    let stored : take (a.degree + 1) c.basis_values.new.values ≡ N = rw (c.basis_values.ensures, ← long) (take-append_seam N _) in
    c.pole_sum.ensures ∙ rw (stored, long)
