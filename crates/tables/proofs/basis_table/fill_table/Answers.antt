-- The invariant: the first k rows stand in their places, and the search stands at the span of the parameter before, from which it can go on. Assumes nothing.
use Prim.Native.Nat.{◌+◌, ◌*◌, ◌≤◌}
use native.Mathlib.Omega.{arith}
use mathlib.Core.Path.{◌≡◌, refl, ap, ◌∙◌}
use lib.ListN.{length}
use Rattle.places.proofs.PlaceLaws.{row_inside}
use Rattle.tables.specs.declared.rows.BasisRows.{BasisRows}
use Rattle.tables.proofs.TableLaws.{table-start, table-next, table_end}
use Rattle.tables.proofs.basis_table.fill_table.Goals as goal

pub loop-k-init : goal.loop-k-init
loop-k-init c = rw c.new-rows.ensures (refl, refl, (omega arith, omega arith), table-start _ _ _ _ _)

pub basis_values-requires : goal.basis_values-requires
basis_values-requires c =
    let inv = c.loop-k.invariant in
    let rows = c.at-rows.ensures in
    let degree = ap (λ (r : BasisRows). r.degree) rows.moved ∙ inv.1 in
    let flat = ap (λ (r : BasisRows). length r.flat.now) rows.moved ∙ ap length inv.0 in
    let inside = row_inside c.loop-k.k _ (c.args.degree + 1) c.loop-k-test.true in
    (omega (arith, rows.fits, degree), omega (arith, rows.fits, degree, flat), omega (arith, inside))

pub overflow_sub-firsts : goal.overflow_sub-firsts
overflow_sub-firsts c =
    let rows = c.at-rows.ensures in
    omega (arith, rows.fits, ap (λ (r : BasisRows). r.degree) rows.moved ∙ c.loop-k.invariant.1)

pub loop-k-preserved : goal.loop-k-preserved
loop-k-preserved c =
    let d = c.args.degree in
    let k = c.loop-k.k in
    let inv = c.loop-k.invariant in
    let moved = c.at-rows.ensures.moved in
    let found = ap (λ (r : BasisRows). r.span) moved in
    let inside : k * (d + 1) + (d + 1) ≤ _ = row_inside k _ (d + 1) c.loop-k-test.true in
    let width : (k + 1) * (d + 1) ≡ k * (d + 1) + (d + 1) = omega arith in (
      ap (λ (r : BasisRows). r.flat.now) moved ∙ inv.0,
      ap (λ (r : BasisRows). r.degree) moved ∙ inv.1,
      c.at-rows.ensures.fits,
      rw width (table-next _ _ inv.3 (omega arith) (omega arith) c.loop-k.auto.values (rw (inv.0, inv.1) at found) (rw width at c.basis_values.ensures)),
    )

pub returns : goal.returns
returns c =
    let ends = table_end c.loop-k.invariant.3 (omega arith) (omega arith) (omega arith) in
    record { firsts_after = ends.0; values_after = ends.1 }
